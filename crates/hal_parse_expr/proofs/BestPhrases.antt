-- The reading functions give the best phrase: the longest expression, list of expressions or reference that is nested at most so deep.
use Rattle.std.proofs.Common.{ℕ}
use Rattle.hal_grammar.specs.Expressions.{nesting, nesting_of_all, nesting_of_reference}
use Rattle.hal_grammar.specs.Words.{Words}
use Rattle.hal_grammar.specs.SpellsExpressions.{SpellsExpression, SpellsExpressions, SpellsReference}
use Rattle.hal_parse_expr.specs.ReadingExpressions.{primary_at, expression_at, expressions_at, reference_at}
use Rattle.hal_parse_expr.specs.Best.{BestOf}
use Rattle.hal_parse_expr.proofs.Readings.{best}
use Rattle.hal_parse_expr.proofs.ReadExpressions.{expression_reads}
use Rattle.hal_parse_expr.proofs.ReadLists.{expressions_reads}
use Rattle.hal_parse_expr.proofs.ReadPrimaries.{primary_reads, reference_reads}

pub expression_best : (n : ℕ) (words : Words) → BestOf SpellsExpression nesting n 2 words (expression_at n words)
unfolding expression_at
expression_best n words = best (expression_reads (primary_at n) (primary_reads n)) words

pub expressions_best : (n : ℕ) (words : Words) → BestOf SpellsExpressions nesting_of_all n 0 words (expressions_at n words)
unfolding expressions_at
expressions_best n words = best (expressions_reads (primary_at n) (primary_reads n)) words

pub reference_best : (n : ℕ) (words : Words) → BestOf SpellsReference nesting_of_reference n 9 words (reference_at n words)
reference_best n words = best (reference_reads n) words
