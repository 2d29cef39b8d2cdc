use Rattle.std.proofs.Common.{sym, subst}
use Rattle.hal_base.specs.declared.limits.TheConstants.{NESTING_LIMIT}
use Rattle.hal_grammar.specs.Expressions.{nesting}
use Rattle.hal_grammar.specs.SpellsExpressions.{SpellsExpression}
use Rattle.hal_parse_expr.specs.Best.{BestOf}
use Rattle.hal_parse_expr.proofs.BestPhrases.{expression_best}
use Rattle.hal_parse_expr.proofs.Results.{IfOk-mapped}
use Rattle.hal_parse_expr.proofs.longest.expression.Goals as goal

-- src/longest.rt:24:1
pub returns : goal.returns
returns c = IfOk-mapped c.read_expression.result
    (λ found e. subst (λ o. BestOf SpellsExpression nesting NESTING_LIMIT 2 c.args.words.now o) (sym e) (expression_best NESTING_LIMIT c.args.words.now)) c.read_expression.ensures
