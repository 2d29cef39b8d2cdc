use Rattle.std.proofs.Common.{◌≡◌, map, drop}
use Rattle.hal_tree.specs.Rows.{expressions, terms, subscripts}
use Rattle.hal_tree.specs.SeenExpressions.{seen_expression, seen_signed, seen_sub}
use Rattle.hal_phrases.specs.SeenPhrases.{seen_phrase}
use Rattle.hal_phrases.specs.GatheredExpressions.{gathered_all, gathered_terms, gathered_subs}
use Rattle.hal_phrases.proofs.expressions.+walk.Given as goal

abbrev pub invariant-gather_expressions-loop-tree : goal.invariant-gather_expressions-loop-tree
invariant-gather_expressions-loop-tree l =
    gathered_all (map seen_phrase l.into.items) l.around l.role (expressions (map seen_expression (drop l.tree-index l.trees))) ≡ gathered_all (map seen_phrase l.fn.into.items) l.around l.role (expressions (map seen_expression l.trees))

abbrev pub invariant-gather_terms-loop-tree : goal.invariant-gather_terms-loop-tree
invariant-gather_terms-loop-tree l =
    gathered_terms (map seen_phrase l.into.items) l.around (terms (map seen_signed (drop l.tree-index l.trees))) ≡ gathered_terms (map seen_phrase l.fn.into.items) l.around (terms (map seen_signed l.trees))

abbrev pub invariant-gather_subs-loop-tree : goal.invariant-gather_subs-loop-tree
invariant-gather_subs-loop-tree l =
    gathered_subs (map seen_phrase l.into.items) l.around l.role (subscripts (map seen_sub (drop l.tree-index l.trees))) ≡ gathered_subs (map seen_phrase l.fn.into.items) l.around l.role (subscripts (map seen_sub l.trees))
