use Rattle.std.proofs.Common.{◌≡◌, map, drop}
use Rattle.hal_tree.specs.Rows.{expressions, terms}
use Rattle.hal_tree.specs.SeenExpressions.{seen_expression, seen_signed}
use Rattle.hal_phrases.specs.SeenPhrases.{seen_phrase}
use Rattle.hal_names.specs.SeenNames.{seen_names}
use Rattle.hal_constants.specs.Constants.{folded, summed}
use Rattle.hal_constants.specs.SeenKnown.{seen_known}
use Rattle.hal_constants.proofs.constants.+constants.Given as goal

abbrev pub invariant-folded-loop-tree : goal.invariant-folded-loop-tree
invariant-folded-loop-tree l =
    folded (seen_names l.names) (seen_known l.known) (seen_phrase l.phrase) l.op l.so_far (expressions (map seen_expression (drop l.tree-index l.trees)))
    ≡ folded (seen_names l.names) (seen_known l.known) (seen_phrase l.phrase) l.op l.fn.first (expressions (map seen_expression l.trees))

abbrev pub invariant-summed-loop-term : goal.invariant-summed-loop-term
invariant-summed-loop-term l =
    summed (seen_names l.names) (seen_known l.known) (seen_phrase l.phrase) l.so_far (terms (map seen_signed (drop l.term-index l.list)))
    ≡ summed (seen_names l.names) (seen_known l.known) (seen_phrase l.phrase) l.fn.first (terms (map seen_signed l.list))
