use Rattle.std.proofs.Common.{◌≡◌, map, length}
use Rattle.hal_tree.specs.Rows.{expressions}
use Rattle.hal_tree.specs.SeenExpressions.{seen_expression}
use Rattle.hal_phrases.specs.SeenPhrases.{seen_phrase}
use Rattle.hal_names.specs.SeenNames.{seen_names}
use Rattle.hal_constants.specs.SeenKnown.{seen_known}
use Rattle.hal_templates.specs.Sizes.{same_sizes}
use Rattle.hal_templates.proofs.sizes.same_sizes.Given as goal

abbrev pub invariant-loop-tree : goal.invariant-loop-tree
invariant-loop-tree l =
    same_sizes (seen_names l.names) (seen_known l.known) (seen_phrase l.one) (expressions (map seen_expression l.left)) (seen_phrase l.two) (expressions (map seen_expression l.right))
    ≡ same_sizes (seen_names l.names) (seen_known l.known) (seen_phrase l.one) (expressions (map seen_expression l.list)) (seen_phrase l.two) (expressions (map seen_expression l.others))

abbrev pub decreases-loop-tree : goal.decreases-loop-tree
decreases-loop-tree l = length l.left
