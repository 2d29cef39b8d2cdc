use Rattle.std.proofs.Common.{◌≡◌, map, length}
use Rattle.hal_tree.specs.Rows.{expressions}
use Rattle.hal_tree.specs.SeenExpressions.{seen_expression}
use Rattle.hal_tree.specs.SeenLeaves.{seen_name}
use Rattle.hal_phrases.specs.SeenPhrases.{seen_phrase}
use Rattle.hal_names.specs.SeenNames.{seen_names}
use Rattle.hal_constants.specs.SeenKnown.{seen_known}
use Rattle.hal_shapes.specs.Arguments.{inputs_fit}
use Rattle.hal_shapes.proofs.called.inputs_fit.Given as goal

abbrev pub invariant-loop-parameter : goal.invariant-loop-parameter
invariant-loop-parameter l =
    inputs_fit (seen_names l.names) (seen_known l.known) (seen_phrase l.phrase) l.block (map seen_name l.left) (expressions (map seen_expression l.right))
    ≡ inputs_fit (seen_names l.names) (seen_known l.known) (seen_phrase l.phrase) l.block (map seen_name l.inputs) (expressions (map seen_expression l.trees))

abbrev pub decreases-loop-parameter : goal.decreases-loop-parameter
decreases-loop-parameter l = length l.left
