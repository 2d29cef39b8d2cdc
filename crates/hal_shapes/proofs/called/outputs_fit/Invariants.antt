use Rattle.std.proofs.Common.{◌≡◌, map, length}
use Rattle.hal_tree.specs.SeenExpressions.{seen_reference}
use Rattle.hal_tree.specs.SeenLeaves.{seen_name}
use Rattle.hal_phrases.specs.SeenPhrases.{seen_phrase}
use Rattle.hal_names.specs.SeenNames.{seen_names}
use Rattle.hal_constants.specs.SeenKnown.{seen_known}
use Rattle.hal_shapes.specs.Arguments.{outputs_fit}
use Rattle.hal_shapes.proofs.called.outputs_fit.Given as goal

abbrev pub invariant-loop-parameter : goal.invariant-loop-parameter
invariant-loop-parameter l =
    outputs_fit (seen_names l.names) (seen_known l.known) (seen_phrase l.phrase) l.block (map seen_name l.left) (map seen_reference l.right)
    ≡ outputs_fit (seen_names l.names) (seen_known l.known) (seen_phrase l.phrase) l.block (map seen_name l.outputs) (map seen_reference l.references)

abbrev pub decreases-loop-parameter : goal.decreases-loop-parameter
decreases-loop-parameter l = length l.left
