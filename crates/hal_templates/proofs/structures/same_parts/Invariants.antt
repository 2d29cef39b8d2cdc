use Rattle.std.proofs.Common.{◌≡◌, map, length}
use Rattle.hal_tree.specs.SeenDeclarations.{seen_part}
use Rattle.hal_phrases.specs.SeenPhrases.{seen_phrase}
use Rattle.hal_names.specs.SeenNames.{seen_names}
use Rattle.hal_constants.specs.SeenKnown.{seen_known}
use Rattle.hal_templates.specs.Structures.{same_parts}
use Rattle.hal_templates.proofs.structures.same_parts.Given as goal

abbrev pub invariant-loop-part : goal.invariant-loop-part
invariant-loop-part l =
    same_parts (seen_names l.names) (seen_known l.known) (seen_phrase l.one) (map seen_part l.left) (seen_phrase l.two) (map seen_part l.right)
    ≡ same_parts (seen_names l.names) (seen_known l.known) (seen_phrase l.one) (map seen_part l.parts) (seen_phrase l.two) (map seen_part l.others)

abbrev pub decreases-loop-part : goal.decreases-loop-part
decreases-loop-part l = length l.left
