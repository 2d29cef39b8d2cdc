use Rattle.std.proofs.Common.{◌≡◌, map, length}
use Rattle.hal_tree.specs.Rows.{initials}
use Rattle.hal_tree.specs.SeenDeclarations.{seen_initial, seen_part}
use Rattle.hal_phrases.specs.SeenPhrases.{seen_phrase}
use Rattle.hal_names.specs.SeenNames.{seen_names}
use Rattle.hal_constants.specs.SeenKnown.{seen_known}
use Rattle.hal_sizes.specs.Parts.{bottoms}
use Rattle.hal_initials.specs.Falling.{filled}
use Rattle.hal_initials.proofs.falling.filled.Given as goal

abbrev pub invariant-loop-part : goal.invariant-loop-part
invariant-loop-part l =
    filled (seen_names l.names) (seen_known l.known) (seen_phrase l.phrase) (seen_phrase l.structure) (initials (map seen_initial l.values)) (bottoms 0 (map seen_part l.rest))
    ≡ filled (seen_names l.names) (seen_known l.known) (seen_phrase l.phrase) (seen_phrase l.structure) (initials (map seen_initial l.values)) (bottoms 0 (map seen_part l.parts))

abbrev pub decreases-loop-part : goal.decreases-loop-part
decreases-loop-part l = length l.rest
