use Rattle.std.proofs.Common.{◌≡◌, map, length}
use Rattle.hal_tree.specs.SeenDeclarations.{seen_part}
use Rattle.hal_phrases.specs.SeenPhrases.{seen_phrase}
use Rattle.hal_names.specs.SeenNames.{seen_names}
use Rattle.hal_constants.specs.SeenKnown.{seen_known}
use Rattle.hal_sizes.specs.Parts.{bottoms}
use Rattle.hal_sizes.specs.Cells.{cells_with}
use Rattle.hal_sizes.proofs.cells.cells_of_parts.Given as goal

abbrev pub invariant-loop-part : goal.invariant-loop-part
invariant-loop-part l =
    cells_with (seen_names l.names) (seen_known l.known) (seen_phrase l.structure) l.total (bottoms l.level (map seen_part l.rest))
    ≡ cells_with (seen_names l.names) (seen_known l.known) (seen_phrase l.structure) 0 (bottoms l.level (map seen_part l.parts))

abbrev pub decreases-loop-part : goal.decreases-loop-part
decreases-loop-part l = length l.rest
