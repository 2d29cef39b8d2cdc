use Rattle.std.proofs.Common.{◌≡◌, ◌+◌, ◌*◌, length, map}
use Rattle.hal_tree.specs.SeenUnits.{seen_element}
use Rattle.hal_parse_expr.specs.Reading.{all}
use Rattle.hal_parse_expr.proofs.Loops.{with_front}
use Rattle.hal_parse.specs.ReadingFiles.{element_of, block_at}
use Rattle.hal_parse.proofs.units.+units.Given as goal

abbrev pub decreases-read_unit : goal.decreases-read_unit
decreases-read_unit l = 64 * l.depth + 0

abbrev pub decreases-inner_unit : goal.decreases-inner_unit
decreases-inner_unit l = 64 * l.depth + 1

abbrev pub decreases-element : goal.decreases-element
decreases-element l = 64 * l.depth + 2

abbrev pub decreases-all_elements : goal.decreases-all_elements
decreases-all_elements l = 64 * l.depth + 3

abbrev pub decreases-elements : goal.decreases-elements
decreases-elements l = 64 * l.depth + 4

abbrev pub decreases-unit_close : goal.decreases-unit_close
decreases-unit_close l = 64 * l.depth + 5

abbrev pub decreases-unit_behind : goal.decreases-unit_behind
decreases-unit_behind l = 64 * l.depth + 6

abbrev pub decreases-unit_within : goal.decreases-unit_within
decreases-unit_within l = 64 * l.depth + 7

abbrev pub invariant-all_elements-elements : goal.invariant-all_elements-elements
invariant-all_elements-elements l =
    with_front (map seen_element l.elements.items) (all (element_of l.depth (block_at l.depth)) l.rest) ≡ all (element_of l.depth (block_at l.depth)) l.words

abbrev pub decreases-all_elements-elements : goal.decreases-all_elements-elements
decreases-all_elements-elements l = length l.rest
