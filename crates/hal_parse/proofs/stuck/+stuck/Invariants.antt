use Rattle.std.proofs.Common.{◌≡◌, ◌+◌, ◌*◌, true, length}
use Rattle.hal_parse.specs.ReadingFiles.{block_at, elements_of}
use Rattle.hal_parse.proofs.stuck.+stuck.Given as goal

abbrev pub decreases-unit_reach : goal.decreases-unit_reach
decreases-unit_reach l = 64 * l.depth + 0

abbrev pub decreases-element_reach : goal.decreases-element_reach
decreases-element_reach l = 64 * l.depth + 1

abbrev pub decreases-past_elements : goal.decreases-past_elements
decreases-past_elements l = 64 * l.depth + 2

abbrev pub decreases-reach_behind_head : goal.decreases-reach_behind_head
decreases-reach_behind_head l = 64 * l.depth + 3

abbrev pub decreases-reach_behind_name : goal.decreases-reach_behind_name
decreases-reach_behind_name l = 64 * l.depth + 4

abbrev pub decreases-reach_within : goal.decreases-reach_within
decreases-reach_within l = 64 * l.depth + 5

abbrev pub invariant-past_elements-elements : goal.invariant-past_elements-elements
invariant-past_elements-elements l = (elements_of l.depth (block_at l.depth) true l.rest).1 ≡ (elements_of l.depth (block_at l.depth) true l.words).1

abbrev pub decreases-past_elements-elements : goal.decreases-past_elements-elements
decreases-past_elements-elements l = length l.rest
