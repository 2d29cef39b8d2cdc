use Rattle.std.proofs.Common.{◌≡◌, ◌+◌, length, reverse}
use Rattle.hal_values.specs.Searching as searching
use Rattle.hal_errors.specs.Blocks.{blocks_seen, AreRuns}
use Rattle.hal_errors.proofs.found.found_in.Given as goal

abbrev pub invariant-block : goal.invariant-block
invariant-block l =
    AreRuns (reverse l.lower) (length l.rest)
    × (l.level + length l.lower ≡ length l.blocks)
    × (searching.found_from l.passing l.level (blocks_seen (reverse l.lower) l.rest) l.error ≡ searching.search l.spent (blocks_seen (reverse l.blocks) l.entries) l.error)

abbrev pub decreases-block : goal.decreases-block
decreases-block l = length l.lower
