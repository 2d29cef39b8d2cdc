use Rattle.std.proofs.Common.{◌≡◌, ◌++◌, map, length}
use Rattle.hal_reach.specs.SeenUnits.{seen_reached}
use Rattle.hal_link.specs.SeenOutlines.{seen_rank, ranks_with}
use Rattle.hal_link.proofs.ranks.ranks_of.Given as goal

abbrev pub invariant-loop-one : goal.invariant-loop-one
invariant-loop-one l = map seen_rank l.ranks.items ++ ranks_with (map seen_reached l.rest) l.counts ≡ ranks_with (map seen_reached l.reached) l.callers

abbrev pub decreases-loop-one : goal.decreases-loop-one
decreases-loop-one l = length l.rest
