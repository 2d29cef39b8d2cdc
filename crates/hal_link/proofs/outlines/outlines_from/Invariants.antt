use Rattle.std.proofs.Common.{◌≡◌, ◌++◌, map, drop}
use Rattle.hal_link.specs.Outlines.{outlines_from}
use Rattle.hal_link.specs.SeenOutlines.{seen_outline, seen_rank}
use Rattle.hal_link.proofs.outlines.outlines_from.Given as goal

abbrev pub invariant-loop-process : goal.invariant-loop-process
invariant-loop-process l =
    map seen_outline l.list.items ++ outlines_from (map seen_rank l.ranks) l.process l.first (drop l.process l.units)
    ≡ outlines_from (map seen_rank l.ranks) 0 0 l.units
