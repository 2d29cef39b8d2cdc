use Rattle.std.proofs.Common.{◌≡◌, ◌++◌, map, length}
use Rattle.hal_link.specs.Outlines.{called_from}
use Rattle.hal_link.specs.SeenOutlines.{seen_rank}
use Rattle.hal_link.proofs.outlines.called_by.Given as goal

abbrev pub invariant-loop-fewer : goal.invariant-loop-fewer
invariant-loop-fewer l =
    l.list.items ++ called_from l.process l.callers (map seen_rank l.ranks)
    ≡ called_from l.process (length l.ranks) (map seen_rank l.ranks)

abbrev pub decreases-loop-fewer : goal.decreases-loop-fewer
decreases-loop-fewer l = l.callers
