use Rattle.std.proofs.Common.{◌≡◌, ◌++◌, map, drop}
use Rattle.hal_link.specs.Outlines.{called_at}
use Rattle.hal_link.specs.SeenOutlines.{seen_rank}
use Rattle.hal_link.proofs.outlines.push_called_at.Given as goal

abbrev pub invariant-loop-rank : goal.invariant-loop-rank
invariant-loop-rank l =
    l.into.items ++ called_at l.process l.callers (map seen_rank (drop l.rank-index l.ranks))
    ≡ l.fn.into.items ++ called_at l.process l.callers (map seen_rank l.ranks)
