use Rattle.std.proofs.Common.{◌≡◌, ◌++◌, None, map, replicate}
use Rattle.hal_constants.specs.SeenKnown.{seen_value}
use Rattle.hal_constants.proofs.known.Known.unknown.Given as goal

abbrev pub invariant-loop-fewer : goal.invariant-loop-fewer
invariant-loop-fewer l = map seen_value l.values.items ++ replicate l.left None ≡ replicate l.count None

abbrev pub decreases-loop-fewer : goal.decreases-loop-fewer
decreases-loop-fewer l = l.left
