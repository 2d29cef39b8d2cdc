use Rattle.std.proofs.Common.{◌≡◌, ◌++◌, replicate}
use Rattle.hal_storage.proofs.first_values.given.push_times.Given as goal

abbrev pub invariant-loop-fewer : goal.invariant-loop-fewer
invariant-loop-fewer l =
    l.into.items ++ replicate l.left l.value ≡ l.fn.into.items ++ replicate l.count l.value

abbrev pub decreases-loop-fewer : goal.decreases-loop-fewer
decreases-loop-fewer l = l.left
