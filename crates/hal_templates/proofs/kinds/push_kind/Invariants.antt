use Rattle.std.proofs.Common.{◌≡◌, ◌++◌, replicate}
use Rattle.hal_templates.proofs.kinds.push_kind.Given as goal

abbrev pub invariant-loop-fewer : goal.invariant-loop-fewer
invariant-loop-fewer l = l.into.items ++ replicate l.left l.kind ≡ l.fn.into.items ++ replicate l.count l.kind

abbrev pub decreases-loop-fewer : goal.decreases-loop-fewer
decreases-loop-fewer l = l.left
