use Rattle.std.proofs.Common.{arith}
use Rattle.hal_report.proofs.Drained.{IsDrained-step}
use Rattle.hal_report.proofs.draining.drain.Goals as goal

pub loop-rest-preserved : goal.loop-rest-preserved
loop-rest-preserved g c =
    (rw c.split_at.ensures.back (IsDrained-step _ _ _ _ _ _ c.in_ok-count.ensures.within c.loop-rest.invariant.0 c.in_ok-count.ensures.grown), omega (arith, c.loop-rest.invariant.1, c.in_ok-count.ensures.later))
