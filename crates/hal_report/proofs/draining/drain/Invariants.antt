use Rattle.std.proofs.Common.{◌≤◌, length}
use Rattle.hal_report.proofs.Drained.{IsDrained}
use Rattle.hal_report.proofs.draining.drain.Given as goal

abbrev pub invariant-loop-rest : goal.invariant-loop-rest
invariant-loop-rest g l = IsDrained (g.O.Sink.taken l.initial.out) (g.O.Sink.taken l.out) l.text l.rest × (g.O.Sink.faults l.initial.out ≤ g.O.Sink.faults l.out)

abbrev pub decreases-loop-rest : goal.decreases-loop-rest
decreases-loop-rest g l = length l.rest
