use Rattle.std.proofs.Common.{◌≡◌, ℕ, ◌<◌}
use Rattle.exec_model.specs.Holding.{touch_groups}
use Rattle.exec_model.specs.Meanings.{meaning}
use Rattle.exec_model.specs.Moments.{moment_of}
use Rattle.exec_model.specs.Steps.{IsHolder}
use Rattle.exec_model.proofs.holding.is_held.Given as goal

abbrev pub invariant-places : goal.invariant-places
invariant-places g l = record {
  load : g.P.Procs.load l.procs ≡ g.P.Procs.load l.initial.procs;
  answers : g.P.Procs.answers l.procs ≡ g.P.Procs.answers l.initial.procs;
  none : (o : ℕ) → o < l.place → IsHolder (meaning g.P.Of.Load (g.P.Procs.load l.initial.procs)) (moment_of l.state (g.P.Procs.answers l.initial.procs)) l.process (touch_groups l.touch) o → ⊥;
}
