use Rattle.std.proofs.Common.{◌≡◌, drop}
use Rattle.exec_model.specs.Drafts.{on}
use Rattle.exec_model.specs.Steps.{written}
use Rattle.exec_model.proofs.events.put_all.Given as goal

abbrev pub invariant-loop-write : goal.invariant-loop-write
invariant-loop-write g l = on (λ m. record m { store = written m.store (drop l.write-index l.writes) }) l.draft ≡ on (λ m. record m { store = written m.store l.writes }) l.initial.draft
