use Rattle.std.proofs.Common.{◌≡◌, drop}
use Rattle.exec_model.specs.Steps.{written}
use Rattle.exec_model.proofs.commit.put_all.Given as goal

abbrev pub invariant-loop-write : goal.invariant-loop-write
invariant-loop-write l = written l.store (drop l.write-index l.writes) ≡ written l.initial.store l.writes
