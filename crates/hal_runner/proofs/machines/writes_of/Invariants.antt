use Rattle.std.proofs.Common.{◌≡◌, ◌++◌, drop}
use Rattle.hal_runner.proofs.machines.writes_of.Given as goal

abbrev pub invariant-loop-write : goal.invariant-loop-write
invariant-loop-write l = l.copy.items ++ drop l.write-index l.writes ≡ l.writes
