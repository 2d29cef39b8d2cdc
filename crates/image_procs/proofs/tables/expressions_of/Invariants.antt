use Rattle.std.proofs.Common.{◌≡◌, ◌++◌, drop}
use Rattle.image_procs.proofs.tables.expressions_of.Given as goal

abbrev pub invariant-loop-one : goal.invariant-loop-one
invariant-loop-one l = l.copy.items ++ drop l.one-index l.expressions ≡ l.expressions
