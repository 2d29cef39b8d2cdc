use Rattle.std.proofs.Common.{◌≢◌, ℕ, ◌<◌, Some, slice_get}
use Rattle.script_run.proofs.run.named.Given as goal

abbrev pub invariant-places : goal.invariant-places
invariant-places l = (o : ℕ) → o < l.place → slice_get l.tables.processes o ≢ Some l.name
