use Rattle.std.proofs.Common.{◌≡◌, drop}
use Rattle.hal_values.specs.Searching as searching
use Rattle.hal_errors.proofs.entries.entry_for.Given as goal

abbrev pub invariant-loop-entry : goal.invariant-loop-entry
invariant-loop-entry l = searching.entry_for l.selector (drop l.entry-index l.entries) ≡ searching.entry_for l.selector l.entries
