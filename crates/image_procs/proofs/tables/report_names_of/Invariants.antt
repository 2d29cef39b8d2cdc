use Rattle.std.proofs.Common.{◌≡◌, ◌++◌, drop}
use Rattle.image_procs.proofs.tables.report_names_of.Given as goal

abbrev pub invariant-loop-named : goal.invariant-loop-named
invariant-loop-named l = l.copy.items ++ drop l.named-index l.names ≡ l.names
