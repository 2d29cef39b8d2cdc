use Rattle.std.proofs.Common.{◌≡◌, ◌++◌, drop}
use Rattle.hal_verify.specs.Starts.{starts_of}
use Rattle.hal_verify.proofs.finding.starts_of.Given as goal

abbrev pub invariant-loop-run : goal.invariant-loop-run
invariant-loop-run l = l.starts.items ++ starts_of l.count (drop l.run-index l.runs) ≡ starts_of 0 l.runs
