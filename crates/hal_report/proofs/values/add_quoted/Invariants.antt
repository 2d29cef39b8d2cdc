use Rattle.std.proofs.Common.{◌≡◌, ◌++◌, drop}
use Rattle.exec_model.specs.Report.{quoted}
use Rattle.hal_report.proofs.values.add_quoted.Given as goal

abbrev pub invariant-loop-byte : goal.invariant-loop-byte
invariant-loop-byte l = l.text.items ++ quoted (drop l.byte-index l.bytes) ≡ l.initial.text.items ++ quoted l.bytes
