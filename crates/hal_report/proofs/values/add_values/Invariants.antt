use Rattle.std.proofs.Common.{◌≡◌, ◌++◌, [], drop}
use Rattle.exec_model.specs.Moments.{moment_of}
use Rattle.exec_model.specs.Report.{value_lines}
use Rattle.hal_report.specs.Rests.{lists}
use Rattle.hal_report.proofs.values.add_values.Given as goal

abbrev pub invariant-loop-shown : goal.invariant-loop-shown
invariant-loop-shown l =
    l.text.items ++ value_lines l.tables (moment_of l.state []) (lists l.rests.items) (drop l.shown-index l.elements)
    ≡ l.initial.text.items ++ value_lines l.tables (moment_of l.state []) l.owns l.elements
