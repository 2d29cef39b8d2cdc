use Rattle.std.proofs.Common.{◌≡◌, ◌++◌, drop, flat_map}
use Rattle.exec_model.specs.declared.status.End.{End}
use Rattle.exec_model.specs.Report.{end_line}
use Rattle.hal_report.proofs.report.add_ends.Given as goal

abbrev pub invariant-loop-end : goal.invariant-loop-end
invariant-loop-end l =
    l.report.items ++ flat_map (λ (end : End). end_line l.tables end) (drop l.end-index l.ends) ≡ l.initial.report.items ++ flat_map (λ (end : End). end_line l.tables end) l.ends
