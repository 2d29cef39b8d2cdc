use Rattle.std.proofs.Common.{◌≡◌, ◌-◌, ◌++◌, [], flat_map}
use Rattle.std.specs.List.{range_with_len}
use Rattle.hal_values.specs.Tables.{process_count}
use Rattle.exec_model.specs.Moments.{moment_of}
use Rattle.exec_model.specs.Report.{live_line}
use Rattle.hal_report.proofs.report.add_lives.Given as goal

abbrev pub invariant-places : goal.invariant-places
invariant-places l =
    l.report.items ++ flat_map (live_line l.tables (moment_of l.state [])) (range_with_len l.place (process_count l.tables - l.place))
    ≡ l.initial.report.items ++ flat_map (live_line l.tables (moment_of l.state [])) (range_with_len 0 (process_count l.tables))
