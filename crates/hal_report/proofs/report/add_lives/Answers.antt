use Rattle.std.proofs.Common.{[], length, ap, arith}
use Rattle.hal_values.specs.Tables.{process_count}
use Rattle.exec_model.specs.Moments.{moment_of}
use Rattle.exec_model.specs.Report.{live_line}
use Rattle.hal_report.proofs.Ranges.{flat_map-next}
use Rattle.hal_report.proofs.report.add_lives.Goals as goal

pub places-preserved : goal.places-preserved
places-preserved c =
    flat_map-next (live_line c.args.tables.now (moment_of c.args.state.now [])) (process_count c.args.tables.now) c.places.place c.places.report.items _ _
    (omega (arith, c.places-test.true, ap length c.as_slice-place-end.ensures)) c.places.invariant c.in_ok-add_live.ensures
