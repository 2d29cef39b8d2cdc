use Rattle.std.proofs.Common.{ℕ, Some, flat_map}
use Rattle.hal_values.specs.ReportElements.{copy_elements}
use Rattle.hal_report.proofs.Ranges.{flat_map-next}
use Rattle.hal_report.proofs.elements.add_structure.Goals as goal

pub copies-preserved : goal.copies-preserved
copies-preserved c =
    flat_map-next (λ (copy : ℕ). flat_map (copy_elements (Some copy)) c.args.names.now) c.args.copies c.copies.copy c.copies.shown.items _ _ c.copies-test.true c.copies.invariant c.in_ok-add_names.ensures
