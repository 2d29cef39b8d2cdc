use Rattle.std.proofs.Common.{◌≡◌, ◌-◌, ◌++◌, ℕ, flat_map, Some}
use Rattle.std.specs.List.{range_with_len}
use Rattle.hal_values.specs.ReportElements.{copy_elements}
use Rattle.hal_report.proofs.elements.add_structure.Given as goal

abbrev pub invariant-copies : goal.invariant-copies
invariant-copies l =
    l.shown.items ++ flat_map (λ (copy : ℕ). flat_map (copy_elements (Some copy)) l.names) (range_with_len l.copy (l.copies - l.copy))
    ≡ l.initial.shown.items ++ flat_map (λ (copy : ℕ). flat_map (copy_elements (Some copy)) l.names) (range_with_len 0 l.copies)
