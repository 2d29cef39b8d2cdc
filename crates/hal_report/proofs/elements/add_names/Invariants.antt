use Rattle.std.proofs.Common.{◌≡◌, ◌++◌, drop, flat_map, Some}
use Rattle.hal_values.specs.ReportElements.{copy_elements}
use Rattle.hal_report.proofs.elements.add_names.Given as goal

abbrev pub invariant-loop-named : goal.invariant-loop-named
invariant-loop-named l =
    l.shown.items ++ flat_map (copy_elements (Some l.copy)) (drop l.named-index l.names) ≡ l.initial.shown.items ++ flat_map (copy_elements (Some l.copy)) l.names
