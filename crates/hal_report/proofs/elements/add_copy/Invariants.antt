use Rattle.std.proofs.Common.{◌≡◌, ◌-◌, ◌++◌, map}
use Rattle.std.specs.List.{range_with_len}
use Rattle.hal_values.specs.ReportElements.{element, size_of}
use Rattle.hal_report.proofs.elements.add_copy.Given as goal

abbrev pub invariant-numbers : goal.invariant-numbers
invariant-numbers l =
    l.shown.items ++ map (element l.named l.copy) (range_with_len l.number (size_of l.named.dimensions - l.number))
    ≡ l.initial.shown.items ++ map (element l.named l.copy) (range_with_len 0 (size_of l.named.dimensions))
