use Rattle.std.proofs.Common.{◌≡◌, ◌≤◌, ◌++◌, ℕ, length}
use Rattle.hal_values.specs.ReportElements.{elements_in}
use Rattle.hal_report.specs.Arrays.{AreArrays}
use Rattle.hal_report.proofs.elements.elements_of.Given as goal

abbrev pub invariant-names : goal.invariant-names
invariant-names l = ((n : ℕ) × (length l.rest ≤ n) × (l.shown.items ++ elements_in n l.rest ≡ elements_in (length l.names) l.names)) × AreArrays l.rest

abbrev pub decreases-names : goal.decreases-names
decreases-names l = length l.rest
