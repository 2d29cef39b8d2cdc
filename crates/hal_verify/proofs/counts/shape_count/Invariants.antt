use Rattle.std.proofs.Common.{◌≡◌, ◌≤◌, ◌+◌, List, min, drop}
use Rattle.std.specs.List.{sum_by}
use Rattle.hal_values.specs.declared.value.Kind.{Kind}
use Rattle.hal_code.specs.declared.row.Run.{Run}
use Rattle.hal_code.specs.Images.{row_count}
use Rattle.hal_verify.proofs.counts.shape_count.Given as goal

abbrev pub invariant-loop-runs : goal.invariant-loop-runs
invariant-loop-runs l =
    (min (l.count + sum_by (λ (one : List (Run Kind)). row_count one) (drop l.runs-index l.shapes)) 18446744073709551615 ≡ min (sum_by (λ (one : List (Run Kind)). row_count one) l.shapes) 18446744073709551615) × (l.count ≤ 18446744073709551615)
