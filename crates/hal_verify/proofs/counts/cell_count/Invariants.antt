use Rattle.std.proofs.Common.{◌≡◌, ◌≤◌, ◌+◌, min, drop}
use Rattle.std.specs.List.{sum_by}
use Rattle.hal_code.specs.declared.row.Process.{Process}
use Rattle.hal_code.specs.Images.{row_count}
use Rattle.hal_code.specs.Right.{cell_count}
use Rattle.hal_verify.proofs.counts.cell_count.Given as goal

abbrev pub invariant-loop-process : goal.invariant-loop-process
invariant-loop-process l =
    (min (l.count + sum_by (λ (p : Process). row_count l.image.common + row_count p.places) (drop l.process-index l.processes)) 18446744073709551615 ≡ min (cell_count l.image) 18446744073709551615) × (l.count ≤ 18446744073709551615)
