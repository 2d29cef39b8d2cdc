use Rattle.std.proofs.Common.{◌≡◌, ◌≤◌, ◌+◌, min, drop}
use Rattle.hal_code.specs.Images.{row_count}
use Rattle.hal_verify.proofs.counts.row_count.Given as goal

abbrev pub invariant-loop-run : goal.invariant-loop-run
invariant-loop-run g l =
    (min (l.count + row_count (drop l.run-index l.runs)) 18446744073709551615 ≡ min (row_count l.runs) 18446744073709551615) × (l.count ≤ 18446744073709551615)
