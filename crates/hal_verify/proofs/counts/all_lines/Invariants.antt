use Rattle.std.proofs.Common.{◌≡◌, ◌≤◌, ◌+◌, min, drop}
use Rattle.std.specs.List.{sum_by}
use Rattle.hal_code.specs.Right.{line_count}
use Rattle.hal_verify.proofs.counts.all_lines.Given as goal

abbrev pub invariant-loop-name : goal.invariant-loop-name
invariant-loop-name l =
    (min (l.count + sum_by line_count (drop l.name-index l.names)) 18446744073709551615 ≡ min (sum_by line_count l.names) 18446744073709551615) × (l.count ≤ 18446744073709551615)
