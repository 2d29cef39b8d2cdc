use Rattle.std.proofs.Common.{◌≡◌, ◌≤◌, ◌+◌, min, drop}
use Rattle.std.specs.List.{sum_by}
use Rattle.hal_code.specs.Memory.{spread_of}
use Rattle.hal_verify.proofs.counts.view_count.Given as goal

abbrev pub invariant-loop-view : goal.invariant-loop-view
invariant-loop-view l =
    (min (l.count + sum_by (spread_of l.image) (drop l.view-index l.views)) 18446744073709551615 ≡ min (sum_by (spread_of l.image) l.views) 18446744073709551615) × (l.count ≤ 18446744073709551615)
