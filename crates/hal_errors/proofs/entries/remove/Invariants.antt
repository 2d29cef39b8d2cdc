use Rattle.std.proofs.Common.{◌≡◌, ◌≤◌, ◌-◌, ◌++◌, take, drop, vec_len, vec_capacity}
use Rattle.hal_values.specs.Searching as searching
use Rattle.hal_errors.proofs.entries.remove.Given as goal

abbrev pub invariant-loop-at : goal.invariant-loop-at
invariant-loop-at l =
    (l.at ≤ vec_len l.entries) × (vec_len l.entries ≤ vec_len l.fn.entries) × (vec_capacity l.entries ≡ vec_capacity l.fn.entries)
    × (take l.at l.entries.items ++ searching.without l.selector (drop l.at l.entries.items) ≡ take l.first l.fn.entries.items ++ searching.without l.selector (drop l.first l.fn.entries.items))

abbrev pub decreases-loop-at : goal.decreases-loop-at
decreases-loop-at l = vec_len l.entries - l.at
