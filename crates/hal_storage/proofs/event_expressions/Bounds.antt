-- A place that is found lies in the list.
use Rattle.std.proofs.Common.{rules, ◌≡◌, ◌<◌, ◌==◌, ℕ, nat_lt, Bool, true, false, List, length, Some, None, position, cond, refl}
use Rattle.std.specs.List.{position_or_len}

tested : (b : Bool) (n len i : ℕ) → nat_lt n len ≡ b → cond b (Some n) None ≡ Some i → i < len
tested true n len i is found = search (rules, is, found)
tested false n len i is found = search (rules, found)

pub within_list : (ns : List ℕ) (k i : ℕ) → position (λ one. one == k) ns ≡ Some i → i < length ns
within_list ns k i found = tested (nat_lt (position_or_len (λ one. one == k) ns) (length ns)) (position_or_len (λ one. one == k) ns) (length ns) i refl found
