-- The digits.
use Rattle.std.specs.Prelude.{ℕ, Bool, ◌&&◌, nat_le}

-- 0 to 9
abbrev pub is_digit : ℕ → Bool
is_digit byte = nat_le 48 byte && nat_le byte 57
