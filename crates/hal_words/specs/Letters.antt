-- The classes of bytes that words are made of.
use Rattle.std.specs.Prelude.{ℕ, ◌-◌, nat_le, ◌==◌, Bool, ◌&&◌, ◌||◌, if◌then◌else◌}
use Rattle.hal_base.specs.Digits.{is_digit}

-- a blank, or a tab
abbrev pub is_blank : ℕ → Bool
is_blank b = b == 32 || b == 9

abbrev pub is_capital : ℕ → Bool
is_capital b = nat_le 65 b && nat_le b 90

abbrev pub is_small : ℕ → Bool
is_small b = nat_le 97 b && nat_le b 122

abbrev pub is_letter : ℕ → Bool
is_letter b = is_capital b || is_small b

-- a letter, a digit or the underscore
abbrev pub is_name_byte : ℕ → Bool
is_name_byte b = (is_letter b || is_digit b) || b == 95

-- a small letter as a capital
abbrev pub capital : ℕ → ℕ
capital b = if is_small b then b - 32 else b

-- a byte that may stand outside comments and directives: a printing one, a blank or a tab
abbrev pub is_plain : ℕ → Bool
is_plain b = (nat_le 32 b && nat_le b 126) || b == 9
