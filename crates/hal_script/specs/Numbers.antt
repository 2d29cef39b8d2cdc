-- Words that write a number.
use Rattle.std.specs.Prelude.{ℕ, ◌+◌, ◌-◌, ◌*◌, Bool, false, List, [], ◌∷◌, length, Option, Some, None, not, fold, nat_le, ◌==◌, ◌&&◌, ◌||◌, if◌then◌else◌}
use Rattle.std.specs.List.{list_all}
use Rattle.hal_base.specs.Digits.{is_digit}

-- digits alone, at least one, and no `0` before others
abbrev pub is_number : List ℕ → Bool
is_number [] = false
is_number (first ∷ more) = (length more == 0 || not (first == 48)) && list_all is_digit (first ∷ more)

-- the number that decimal digits write
abbrev pub value : List ℕ → ℕ
value digits = fold (λ front digit. front * 10 + (digit - 48)) 0 digits

-- the number that a word writes, if it writes one
abbrev pub number_of : List ℕ → Option ℕ
number_of word = if is_number word then Some (value word) else None
