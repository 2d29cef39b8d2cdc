-- The numbers of names in the map of the code.
use Rattle.std.specs.Prelude.{◌≡◌, ℕ, Bool, false, ◌==◌, List, [], ◌∷◌, length, Option, Some, None, bytes_eq, if◌then◌else◌}
use Rattle.hal_lexer.specs.Defined.{found}
use Rattle.hal_lexer.specs.Compiled.{Table, number_of}

-- whether the name with this number is the one
abbrev pub has_at : Table → ℕ → List ℕ → Bool
has_at [] n name = false
has_at (entry ∷ older) n name = if n == length older then bytes_eq entry.0 name else has_at older n name

-- a number that is kept for a name, where it still is its number
abbrev pub still : Table → List ℕ → Option ℕ → Option ℕ
still table name None = None
still table name (Some n) = if has_at table n name then Some n else None

-- what the map has for a name is its number, unless it isn't looked up
abbrev pub Numbers : List (List ℕ × ℕ) → Table → Type 0
Numbers entries table = (name : List ℕ) → still table name (found entries name) ≡ number_of table name
