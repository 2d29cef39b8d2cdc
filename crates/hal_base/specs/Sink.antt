use Rattle.std.specs.Prelude.{◌≡◌, ℕ, List, ◌++◌, take, Option, Some, None}

-- where the bytes were told, they are told after it, with the first ones of the piece at their end
abbrev pub Takes : Option (List ℕ) → Option (List ℕ) → List ℕ → ℕ → Type 0
Takes (Some before) now piece count = now ≡ Some (before ++ take count piece)
Takes None now piece count = Unit {0}

-- where the bytes were told, the same bytes are told after it
abbrev pub Keeps : Option (List ℕ) → Option (List ℕ) → Type 0
Keeps (Some before) now = now ≡ Some before
Keeps None now = Unit {0}
