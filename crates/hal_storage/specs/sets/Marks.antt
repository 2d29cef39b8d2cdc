-- The phrases of a unit that are looked up, one by one.
use Rattle.std.specs.Prelude.{ℕ, ◌==◌, List, [], ◌∷◌, ◌++◌, if◌then◌else◌}
use Rattle.hal_phrases.specs.Phrases.{Phrase}
use Rattle.hal_meaning.specs.Bodies.{is_mark}

-- behind those so far, the phrase where it is one of the unit with this number
unfoldable pub with_mark : ℕ → List ℕ → Phrase → List ℕ
with_mark unit d p = if is_mark p.node then (if p.around.home == unit then d ++ (p.number ∷ []) else d) else d

unfoldable pub with_marks : ℕ → List ℕ → List Phrase → List ℕ
with_marks unit d [] = d
with_marks unit d (p ∷ ps) = with_marks unit (with_mark unit d p) ps
