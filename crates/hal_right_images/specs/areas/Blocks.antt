-- What a subscript leaves of an array, as code finds it.
use Rattle.std.specs.Prelude.{◌≡◌, ◌≤◌, ◌⊎◌, ◌+◌, ℕ, List, [], ◌∷◌, unwrap_or}
use Rattle.hal_grammar.specs.Expressions.{Subscripts, NoSubscripts, MoreSubscripts, Sub, One as OnePlace}
use Rattle.hal_agreement.specs.Sites.{Site}
use Rattle.hal_gen_expr.specs.Spans.{places_skipped}

-- of a dimension it leaves one place, or so many behind those that lie before them
abbrev pub LeavesOf : Site → ℕ → Sub → ℕ → Type 0
LeavesOf site n (OnePlace one) left = left ≡ 1
LeavesOf site n sub left = unwrap_or (places_skipped site n sub) 0 + left ≤ n

-- of each dimension; one without a subscript is whole
abbrev pub Leave : Site → List ℕ → Subscripts → List ℕ → Type 0
Leave site [] xs [] = Unit {0}
Leave site [] xs (left ∷ lefts) = ⊥
Leave site (n ∷ ns) xs [] = ⊥
Leave site (n ∷ ns) NoSubscripts (left ∷ lefts) = (left ≡ n) × Leave site ns NoSubscripts lefts
Leave site (n ∷ ns) (MoreSubscripts x xs) (left ∷ lefts) = LeavesOf site n x left × Leave site ns xs lefts

-- the elements that are left follow each other: one place of each dimension before some dimension, and all places of those behind it
abbrev pub Follow : List ℕ → List ℕ → Type 0
Follow [] lefts = Unit {0}
Follow (n ∷ ns) [] = ⊥
Follow (n ∷ ns) (left ∷ lefts) = (lefts ≡ ns) ⊎ ((left ≡ 1) × Follow ns lefts)
