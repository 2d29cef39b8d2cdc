-- Rows of one operand, and of more.
use Rattle.std.proofs.Common.{◌≡◌, ◌≢◌, List, [], ◌∷◌, length, map, None, refl, arith}
use Rattle.hal_base.specs.declared.refusal.Place.{Place}
use Rattle.hal_grammar.specs.Expressions.{Expression, Expressions, Sum, place_of}
use Rattle.hal_parse_expr.specs.ReadingExpressions.{expressions, row_of, SignedTerm, sum_from, terms}

pub row_alone : {X : Type 0} (view : X → Expression) (make : Place → Expression → Expressions → Expression) (t : Expression) (us : List X) → length us ≡ 0 → row_of make t (map view us) ≡ t
unfolding row_of
row_alone view make t [] e = refl
row_alone view make t (u ∷ us) e = absurd (omega (arith, e))

pub row_more : {X : Type 0} (view : X → Expression) (make : Place → Expression → Expressions → Expression) (t : Expression) (us : List X) → length us ≢ 0 → row_of make t (map view us) ≡ make (place_of t) t (expressions (map view us))
unfolding row_of
row_more view make t [] h = absurd (h refl)
row_more view make t (u ∷ us) h = refl

pub sum_alone : {X : Type 0} (view : X → SignedTerm) (t : Expression) (us : List X) → length us ≡ 0 → sum_from t (map view us) ≡ t
unfolding sum_from
sum_alone view t [] e = refl
sum_alone view t (u ∷ us) e = absurd (omega (arith, e))

pub sum_more : {X : Type 0} (view : X → SignedTerm) (t : Expression) (us : List X) → length us ≢ 0 → sum_from t (map view us) ≡ Sum (place_of t) None t (terms (map view us))
unfolding sum_from
sum_more view t [] h = absurd (h refl)
sum_more view t (u ∷ us) h = refl
