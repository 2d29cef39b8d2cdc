-- What no phrase says of a set that breaks no row of a table of rules.
use Rattle.std.specs.Prelude.{◌≡◌, ℕ, zero, suc, List, [], ◌∷◌, Option, Some, None, slice_get}
use Rattle.std.proofs.Common.{refl, sym, inl, inr}
use Rattle.hal_base.specs.declared.refusal.Place.{Place}
use Rattle.hal_phrases.specs.Phrases.{Phrase}
use Rattle.hal_scope.specs.Rules.{Row, IsAmong, IsSound, ruled}

none_of : (table : List Row) (ps : List Phrase) → IsSound table ps → (p : Phrase) → IsAmong p ps → (row : Row) → IsAmong row table → (o : Option (ℕ × Place)) → row ps p ≡ o → row ps p ≡ None
none_of table ps sound p within row listed None is = is
none_of table ps sound p within row listed (Some fault) is = absurd (sound fault.0 fault.1 (record { row = row; listed = listed; phrase = p; there = within; broken = is }))

-- no phrase of a sound set breaks a row
pub unbroken : (table : List Row) (ps : List Phrase) → IsSound table ps → (p : Phrase) → IsAmong p ps → (row : Row) → IsAmong row table → row ps p ≡ None
unbroken table ps sound p within row listed = none_of table ps sound p within row listed (row ps p) refl

pub ruled_none : (rule : ℕ) (o : Option Place) → ruled rule o ≡ None → o ≡ None
ruled_none rule None is = refl
ruled_none rule (Some place) is = absurd (cc)

-- what has a place in a list is among its members
pub among_at : {X : Type 0} (xs : List X) (k : ℕ) (x : X) → slice_get xs k ≡ Some x → IsAmong x xs
among_at [] k x is = absurd (cc)
among_at (y ∷ xs) zero x is = inl (let same : y ≡ x = cc in sym same)
among_at (y ∷ xs) (suc k) x is = inr (among_at xs k x is)
