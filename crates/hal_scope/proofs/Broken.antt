-- The first fault that is found tells a rule that is broken, and no fault tells that none is.
use Rattle.std.proofs.Common.{◌≡◌, ℕ, ◌⊎◌, inl, inr, List, [], ◌∷◌, Option, Some, None, refl, sym, ap, subst, ◌∙◌}
use Rattle.std.specs.Option.{option_or}
use Rattle.hal_base.specs.declared.refusal.Place.{Place}
use Rattle.hal_phrases.specs.Phrases.{Phrase}
use Rattle.hal_base.specs.declared.refusal.Fault.{Fault}
use Rattle.hal_scope.specs.Rules.{Row, IsAmong, Breaks, IsSound, fault, first_fault, rows}
use Rattle.hal_scope.specs.Faults.{IsBrokenBy}

-- what was found
abbrev Found : Type 0
Found = ℕ × Place

or_none : (x y : Option Found) → option_or x y ≡ None → (x ≡ None) × (y ≡ None)
or_none None y e = (refl, e)
or_none (Some v) y e = absurd (cc)

or_some : (x y : Option Found) (f : Found) → option_or x y ≡ Some f → (x ≡ Some f) ⊎ (y ≡ Some f)
or_some None y f e = inr e
or_some (Some v) y f e = inl e

fault-none : (table : List Row) (ps : List Phrase) (p : Phrase) → fault table ps p ≡ None → (row : Row) → IsAmong row table → row ps p ≡ None
unfolding fault
fault-none [] ps p e row among = absurd among
fault-none (r ∷ table) ps p e row (inl same) = ap (λ (w : Row). w ps p) same ∙ (or_none _ _ e).0
fault-none (r ∷ table) ps p e row (inr later) = fault-none table ps p (or_none _ _ e).1 row later

first-none : (table : List Row) (ps rest : List Phrase) → first_fault table ps rest ≡ None → (p : Phrase) → IsAmong p rest → fault table ps p ≡ None
unfolding first_fault
first-none table ps [] e p among = absurd among
first-none table ps (q ∷ rest) e p (inl same) = ap (fault table ps) same ∙ (or_none _ _ e).0
first-none table ps (q ∷ rest) e p (inr later) = first-none table ps rest (or_none _ _ e).1 p later

pub sound : (table : List Row) (ps : List Phrase) → first_fault table ps ps ≡ None → IsSound table ps
sound table ps none rule place breaks =
    let clear : breaks.row ps breaks.phrase ≡ None = fault-none table ps breaks.phrase (first-none table ps ps none breaks.phrase breaks.there) breaks.row breaks.listed in
    let both : None ≡ Some (rule, place) = sym clear ∙ breaks.broken in
    absurd (cc)

-- the same of equal lists of phrases
pub sound_here : (ps qs : List Phrase) → qs ≡ ps → IsSound rows qs → IsSound rows ps
sound_here ps qs same sound = subst (λ (list : List Phrase). IsSound rows list) same sound

pub broken_here : (ps qs : List Phrase) (why : Fault) → qs ≡ ps → IsBrokenBy qs why → IsBrokenBy ps why
broken_here ps qs why same breaks = subst (λ (list : List Phrase). IsBrokenBy list why) same breaks

-- the row of a fault
record IsRowOf (table : List Row) (ps : List Phrase) (p : Phrase) (f : Found) : Type 0 where
  row : Row
  listed : IsAmong row table
  broken : row ps p ≡ Some f

fault-some : (table : List Row) (ps : List Phrase) (p : Phrase) (f : Found) → fault table ps p ≡ Some f → IsRowOf table ps p f
unfolding fault
fault-some [] ps p f e = absurd (cc)
fault-some (r ∷ table) ps p f e = elim (or_some _ _ f e) [
  | inl here ↦ record { row = r; listed = inl refl; broken = here }
  | inr there ↦ let later : IsRowOf table ps p f = fault-some table ps p f there in record { row = later.row; listed = inr later.listed; broken = later.broken }
]

-- the phrase of a fault
record IsPhraseOf (table : List Row) (ps rest : List Phrase) (f : Found) : Type 0 where
  phrase : Phrase
  there : IsAmong phrase rest
  faulty : IsRowOf table ps phrase f

first-some : (table : List Row) (ps rest : List Phrase) (f : Found) → first_fault table ps rest ≡ Some f → IsPhraseOf table ps rest f
unfolding first_fault
first-some table ps [] f e = absurd (cc)
first-some table ps (p ∷ rest) f e = elim (or_some _ _ f e) [
  | inl here ↦ record { phrase = p; there = inl refl; faulty = fault-some table ps p f here }
  | inr there ↦ let later : IsPhraseOf table ps rest f = first-some table ps rest f there in record { phrase = later.phrase; there = inr later.there; faulty = later.faulty }
]

pub broken : (table : List Row) (ps : List Phrase) (rule : ℕ) (place : Place) → first_fault table ps ps ≡ Some (rule, place) → Breaks table ps rule place
broken table ps rule place e =
    let found : IsPhraseOf table ps ps (rule, place) = first-some table ps ps (rule, place) e in
    record { row = found.faulty.row; listed = found.faulty.listed; phrase = found.phrase; there = found.there; broken = found.faulty.broken }
