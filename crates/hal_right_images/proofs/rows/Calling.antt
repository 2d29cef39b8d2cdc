-- Units that call themselves, and units that several processes reach, in a set that breaks no rule of calls.
use Rattle.std.specs.Prelude.{◌≡◌, ℕ, zero, suc, ◌==◌, nat_lt, Bool, true, false, not, ◌||◌, List, [], ◌∷◌, cond, length, filter, Option, Some, None, slice_get, if◌then◌else◌}
use Rattle.std.specs.Option.{option_and_then}
use Rattle.std.proofs.Common.{refl, sym, ap, subst, ◌∙◌, inl, inr, arith}
use Rattle.std.proofs.lemmas.Bool.{eqb-true, lt-ltb, or_left, or_right}
use Rattle.hal_base.specs.declared.refusal.Place.{Place}
use Rattle.hal_phrases.specs.Phrases.{Node, Phrase, OfUnit}
use Rattle.hal_names.specs.Laws.{IsCounted}
use Rattle.hal_scope.specs.Rules.{IsSound, ruled}
use Rattle.hal_scope.specs.Uses.{unless}
use Rattle.hal_meaning.specs.Bodies.{is_unit, processes_reaching}
use Rattle.hal_meaning.specs.Places.{unit_numbers, are_several, is_reentrant}
use Rattle.hal_reach.specs.Calls.{calls_itself, recursive}
use Rattle.hal_reach.specs.Places.{is_among}
use Rattle.hal_calls.specs.Blocks.{name_at, named_among, self_called, is_contended, contended, contested}
use Rattle.hal_calls.specs.Rules.{call_rows}
use Rattle.hal_fit_layout.specs.Ranked.{AreReentrant, IsAcyclic}
use Rattle.hal_fit_layout.proofs.Called.{from_member}
use Rattle.hal_right_images.proofs.rows.Rules.{among_at, ruled_none, unbroken}

-- a number among others has a place there
pub placed : (ns : List ℕ) (q : ℕ) → is_among ns q ≡ true → (m : ℕ) × (slice_get ns m ≡ Some q)
placed [] q is = absurd (cc)
placed (n ∷ ns) q is = by (n == q) refl (placed ns q) is where
  by : (b : Bool) → (n == q) ≡ b → (is_among ns q ≡ true → (m : ℕ) × (slice_get ns m ≡ Some q)) → (b || is_among ns q) ≡ true → (m : ℕ) × (slice_get (n ∷ ns) m ≡ Some q)
  by true same later is = (zero, ap Some (eqb-true n q same))
  by false other later is = let found = later is in (suc found.0, found.1)

-- one that passes a test is kept
kept : (test : ℕ → Bool) (ns : List ℕ) (q : ℕ) → test q ≡ true → is_among ns q ≡ true → is_among (filter test ns) q ≡ true
kept test [] q passes is = absurd (cc)
kept test (n ∷ ns) q passes is = by (n == q) refl (test n) refl (kept test ns q passes) is where
  by : (b : Bool) → (n == q) ≡ b → (c : Bool) → test n ≡ c → (is_among ns q ≡ true → is_among (filter test ns) q ≡ true) → (b || is_among ns q) ≡ true
      → is_among (cond c (n ∷ filter test ns) (filter test ns)) q ≡ true
  by true same true so later is = or_left (n == q) (is_among (filter test ns) q) same
  by true same false isnt later is = let found = subst (λ k. test k ≡ true) (sym (eqb-true n q same)) passes in absurd (cc)
  by false other true so later is = or_right (n == q) (is_among (filter test ns) q) (later is)
  by false other false isnt later is = later is

-- the phrase of a unit
record UnitAt (ps : List Phrase) (q : ℕ) : Type 0 where
  phrase : Phrase
  there : slice_get ps q ≡ Some phrase
  number : phrase.number ≡ q
  is : is_unit phrase.node ≡ true

unit_by : (ps : List Phrase) → IsCounted ps → (q : ℕ) (p : Phrase) (k : ℕ) → slice_get ps k ≡ Some p → (b : Bool) → is_unit p.node ≡ b → (if b then Some p.number else None) ≡ Some q → UnitAt ps q
unit_by ps counted q p k there true is same =
    let number : p.number ≡ q = cc in
    record { phrase = p; there = subst (λ n. slice_get ps n ≡ Some p) (sym (counted k p there) ∙ number) there; number = number; is = is }
unit_by ps counted q p k there false is same = absurd (cc)

unit_at : (ps : List Phrase) → IsCounted ps → (q : ℕ) → is_among (unit_numbers ps) q ≡ true → UnitAt ps q
unit_at ps counted q is =
    let at = placed (unit_numbers ps) q is in
    let found = from_member (λ (p : Phrase). if is_unit p.node then Some p.number else None) ps at.0 q at.1 in
    unit_by ps counted q found.member found.place found.there (is_unit found.member.node) refl found.gives

-- where its name stands
name_there : (node : Node) → is_unit node ≡ true → (place : Place) × (name_at node ≡ Some place)
unfolding name_at
name_there (OfUnit name head declarations) is = (name.place, refl)
name_there other is = absurd (cc)

named_so : (units : List ℕ) (p : Phrase) (place : Place) → name_at p.node ≡ Some place → is_among units p.number ≡ true → named_among units p ≡ Some place
named_so units p place named among = ap (λ o. option_and_then (λ (x : Place). unless (not (is_among units p.number)) x) o) named ∙ ap (λ b. unless (not b) place) among

-- where several processes reach a unit, more than one does
more_than_one : (ns : List ℕ) → are_several ns ≡ true → nat_lt 1 (length ns) ≡ true
more_than_one [] is = absurd (cc)
more_than_one (n ∷ []) is = absurd (cc)
more_than_one (n ∷ m ∷ ns) is = lt-ltb 1 (length (n ∷ m ∷ ns)) (omega arith)

module _ (ps : List Phrase) (counted : IsCounted ps) (sound : IsSound call_rows ps) where
  -- rule 901
  none_recursive : (p : Phrase) (k : ℕ) → slice_get ps k ≡ Some p → self_called ps p ≡ None
  unfolding call_rows
  none_recursive p k there = ruled_none 901 (self_called ps p) (unbroken call_rows ps sound p (among_at ps k p there) (λ qs q. ruled 901 (self_called qs q)) (inl refl))

  -- rule 902
  none_contested : (p : Phrase) (k : ℕ) → slice_get ps k ≡ Some p → contested ps p ≡ None
  unfolding call_rows
  none_contested p k there = ruled_none 902 (contested ps p) (unbroken call_rows ps sound p (among_at ps k p there) (λ qs q. ruled 902 (contested qs q)) (inr (inl refl)))

  among_recursive : (q : ℕ) → is_among (unit_numbers ps) q ≡ true → calls_itself ps q ≡ true → is_among (recursive ps) q ≡ true
  unfolding recursive
  among_recursive q is calls = kept (calls_itself ps) (unit_numbers ps) q calls is

  among_contended : (q : ℕ) → is_among (unit_numbers ps) q ≡ true → are_several (processes_reaching ps q) ≡ true → is_among (contended ps) q ≡ true
  unfolding contended
  among_contended q is several = kept (is_contended ps) (unit_numbers ps) q (more_than_one (processes_reaching ps q) several) is

  pub acyclic : IsAcyclic ps
  acyclic q is = by (calls_itself ps q) refl where
    by : (b : Bool) → calls_itself ps q ≡ b → calls_itself ps q ≡ false
    by false isnt = isnt
    by true calls =
        let one = unit_at ps counted q is in
        let name = name_there one.phrase.node one.is in
        let told = named_so (recursive ps) one.phrase name.0 name.1 (subst (λ n. is_among (recursive ps) n ≡ true) (sym one.number) (among_recursive q is calls)) in
        let none = none_recursive one.phrase q one.there in
        absurd (cc)

  pub reentrant : AreReentrant ps
  reentrant q is several =
      let one = unit_at ps counted q is in
      ap (λ (o : Option Phrase). elim o [ None ↦ false | Some p ↦ is_reentrant p.node ]) one.there ∙ by one (is_reentrant one.phrase.node) refl (none_contested one.phrase q one.there) where
        by : (one : UnitAt ps q) (b : Bool) → is_reentrant one.phrase.node ≡ b → (if b then None else named_among (contended ps) one.phrase) ≡ None → is_reentrant one.phrase.node ≡ true
        by one true so none = so
        by one false isnt none =
            let name = name_there one.phrase.node one.is in
            let told = named_so (contended ps) one.phrase name.0 name.1 (subst (λ n. is_among (contended ps) n ≡ true) (sym one.number) (among_contended q is several)) in
            absurd (cc)
