-- Units that a process reaches: its own one, those that it calls, and what these call.
use Rattle.std.specs.Prelude.{◌≡◌, ℕ, ◌==◌, Bool, true, false, ◌&&◌, ◌||◌, List, [], ◌∷◌, filter_map, Option, Some, None, slice_get, if◌then◌else◌}
use Rattle.std.specs.List.{cons_option}
use Rattle.std.proofs.Common.{refl, sym, ap, subst, ◌∙◌, inl, inr}
use Rattle.std.proofs.lemmas.Bool.{and_from, and_parts, eqb-true, eq-eqb, or_left, or_right}
use Rattle.hal_phrases.specs.Phrases.{Phrase}
use Rattle.hal_scope.specs.Rules.{IsAmong}
use Rattle.hal_meaning.specs.Bodies.{callee, callees, processes_of, reaches}
use Rattle.hal_meaning.specs.Places.{unit_numbers}
use Rattle.hal_meaning.specs.Sets.{Set}
use Rattle.hal_reach.specs.Places.{is_among}
use Rattle.hal_reach.proofs.Callees.{has_callees}
use Rattle.hal_reach.proofs.Within.{Has, HasAll}
use Rattle.hal_fit_calls.proofs.Reached.{reaches_callee, reaches_itself, reaches_on}
use Rattle.hal_fit_layout.proofs.Called.{Reaches}
use Rattle.hal_right_images.proofs.rows.Calling.{placed}
use Rattle.hal_right_images.proofs.views.Reached.{listed, kept, kept_passes, unit_of}
use Rattle.hal_right_images.specs.images.Blocks.{reached}

-- a member of a list all of whose members are units is one
pub one_of : (ns xs : List ℕ) (k : ℕ) → HasAll ns xs → Has xs k → Has ns k
one_of ns [] k all has = absurd (cc)
one_of ns (x ∷ xs) k all has = by (x == k) refl (one_of ns xs k all.1) has where
  by : (b : Bool) → (x == k) ≡ b → (Has xs k → Has ns k) → (b || is_among xs k) ≡ true → Has ns k
  by true is rest found = subst (Has ns) (eqb-true x k is) all.0
  by false is rest found = rest found

-- what a phrase of a unit calls is among what the unit calls

one_more : (o : Option ℕ) (ns : List ℕ) (q : ℕ) → is_among ns q ≡ true → is_among (cons_option o ns) q ≡ true
one_more None ns q is = is
one_more (Some n) ns q is = or_right (n == q) (is_among ns q) is

called_among : (ps : List Phrase) (c q : ℕ) (qs : List Phrase) (p : Phrase) → IsAmong p qs → p.around.home ≡ c → callee ps p ≡ Some q
    → is_among (filter_map (λ (x : Phrase). if x.around.home == c then callee ps x else None) qs) q ≡ true
called_among ps c q [] p among its is = absurd among
called_among ps c q (x ∷ qs) p (inl same) its is =
    let rest : List ℕ = filter_map (λ (y : Phrase). if y.around.home == c then callee ps y else None) qs in
    let here : (x.around.home == c) ≡ true = eq-eqb x.around.home c (ap (λ (y : Phrase). y.around.home) (sym same) ∙ its) in
    let one : (if x.around.home == c then callee ps x else None) ≡ Some q = ap (λ b. if b then callee ps x else None) here ∙ (ap (callee ps) (sym same) ∙ is) in
    ap (λ o. is_among (cons_option o rest) q) one ∙ or_left (q == q) (is_among rest q) (eq-eqb q q refl)
called_among ps c q (x ∷ qs) p (inr later) its is =
    one_more (if x.around.home == c then callee ps x else None) (filter_map (λ (y : Phrase). if y.around.home == c then callee ps y else None) qs) q (called_among ps c q qs p later its is)

pub has_callee : (ps : List Phrase) (c q : ℕ) (p : Phrase) → IsAmong p ps → p.around.home ≡ c → callee ps p ≡ Some q → Has (callees ps c) q
has_callee ps c q p among its is = called_among ps c q ps p among its is

module _ (s : Set) (process k : ℕ) (its : slice_get (processes_of s.phrases) process ≡ Some k) where
  reached_is : (unit : ℕ) → reached s process unit ≡ (is_among (unit_numbers s.phrases) unit && reaches s.phrases k unit)
  reached_is unit = ap (λ (o : Option ℕ). elim o [ None ↦ false | Some n ↦ is_among (unit_numbers s.phrases) unit && reaches s.phrases n unit ]) its

  reached_so : (unit : ℕ) → Has (unit_numbers s.phrases) unit → reaches s.phrases k unit ≡ true → reached s process unit ≡ true
  reached_so unit has goes = reached_is unit ∙ and_from (is_among (unit_numbers s.phrases) unit) (reaches s.phrases k unit) has goes

  parts_of : (unit : ℕ) → reached s process unit ≡ true → Has (unit_numbers s.phrases) unit × (reaches s.phrases k unit ≡ true)
  parts_of unit is = and_parts (is_among (unit_numbers s.phrases) unit) (reaches s.phrases k unit) (sym (reached_is unit) ∙ is)

  -- a process reaches its own unit
  pub own_reached : reached s process k ≡ true
  own_reached = reached_so k (unit_of s.phrases process k its) (reaches_itself s.phrases k)

  -- and those that it calls
  pub called_reached : (unit : ℕ) → Reaches s.phrases k unit → reached s process unit ≡ true
  called_reached unit one = reached_so unit (listed (unit_numbers s.phrases) one.place unit one.there) (kept_passes (λ p. reaches s.phrases p unit) (processes_of s.phrases) k one.reaches)

  -- what it reaches is a unit that it reaches by calls
  pub reached_reaches : (unit : ℕ) → reached s process unit ≡ true → Reaches s.phrases k unit
  reached_reaches unit is =
      let both = parts_of unit is in
      let at = placed (unit_numbers s.phrases) unit both.0 in
      record { place = at.0; there = at.1; reaches = kept (λ p. reaches s.phrases p unit) (processes_of s.phrases) k both.1 (listed (processes_of s.phrases) process k its) }

  -- what it reaches is a unit
  pub reached_unit : (unit : ℕ) → reached s process unit ≡ true → Has (unit_numbers s.phrases) unit
  reached_unit unit is = (parts_of unit is).0

  -- what is called by a unit that it reaches is reached
  pub reached_on : (c q : ℕ) → reached s process c ≡ true → Has (callees s.phrases c) q → reached s process q ≡ true
  reached_on c q is called =
      let both = parts_of c is in
      reached_so q (one_of (unit_numbers s.phrases) (callees s.phrases c) q (has_callees s.phrases c) called)
      (reaches_on s.phrases k c q (unit_of s.phrases process k its) both.1 (reaches_callee s.phrases c q both.0 called))
