-- Units at whose sites phrases stand in a process: the process reaches them.
use Rattle.std.specs.Prelude.{◌≡◌, ℕ, zero, suc, ◌==◌, Bool, true, false, ◌||◌, List, [], ◌∷◌, cond, filter, length, Some, None, slice_get, if◌then◌else◌}
use Rattle.std.proofs.Common.{refl, sym, subst, inl, inr, arith}
use Rattle.std.proofs.lemmas.Bool.{eqb-true, eq-eqb, or_left, or_right}
use Rattle.hal_phrases.specs.Phrases.{Node, Phrase, OfUnit}
use Rattle.hal_meaning.specs.Bodies.{is_process, is_unit, processes_of, processes_reaching, reaches}
use Rattle.hal_meaning.specs.Places.{unit_numbers}
use Rattle.hal_meaning.specs.Sets.{Set}
use Rattle.hal_reach.specs.Places.{is_among}
use Rattle.hal_reach.proofs.Callees.{has_unit}
use Rattle.hal_reach.proofs.Within.{Has}
use Rattle.hal_fit_calls.proofs.Reached.{reaches_itself}
use Rattle.hal_link.proofs.Outlined.{outlined_at}
use Rattle.hal_link.specs.Outlines.{ranks_of}
use Rattle.hal_fit_layout.proofs.Called.{Reaches, from_member, from_called, called_reaches}
use Rattle.hal_fit_layout.proofs.Outlining.{called_are}
use Rattle.hal_right_images.proofs.rows.Calling.{placed}
use Rattle.hal_right_images.specs.rows.Purposes.{StandsIn}

-- a number with a place in a list is among its members
pub listed : (ns : List ℕ) (n k : ℕ) → slice_get ns n ≡ Some k → is_among ns k ≡ true
listed [] n k is = absurd (cc)
listed (x ∷ ns) zero k is = or_left (x == k) (is_among ns k) (eq-eqb x k (let same : x ≡ k = cc in same))
listed (x ∷ ns) (suc n) k is = or_right (x == k) (is_among ns k) (listed ns n k is)

-- what is kept of a list passes the test
passes_by : (test : ℕ → Bool) (n q : ℕ) (ns : List ℕ) (b : Bool) → (n == q) ≡ b → test n ≡ true → (is_among ns q ≡ true → test q ≡ true) → (b || is_among ns q) ≡ true → test q ≡ true
passes_by test n q ns true same passes later is = subst (λ k. test k ≡ true) (eqb-true n q same) passes
passes_by test n q ns false other passes later is = later is

pub kept_passes : (test : ℕ → Bool) (ns : List ℕ) (q : ℕ) → is_among (filter test ns) q ≡ true → test q ≡ true
kept_passes test [] q is = absurd (cc)
kept_passes test (n ∷ ns) q is = by (test n) refl (kept_passes test ns q) is where
  by : (b : Bool) → test n ≡ b → (is_among (filter test ns) q ≡ true → test q ≡ true) → is_among (cond b (n ∷ filter test ns) (filter test ns)) q ≡ true → test q ≡ true
  by true passes later found = passes_by test n q (filter test ns) (n == q) refl passes later found
  by false isnt later found = later found

-- and what passes it is kept
pub kept : (test : ℕ → Bool) (ns : List ℕ) (q : ℕ) → test q ≡ true → is_among ns q ≡ true → is_among (filter test ns) q ≡ true
kept test [] q passes is = absurd (cc)
kept test (n ∷ ns) q passes is = by (n == q) refl (test n) refl (kept test ns q passes) is where
  by : (b : Bool) → (n == q) ≡ b → (c : Bool) → test n ≡ c → (is_among ns q ≡ true → is_among (filter test ns) q ≡ true) → (b || is_among ns q) ≡ true
      → is_among (cond c (n ∷ filter test ns) (filter test ns)) q ≡ true
  by true same true so later is = or_left (n == q) (is_among (filter test ns) q) same
  by true same false isnt later is = let found = subst (λ k. test k ≡ true) (sym (eqb-true n q same)) passes in absurd (cc)
  by false other true so later is = or_right (n == q) (is_among (filter test ns) q) (later is)
  by false other false isnt later is = later is

-- the unit of a process is one of the set's
process_unit : (node : Node) → is_process node ≡ true → is_unit node ≡ true
process_unit (OfUnit name head declarations) is = refl
process_unit other is = absurd (cc)

unit_by : (ps : List Phrase) (k n : ℕ) (p : Phrase) → slice_get ps n ≡ Some p → (b : Bool) → is_process p.node ≡ b → (if b then Some p.number else None) ≡ Some k → Has (unit_numbers ps) k
unit_by ps k n p there true is gives = let number : p.number ≡ k = cc in subst (Has (unit_numbers ps)) number (has_unit ps n p there (process_unit p.node is))
unit_by ps k n p there false is gives = absurd (cc)

pub unit_of : (ps : List Phrase) (n k : ℕ) → slice_get (processes_of ps) n ≡ Some k → Has (unit_numbers ps) k
unit_of ps n k is =
    let found = from_member (λ (p : Phrase). if is_process p.node then Some p.number else None) ps n k is in
    unit_by ps k found.place found.member found.there (is_process found.member.node) refl found.gives

-- the unit of a process, and one that it reaches
pub record ReachesIt (s : Set) (process unit : ℕ) : Type 0 where
  pub own : ℕ
  pub its : slice_get (processes_of s.phrases) process ≡ Some own
  pub reaches : Reaches s.phrases own unit

-- a unit that a process reaches by calls
pub reaches_so : (s : Set) (process own unit : ℕ) → slice_get (processes_of s.phrases) process ≡ Some own → Has (unit_numbers s.phrases) unit → reaches s.phrases own unit ≡ true → Reaches s.phrases own unit
reaches_so s process own unit its has so =
    let at = placed (unit_numbers s.phrases) unit has in
    record { place = at.0; there = at.1; reaches = kept (λ p. reaches s.phrases p unit) (processes_of s.phrases) own so (listed (processes_of s.phrases) process own its) }

pub stands_reached : (s : Set) (process unit : ℕ) → StandsIn s process unit → ReachesIt s process unit
stands_reached s process unit (inl own) =
    record { own = unit; its = own; reaches = reaches_so s process unit unit own (unit_of s.phrases process unit own) (reaches_itself s.phrases unit) }
stands_reached s process unit (inr calls) =
    let o = calls.outline in
    let at = outlined_at (ranks_of s.phrases) (processes_of s.phrases) 0 0 calls.number o calls.there in
    let number : calls.number ≡ process = (let first = at.0 in let its = calls.its in omega (arith, first, its)) in
    let called = from_called o.unit (length (ranks_of s.phrases)) (ranks_of s.phrases) calls.place unit (subst (λ l. slice_get l calls.place ≡ Some unit) (called_are s calls.number o calls.there) calls.called) in
    record { own = o.unit; its = subst (λ n. slice_get (processes_of s.phrases) n ≡ Some o.unit) number at.1; reaches = called_reaches s.phrases o.unit unit called }

-- a process that reaches a unit reaches it by calls
pub passes_kept : (ps : List Phrase) (own unit : ℕ) → is_among (processes_reaching ps unit) own ≡ true → reaches ps own unit ≡ true
passes_kept ps own unit is = kept_passes (λ p. reaches ps p unit) (processes_of ps) own is
