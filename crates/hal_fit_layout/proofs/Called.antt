-- The units that a process calls are among its ranks.
use Rattle.std.specs.Prelude.{◌≡◌, ◌⊎◌, ℕ, zero, suc, ◌==◌, Bool, true, false, not, ◌&&◌, List, [], ◌∷◌, ◌++◌, map, filter_map, Option, Some, None, slice_get, if◌then◌else◌}
use Rattle.std.specs.List.{cons_option}
use Rattle.std.proofs.Common.{refl, ap, subst, ◌∙◌, inl, inr}
use Rattle.std.proofs.lemmas.Bool.{and_parts}
use Rattle.hal_phrases.specs.Phrases.{Phrase}
use Rattle.hal_meaning.specs.Bodies.{processes_reaching}
use Rattle.hal_meaning.specs.Places.{unit_numbers}
use Rattle.hal_reach.specs.Places.{is_among}
use Rattle.hal_link.specs.Outlines.{Rank, ranked, ranks_of, calls, called_if, called_at, called_from}
use Rattle.hal_fit_layout.specs.Ranked.{IsCalled}

-- a member of lists one behind the other
pub in_either : {X : Type 0} (xs ys : List X) (n : ℕ) (x : X) → slice_get (xs ++ ys) n ≡ Some x → ((m : ℕ) × (slice_get xs m ≡ Some x)) ⊎ ((m : ℕ) × (slice_get ys m ≡ Some x))
in_either [] ys n x is = inr (n, is)
in_either (y ∷ xs) ys zero x is = inl (zero, is)
in_either {X} (y ∷ xs) ys (suc n) x is = later (in_either xs ys n x is) where
  later : ((m : ℕ) × (slice_get xs m ≡ Some x)) ⊎ ((m : ℕ) × (slice_get ys m ≡ Some x)) → ((m : ℕ) × (slice_get (y ∷ xs) m ≡ Some x)) ⊎ ((m : ℕ) × (slice_get ys m ≡ Some x))
  later (inl found) = inl (suc found.0, found.1)
  later (inr found) = inr found

-- what is kept of a member
pub record From {X Y : Type 0} (f : X → Option Y) (xs : List X) (y : Y) : Type 0 where
  pub member : X
  pub place : ℕ
  pub there : slice_get xs place ≡ Some member
  pub gives : f member ≡ Some y

from_more : {X Y : Type 0} (f : X → Option Y) (x : X) (xs : List X) (y : Y) → From f xs y → From f (x ∷ xs) y
from_more f x xs y found = record { member = found.member; place = suc found.place; there = found.there; gives = found.gives }

from_by : {X Y : Type 0} (f : X → Option Y) (x : X) (xs : List X) (y : Y) (o : Option Y) → f x ≡ o → ((n : ℕ) → slice_get (filter_map f xs) n ≡ Some y → From f xs y)
    → (n : ℕ) → slice_get (cons_option o (filter_map f xs)) n ≡ Some y → From f (x ∷ xs) y
from_by f x xs y None gives later n is = from_more f x xs y (later n is)
from_by f x xs y (Some z) gives later zero is = record { member = x; place = zero; there = refl; gives = gives ∙ (let same : Some z ≡ Some y = is in same) }
from_by f x xs y (Some z) gives later (suc n) is = from_more f x xs y (later n is)

pub from_member : {X Y : Type 0} (f : X → Option Y) (xs : List X) (n : ℕ) (y : Y) → slice_get (filter_map f xs) n ≡ Some y → From f xs y
from_member f [] n y is = absurd (cc)
from_member f (x ∷ xs) n y is = from_by f x xs y (f x) refl (λ m found. from_member f xs m y found) n is

pub mapped_member : {X Y : Type 0} (f : X → Y) (xs : List X) (n : ℕ) (y : Y) → slice_get (map f xs) n ≡ Some y → (x : X) × (slice_get xs n ≡ Some x) × (f x ≡ y)
mapped_member f [] n y is = absurd (cc)
mapped_member f (x ∷ xs) zero y is = (x, refl, (let same : f x ≡ y = cc in same))
mapped_member f (x ∷ xs) (suc n) y is = mapped_member f xs n y is

-- units that so many units reach
by_if : (process : ℕ) (ranks : List Rank) (unit : ℕ) (rank : Rank) (place : ℕ) (b : Bool) → slice_get ranks place ≡ Some rank → (b ≡ true → calls process rank ≡ true)
    → (if b then Some rank.unit else None) ≡ Some unit → IsCalled process ranks unit
by_if process ranks unit rank place true there so is =
    record { rank = rank; place = place; there = there; its = (let same : rank.unit ≡ unit = cc in same); calls_it = so refl }
by_if process ranks unit rank place false there so is = absurd (cc)

at_called : (process n : ℕ) (ranks : List Rank) (k unit : ℕ) → slice_get (called_at process n ranks) k ≡ Some unit → IsCalled process ranks unit
at_called process n ranks k unit is =
    let found = from_member (called_if process n) ranks k unit is in
    by_if process ranks unit found.member found.place ((found.member.callers == n) && calls process found.member) found.there
    (λ both. (and_parts (found.member.callers == n) (calls process found.member) both).1) found.gives

pub from_called : (process n : ℕ) (ranks : List Rank) (k unit : ℕ) → slice_get (called_from process n ranks) k ≡ Some unit → IsCalled process ranks unit
unfolding called_from
from_called process zero ranks k unit is = absurd (cc)
from_called process (suc n) ranks k unit is = by (in_either (called_at process (suc n) ranks) (called_from process n ranks) k unit is) (λ m found. from_called process n ranks m unit found) where
  by : ((m : ℕ) × (slice_get (called_at process (suc n) ranks) m ≡ Some unit)) ⊎ ((m : ℕ) × (slice_get (called_from process n ranks) m ≡ Some unit))
      → ((m : ℕ) → slice_get (called_from process n ranks) m ≡ Some unit → IsCalled process ranks unit) → IsCalled process ranks unit
  by (inl found) later = at_called process (suc n) ranks found.0 unit found.1
  by (inr found) later = later found.0 found.1

-- a process that calls a unit reaches it, and the unit is one of the set's
pub record Reaches (ps : List Phrase) (process unit : ℕ) : Type 0 where
  pub place : ℕ
  pub there : slice_get (unit_numbers ps) place ≡ Some unit
  pub reaches : is_among (processes_reaching ps unit) process ≡ true

pub called_reaches : (ps : List Phrase) (process unit : ℕ) → IsCalled process (ranks_of ps) unit → Reaches ps process unit
called_reaches ps process unit one =
    let found = mapped_member (ranked ps) (unit_numbers ps) one.place one.rank one.there in
    let its : found.0 ≡ unit = ap (λ (r : Rank). r.unit) found.2 ∙ one.its in
    record {
      place = one.place;
      there = found.1 ∙ ap Some its;
      reaches = subst (λ q. is_among (processes_reaching ps q) process ≡ true) its
          (ap (λ (r : Rank). is_among r.processes process) found.2 ∙ (and_parts (not (one.rank.unit == process)) (is_among one.rank.processes process) one.calls_it).1);
    }
