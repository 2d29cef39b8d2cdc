-- Where the own places of a declaration lie among those of a process that reaches its unit.
use Rattle.std.specs.Prelude.{◌≡◌, ◌<◌, ◌⊎◌, ℕ, zero, suc, ◌==◌, Bool, true, false, ◌||◌, List, [], ◌∷◌, ◌++◌, flat_map, Some, slice_get, if◌then◌else◌}
use Rattle.std.proofs.Common.{refl, sym, ap, subst, ◌∙◌, inl, inr, arith, append_assoc}
use Rattle.std.proofs.lemmas.Bool.{eqb-true}
use Rattle.std.proofs.lemmas.Bool.Decides.{eqb_tells}
use Rattle.hal_grammar.specs.Declarations.{Automatic, Attribute, Declared}
use Rattle.hal_phrases.specs.Phrases.{Node, Phrase, OfItem, OfGroup, OfTemporaryGroup}
use Rattle.hal_names.specs.Laws.{IsCounted}
use Rattle.hal_kinds.specs.Attributes.{has_mark}
use Rattle.hal_constants.specs.Known.{Known}
use Rattle.hal_values.specs.declared.value.Kind.{Kind}
use Rattle.hal_values.specs.declared.value.Value.{Value}
use Rattle.hal_meaning.specs.Bodies.{processes_of, processes_reaching}
use Rattle.hal_meaning.specs.Elements.{kinds_of, shape_of}
use Rattle.hal_meaning.specs.InitialValues.{first_values}
use Rattle.hal_meaning.specs.Places.{Place, Storing, InCells, InPlaces, ByReference, Unstored, storing, places_from, hidden, places_of_item, is_for_or_case, places_at, places_in, unit_numbers, are_several, is_sole, common_places, sole_places, places_of}
use Rattle.hal_reach.specs.Places.{is_among}
use Rattle.hal_fit_calls.specs.Each.{Each}
use Rattle.hal_fit_layout.specs.Owned.{IsOthers, LiesIn}
use Rattle.hal_fit_calls.proofs.Each.{each_append, each_one, each_weaker, each_flat, each_if}

-- the places of a phrase are its own
abbrev pub IsOwned : ℕ → Place → Type 0
IsOwned k one = one.owner ≡ k

from_owned : (owner : ℕ) (automatic : Bool) (ks : List Kind) (vs : List Value) → Each (IsOwned owner) (places_from owner automatic ks vs)
from_owned owner automatic [] vs = tt
from_owned owner automatic (k ∷ ks) [] = tt
from_owned owner automatic (k ∷ ks) (v ∷ vs) = (refl, from_owned owner automatic ks vs)

hidden_owned : (owner n : ℕ) → Each (IsOwned owner) (hidden owner n)
hidden_owned owner zero = tt
hidden_owned owner (suc n) = (refl, hidden_owned owner n)

-- what stands in a list, with what is before it and behind
pub record Stands {X : Type 0} (xs : List X) (n : ℕ) (x : X) : Type 0 where
  pub before : List X
  pub behind : List X
  pub is : xs ≡ before ++ (x ∷ behind)
  pub early : (m : ℕ) (y : X) → slice_get before m ≡ Some y → (slice_get xs m ≡ Some y) × (m < n)

pub stands_there : {X : Type 0} (xs : List X) (n : ℕ) (x : X) → slice_get xs n ≡ Some x → Stands xs n x
stands_there [] n x is = absurd (cc)
stands_there (y ∷ xs) zero x is = record { before = []; behind = xs; is = ap (λ z. z ∷ xs) (let same : y ≡ x = cc in same); early = λ m z there. absurd (cc) }
stands_there {X} (y ∷ xs) (suc n) x is =
    let later = stands_there xs n x is in
    record { before = y ∷ later.before; behind = later.behind; is = ap (λ l. y ∷ l) later.is; early = early_by later.before later.early }
  where
    early_by : (before : List X) → ((m : ℕ) (z : X) → slice_get before m ≡ Some z → (slice_get xs m ≡ Some z) × (m < n)) → (m : ℕ) (z : X) → slice_get (y ∷ before) m ≡ Some z → (slice_get (y ∷ xs) m ≡ Some z) × (m < suc n)
    early_by before early zero z there = (there, omega arith)
    early_by before early (suc m) z there = let last = early m z there in let low = last.1 in (last.0, omega (arith, low))

-- members by their numbers
pub each_numbered : {X : Type 0} (P : X → Type 0) (xs : List X) → ((m : ℕ) (x : X) → slice_get xs m ≡ Some x → P x) → Each P xs
each_numbered P [] all = tt
each_numbered P (x ∷ xs) all = (all zero x refl, each_numbered P xs (λ m y there. all (suc m) y there))

flat_append : {X Y : Type 0} (f : X → List Y) (xs ys : List X) → flat_map f (xs ++ ys) ≡ flat_map f xs ++ flat_map f ys
flat_append f [] ys = refl
flat_append f (x ∷ xs) ys = ap (λ l. f x ++ l) (flat_append f xs ys) ∙ sym (append_assoc (f x) (flat_map f xs) (flat_map f ys))

flat_around : {X Y : Type 0} (f : X → List Y) (all before behind : List X) (x : X) → all ≡ before ++ (x ∷ behind) → flat_map f all ≡ flat_map f before ++ (f x ++ flat_map f behind)
flat_around f all before behind x is = ap (flat_map f) is ∙ flat_append f before (x ∷ behind)

-- what lies within what lies within a list
pub lies_within : (all middle : List Place) (k : ℕ) (owned : List Place) (outer : LiesIn all k middle) (inner : LiesIn middle k owned) → LiesIn all k owned
lies_within all middle k owned outer inner =
    record {
      before = outer.before ++ inner.before;
      behind = inner.behind ++ outer.behind;
      is = outer.is
          ∙ (ap (λ l. outer.before ++ (l ++ outer.behind)) inner.is
          ∙ (ap (λ l. outer.before ++ l) (append_assoc inner.before (owned ++ inner.behind) outer.behind ∙ ap (λ l. inner.before ++ l) (append_assoc owned inner.behind outer.behind))
          ∙ sym (append_assoc outer.before inner.before (owned ++ (inner.behind ++ outer.behind)))));
      apart = each_append (IsOthers k) outer.before inner.before outer.apart inner.apart;
    }

-- more places behind them, and before them
behind_more : (xs ys : List Place) (k : ℕ) (owned : List Place) → LiesIn xs k owned → LiesIn (xs ++ ys) k owned
behind_more xs ys k owned lies =
    record {
      before = lies.before;
      behind = lies.behind ++ ys;
      is = ap (λ l. l ++ ys) lies.is ∙ (append_assoc lies.before (owned ++ lies.behind) ys ∙ ap (λ l. lies.before ++ l) (append_assoc owned lies.behind ys));
      apart = lies.apart;
    }

before_more : (xs ys : List Place) (k : ℕ) (owned : List Place) → Each (IsOthers k) xs → LiesIn ys k owned → LiesIn (xs ++ ys) k owned
before_more xs ys k owned others lies =
    record {
      before = xs ++ lies.before;
      behind = lies.behind;
      is = ap (λ l. xs ++ l) lies.is ∙ sym (append_assoc xs lies.before (owned ++ lies.behind));
      apart = each_append (IsOthers k) xs lies.before others lies.apart;
    }

not_both : (b : Bool) → b ≡ true → b ≡ false → ⊥
not_both true is isnt = absurd (cc)
not_both false is isnt = absurd (cc)

-- a process that reaches a block which not several do is the one that does
of_first : (b : Bool) → (b || false) ≡ true → b ≡ true
of_first true is = refl
of_first false is = absurd (cc)

same_or : (a b : ℕ) → ((a == b) || false) ≡ true → (b == a) ≡ true
same_or a b is = by (eqb_tells b a) where
  by : (((b == a) ≡ true) × (b ≡ a)) ⊎ (((b == a) ≡ false) × (b ≡ a → ⊥)) → (b == a) ≡ true
  by (inl told) = told.0
  by (inr told) = absurd (told.1 (sym (eqb-true a b (of_first (a == b) is))))

sole_one : (all : List ℕ) (process : ℕ) (ns : List ℕ) → are_several ns ≡ false → is_among ns process ≡ true → is_sole all process ns ≡ true
sole_one all process [] sole among = absurd (cc)
sole_one [] process (one ∷ []) sole among = same_or one process among
sole_one (first ∷ others) process (one ∷ []) sole among = same_or one process among
sole_one all process (one ∷ other ∷ more) sole among = absurd (cc)

-- and a block with a sole process isn't one of several
not_several : (all : List ℕ) (process : ℕ) (ns : List ℕ) → is_sole all process ns ≡ true → are_several ns ≡ false
not_several all process [] sole = refl
not_several all process (one ∷ []) sole = refl
not_several all process (one ∷ other ∷ more) sole = absurd (cc)

unequal : (a b : ℕ) → (a == b) ≡ false → a ≡ b → ⊥
unequal a b not same = by (eqb_tells a b) where
  by : (((a == b) ≡ true) × (a ≡ b)) ⊎ (((a == b) ≡ false) × (a ≡ b → ⊥)) → ⊥
  by (inl told) = let yes_so = told.0 in absurd (cc)
  by (inr told) = told.1 same

taken : {X : Type 0} (b : Bool) (xs : List X) → b ≡ true → (if b then xs else []) ≡ xs
taken true xs is = refl
taken false xs is = absurd (cc)

module _ (ps : List Phrase) (vs : Known) where
  item_owned : (p : Phrase) (common : List Attribute) (item : Declared) (stored : Storing) → Each (IsOwned p.number) (places_of_item ps vs p common item stored)
  item_owned p common item InPlaces =
      let ks = kinds_of (shape_of ps vs p common item) in from_owned p.number (has_mark Automatic (item.attributes ++ common)) ks (first_values ps vs p (item.attributes ++ common) ks)
  item_owned p common item ByReference = (refl, tt)
  item_owned p common item (InCells group) = tt
  item_owned p common item Unstored = tt

  at_owned : (p : Phrase) (node : Node) → Each (IsOwned p.number) (places_at ps vs p node)
  at_owned p (OfItem common item) = item_owned p common item (storing ps vs p (OfItem common item))
  at_owned p (OfTemporaryGroup labels variable) = hidden_owned p.number 5
  at_owned p (OfGroup labels looping) = each_if (IsOwned p.number) (is_for_or_case ps p.number) (hidden p.number 4) (hidden_owned p.number 4)
  at_owned p other = tt

  -- those that a phrase has in a unit
  abbrev in_unit : ℕ → Phrase → List Place
  in_unit u q = if q.around.home == u then places_at ps vs q q.node else []

  module _ (counted : IsCounted ps) (u k : ℕ) (p : Phrase) (there : slice_get ps k ≡ Some p) (home : p.around.home ≡ u) where
    others_of : (q : Phrase) → (q.number ≡ k → ⊥) → (places : List Place) → Each (IsOwned q.number) places → Each (IsOthers k) places
    others_of q other [] owned = tt
    others_of q other (one ∷ places) owned = ((λ same. other (sym owned.0 ∙ same)), others_of q other places owned.1)

    unit_others : (q : ℕ) → (q ≡ u → ⊥) → Each (IsOthers k) (places_in ps vs q)
    unit_others q other =
        each_flat (λ (r : Phrase). (r.around.home == q) ≡ true → r.number ≡ k → ⊥) (IsOthers k) (in_unit q) ps
        (each_numbered (λ (r : Phrase). (r.around.home == q) ≡ true → r.number ≡ k → ⊥) ps
        (λ m r found at same.
        let number : m ≡ k = sym (counted m r found) ∙ same in
        let one : r ≡ p = let has = subst (λ n. slice_get ps n ≡ Some r) number found in cc in
        other (sym (eqb-true r.around.home q at) ∙ (ap (λ (x : Phrase). x.around.home) one ∙ home))))
        (λ r apart. by r (r.around.home == q) refl apart)
      where
        by : (r : Phrase) (b : Bool) → (r.around.home == q) ≡ b → ((r.around.home == q) ≡ true → r.number ≡ k → ⊥) → Each (IsOthers k) (if b then places_at ps vs r r.node else [])
        by r true is apart = others_of r (apart is) (places_at ps vs r r.node) (at_owned r r.node)
        by r false is apart = tt

    -- in its unit
    lies_in_unit : LiesIn (places_in ps vs u) k (places_at ps vs p p.node)
    lies_in_unit =
        let stands = stands_there ps k p there in
        record {
          before = flat_map (in_unit u) stands.before;
          behind = flat_map (in_unit u) stands.behind;
          is = flat_around (in_unit u) ps stands.before stands.behind p stands.is
              ∙ ap (λ l. flat_map (in_unit u) stands.before ++ (l ++ flat_map (in_unit u) stands.behind)) (taken (p.around.home == u) (places_at ps vs p p.node) at_home);
          apart = each_flat (λ (r : Phrase). r.number ≡ k → ⊥) (IsOthers k) (in_unit u) stands.before
              (each_numbered (λ (r : Phrase). r.number ≡ k → ⊥) stands.before
              (λ m r found same.
              let early = stands.early m r found in
              let low = early.1 in
              let number = counted m r early.0 in
              absurd (omega (arith, low, number, same))))
              (λ r other. each_if (IsOthers k) (r.around.home == u) (places_at ps vs r r.node) (others_of r other (places_at ps vs r r.node) (at_owned r r.node)));
        }
      where
        at_home : (p.around.home == u) ≡ true
        at_home = by (eqb_tells p.around.home u) where
          by : (((p.around.home == u) ≡ true) × (p.around.home ≡ u)) ⊎ (((p.around.home == u) ≡ false) × (p.around.home ≡ u → ⊥)) → (p.around.home == u) ≡ true
          by (inl told) = told.0
          by (inr told) = absurd (told.1 home)

    -- the first of these numbers that is the unit's
    record FirstOf (ns : List ℕ) : Type 0 where
      before : List ℕ
      behind : List ℕ
      is : ns ≡ before ++ (u ∷ behind)
      others : Each (λ q. q ≡ u → ⊥) before

    -- whether the first one is, where it is known of the others
    first_by : (n : ℕ) (ns : List ℕ) (b : Bool) → (n == u) ≡ b → ((m : ℕ) → slice_get ns m ≡ Some u → FirstOf ns) → (m : ℕ) → slice_get (n ∷ ns) m ≡ Some u → FirstOf (n ∷ ns)
    first_by n ns true same later m is = record { before = []; behind = ns; is = ap (λ x. x ∷ ns) (eqb-true n u same); others = tt }
    first_by n ns false same later zero is = absurd (unequal n u same (let one : n ≡ u = cc in one))
    first_by n ns false same later (suc m) is =
        let rest = later m is in
        record { before = n ∷ rest.before; behind = rest.behind; is = ap (λ l. n ∷ l) rest.is; others = (unequal n u same, rest.others) }

    first_of : (ns : List ℕ) (m : ℕ) → slice_get ns m ≡ Some u → FirstOf ns
    first_of [] m is = absurd (cc)
    first_of (n ∷ ns) m is = first_by n ns (n == u) refl (first_of ns) m is

    -- the places of some units
    abbrev of_units : (ℕ → Bool) → ℕ → List Place
    of_units test q = if test q then places_in ps vs q else []

    units_others : (test : ℕ → Bool) (ns : List ℕ) → Each (λ q. test q ≡ true → q ≡ u → ⊥) ns → Each (IsOthers k) (flat_map (of_units test) ns)
    units_others test ns each = each_flat (λ q. test q ≡ true → q ≡ u → ⊥) (IsOthers k) (of_units test) ns each (λ q other. by q (test q) refl other)
      where
        by : (q : ℕ) (b : Bool) → test q ≡ b → (test q ≡ true → q ≡ u → ⊥) → Each (IsOthers k) (if b then places_in ps vs q else [])
        by q true is other = unit_others q (other is)
        by q false is other = tt

    lies_among : (test : ℕ → Bool) (ns : List ℕ) (m : ℕ) → slice_get ns m ≡ Some u → test u ≡ true → LiesIn (flat_map (of_units test) ns) k (places_in ps vs u)
    lies_among test ns m is so =
        let first = first_of ns m is in
        record {
          before = flat_map (of_units test) first.before;
          behind = flat_map (of_units test) first.behind;
          is = flat_around (of_units test) ns first.before first.behind u first.is
              ∙ ap (λ l. flat_map (of_units test) first.before ++ (l ++ flat_map (of_units test) first.behind)) (taken (test u) (places_in ps vs u) so);
          apart = units_others test first.before (each_weaker (λ q. q ≡ u → ⊥) (λ q. test q ≡ true → q ≡ u → ⊥) first.before first.others (λ q other so same. other same));
        }

    -- in the process that alone has the unit's places
    module _ (process m : ℕ) (named : slice_get (unit_numbers ps) m ≡ Some u) (sole : is_sole (processes_of ps) process (processes_reaching ps u) ≡ true) where
      among_sole : LiesIn (places_of ps vs process) k (places_in ps vs u)
      among_sole =
          before_more (common_places ps vs) (sole_places ps vs process) k (places_in ps vs u)
          (units_others (λ q. are_several (processes_reaching ps q)) (unit_numbers ps)
          (each_one (λ q. are_several (processes_reaching ps q) ≡ true → q ≡ u → ⊥) (unit_numbers ps)
          (λ q several same. let other = subst (λ x. are_several (processes_reaching ps x) ≡ true) same several in not_both (are_several (processes_reaching ps u)) other (not_several (processes_of ps) process (processes_reaching ps u) sole))))
          (lies_among (λ q. is_sole (processes_of ps) process (processes_reaching ps q)) (unit_numbers ps) m named sole)

      pub lies_where_sole : LiesIn (places_of ps vs process) k (places_at ps vs p p.node)
      lies_where_sole = lies_within (places_of ps vs process) (places_in ps vs u) k (places_at ps vs p p.node) among_sole lies_in_unit

    -- in a process that reaches it
    module _ (process m : ℕ) (named : slice_get (unit_numbers ps) m ≡ Some u) (reaches : is_among (processes_reaching ps u) process ≡ true) where
      in_process : (several : Bool) → are_several (processes_reaching ps u) ≡ several → LiesIn (places_of ps vs process) k (places_in ps vs u)
      in_process true several =
          behind_more (common_places ps vs) (sole_places ps vs process) k (places_in ps vs u) (lies_among (λ q. are_several (processes_reaching ps q)) (unit_numbers ps) m named several)
      in_process false sole = among_sole process m named (sole_one (processes_of ps) process (processes_reaching ps u) sole reaches)

      pub lies_in_process : LiesIn (places_of ps vs process) k (places_at ps vs p p.node)
      lies_in_process =
          lies_within (places_of ps vs process) (places_in ps vs u) k (places_at ps vs p p.node) (in_process (are_several (processes_reaching ps u)) refl) lies_in_unit
