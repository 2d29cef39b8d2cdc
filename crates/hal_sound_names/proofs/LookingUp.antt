-- Phrases that are added in a unit: which marks they are, and which names they look up.
use Rattle.std.proofs.Common.{◌≡◌, ◌≤◌, ℕ, suc, ◌==◌, Bool, true, false, ◌&&◌, List, [], ◌∷◌, ◌++◌, length, Option, Some, None, refl, sym, ap, ◌∙◌, arith, le_refl, append_assoc, append-nil, length-append}
use Rattle.std.specs.Prelude.{flat_map, slice_get, unwrap_or, if◌then◌else◌}
use Rattle.std.proofs.lemmas.Bool.{eq-eqb}
use Rattle.std.proofs.lemmas.List.Elements.{filter_map-append}
use Rattle.hal_phrases.specs.declared.around.Around.{Around}
use Rattle.hal_phrases.specs.Phrases.{Node, Phrase, phrase, add, gathered_each}
use Rattle.hal_scope.specs.declared.used.Use.{Use}
use Rattle.hal_scope.specs.Sorts.{used}
use Rattle.hal_meaning.specs.Bodies.{is_mark, is_unit, marks_of}
use Rattle.hal_meaning.specs.Places.{unit_numbers}
use Rattle.hal_sound_names.specs.LookedUp.{Looked, unit_looked, phrase_looked, group_block}

-- phrases are added in a unit, before which the next mark is this one and behind which that one, and which look up these names, where the unit's
-- marks are those
pub record Adds (unit m n : ℕ) (names : List ℕ → List Looked) (d e : List Phrase) : Type 0 where
  pub more : List ℕ
  pub marks : marks_of e unit ≡ marks_of d unit ++ more
  pub counts : length (marks_of d unit) ≡ m → length (marks_of e unit) ≡ n
  pub looks : (all rest : List ℕ) → all ≡ marks_of e unit ++ rest → length (marks_of d unit) ≡ m → unit_looked unit e ≡ unit_looked unit d ++ names all

-- phrases are added, none of them in the unit
pub record Leaves (unit : ℕ) (d e : List Phrase) : Type 0 where
  pub marks : marks_of e unit ≡ marks_of d unit
  pub looks : unit_looked unit e ≡ unit_looked unit d

-- phrases are added in the unit, or none of them is
abbrev pub Either : ℕ → Bool → ℕ → ℕ → (List ℕ → List Looked) → List Phrase → List Phrase → Type 0
Either unit true m n names d e = Adds unit m n names d e
Either unit false m n names d e = Leaves unit d e

pub record Goes (unit : ℕ) (inside : Bool) (m n : ℕ) (names : List ℕ → List Looked) (d e : List Phrase) : Type 0 where
  pub holds : Either unit inside m n names d e
  pub grows : length d ≤ length e
  pub units : unit_numbers e ≡ unit_numbers d

none_by : (unit : ℕ) (inside : Bool) (m : ℕ) (d : List Phrase) → Either unit inside m m (λ all. []) d d
none_by unit true m d = record {
  more = [];
  marks = sym (append-nil (marks_of d unit));
  counts = λ size. size;
  looks = λ all rest same size. sym (append-nil (unit_looked unit d));
}
none_by unit false m d = record { marks = refl; looks = refl }

-- none are added
pub no_step : (unit : ℕ) (inside : Bool) (m : ℕ) (d : List Phrase) → Goes unit inside m m (λ all. []) d d
no_step unit inside m d = record { holds = none_by unit inside m d; grows = le_refl (length d); units = refl }

then_by : (unit : ℕ) (inside : Bool) (m k n : ℕ) (f g : List ℕ → List Looked) (d e h : List Phrase) → Either unit inside m k f d e → Either unit inside k n g e h → Either unit inside m n (λ all. f all ++ g all) d h
then_by unit true m k n f g d e h first second = record {
  more = first.more ++ second.more;
  marks = second.marks ∙ (ap (λ x. x ++ second.more) first.marks ∙ append_assoc (marks_of d unit) first.more second.more);
  counts = λ size. second.counts (first.counts size);
  looks = λ all rest same size.
      second.looks all rest same (first.counts size)
      ∙ (ap (λ x. x ++ g all) (first.looks all (second.more ++ rest) (same ∙ (ap (λ x. x ++ rest) second.marks ∙ append_assoc (marks_of e unit) second.more rest)) size)
      ∙ append_assoc (unit_looked unit d) (f all) (g all));
}
then_by unit false m k n f g d e h first second = record { marks = second.marks ∙ first.marks; looks = second.looks ∙ first.looks }

-- some, and then others
pub then_ : {unit : ℕ} {inside : Bool} {m k n : ℕ} {f g : List ℕ → List Looked} {d e h : List Phrase} → Goes unit inside m k f d e → Goes unit inside k n g e h → Goes unit inside m n (λ all. f all ++ g all) d h
then_ {unit = unit} {inside = inside} {m = m} {k = k} {n = n} {f = f} {g = g} {d = d} {e = e} {h = h} first second = record {
  holds = then_by unit inside m k n f g d e h first.holds second.holds;
  grows = omega (arith, first.grows, second.grows);
  units = second.units ∙ first.units;
}

same_names : (unit : ℕ) (inside : Bool) (m n : ℕ) (f g : List ℕ → List Looked) (d e : List Phrase) → ((all : List ℕ) → f all ≡ g all) → Either unit inside m n f d e → Either unit inside m n g d e
same_names unit true m n f g d e same one = record {
  more = one.more;
  marks = one.marks;
  counts = one.counts;
  looks = λ all rest whole size. one.looks all rest whole size ∙ ap (λ x. unit_looked unit d ++ x) (same all);
}
same_names unit false m n f g d e same one = one

-- others that look up nothing
pub then_none : {unit : ℕ} {inside : Bool} {m k n : ℕ} {f : List ℕ → List Looked} {d e h : List Phrase} → Goes unit inside m k f d e → Goes unit inside k n (λ all. []) e h → Goes unit inside m n f d h
then_none {unit = unit} {inside = inside} {m = m} {k = k} {n = n} {f = f} {d = d} {e = e} {h = h} first second = record {
  holds = same_names unit inside m n (λ all. f all ++ []) f d h (λ all. append-nil (f all)) (then_by unit inside m k n f (λ all. []) d e h first.holds second.holds);
  grows = omega (arith, first.grows, second.grows);
  units = second.units ∙ first.units;
}

-- what a phrase is as a mark
abbrev marked : Bool → ℕ → List ℕ
marked true k = k ∷ []
marked false k = []

-- what it looks up
abbrev pub name_of : Around → Option Use → List Looked
name_of a None = []
name_of a (Some u) = (a.block, u.name) ∷ []

marks_by : (unit : ℕ) (inside : Bool) (a : Around) (k : ℕ) (n : Node) (test : Bool) → (a.home == unit) ≡ inside → is_mark n ≡ test → marks_of (phrase k a n ∷ []) unit ≡ marked (inside && test) k
marks_by unit true a k n true at is = rw (at, is) refl
marks_by unit true a k n false at is = rw (at, is) refl
marks_by unit false a k n true at is = rw (at, is) refl
marks_by unit false a k n false at is = rw (at, is) refl

added_marks : (unit : ℕ) (inside test : Bool) (d : List Phrase) (a : Around) (n : Node) → (a.home == unit) ≡ inside → is_mark n ≡ test → marks_of (add d a n) unit ≡ marks_of d unit ++ marked (inside && test) (length d)
added_marks unit inside test d a n at is =
    filter_map-append (λ (p : Phrase). if is_mark p.node && (p.around.home == unit) then Some p.number else None) d (phrase (length d) a n ∷ [])
    ∙ ap (λ x. marks_of d unit ++ x) (marks_by unit inside a (length d) n test at is)

abbrev only : Bool → List Looked → List Looked
only true xs = xs
only false xs = []

looked_by : (unit : ℕ) (inside : Bool) (a : Around) (k : ℕ) (n : Node) (u : Option Use) → (a.home == unit) ≡ inside → used n ≡ u → unit_looked unit (phrase k a n ∷ []) ≡ only inside (name_of a u)
looked_by unit true a k n None at is = rw (at, is) refl
looked_by unit true a k n (Some u) at is = rw (at, is) refl
looked_by unit false a k n u at is = rw at refl

added_looked : (unit : ℕ) (inside : Bool) (d : List Phrase) (a : Around) (n : Node) → (a.home == unit) ≡ inside → unit_looked unit (add d a n) ≡ unit_looked unit d ++ only inside (name_of a (used n))
added_looked unit inside d a n at =
    filter_map-append (λ (p : Phrase). if p.around.home == unit then phrase_looked p else None) d (phrase (length d) a n ∷ [])
    ∙ ap (λ x. unit_looked unit d ++ x) (looked_by unit inside a (length d) n (used n) at refl)

pub longer : (d : List Phrase) (a : Around) (n : Node) → length d ≤ length (add d a n)
longer d a n = omega (arith, length-append d (phrase (length d) a n ∷ []))

unit_by : (a : Around) (k : ℕ) (n : Node) → is_unit n ≡ false → unit_numbers (phrase k a n ∷ []) ≡ []
unit_by a k n single = rw single refl

-- no unit is added
pub no_unit : (d : List Phrase) (a : Around) (n : Node) → is_unit n ≡ false → unit_numbers (add d a n) ≡ unit_numbers d
no_unit d a n single =
    filter_map-append (λ (p : Phrase). if is_unit p.node then Some p.number else None) d (phrase (length d) a n ∷ [])
    ∙ (ap (λ x. unit_numbers d ++ x) (unit_by a (length d) n single) ∙ append-nil (unit_numbers d))

one_by : (unit : ℕ) (inside : Bool) (m : ℕ) (d : List Phrase) (a : Around) (n : Node) (names : List Looked) → (a.home == unit) ≡ inside → is_mark n ≡ false → name_of a (used n) ≡ names
    → Either unit inside m m (λ all. names) d (add d a n)
one_by unit true m d a n names at plain is = record {
  more = [];
  marks = added_marks unit true false d a n at plain;
  counts = λ size. ap length (added_marks unit true false d a n at plain ∙ append-nil (marks_of d unit)) ∙ size;
  looks = λ all rest same size. added_looked unit true d a n at ∙ ap (λ x. unit_looked unit d ++ x) is;
}
one_by unit false m d a n names at plain is = record {
  marks = added_marks unit false false d a n at plain ∙ append-nil (marks_of d unit);
  looks = added_looked unit false d a n at ∙ append-nil (unit_looked unit d);
}

-- a phrase that is no mark
pub one : (unit m : ℕ) (d : List Phrase) (a : Around) (n : Node) (names : List Looked) → is_mark n ≡ false → is_unit n ≡ false → name_of a (used n) ≡ names → Goes unit (a.home == unit) m m (λ all. names) d (add d a n)
one unit m d a n names plain single is = record { holds = one_by unit (a.home == unit) m d a n names refl plain is; grows = longer d a n; units = no_unit d a n single }

mark_by : (unit : ℕ) (inside : Bool) (m : ℕ) (d : List Phrase) (a : Around) (n : Node) → (a.home == unit) ≡ inside → is_mark n ≡ true → name_of a (used n) ≡ [] → Either unit inside m (suc m) (λ all. []) d (add d a n)
mark_by unit true m d a n at is none = record {
  more = length d ∷ [];
  marks = added_marks unit true true d a n at is;
  counts = λ size. ap length (added_marks unit true true d a n at is) ∙ (length-append (marks_of d unit) (length d ∷ []) ∙ omega (arith, size));
  looks = λ all rest same size. added_looked unit true d a n at ∙ ap (λ x. unit_looked unit d ++ x) none;
}
mark_by unit false m d a n at is none = record {
  marks = added_marks unit false true d a n at is ∙ append-nil (marks_of d unit);
  looks = added_looked unit false d a n at ∙ append-nil (unit_looked unit d);
}

-- a mark
pub mark : (unit m : ℕ) (d : List Phrase) (a : Around) (n : Node) → is_mark n ≡ true → is_unit n ≡ false → name_of a (used n) ≡ [] → Goes unit (a.home == unit) m (suc m) (λ all. []) d (add d a n)
mark unit m d a n is single none = record { holds = mark_by unit (a.home == unit) m d a n refl is none; grows = longer d a n; units = no_unit d a n single }

-- the one behind a list
behind : (xs : List ℕ) (y : ℕ) (ys : List ℕ) → slice_get (xs ++ (y ∷ ys)) (length xs) ≡ Some y
behind [] y ys = refl
behind (x ∷ xs) y ys = behind xs y ys

opening_by : (unit : ℕ) (inside : Bool) (m n : ℕ) (d : List Phrase) (a : Around) (o : Node) (e : List Phrase) (g : List ℕ → ℕ → List Looked) → (a.home == unit) ≡ inside → is_mark o ≡ true → name_of a (used o) ≡ []
    → Either unit inside (suc m) n (λ all. g all (length d)) (add d a o) e → Either unit inside m n (λ all. g all (group_block all a.block true m)) d e
unfolding then_by mark_by
opening_by unit true m n d a o e g at is none inner =
    let outer = mark_by unit true m d a o at is none in
    let whole = then_by unit true m (suc m) n (λ all. []) (λ all. g all (length d)) d (add d a o) e outer inner in
    record {
      more = whole.more;
      marks = whole.marks;
      counts = whole.counts;
      looks = λ all rest same size.
          let found : slice_get all m ≡ Some (length d) =
          ap (λ x. slice_get x m) (same ∙ (ap (λ x. x ++ rest) whole.marks ∙ append_assoc (marks_of d unit) (length d ∷ inner.more) rest))
          ∙ (ap (λ k. slice_get (marks_of d unit ++ (length d ∷ (inner.more ++ rest))) k) (sym size) ∙ behind (marks_of d unit) (length d) (inner.more ++ rest)) in
          whole.looks all rest same size ∙ ap (λ x. unit_looked unit d ++ g all x) (sym (ap (λ x. unwrap_or x a.block) found));
    }
opening_by unit false m n d a o e g at is none inner =
    let outer = mark_by unit false m d a o at is none in record { marks = inner.marks ∙ outer.marks; looks = inner.looks ∙ outer.looks }

-- a mark that opens a block of its own, and what stands in that block
pub opening : (unit m n : ℕ) (d : List Phrase) (a : Around) (o : Node) (e : List Phrase) (g : List ℕ → ℕ → List Looked) → is_mark o ≡ true → is_unit o ≡ false → name_of a (used o) ≡ []
    → Goes unit (a.home == unit) (suc m) n (λ all. g all (length d)) (add d a o) e → Goes unit (a.home == unit) m n (λ all. g all (group_block all a.block true m)) d e
opening unit m n d a o e g is single none inner = record {
  holds = opening_by unit (a.home == unit) m n d a o e g refl is none inner.holds;
  grows = omega (arith, longer d a o, inner.grows);
  units = inner.units ∙ no_unit d a o single;
}

-- what looks up names one after another
pub each : {X : Type 0} (unit : ℕ) (inside : Bool) (m : ℕ) (step : List Phrase → X → List Phrase) (names : X → List Looked) → ((d : List Phrase) (x : X) → Goes unit inside m m (λ all. names x) d (step d x)) → (d : List Phrase) (xs : List X)
    → Goes unit inside m m (λ all. flat_map names xs) d (gathered_each step d xs)
each unit inside m step names steps d [] = no_step unit inside m d
each unit inside m step names steps d (x ∷ xs) = then_ (steps d x) (each unit inside m step names steps (step d x) xs)

pub same_unit : (unit : ℕ) → (unit == unit) ≡ true
same_unit unit = eq-eqb unit unit refl

adds_by : (unit : ℕ) (inside : Bool) (m n : ℕ) (names : List ℕ → List Looked) (d e : List Phrase) → inside ≡ true → Either unit inside m n names d e → Adds unit m n names d e
adds_by unit true m n names d e is one = one
adds_by unit false m n names d e is one = absurd (cc)

-- in the unit
pub adds : {unit : ℕ} {inside : Bool} {m n : ℕ} {names : List ℕ → List Looked} {d e : List Phrase} → inside ≡ true → Goes unit inside m n names d e → Adds unit m n names d e
adds {unit = unit} {inside = inside} {m = m} {n = n} {names = names} {d = d} {e = e} is one = adds_by unit inside m n names d e is one.holds

leaves_by : (unit : ℕ) (inside : Bool) (m n : ℕ) (names : List ℕ → List Looked) (d e : List Phrase) → inside ≡ false → Either unit inside m n names d e → Leaves unit d e
leaves_by unit true m n names d e is one = absurd (cc)
leaves_by unit false m n names d e is one = one

-- out of it
pub leaves : {unit : ℕ} {inside : Bool} {m n : ℕ} {names : List ℕ → List Looked} {d e : List Phrase} → inside ≡ false → Goes unit inside m n names d e → Leaves unit d e
leaves {unit = unit} {inside = inside} {m = m} {n = n} {names = names} {d = d} {e = e} is one = leaves_by unit inside m n names d e is one.holds

pub leaves_none : (unit : ℕ) (d : List Phrase) → Leaves unit d d
leaves_none unit d = record { marks = refl; looks = refl }

pub leaves_then : {unit : ℕ} {d e h : List Phrase} → Leaves unit d e → Leaves unit e h → Leaves unit d h
leaves_then first second = record { marks = second.marks ∙ first.marks; looks = second.looks ∙ first.looks }

-- what leaves the unit adds nothing in it
pub adds_nothing : (unit m : ℕ) (d e : List Phrase) → Leaves unit d e → Adds unit m m (λ all. []) d e
adds_nothing unit m d e one = record {
  more = [];
  marks = one.marks ∙ sym (append-nil (marks_of d unit));
  counts = λ size. ap length one.marks ∙ size;
  looks = λ all rest same size. one.looks ∙ sym (append-nil (unit_looked unit d));
}

pub adds_then : {unit m k n : ℕ} {f g : List ℕ → List Looked} {d e h : List Phrase} → Adds unit m k f d e → Adds unit k n g e h → Adds unit m n (λ all. f all ++ g all) d h
adds_then {unit = unit} {m = m} {k = k} {n = n} {f = f} {g = g} {d = d} {e = e} {h = h} first second = then_by unit true m k n f g d e h first second

quiet_by : (unit : ℕ) (inside : Bool) (d : List Phrase) (a : Around) (n : Node) → (a.home == unit) ≡ inside → is_mark n ≡ false → name_of a (used n) ≡ [] → Leaves unit d (add d a n)
quiet_by unit true d a n at plain none = record {
  marks = added_marks unit true false d a n at plain ∙ append-nil (marks_of d unit);
  looks = added_looked unit true d a n at ∙ (ap (λ x. unit_looked unit d ++ x) none ∙ append-nil (unit_looked unit d));
}
quiet_by unit false d a n at plain none = one_by unit false 0 d a n [] at plain none

-- a phrase that looks up nothing and is no mark, wherever it stands
pub quiet : (unit : ℕ) (d : List Phrase) (a : Around) (n : Node) → is_mark n ≡ false → name_of a (used n) ≡ [] → Leaves unit d (add d a n)
quiet unit d a n plain none = quiet_by unit (a.home == unit) d a n refl plain none
