-- What a phrase of a set that breaks no rule gives: it declares its name first in its block.
use Rattle.std.proofs.Common.{◌≡◌, ◌∙◌, inl, inr, ℕ, zero, suc, Bool, true, false, not, ◌&&◌, List, [], ◌∷◌, Option, Some, None, option_and_then, refl, sym, ap, subst, eqb-true}
use Rattle.std.proofs.lemmas.Bool.{or_parts, false≢true}
use Rattle.std.specs.Option.{option_or}
use Rattle.hal_base.specs.declared.refusal.Place.{Place}
use Rattle.hal_grammar.specs.Leaves.{Naming}
use Rattle.hal_grammar.specs.Units.{File}
use Rattle.hal_phrases.specs.Phrases.{Node, Phrase}
use Rattle.hal_phrases.specs.GatheredUnits.{phrases_of}
use Rattle.hal_names.specs.declared.key.Key.{Key}
use Rattle.hal_names.specs.declared.key.Space.TheVariants as space
use Rattle.hal_names.specs.Keys.{key, declared_at, declared_by, own}
use Rattle.hal_names.specs.Laws.{IsAt}
use Rattle.hal_names.proofs.CountedFiles.{phrases_counted}
use Rattle.hal_names.proofs.Places.{are_counted, own_none}
use Rattle.hal_scope.specs.Rules.{Row, IsAmong, IsSound, rows, ruled}
use Rattle.hal_scope.specs.Repeated as repeated
use Rattle.hal_scope.specs.Repeated.{given, is_given_before, is_first, is_of_block, is_included_before, included_twice, twice}
use Rattle.hal_scope.specs.Uses.{unless}
use Rattle.hal_templates.specs.Giving.{IsOwn}

-- a row of a table finds nothing
pub row_quiet : (table : List Row) (ps : List Phrase) → IsSound table ps → (row : Row) → IsAmong row table → (p : Phrase) → IsAmong p ps → row ps p ≡ None
row_quiet table ps sound row listed p there = by (row ps p) refl
  where
    by : (o : Option (ℕ × Place)) → row ps p ≡ o → o ≡ None
    by None is = refl
    by (Some (rule, place)) is = absurd (sound rule place (record { row = row; listed = listed; phrase = p; there = there; broken = is }))

pub rule_quiet : (rule : ℕ) (o : Option Place) → ruled rule o ≡ None → o ≡ None
rule_quiet rule None is = refl
rule_quiet rule (Some place) is = absurd (cc)

pub or_quiet : (o t : Option Place) → option_or o t ≡ None → (o ≡ None) × (t ≡ None)
or_quiet None t is = (refl, is)
or_quiet (Some place) t is = absurd (cc)

pub right : (b : Bool) (place : Place) → unless b place ≡ None → b ≡ true
right true place is = refl
right false place is = absurd (cc)

-- what may be there, where it is
pub at_some : {X Y : Type 0} (f : X → Option Y) (o : Option X) (x : X) (t : Option Y) → o ≡ Some x → option_and_then f o ≡ t → f x ≡ t
at_some f o x t some is = sym (ap (option_and_then f) some) ∙ is

pub not_true : (b : Bool) → not b ≡ true → b ≡ false
not_true true is = absurd (false≢true is)
not_true false is = refl

not_false : (b : Bool) → not b ≡ false → b ≡ true
not_false true is = refl
not_false false is = absurd (false≢true (sym is))

-- a phrase among others has a place
among_at : (ps : List Phrase) (p : Phrase) → IsAmong p ps → (k : ℕ) × IsAt ps k p
among_at [] p there = absurd there
among_at (x ∷ ps) p (inl same) = (0, ap Some (sym same))
among_at (x ∷ ps) p (inr later) = let found = among_at ps p later in (suc found.0, found.1)

pub at_among : (ps : List Phrase) (k : ℕ) (p : Phrase) → IsAt ps k p → IsAmong p ps
at_among [] k p at = absurd (cc)
at_among (x ∷ ps) zero p at = let same : Some x ≡ Some p = at in let one : p ≡ x = cc in inl one
at_among (x ∷ ps) (suc k) p at = inr (at_among ps k p at)

-- its number
pub placed : (files : List File) (p : Phrase) → IsAmong p (phrases_of files) → IsAt (phrases_of files) p.number p
placed files p there =
    let found = among_at (phrases_of files) p there in
    subst (λ k. IsAt (phrases_of files) k p) (sym (are_counted (phrases_of files) (phrases_counted files) found.0 p found.1)) found.1

-- the first phrase that declares a key has this number, or there is none
own_number : (k : ℕ) (o : Option ℕ) → repeated.is_number k o ≡ true → (o ≡ None → ⊥) → o ≡ Some k
own_number k None is some = absurd (some refl)
own_number k (Some n) is some = ap Some (eqb-true n k is)

-- whether a phrase with this number is the first one that declares what it may declare
abbrev is_first_of : List Phrase → ℕ → Option Key → Bool
is_first_of ps k o = elim o [ None ↦ true | Some q ↦ repeated.is_number k (own ps q) ]

-- what a phrase declares, where no rule of names is broken
module _ (files : List File) (named : IsSound rows (phrases_of files)) where
  names_quiet : (p : Phrase) → IsAmong p (phrases_of files) → (twice (phrases_of files) p ≡ None) × (included_twice (phrases_of files) p p.node ≡ None)
  names_quiet p there =
      or_quiet (twice (phrases_of files) p) (included_twice (phrases_of files) p p.node)
      (rule_quiet 602 _ (row_quiet rows (phrases_of files) named (λ ps q. ruled 602 (repeated.repeated ps q)) (inr (inl refl)) p there))

  pub include_quiet : (p : Phrase) → IsAmong p (phrases_of files) → included_twice (phrases_of files) p p.node ≡ None
  include_quiet p there = (names_quiet p there).1

  pub declares_first : (p : Phrase) (n : Naming) (q : Key) → IsAmong p (phrases_of files) → given p.node ≡ Some n → declared_by p ≡ Some q → own (phrases_of files) q ≡ Some p.number
  unfolding twice
  declares_first p n q there gives declares =
      let ps = phrases_of files in
      let alone : unless (not (is_given_before ps p n.name)) n.place ≡ None = at_some (λ (m : Naming). unless (not (is_given_before ps p m.name)) m.place) (given p.node) n None gives (names_quiet p there).0 in
      let before : is_given_before ps p n.name ≡ false = not_true (is_given_before ps p n.name) (right (not (is_given_before ps p n.name)) n.place alone) in
      let first : is_first ps p ≡ true = not_false (is_first ps p) (or_parts (not (is_first ps p)) (is_of_block p.node && is_included_before ps p n.name) before).0 in
      let number : repeated.is_number p.number (own ps q) ≡ true = sym (ap (is_first_of ps p.number) declares) ∙ first in
      own_number p.number (own ps q) number (λ none. own_none ps q none p.number p (placed files p there) declares)

  -- the same of a phrase of this node, whose name belongs to this block
  pub is_own : (p : Phrase) (n : Node) (m : Naming) (home : ℕ) → IsAmong p (phrases_of files) → p.node ≡ n → p.around.home ≡ home → given n ≡ Some m
      → declared_at p.number p.around n ≡ Some (key space.Declared p.around.home m.name) → IsOwn (phrases_of files) home m.name p
  is_own p n m home there node at gives declares = record {
    found = declares_first p m (key space.Declared home m.name) there (ap given node ∙ gives) (ap (declared_at p.number p.around) node ∙ declares ∙ ap (λ h. Some (key space.Declared h m.name)) at);
    there = placed files p there;
  }
