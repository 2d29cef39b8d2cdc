-- Where the parts of structures stand: each behind what has it as a part, and those of a structure together.
use Rattle.std.proofs.Common.{◌≡◌, ◌≤◌, ◌<◌, ◌⊎◌, ℕ, suc, Bool, true, false, not, List, [], ◌∷◌, ◌++◌, length, Option, Some, None, slice_get, refl, sym, ap, ◌∙◌, subst, inl, inr, arith, length-append, append_assoc, append-nil}
use Rattle.std.specs.Prelude.{nat_lt, nat_le, if◌then◌else◌}
use Rattle.std.proofs.lemmas.Bool.{ltb-true, leb-true}
use Rattle.hal_grammar.specs.Leaves.{Naming}
use Rattle.hal_grammar.specs.Declarations.{Part}
use Rattle.hal_phrases.specs.declared.around.Around.{Around}
use Rattle.hal_phrases.specs.Surroundings.{under}
use Rattle.hal_phrases.specs.Phrases.{Node, Phrase, phrase, add, gathered_each, OfStructure, OfPart}
use Rattle.hal_phrases.specs.GatheredExpressions.{below}
use Rattle.hal_phrases.specs.GatheredDeclarations.{OpenPart, still_open, innermost, is_bottom, gathered_attribute, gathered_part, gathered_parts}
use Rattle.hal_scope.specs.Rules.{IsAmong}
use Rattle.hal_fit_calls.specs.Each.{Each}
use Rattle.hal_fit_calls.proofs.Each.{each_append, each_weaker}
use Rattle.hal_fit_rules.specs.Begun.{AreFirst}
use Rattle.hal_fit_rules.proofs.Beginning as begun
use Rattle.hal_fit_rules.proofs.BegunDeclarations.{attributes_first, parts_first}
use Rattle.hal_fit_parts.proofs.Plain.{is_plain, IsPlain, Adds}
use Rattle.hal_fit_parts.proofs.PlainDeclarations.{attributes_step}
use Rattle.hal_fit_parts.proofs.Opening.{still_append, each_still, innermost_so}

-- whether a phrase is a part
abbrev pub is_part : Node → Bool
is_part (OfPart bottom part) = true
is_part other = false

-- whether a phrase may have parts: a structure, or a part that isn't at the bottom
abbrev pub has_parts : Node → Bool
has_parts (OfStructure name parts) = true
has_parts (OfPart bottom part) = not bottom
has_parts other = false

abbrev pub bears : List Phrase → ℕ → Bool
bears ps n = elim (slice_get ps n) [ None ↦ false | Some r ↦ has_parts r.node ]

-- what has a part stands before it, this far behind at least, and may have parts
pub record IsBehind (ps : List Phrase) (low : ℕ) (q : Phrase) : Type 0 where
  pub from : low ≤ q.around.parent
  pub before : q.around.parent < q.number
  pub borne : bears ps q.around.parent ≡ true

abbrev pub Belongs : List Phrase → ℕ → Phrase → Type 0
Belongs ps low q = is_part q.node ≡ true → IsBehind ps low q

-- the phrases up to the end of a structure, behind those before it
abbrev pub region_of : List Phrase → Around → Naming → List Part → List Phrase
region_of before around name parts = gathered_parts (below before around) [] (add before around (OfStructure name parts)) parts

-- where a structure stands with its parts; the parts that follow are of others
pub record Region (ps e : List Phrase) (p : Phrase) (name : Naming) (parts : List Part) : Type 0 where
  pub before : List Phrase
  pub around : Around
  pub is : p ≡ phrase (length before) around (OfStructure name parts)
  pub begun : AreFirst (region_of before around name parts) e
  pub later : (q : Phrase) → IsAmong q e → IsAmong q (region_of before around name parts) ⊎ Belongs ps (length (region_of before around name parts)) q

plain_part : (n : Node) → is_plain n ≡ true → is_part n ≡ false
plain_part (OfPart bottom part) is = absurd (cc)
plain_part other is = refl

pub plain_no_part : {X : Type 0} (n : Node) → is_plain n ≡ true → is_part n ≡ true → X
plain_no_part n plain part = let none = plain_part n plain in absurd (cc)

pub longer : {d e : List Phrase} → AreFirst d e → length d ≤ length e
longer {d = d} first = subst (λ n. length d ≤ n) (sym (ap (λ (xs : List Phrase). length xs) first.whole ∙ length-append d first.later)) (omega arith)

pub one_longer : (d : List Phrase) (a : Around) (n : Node) → length (add d a n) ≡ suc (length d)
one_longer d a n = length-append d (phrase (length d) a n ∷ []) ∙ omega arith

-- what holds of open parts, where another part follows
abbrev pub OpensFor : (ℕ → Type 0) → List OpenPart → List Part → Type 0
OpensFor P unclosed [] = Unit {0}
OpensFor P unclosed (y ∷ ys) = Each (λ (o : OpenPart). P o.1) (still_open y.level unclosed)

module _ (ps : List Phrase) where
  -- a phrase that isn't a structure: no part either, or one behind what has it
  abbrev pub Inside : ℕ → Phrase → Type 0
  Inside k q = (is_plain q.node ≡ true) ⊎ ((is_part q.node ≡ true) × IsBehind ps k q)

  pub inside_belongs : (k : ℕ) (q : Phrase) → Inside k q → Belongs ps k q
  inside_belongs k q (inl plain) part = plain_no_part q.node plain part
  inside_belongs k q (inr both) part = both.1

  -- such phrases are added
  pub record Grown (k : ℕ) (d e : List Phrase) : Type 0 where
    pub later : List Phrase
    pub whole : e ≡ d ++ later
    pub each : Each (Inside k) later

  pub grown_none : (k : ℕ) (d : List Phrase) → Grown k d d
  grown_none k d = record { later = []; whole = sym (append-nil d); each = tt }

  pub grown_then : (k : ℕ) {d e f : List Phrase} → Grown k d e → Grown k e f → Grown k d f
  grown_then k {d = d} first second = record {
    later = first.later ++ second.later;
    whole = second.whole ∙ (ap (λ x. x ++ second.later) first.whole ∙ append_assoc d first.later second.later);
    each = each_append (Inside k) first.later second.later first.each second.each;
  }

  pub grown_plain : (k : ℕ) {d e : List Phrase} → Adds d e → Grown k d e
  grown_plain k adds = record { later = adds.later; whole = adds.whole; each = each_weaker IsPlain (Inside k) adds.later adds.plain (λ q plain. inl plain) }

  grown_part : (k : ℕ) (d : List Phrase) (b : Around) (bottom : Bool) (x : Part) → k ≤ b.parent → b.parent < length d → bears ps b.parent ≡ true → Grown k d (add d b (OfPart bottom x))
  grown_part k d b bottom x low before bear = record { later = phrase (length d) b (OfPart bottom x) ∷ []; whole = refl; each = (inr (refl, record { from = low; before = before; borne = bear }), tt) }

  -- a part that is open
  abbrev pub IsOpen : ℕ → ℕ → ℕ → Type 0
  IsOpen k n m = (k ≤ m) × ((m < n) × (bears ps m ≡ true))

  still_so : (k n f : ℕ) → n ≤ f → (o : OpenPart) → IsOpen k n o.1 → IsOpen k f o.1
  still_so k n f more o so = (so.0, (omega (arith, so.1.0, more), so.1.1))

  bottomless : (x y : Part) (ys : List Part) → nat_lt x.level y.level ≡ true → is_bottom x.level (y ∷ ys) ≡ false
  unfolding is_bottom
  bottomless x y ys less = by (nat_le y.level x.level) refl where
    by : (b : Bool) → nat_le y.level x.level ≡ b → b ≡ false
    by true more = absurd (omega (arith, ltb-true x.level y.level less, leb-true y.level x.level more))
    by false is = refl

  -- a part before deeper ones has parts
  bearing : (n : ℕ) (b : Around) (x y : Part) (ys : List Part) → slice_get ps n ≡ Some (phrase n b (OfPart (is_bottom x.level (y ∷ ys)) x)) → nat_lt x.level y.level ≡ true → bears ps n ≡ true
  bearing n b x y ys there less =
      ap (λ (o : Option Phrase). elim o [ None ↦ false | Some r ↦ has_parts r.node ]) there ∙ ap not (bottomless x y ys less)

  opened_one : (k n f : ℕ) (b : Around) (x y : Part) (ys : List Part) → k < n → n < f → slice_get ps n ≡ Some (phrase n b (OfPart (is_bottom x.level (y ∷ ys)) x))
      → Each (λ (o : OpenPart). IsOpen k f o.1) (still_open y.level ((x.level, n) ∷ []))
  unfolding still_open
  opened_one k n f b x y ys low less there = by (nat_lt x.level y.level) refl where
    by : (c : Bool) → nat_lt x.level y.level ≡ c → Each (λ (o : OpenPart). IsOpen k f o.1) (if c then (x.level, n) ∷ [] else [])
    by true deep = ((omega (arith, low), (less, bearing n b x y ys there deep)), tt)
    by false flat = tt

  -- the parts that are open beside the next one
  opened : (k n f : ℕ) (b : Around) (x : Part) (xs : List Part) (opens : List OpenPart) → k < n → n < f → slice_get ps n ≡ Some (phrase n b (OfPart (is_bottom x.level xs) x))
      → Each (λ (o : OpenPart). IsOpen k n o.1) opens → OpensFor (IsOpen k f) (opens ++ ((x.level, n) ∷ [])) xs
  opened k n f b x [] opens low less there each = tt
  opened k n f b x (y ∷ ys) opens low less there each =
      subst (Each (λ (o : OpenPart). IsOpen k f o.1)) (sym (still_append y.level opens ((x.level, n) ∷ [])))
      (each_append (λ (o : OpenPart). IsOpen k f o.1) (still_open y.level opens) (still_open y.level ((x.level, n) ∷ []))
      (each_still (λ (o : OpenPart). IsOpen k f o.1) y.level opens (each_weaker (λ (o : OpenPart). IsOpen k n o.1) (λ (o : OpenPart). IsOpen k f o.1) opens each (still_so k n f (omega (arith, less)))))
      (opened_one k n f b x y ys low less there))

  -- the parts of a structure stand behind it
  pub parts_grown : (k : ℕ) (a : Around) (unclosed : List OpenPart) (d : List Phrase) (parts : List Part) → a.parent ≡ k → bears ps k ≡ true → k < length d → OpensFor (IsOpen k (length d)) unclosed parts
      → AreFirst (gathered_parts a unclosed d parts) ps → Grown k d (gathered_parts a unclosed d parts)
  unfolding gathered_parts gathered_part
  parts_grown k a unclosed d [] same bear low opens whole = grown_none k d
  parts_grown k a unclosed d (x ∷ xs) same bear low opens whole =
      let still : List OpenPart = still_open x.level unclosed in
      let b : Around = under (innermost a.parent still) a in
      let e : List Phrase = add d b (OfPart (is_bottom x.level xs) x) in
      let f : List Phrase = gathered_each (gathered_attribute (below d b)) e x.attributes in
      let f_whole = begun.then_ (parts_first a (still ++ ((x.level, length d) ∷ [])) f xs) whole in
      let e_f = attributes_first (below d b) e x.attributes in
      let there = begun.there ps d b (OfPart (is_bottom x.level xs) x) (begun.then_ e_f f_whole) in
      let grows = longer e_f in
      let one_more = one_longer d b (OfPart (is_bottom x.level xs) x) in
      let least : IsOpen k (length d) a.parent = own_open k (length d) a.parent same low bear in
      let inner : IsOpen k (length d) (innermost a.parent still) = innermost_so (IsOpen k (length d)) a.parent still least opens in
      grown_then k (grown_part k d b (is_bottom x.level xs) x inner.0 inner.1.0 inner.1.1)
      (grown_then k (grown_plain k (attributes_step (below d b) e x.attributes))
      (parts_grown k a (still ++ ((x.level, length d) ∷ [])) f xs same bear (omega (arith, low, grows, one_more))
      (opened k (length d) (length f) b x xs still low (omega (arith, grows, one_more)) there opens) whole)) where
        own_open : (k n m : ℕ) → m ≡ k → k < n → bears ps k ≡ true → IsOpen k n m
        own_open k n m is less so = (omega (arith, is), (omega (arith, is, less), ap (bears ps) is ∙ so))
