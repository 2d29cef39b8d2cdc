-- Where the attributes of parts stand: behind their structure, and no item between.
use Rattle.std.proofs.Common.{◌≡◌, ◌<◌, ◌⊎◌, ℕ, zero, suc, Bool, true, false, List, [], ◌∷◌, ◌++◌, length, Some, slice_get, refl, sym, ap, ◌∙◌, subst, inl, inr, arith}
use Rattle.hal_grammar.specs.Leaves.{Naming}
use Rattle.hal_grammar.specs.Declarations.{Attribute, Part}
use Rattle.hal_phrases.specs.declared.around.Around.{Around}
use Rattle.hal_phrases.specs.Surroundings.{under}
use Rattle.hal_phrases.specs.Phrases.{Phrase, phrase, add, gathered_each, OfStructure, OfPart}
use Rattle.hal_phrases.specs.GatheredExpressions.{below}
use Rattle.hal_phrases.specs.GatheredDeclarations.{OpenPart, still_open, innermost, is_bottom, gathered_attribute, gathered_part, gathered_parts}
use Rattle.hal_names.specs.Laws.{IsCounted}
use Rattle.hal_scope.specs.Rules.{IsAmong}
use Rattle.hal_fit_rules.specs.Begun.{AreFirst}
use Rattle.hal_fit_rules.proofs.Beginning as begun
use Rattle.hal_fit_rules.proofs.BegunDeclarations.{attributes_first, parts_first}
use Rattle.hal_fit_names.proofs.Plain.{behind, is_item, IsPart}
use Rattle.hal_fit_names.proofs.PlainDeclarations.{parts_plain}
use Rattle.hal_fit_names.proofs.Placing.{ArePlaced, longer}
use Rattle.hal_fit_rules.proofs.Constants.{among_found}
use Rattle.hal_fit_parts.proofs.Plain as bare
use Rattle.hal_fit_parts.proofs.PlainDeclarations.{attributes_step}
use Rattle.hal_fit_parts.proofs.Belonging.{plain_no_part, is_part, region_of}
use Rattle.hal_fit_parts.proofs.Standing.{among_either, each_among}

-- the attributes of a part stand behind its structure
pub record IsPlacedPart (ps : List Phrase) (p : Phrase) (bottom : Bool) (part : Part) : Type 0 where
  pub phrase : Phrase
  pub within : IsAmong phrase ps
  pub is : phrase.node ≡ OfPart bottom part
  pub placed : ArePlaced ps p part.attributes

-- so it is with all parts of a structure
abbrev pub ArePlacedParts : List Phrase → Phrase → List Part → Type 0
ArePlacedParts ps p [] = Unit {0}
ArePlacedParts ps p (x ∷ xs) = IsPlacedPart ps p (is_bottom x.level xs) x × ArePlacedParts ps p xs

-- and with those that are phrases
abbrev pub PartPlaced : List Phrase → Phrase → Phrase → Type 0
PartPlaced ps p q = (bottom : Bool) (part : Part) → q.node ≡ OfPart bottom part → ArePlaced ps p part.attributes

-- what is among the first of a list is there in all of it
low_place : (d later : List Phrase) (k : ℕ) (x : Phrase) → slice_get d k ≡ Some x → (slice_get (d ++ later) k ≡ Some x) × (k < length d)
low_place [] later k x there = absurd (cc)
low_place (y ∷ d) later zero x there = (there, omega arith)
low_place (y ∷ d) later (suc k) x there = let more = low_place d later k x there in (more.0, omega (arith, more.1))

-- what has a low place in a list is among its first
low_among : (d later : List Phrase) (k : ℕ) (x : Phrase) → slice_get (d ++ later) k ≡ Some x → k < length d → IsAmong x d
low_among [] later k x there low = absurd (omega (arith, low))
low_among (y ∷ d) later zero x there low = inl (let same : y ≡ x = cc in sym same)
low_among (y ∷ d) later (suc k) x there low = inr (low_among d later k x there (omega (arith, low)))

-- what is at one place is one phrase
pub same_there : (p q : Phrase) → Some p ≡ Some q → p ≡ q
same_there p q is = cc

-- phrases of one node are of one part
part_same : (b c : Bool) (x y : Part) → OfPart b x ≡ OfPart c y → x ≡ y
part_same b c x y is = cc

module _ (ps : List Phrase) (counted : IsCounted ps) (before : List Phrase) (around : Around) (name : Naming) (parts : List Part) (whole : AreFirst (region_of before around name parts) ps) where
  -- the structure
  abbrev pub itself : Phrase
  itself = phrase (length before) around (OfStructure name parts)

  abbrev beside : Around
  beside = below before around

  abbrev around_part : List OpenPart → Part → Around
  around_part unclosed x = under (innermost beside.parent (still_open x.level unclosed)) beside

  -- a phrase among the first ones has a number below their length
  number_low : (d : List Phrase) (r : Phrase) → AreFirst d ps → IsAmong r d → r.number < length d
  number_low d r first within =
      let at = among_found r d within in
      let place = low_place d first.later at.0 r at.1 in
      omega (arith, counted at.0 r (ap (λ xs. slice_get xs at.0) first.whole ∙ place.0), place.1)

  -- each item up to the end of its parts stands before it
  items_before : (k : ℕ) (r : Phrase) → slice_get ps k ≡ Some r → is_item r.node ≡ true → r.number < length (region_of before around name parts) → (r.number < itself.number) ⊎ (r ≡ itself)
  items_before k r there item low = by ((parts_plain beside [] (add before around (OfStructure name parts)) parts).each_ r within) where
    within : IsAmong r (region_of before around name parts)
    within = low_among (region_of before around name parts) whole.later k r (sym (ap (λ xs. slice_get xs k) whole.whole) ∙ there) (omega (arith, counted k r there, low))

    start : AreFirst before ps
    start = begun.then_ (begun.one before around (OfStructure name parts)) (begun.then_ (parts_first beside [] (add before around (OfStructure name parts)) parts) whole)

    either : IsAmong r before ⊎ (r ≡ itself) → (r.number < itself.number) ⊎ (r ≡ itself)
    either (inl first) = inl (number_low before r start first)
    either (inr same) = inr same

    by : IsAmong r (add before around (OfStructure name parts)) ⊎ IsPart beside.home r → (r.number < itself.number) ⊎ (r ≡ itself)
    by (inl first) = either (behind r itself before first)
    by (inr none) = absurd (let other : true ≡ false = sym item ∙ none.single in cc)

  -- attributes among them are placed
  attributes_placed : (b : Around) (d : List Phrase) (xs : List Attribute) → b.block ≡ around.block → b.home ≡ around.home → AreFirst (gathered_each (gathered_attribute b) d xs) (region_of before around name parts) → ArePlaced ps itself xs
  attributes_placed b d [] block home first = tt
  attributes_placed b d (x ∷ xs) block home first =
      let f : List Phrase = gathered_attribute b d x in
      let f_first = begun.then_ (attributes_first b f xs) first in
      let grown = longer f_first in (
        record {
          before = d;
          around = b;
          begun = begun.then_ f_first whole;
          block = block;
          home = home;
          beside = λ k r there item low. items_before k r there item (omega (arith, low, grown));
        },
        attributes_placed b f xs block home first,
      )

  -- the parts of the structure, and the phrases that are parts
  record Places (d : List Phrase) (xs : List Part) (e : List Phrase) : Type 0 where
    listed : ArePlacedParts ps itself xs
    each : (q : Phrase) → IsAmong q e → IsAmong q d ⊎ PartPlaced ps itself q

  -- a part with its attributes
  one_placed : (unclosed : List OpenPart) (d : List Phrase) (x : Part) (xs : List Part) → ArePlaced ps itself x.attributes → (q : Phrase) → IsAmong q (gathered_part (around_part unclosed x) (is_bottom x.level xs) d x) → IsAmong q d ⊎ PartPlaced ps itself q
  unfolding gathered_part
  one_placed unclosed d x xs placed q within = by (among_either q e adds.later (subst (λ (zs : List Phrase). IsAmong q zs) adds.whole within)) where
    b : Around
    b = around_part unclosed x

    e : List Phrase
    e = add d b (OfPart (is_bottom x.level xs) x)

    adds : bare.Adds e (gathered_each (gathered_attribute (below d b)) e x.attributes)
    adds = attributes_step (below d b) e x.attributes

    at_end : IsAmong q d ⊎ (q ≡ phrase (length d) b (OfPart (is_bottom x.level xs) x)) → IsAmong q d ⊎ PartPlaced ps itself q
    at_end (inl first) = inl first
    at_end (inr same) = inr (λ bottom part is. subst (λ (y : Part). ArePlaced ps itself y.attributes) (part_same (is_bottom x.level xs) bottom x part (sym (ap (λ (r : Phrase). r.node) same) ∙ is)) placed)

    by : IsAmong q e ⊎ IsAmong q adds.later → IsAmong q d ⊎ PartPlaced ps itself q
    by (inl first) = at_end (behind q (phrase (length d) b (OfPart (is_bottom x.level xs) x)) d first)
    by (inr after) = inr (λ bottom part is. plain_no_part q.node (each_among bare.IsPlain adds.later adds.plain q after) (ap is_part is))

  -- all parts behind others
  parts_placed : (unclosed : List OpenPart) (d : List Phrase) (xs : List Part) → AreFirst (gathered_parts beside unclosed d xs) (region_of before around name parts) → Places d xs (gathered_parts beside unclosed d xs)
  unfolding gathered_parts gathered_part
  parts_placed unclosed d [] first = record { listed = tt; each = λ q within. inl within }
  parts_placed unclosed d (x ∷ xs) first =
      let b : Around = around_part unclosed x in
      let e : List Phrase = add d b (OfPart (is_bottom x.level xs) x) in
      let f : List Phrase = gathered_each (gathered_attribute (below d b)) e x.attributes in
      let opens : List OpenPart = still_open x.level unclosed ++ ((x.level, length d) ∷ []) in
      let f_first = begun.then_ (parts_first beside opens f xs) first in
      let placed = attributes_placed (below d b) e x.attributes refl refl f_first in
      let rest = parts_placed opens f xs first in
      record {
        listed = (record { phrase = phrase (length d) b (OfPart (is_bottom x.level xs) x); within = begun.among ps d b (OfPart (is_bottom x.level xs) x) (begun.then_ (attributes_first (below d b) e x.attributes) (begun.then_ f_first whole)); is = refl; placed = placed }, rest.listed);
        each = λ q within. further unclosed d x xs placed q (rest.each q within);
      } where
        further : (unclosed : List OpenPart) (d : List Phrase) (x : Part) (xs : List Part) → ArePlaced ps itself x.attributes → (q : Phrase) → IsAmong q (gathered_part (around_part unclosed x) (is_bottom x.level xs) d x) ⊎ PartPlaced ps itself q → IsAmong q d ⊎ PartPlaced ps itself q
        further unclosed d x xs placed q (inl within) = one_placed unclosed d x xs placed q within
        further unclosed d x xs placed q (inr so) = inr so

  -- those of the structure
  all_placed : Places (add before around (OfStructure name parts)) parts (region_of before around name parts)
  all_placed = parts_placed [] (add before around (OfStructure name parts)) parts (begun.no_step (region_of before around name parts))

  -- so its list of parts is placed
  pub listed_placed : ArePlacedParts ps itself parts
  listed_placed = all_placed.listed

  -- a part that stands behind the structure, up to the end of its parts
  pub part_placed : (q : Phrase) (j : ℕ) → slice_get ps j ≡ Some q → length before < j → j < length (region_of before around name parts) → PartPlaced ps itself q
  part_placed q j there low high = by (all_placed.each q (low_among (region_of before around name parts) whole.later j q (sym (ap (λ xs. slice_get xs j) whole.whole) ∙ there) high)) where
    start : AreFirst before ps
    start = begun.then_ (begun.one before around (OfStructure name parts)) (begun.then_ (parts_first beside [] (add before around (OfStructure name parts)) parts) whole)

    number : q.number ≡ j
    number = counted j q there

    either : IsAmong q before ⊎ (q ≡ itself) → PartPlaced ps itself q
    either (inl first) = absurd (omega (arith, number_low before q start first, number, low))
    either (inr same) = absurd (omega (arith, ap (λ (r : Phrase). r.number) same, number, low))

    by : IsAmong q (add before around (OfStructure name parts)) ⊎ PartPlaced ps itself q → PartPlaced ps itself q
    by (inl first) = either (behind q itself before first)
    by (inr so) = so
