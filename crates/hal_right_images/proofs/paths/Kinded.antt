-- The kinds of parts at the bottom are known where their structure stands.
use Rattle.std.proofs.Common.{◌≡◌, ℕ, Bool, true, false, not, List, [], ◌∷◌, length, Option, Some, None, slice_get, refl, sym, ap, ◌∙◌, subst, inl, inr}
use Rattle.std.specs.Option.{is_some}
use Rattle.hal_grammar.specs.Leaves.{Naming}
use Rattle.hal_grammar.specs.Declarations.{Double, Kind, Part}
use Rattle.hal_phrases.specs.declared.around.Around.{Around}
use Rattle.hal_phrases.specs.Phrases.{Phrase, phrase, OfStructure, OfPart}
use Rattle.hal_phrases.specs.GatheredDeclarations.{is_bottom}
use Rattle.hal_names.specs.declared.key.Key.{Key}
use Rattle.hal_names.specs.Keys.{own}
use Rattle.hal_names.specs.Laws.{IsCounted, IsFirst, IsUndeclared}
use Rattle.hal_scope.specs.Rules.{IsAmong, IsSound, rows, ruled}
use Rattle.hal_scope.specs.Sorts.{type_among}
use Rattle.hal_kinds.specs.Attributes.{has_mark}
use Rattle.hal_kinds.specs.Data.{is_structure_type, part_under}
use Rattle.hal_attributes.specs.Typed.{nested, untyped}
use Rattle.hal_types.specs.Rules.{attribute_rows, type_rows}
use Rattle.hal_fit_rules.proofs.Unbroken.{ruled_none, unbroken}
use Rattle.hal_fit_names.specs.Suited.{AreDeclared, HasFitLiterals}
use Rattle.hal_fit_names.proofs.MeantItems.{of_attributes}
use Rattle.hal_fit_names.proofs.Placing.{ArePlaced, at_among}
use Rattle.hal_fit_names.proofs.Sizing.{kind_known, typed_among}
use Rattle.hal_right_images.proofs.rows.Templates.{unless_true}
use Rattle.hal_fit_parts.proofs.Belonging.{Region}
use Rattle.hal_fit_parts.proofs.Choosing.{inside_structure}
use Rattle.hal_fit_parts.proofs.Standing.{AreStanding}
use Rattle.hal_right_images.specs.paths.Known.{IsKnownPart}
use Rattle.hal_right_images.proofs.paths.Placed.{ArePlacedParts, listed_placed, part_placed}

-- a type that is there
type_there : (o : Option Kind) → is_some o ≡ true → (t : Kind) × (o ≡ Some t)
type_there (Some t) is = (t, refl)
type_there None is = absurd (cc)

-- what is not so is false
negated : (b : Bool) → not b ≡ true → b ≡ false
negated false is = refl
negated true is = absurd (cc)

-- parts of a structure, of which each at the bottom is known
abbrev pub AreKnownParts : List Phrase → Phrase → List Part → Type 0
AreKnownParts ps p [] = Unit {0}
AreKnownParts ps p (x ∷ xs) = (is_bottom x.level xs ≡ true → IsKnownPart ps p x) × AreKnownParts ps p xs

module _ (ps : List Phrase) (named : IsSound rows ps) (sound : IsSound type_rows ps) (counted : IsCounted ps) (declared : AreDeclared ps) (literals : HasFitLiterals ps) where
  -- rule 323
  part_typed : (q : Phrase) (part : Part) → IsAmong q ps → q.node ≡ OfPart true part → is_some (type_among part.attributes) ≡ true
  unfolding attribute_rows untyped
  part_typed q part within is =
      unless_true (is_some (type_among part.attributes)) part.place
      (ruled_none 323 (untyped (OfPart true part)) (ap (λ n. ruled 323 (untyped n)) (sym is) ∙ unbroken type_rows ps sound q within (λ qs o. ruled 323 (untyped o.node)) (of_attributes (λ qs o. ruled 323 (untyped o.node)) (inl refl))))

  -- rule 326
  part_plain : (q : Phrase) (bottom : Bool) (part : Part) → IsAmong q ps → q.node ≡ OfPart bottom part → is_structure_type (type_among part.attributes) ≡ false
  unfolding attribute_rows nested
  part_plain q bottom part within is =
      negated (is_structure_type (type_among part.attributes)) (unless_true (not (is_structure_type (type_among part.attributes))) part.place
      (ruled_none 326 (nested (OfPart bottom part)) (ap (λ n. ruled 326 (nested n)) (sym is) ∙ unbroken type_rows ps sound q within (λ qs o. ruled 326 (nested o.node)) (of_attributes (λ qs o. ruled 326 (nested o.node)) (inr (inr (inl refl)))))))

  -- a part that stands among those of a structure
  pub bottom_known : (number : ℕ) (around : Around) (name : Naming) (parts : List Part) (q : Phrase) (part : Part) → IsAmong q ps → q.node ≡ OfPart true part → ArePlaced ps (phrase number around (OfStructure name parts)) part.attributes
      → IsKnownPart ps (phrase number around (OfStructure name parts)) part
  bottom_known number around name parts q part within is placed =
      let p : Phrase = phrase number around (OfStructure name parts) in
      let t = type_there (type_among part.attributes) (part_typed q part within is) in
      let plain : is_structure_type (Some t.0) ≡ false = ap is_structure_type (sym t.1) ∙ part_plain q true part within is in
      let cells = kind_known ps named sound counted declared literals p (has_mark Double part.attributes) t.0 (λ valued. absurd (cc)) plain (typed_among ps p part.attributes t.0 t.1 placed) in
      record { type_ = t.0; typed = t.1; plain = plain; cells = cells.0; sized = cells.1 }

  -- those of a list at the bottom
  listed_known : (number : ℕ) (around : Around) (name : Naming) (parts xs : List Part) → ArePlacedParts ps (phrase number around (OfStructure name parts)) xs → AreKnownParts ps (phrase number around (OfStructure name parts)) xs
  listed_known number around name parts [] placed = tt
  listed_known number around name parts (x ∷ xs) placed = (
    λ bottom. bottom_known number around name parts placed.0.phrase x placed.0.within (placed.0.is ∙ ap (λ b. OfPart b x) bottom) placed.0.placed,
    listed_known number around name parts xs placed.1,
  )

  module _ (found : (q : Key) (n : ℕ) → own ps q ≡ Some n → IsFirst ps q n) (lacking : (q : Key) → own ps q ≡ None → IsUndeclared ps q) (standing : AreStanding ps) where
    -- all parts of a structure
    pub parts_known : (k : ℕ) (p : Phrase) (name : Naming) (parts : List Part) → slice_get ps k ≡ Some p → p.node ≡ OfStructure name parts → AreKnownParts ps p parts
    parts_known k p name parts there is =
        let region : Region ps ps p name parts = standing.regions p name parts (at_among ps k p there) is in
        subst (λ (r : Phrase). AreKnownParts ps r parts) (sym region.is)
        (listed_known (length region.before) region.around name parts parts (listed_placed ps counted region.before region.around name parts region.begun))

    -- and one to which a path leads
    pub part_known : (k j : ℕ) (p q : Phrase) (name : Naming) (parts : List Part) (path : List Naming) (part : Part) → slice_get ps k ≡ Some p → p.node ≡ OfStructure name parts → part_under ps k path ≡ Some j → slice_get ps j ≡ Some q
        → q.node ≡ OfPart true part → IsKnownPart ps p part
    part_known k j p q name parts path part there is leading at so =
        let region : Region ps ps p name parts = standing.regions p name parts (at_among ps k p there) is in
        let place = inside_structure ps counted found lacking named standing k j p q name parts path true part region there leading at so in
        subst (λ (r : Phrase). IsKnownPart ps r part) (sym region.is)
        (bottom_known (length region.before) region.around name parts q part (at_among ps j q at) so (part_placed ps counted region.before region.around name parts region.begun q j at place.0 place.1 true part so))
