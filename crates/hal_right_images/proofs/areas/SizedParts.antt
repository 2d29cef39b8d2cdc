-- The sizes of the dimensions of a structure's parts are known where it stands, and its parts have levels, where no rule of types is broken.
use Rattle.std.specs.Prelude.{◌≡◌, ◌≤◌, ℕ, suc, nat_le, Bool, true, false, List, [], ◌∷◌, length, Option, Some, None, if◌then◌else◌}
use Rattle.std.proofs.Common.{refl, sym, ap, subst, ◌∙◌, inl, inr, arith}
use Rattle.std.proofs.lemmas.Bool.{and_parts, leb-true}
use Rattle.hal_base.specs.declared.refusal.Place.{Place}
use Rattle.hal_grammar.specs.Leaves.{Naming}
use Rattle.hal_grammar.specs.Expressions.{Expressions}
use Rattle.hal_grammar.specs.Declarations.{Dimensions, Part}
use Rattle.hal_phrases.specs.declared.around.Around.{Around}
use Rattle.hal_phrases.specs.Phrases.{Phrase, phrase, OfPart, OfStructure}
use Rattle.hal_phrases.specs.GatheredDeclarations.{gathered_attribute}
use Rattle.hal_names.specs.Laws.{IsCounted}
use Rattle.hal_scope.specs.Rules.{IsAmong, IsSound, rows, ruled}
use Rattle.hal_kinds.specs.Attributes.{count_of, sizes_among}
use Rattle.hal_attributes.specs.Levels.{level_fault, may_follow, misleveled}
use Rattle.hal_sizes.specs.Constancy.{misdimensioned, misdimensioned_among}
use Rattle.hal_types.specs.Rules.{attribute_rows, size_rows, type_rows}
use Rattle.hal_constants.specs.Known.{known}
use Rattle.hal_fit_rules.proofs.Unbroken.{unbroken, ruled_none, of_sizes}
use Rattle.hal_fit_names.specs.Suited.{HasFitLiterals, AreDeclared}
use Rattle.hal_fit_names.proofs.MeantItems.{of_attributes}
use Rattle.hal_fit_names.proofs.Placing.{ArePlaced}
use Rattle.hal_fit_parts.proofs.Belonging.{Region}
use Rattle.hal_fit_parts.proofs.Standing.{AreStanding}
use Rattle.hal_right_images.proofs.paths.Placed.{ArePlacedParts, listed_placed}
use Rattle.hal_right_images.specs.areas.Sized.{AreKnown}
use Rattle.hal_right_images.proofs.areas.Sizes.{few_among, placed_known, sized_among}

-- the sizes of a part are known in this phrase
abbrev pub IsSizedPart : List Phrase → Phrase → Part → Type 0
IsSizedPart ps p x = (sizes : Expressions) → sizes_among x.attributes ≡ Some sizes → AreKnown ps (known ps) p sizes × (nat_le (count_of sizes) 3 ≡ true)

abbrev pub AreSizedParts : List Phrase → Phrase → List Part → Type 0
AreSizedParts ps p [] = Unit {0}
AreSizedParts ps p (x ∷ xs) = IsSizedPart ps p x × AreSizedParts ps p xs

-- parts have levels
abbrev pub AreLeveled : List Part → Type 0
AreLeveled [] = Unit {0}
AreLeveled (x ∷ xs) = (1 ≤ x.level) × AreLeveled xs

leveled_by : (before level : ℕ) (b : Bool) (o : Option Place) (place : Place) → may_follow before level ≡ b → (if b then o else Some place) ≡ None → (1 ≤ level) × (o ≡ None)
unfolding may_follow
leveled_by before level true o place follows none = (leb-true 1 level (and_parts (nat_le 1 level) (nat_le level (suc before)) follows).0, none)
leveled_by before level false o place follows none = absurd (cc)

pub parts_leveled : (before : ℕ) (xs : List Part) → level_fault before xs ≡ None → AreLeveled xs
unfolding level_fault
parts_leveled before [] none = tt
parts_leveled before (x ∷ xs) none = let both = leveled_by before x.level (may_follow before x.level) (level_fault x.level xs) x.place refl none in (both.0, parts_leveled x.level xs both.1)

module _ (ps : List Phrase) (named : IsSound rows ps) (sound : IsSound type_rows ps) (counted : IsCounted ps) (declared : AreDeclared ps) (literals : HasFitLiterals ps) where
  -- no part has more than three dimensions
  part_few : (q : Phrase) (bottom : Bool) (part : Part) → IsAmong q ps → q.node ≡ OfPart bottom part → misdimensioned_among part.attributes ≡ None
  unfolding size_rows misdimensioned
  part_few q bottom part within is =
      ap misdimensioned (sym is)
      ∙ ruled_none 710 (misdimensioned q.node) (unbroken type_rows ps sound q within (λ qs o. ruled 710 (misdimensioned o.node)) (of_sizes (λ qs o. ruled 710 (misdimensioned o.node)) (inr (inl refl))))

  -- a part that stands among those of a structure
  part_sized : (number : ℕ) (around : Around) (name : Naming) (parts : List Part) (q : Phrase) (bottom : Bool) (part : Part) → IsAmong q ps → q.node ≡ OfPart bottom part → ArePlaced ps (phrase number around (OfStructure name parts)) part.attributes
      → IsSizedPart ps (phrase number around (OfStructure name parts)) part
  unfolding gathered_attribute
  part_sized number around name parts q bottom part within is placed sizes sized =
      let p : Phrase = phrase number around (OfStructure name parts) in
      let at = sized_among ps p part.attributes sizes sized placed in (
        placed_known ps named sound counted declared literals p (Dimensions at.0 sizes) at.1 (λ valued. absurd (cc)) at.1.before sizes at.1.begun (omega arith),
        few_among part.attributes sizes (part_few q bottom part within is) sized,
      )

  listed_sized : (number : ℕ) (around : Around) (name : Naming) (parts xs : List Part) → ArePlacedParts ps (phrase number around (OfStructure name parts)) xs → AreSizedParts ps (phrase number around (OfStructure name parts)) xs
  listed_sized number around name parts [] placed = tt
  listed_sized number around name parts (x ∷ xs) placed =
      (part_sized number around name parts placed.0.phrase _ x placed.0.within placed.0.is placed.0.placed, listed_sized number around name parts xs placed.1)

  -- so are all parts of a structure
  pub parts_sized : (standing : AreStanding ps) (p : Phrase) (name : Naming) (parts : List Part) → IsAmong p ps → p.node ≡ OfStructure name parts → AreSizedParts ps p parts
  parts_sized standing p name parts within is =
      let region : Region ps ps p name parts = standing.regions p name parts within is in
      subst (λ (r : Phrase). AreSizedParts ps r parts) (sym region.is)
      (listed_sized (length region.before) region.around name parts parts (listed_placed ps counted region.before region.around name parts region.begun))

  -- rule 710 of levels
  pub structure_leveled : (p : Phrase) (name : Naming) (parts : List Part) → IsAmong p ps → p.node ≡ OfStructure name parts → AreLeveled parts
  unfolding attribute_rows misleveled
  structure_leveled p name parts within is =
      parts_leveled 0 parts (ap misleveled (sym is)
      ∙ ruled_none 710 (misleveled p.node) (unbroken type_rows ps sound p within (λ qs o. ruled 710 (misleveled o.node)) (of_attributes (λ qs o. ruled 710 (misleveled o.node)) (inr (inr (inr (inr (inr (inr (inl refl))))))))))
