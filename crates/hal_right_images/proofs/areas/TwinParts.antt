-- Data of a written template that are structures have the components of those that they stand for.
use Rattle.std.specs.Prelude.{◌≡◌, ◌⊎◌, ℕ, Bool, true, false, List, [], ◌∷◌, ◌++◌, length, map, Option, Some, None, slice_get, if◌then◌else◌}
use Rattle.std.proofs.Common.{refl, sym, ap, subst, ◌∙◌, inl, inr}
use Rattle.hal_base.specs.declared.refusal.Place.{Place}
use Rattle.hal_grammar.specs.Leaves.{Naming}
use Rattle.hal_grammar.specs.Expressions.{Expression, Expressions}
use Rattle.hal_grammar.specs.Declarations.{Attribute, Declared, StructureKind, Part}
use Rattle.hal_grammar.specs.Units.{File}
use Rattle.hal_phrases.specs.Phrases.{Phrase, phrase, OfItem, OfPart, OfStructure}
use Rattle.hal_phrases.specs.GatheredUnits.{phrases_of}
use Rattle.hal_phrases.specs.GatheredDeclarations.{is_bottom}
use Rattle.hal_names.specs.declared.key.Key.{Key}
use Rattle.hal_names.specs.declared.key.Space.TheVariants as space
use Rattle.hal_names.specs.Keys.{declared_at, declared_by, key}
use Rattle.hal_names.specs.Laws.{declared_or_around}
use Rattle.hal_names.specs.Means.{means}
use Rattle.hal_scope.specs.Rules.{IsSound, rows}
use Rattle.hal_scope.specs.Sorts.{type_of}
use Rattle.hal_kinds.specs.Attributes.{sizes_among}
use Rattle.hal_types.specs.Rules.{type_rows}
use Rattle.hal_values.specs.declared.value.Kind as values
use Rattle.hal_constants.specs.Known.{Known, known}
use Rattle.hal_templates.specs.Agreeing.{HaveSameParts, IsSamePart, NamesTheSame}
use Rattle.hal_templates.specs.Traits as given
use Rattle.hal_meaning.specs.Elements.{Above, Component, component, components_at, components_from, lower, path_to, sizes_given}
use Rattle.hal_fit_names.specs.Suited.{HasFitLiterals}
use Rattle.hal_fit_names.proofs.Sizing.{is_valued}
use Rattle.hal_fit_parts.proofs.Belonging.{Region}
use Rattle.hal_fit_parts.proofs.Standing.{parts_stand}
use Rattle.hal_right_images.specs.paths.Known.{IsKnownPart}
use Rattle.hal_right_images.proofs.paths.Kinded.{AreKnownParts, parts_known}
use Rattle.hal_right_images.proofs.paths.Placed.{ArePlacedParts, listed_placed, same_there}
use Rattle.hal_right_images.proofs.paths.Shapes.{named_so, parts_so}
use Rattle.hal_right_images.proofs.paths.Twins.{bottoms, or_nothing, part_twins}
use Rattle.hal_right_images.proofs.rows.LookingUp.{LooksUp}
use Rattle.hal_right_images.proofs.rows.Rules.{among_at}
use Rattle.hal_right_images.proofs.rows.Stored.{each_at}
use Rattle.hal_right_images.proofs.rows.Templates.{NamesStructure, names_structure}
use Rattle.hal_right_images.proofs.rows.Told.{IsTold, IsToldNode}
use Rattle.hal_right_images.proofs.rows.ToldUnits.{set_told}
use Rattle.hal_right_images.specs.areas.Sized.{AreKnown}
use Rattle.hal_right_images.proofs.areas.Meaning.{KnowsTemplates}
use Rattle.hal_right_images.proofs.areas.Parameters.{KindsKnown}
use Rattle.hal_right_images.proofs.areas.Sizes.{part_extent}
use Rattle.hal_right_images.proofs.areas.Twins.{given_same}

-- the sizes of a part are known where its structure stands
abbrev IsSizedPart : List Phrase → Phrase → Part → Type 0
IsSizedPart ps p x = (given : Expressions) → sizes_among x.attributes ≡ Some given → AreKnown ps (known ps) p given

-- parts of a structure, of which each at the bottom is so
abbrev AreSizedParts : List Phrase → Phrase → List Part → Type 0
AreSizedParts ps p [] = Unit {0}
AreSizedParts ps p (x ∷ xs) = (is_bottom x.level xs ≡ true → IsSizedPart ps p x) × AreSizedParts ps p xs

abbrev made : List (List ℕ) → values.Kind → List ℕ → Component
made path kind sizes = record { path = path; kind = kind; sizes = sizes }

module _ (ps : List Phrase) (kinds : KindsKnown ps) (r s : Phrase) where
  -- two parts at the bottom are one component
  part_same : (x y : Part) (xs ys : List (List ℕ)) → xs ≡ ys → IsSamePart ps (known ps) r x s y → IsKnownPart ps r x → IsKnownPart ps s y → IsSizedPart ps r x → IsSizedPart ps s y
      → component ps (known ps) r xs x.attributes ≡ component ps (known ps) s ys y.attributes
  unfolding sizes_among
  part_same x y xs ys paths same mine theirs sized also =
      let twins = part_twins ps r s x y xs ys paths same mine theirs in
      let one : Component = component ps (known ps) r xs x.attributes in
      let other : Component = component ps (known ps) s ys y.attributes in
      let sizes : sizes_given ps (known ps) r (sizes_among x.attributes) ≡ sizes_given ps (known ps) s (sizes_among y.attributes) =
      ap (sizes_given ps (known ps) r) (sym (or_nothing (sizes_among x.attributes)))
      ∙ (given_same ps kinds r s (given.sizes_given [] x.attributes) (given.sizes_given [] y.attributes) same.attributes.dimensions (λ zs is. sized zs (sym (or_nothing (sizes_among x.attributes)) ∙ is)) (λ zs is. also zs (sym (or_nothing (sizes_among y.attributes)) ∙ is))
      ∙ ap (sizes_given ps (known ps) s) (or_nothing (sizes_among y.attributes))) in
      ap (λ (z : List (List ℕ)). made z one.kind one.sizes) twins.path ∙ (ap (λ (z : values.Kind). made other.path z one.sizes) twins.kind ∙ ap (made other.path other.kind) sizes)

  -- structures with the same parts have the same components
  parts_same : (above over : List Above) (xs ys : List Part) → above ≡ over → HaveSameParts ps (known ps) r xs s ys → AreKnownParts ps r xs → AreKnownParts ps s ys → AreSizedParts ps r xs → AreSizedParts ps s ys
      → components_from ps (known ps) r above xs ≡ components_from ps (known ps) s over ys
  parts_same above over [] [] same_above same mine theirs sized also = refl
  parts_same above over [] (y ∷ ys) same_above same mine theirs sized also = absurd same
  parts_same above over (x ∷ xs) [] same_above same mine theirs sized also = absurd same
  parts_same above over (x ∷ xs) (y ∷ ys) same_above same mine theirs sized also =
      by (is_bottom x.level xs) (is_bottom y.level ys) refl refl
      (parts_same (lower x.level above) (lower y.level over) xs ys lowered same.1 mine.1 theirs.1 sized.1 also.1)
      (parts_same (lower x.level above ++ ((x.level, x.name.name) ∷ [])) (lower y.level over ++ ((y.level, y.name.name) ∷ [])) xs ys opened same.1 mine.1 theirs.1 sized.1 also.1) where
        lowered : lower x.level above ≡ lower y.level over
        lowered = ap (λ n. lower n above) same.0.level ∙ ap (lower y.level) same_above

        opened : lower x.level above ++ ((x.level, x.name.name) ∷ []) ≡ lower y.level over ++ ((y.level, y.name.name) ∷ [])
        opened =
            ap (λ (zs : List Above). zs ++ ((x.level, x.name.name) ∷ [])) lowered
            ∙ (ap (λ n. lower y.level over ++ ((n, x.name.name) ∷ [])) same.0.level ∙ ap (λ (n : List ℕ). lower y.level over ++ ((y.level, n) ∷ [])) same.0.name)

        named : path_to (lower x.level above) x ≡ path_to (lower y.level over) y
        named = ap (λ (zs : List Above). map (λ (one : Above). one.1) zs ++ (x.name.name ∷ [])) lowered ∙ ap (λ (n : List ℕ). map (λ (one : Above). one.1) (lower y.level over) ++ (n ∷ [])) same.0.name

        by : (a b : Bool) → is_bottom x.level xs ≡ a → is_bottom y.level ys ≡ b
            → components_from ps (known ps) r (lower x.level above) xs ≡ components_from ps (known ps) s (lower y.level over) ys
            → components_from ps (known ps) r (lower x.level above ++ ((x.level, x.name.name) ∷ [])) xs ≡ components_from ps (known ps) s (lower y.level over ++ ((y.level, y.name.name) ∷ [])) ys
            → (if a then component ps (known ps) r (path_to (lower x.level above) x) x.attributes ∷ components_from ps (known ps) r (lower x.level above) xs
            else components_from ps (known ps) r (lower x.level above ++ ((x.level, x.name.name) ∷ [])) xs)
            ≡ (if b then component ps (known ps) s (path_to (lower y.level over) y) y.attributes ∷ components_from ps (known ps) s (lower y.level over) ys
            else components_from ps (known ps) s (lower y.level over ++ ((y.level, y.name.name) ∷ [])) ys)
        by true true first second rest deeper =
            ap (λ (c : Component). c ∷ components_from ps (known ps) r (lower x.level above) xs)
            (part_same x y (path_to (lower x.level above) x) (path_to (lower y.level over) y) named same.0 (mine.0 first) (theirs.0 second) (sized.0 first) (also.0 second))
            ∙ ap (λ (cs : List Component). component ps (known ps) s (path_to (lower y.level over) y) y.attributes ∷ cs) rest
        by false false first second rest deeper = deeper
        by true false first second rest deeper = absurd (let other = sym first ∙ (bottoms ps r s x.level y.level xs ys same.0.level same.1 ∙ second) in cc)
        by false true first second rest deeper = absurd (let other = sym first ∙ (bottoms ps r s x.level y.level xs ys same.0.level same.1 ∙ second) in cc)

module _ (files : List File) (turns : ℕ) (looks : LooksUp (phrases_of files)) (named : IsSound rows (phrases_of files)) (typed : IsSound type_rows (phrases_of files)) (literals : HasFitLiterals (phrases_of files)) (kinds : KindsKnown (phrases_of files))
    (templates : KnowsTemplates (phrases_of files)) (outward : (block : ℕ) (name : List ℕ) → means (phrases_of files) block name ≡ declared_or_around (phrases_of files) block name) where
  abbrev ps : List Phrase
  ps = phrases_of files

  abbrev vs : Known
  vs = known (phrases_of files)

  -- the sizes of the parts of a structure are known
  listed_sized : (p : Phrase) → is_valued p.node ≡ false → (xs : List Part) → ArePlacedParts ps p xs → AreSizedParts ps p xs
  listed_sized p stored [] placed = tt
  listed_sized p stored (x ∷ xs) placed = (
    λ bottom sizes sized. (part_extent ps named typed looks.counted looks.meant literals p placed.0.phrase x sizes placed.0.within (placed.0.is ∙ ap (λ b. OfPart b x) bottom) stored sized placed.0.placed).0,
    listed_sized p stored xs placed.1,
  )

  parts_sized : (k : ℕ) (p : Phrase) (name : Naming) (parts : List Part) → slice_get ps k ≡ Some p → p.node ≡ OfStructure name parts → AreSizedParts ps p parts
  parts_sized k p name parts there is =
      let region : Region ps ps p name parts = (parts_stand files).regions p name parts (among_at ps k p there) is in
      subst (λ (r : Phrase). AreSizedParts ps r parts) (sym region.is)
      (listed_sized (phrase (length region.before) region.around (OfStructure name parts)) refl parts (listed_placed ps looks.counted region.before region.around name parts region.begun))

  structures_same : (k j : ℕ) (r s : Phrase) (name other : Naming) (xs ys : List Part) → slice_get ps k ≡ Some r → slice_get ps j ≡ Some s → r.node ≡ OfStructure name xs → s.node ≡ OfStructure other ys → HaveSameParts ps vs r xs s ys
      → components_at ps vs r r.node ≡ components_at ps vs s s.node
  structures_same k j r s name other xs ys there at is so same =
      let mine = parts_known ps named typed looks.counted looks.meant literals looks.found looks.lacking (parts_stand files) k r name xs there is in
      let theirs = parts_known ps named typed looks.counted looks.meant literals looks.found looks.lacking (parts_stand files) j s other ys at so in
      ap (components_at ps vs r) is ∙ (parts_same ps kinds r s [] [] xs ys refl same mine theirs (parts_sized k r name xs there is) (parts_sized j s other ys at so) ∙ sym (ap (components_at ps vs s) so))

  -- so have those that a name means for a template and for its unit
  pub named_same : (p q : Phrase) (template : List ℕ) (mine : NamesStructure ps p.around.block template) (theirs : NamesStructure ps q.around.block template) → NamesTheSame ps vs p q template
      → (theirs.phrase.around.home ≡ q.around.home → HaveSameParts ps vs mine.phrase mine.structure.parts theirs.phrase theirs.structure.parts)
      → components_at ps vs mine.phrase mine.phrase.node ≡ components_at ps vs theirs.phrase theirs.phrase.node
  named_same p q template mine theirs same own_ =
      by (same mine.phrase theirs.phrase mine.structure.parts theirs.structure.parts (named_so ps p.around.block template mine) (named_so ps q.around.block template theirs)
      (parts_so mine.phrase.node mine.structure.name mine.structure.parts mine.structure.is) (parts_so theirs.phrase.node theirs.structure.name theirs.structure.parts theirs.structure.is)) where
        parted : HaveSameParts ps vs mine.phrase mine.structure.parts theirs.phrase theirs.structure.parts → components_at ps vs mine.phrase mine.phrase.node ≡ components_at ps vs theirs.phrase theirs.phrase.node
        parted parts = structures_same mine.number theirs.number mine.phrase theirs.phrase mine.structure.name theirs.structure.name mine.structure.parts theirs.structure.parts mine.there theirs.there mine.structure.is theirs.structure.is parts

        by : (theirs.phrase.around.home ≡ q.around.home) ⊎ ((mine.phrase.number ≡ theirs.phrase.number) ⊎ HaveSameParts ps vs mine.phrase mine.structure.parts theirs.phrase theirs.structure.parts)
            → components_at ps vs mine.phrase mine.phrase.node ≡ components_at ps vs theirs.phrase theirs.phrase.node
        by (inl home) = parted (own_ home)
        by (inr (inr parts)) = parted parts
        by (inr (inl number)) =
            let numbers : mine.number ≡ theirs.number = sym (looks.counted mine.number mine.phrase mine.there) ∙ (number ∙ looks.counted theirs.number theirs.phrase theirs.there) in
            let one : mine.phrase ≡ theirs.phrase = same_there mine.phrase theirs.phrase (sym mine.there ∙ (ap (slice_get ps) numbers ∙ theirs.there)) in
            ap (λ (x : Phrase). components_at ps vs x x.node) one

  -- the structure that the type of data names
  pub structure_of : (k : ℕ) (x : Phrase) (common : List Attribute) (item : Declared) (place : Place) (template : List ℕ) (copies : Option Expression) → slice_get ps k ≡ Some x → x.node ≡ OfItem common item
      → type_of common item ≡ Some (StructureKind place template copies) → NamesStructure ps x.around.block template
  structure_of k x common item place template copies there is type =
      let of_node : IsToldNode ps x (OfItem common item) = subst (IsToldNode ps x) is (each_at (IsTold ps) ps k x (set_told files) there) in
      let type_ = of_node.1 place template copies type in
      subst (λ block. NamesStructure ps block template) type_.its (names_structure ps looks.meant named type_.phrase type_.among type_.place template type_.is)

  -- structures are spelled as they are meant
  pub spelled_so : (block : ℕ) (template : List ℕ) (names : NamesStructure ps block template) → names.structure.name.name ≡ template
  unfolding declared_at
  spelled_so block template names =
      let declaration = looks.meant block template names.number names.meant in
      let first = declaration.1 in
      let both : Some first.declaring ≡ Some names.phrase = sym first.there ∙ names.there in
      let one : first.declaring ≡ names.phrase = cc in
      let keyed : Some (key space.Declared names.phrase.around.home names.structure.name.name) ≡ Some (key space.Declared declaration.0 template) =
      ap (declared_at names.phrase.number names.phrase.around) (sym names.structure.is) ∙ (ap declared_by (sym one) ∙ first.declares) in
      ap (λ (o : Option Key). elim o [ None ↦ [] | Some w ↦ w.name ]) keyed
