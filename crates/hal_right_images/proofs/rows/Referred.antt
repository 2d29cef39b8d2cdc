-- The own places of ASSIGN parameters refer to the shapes with their kinds.
use Rattle.std.specs.Prelude.{◌≡◌, ◌≤◌, ℕ, ◌==◌, List, [], ◌∷◌, ◌++◌, length, map, true, Option, Some, None, slice_get, unwrap_or}
use Rattle.std.specs.List.{sum_by}
use Rattle.std.specs.Option.{option_and_then}
use Rattle.std.proofs.Common.{refl, sym, ap, subst, ◌∙◌, inl, inr}
use Rattle.std.proofs.lemmas.Bool.{eqb-true}
use Rattle.hal_grammar.specs.Leaves.{Naming}
use Rattle.hal_phrases.specs.Phrases.{Phrase}
use Rattle.hal_names.specs.Laws.{IsCounted}
use Rattle.hal_scope.specs.Rules.{IsAmong}
use Rattle.hal_values.specs.declared.value.Kind.{Kind}
use Rattle.hal_code.specs.declared.image.ImageParts.{ImageParts}
use Rattle.hal_code.specs.declared.row.OwnPlace.{OwnPlace}
use Rattle.hal_code.specs.declared.row.OwnPlace.TheVariants as place
use Rattle.hal_code.specs.declared.row.Run.{Run}
use Rattle.hal_code.specs.declared.row.Block.{Block}
use Rattle.hal_code.specs.Blocks.{block_places}
use Rattle.hal_code.specs.Images as images
use Rattle.hal_code.specs.Images.{expanded, row_count}
use Rattle.hal_code.specs.Memory.{referred_shape, shape_of_place}
use Rattle.hal_meaning.specs.Bodies.{Body}
use Rattle.hal_meaning.specs.Calls.{Parameter, parameter_named, parameter_shape, outputs_of}
use Rattle.hal_meaning.specs.Elements.{Shape, kinds_of, shape_of}
use Rattle.hal_meaning.specs.Expressions.{outputs_at}
use Rattle.hal_meaning.specs.Places.{Place, ByReference, places_of_item}
use Rattle.hal_meaning.specs.ReportNames.{first_place}
use Rattle.hal_meaning.specs.Sets.{Set, body_at}
use Rattle.hal_fit.specs.Supporting.{ReferTo}
use Rattle.hal_gen_expr.specs.Numbering.{shape_in}
use Rattle.hal_gen_expr.specs.Parameters.{runs_at}
use Rattle.hal_gen_expr.specs.Shapes.{runs_of}
use Rattle.hal_link.specs.Linking.{own_row}
use Rattle.hal_link.specs.Shapes.{Shapes, shapes_of, reference_shape}
use Rattle.hal_fit_calls.specs.Each.{Each}
use Rattle.hal_fit_layout.specs.Owned.{IsOthers, LiesIn, has_one, IsStored, AreStored}
use Rattle.hal_fit_layout.proofs.Memory.{first_behind}
use Rattle.hal_fit_layout.proofs.Parameters.{parameter_is}
use Rattle.hal_right_images.proofs.rows.Alone.{AreKept, shape_found}
use Rattle.hal_right_images.proofs.rows.Bodied.{found_among}
use Rattle.hal_right_images.proofs.rows.Referring.{HaveRuns, shapes_have}

mapped_at : (s : Set) (shapes : Shapes) (before : List Place) (one : Place) (behind : List Place) → slice_get (map (own_row s shapes) (before ++ (one ∷ behind))) (length before) ≡ Some (own_row s shapes one)
mapped_at s shapes [] one behind = refl
mapped_at s shapes (x ∷ before) one behind = mapped_at s shapes before one behind

-- the place of a reference
abbrev reference_of : ℕ → Place → Type 0
reference_of number one = (one.owner ≡ number) × (one.kind ≡ None)

there_refers : (s : Set) (shapes : Shapes) (rows : List OwnPlace) (places : List Place) → rows ≡ map (own_row s shapes) places → (number : ℕ) (before behind : List Place) (one : Place)
    → places ≡ before ++ (one ∷ behind) → Each (IsOthers number) before → reference_of number one → referred_shape rows (first_place places number) ≡ Some (reference_shape s shapes number)
there_refers s shapes rows places laid number before behind one is others its =
    let apart = subst (λ n. Each (IsOthers n) before) (sym its.0) others in
    let first : first_place places number ≡ length before = ap (λ n. first_place places n) (sym its.0) ∙ (ap (λ l. first_place l one.owner) is ∙ first_behind before one behind apart) in
    ap (λ l. referred_shape l (first_place places number)) laid
    ∙ (ap (λ n. referred_shape (map (own_row s shapes) places) n) first
    ∙ (ap (λ l. referred_shape (map (own_row s shapes) l) (length before)) is
    ∙ (ap (λ (o : Option OwnPlace). elim o [ None ↦ None | Some x ↦ shape_of_place x ]) (mapped_at s shapes before one behind)
    ∙ (ap (λ (k : Option Kind). shape_of_place (elim k [ None ↦ place.Reference (reference_shape s shapes one.owner) | Some kind ↦ place.Data kind one.initial ])) its.1
    ∙ ap (λ n. Some (reference_shape s shapes n)) its.0))))

-- a shape with kinds is there
record IsThere (shapes : Shapes) (shape : ℕ) (kinds : List Kind) : Type 0 where
  runs : List (Run Kind)
  there : slice_get shapes shape ≡ Some runs
  is : expanded runs ≡ kinds

kinds_there : (shapes : Shapes) (shape : ℕ) (kinds : List Kind) → has_one kinds ≡ true → elim (slice_get shapes shape) [ None ↦ [] | Some runs ↦ expanded runs ] ≡ kinds → IsThere shapes shape kinds
kinds_there shapes shape kinds one = by (slice_get shapes shape) refl where
  by : (o : Option (List (Run Kind))) → slice_get shapes shape ≡ o → elim o [ None ↦ [] | Some runs ↦ expanded runs ] ≡ kinds → IsThere shapes shape kinds
  by None none same = let so = subst (λ l. has_one l ≡ true) (sym same) one in absurd (cc)
  by (Some runs) there same = record { runs = runs; there = there; is = same }

-- the shape of a parameter is among shapes
abbrev pub HasShape : Set → Shapes → ℕ → Naming → Type 0
HasShape s shapes unit name = HaveRuns (runs_of (parameter_named s unit name).shape) shapes

outputs_have : (s : Set) (unit : ℕ) (b : Body) → IsAmong b s.bodies → b.number ≡ unit → (names : List Naming) → ((name : Naming) → IsAmong name names → IsAmong name (outputs_of b.head))
    → AreStored s unit names ByReference → Each (HasShape s (shapes_of s) unit) names
outputs_have s unit b among number [] listed stored = tt
outputs_have s unit b among number (name ∷ names) listed stored =
    let named = parameter_is s unit name ByReference stored.0 in
    let some : has_one (kinds_of (parameter_named s unit name).shape) ≡ true = ap (λ (p : Parameter). has_one (kinds_of p.shape)) named ∙ stored.0.some in (
      subst (λ n. HasShape s (shapes_of s) n name) number
          (shapes_have s b among name (listed name (inl refl)) (subst (λ n. has_one (kinds_of (parameter_named s n name).shape) ≡ true) (sym number) some)),
      outputs_have s unit b among number names (λ other within. listed other (inr within)) stored.1,
    )

-- those of the ASSIGN parameters of a unit are
pub have_outputs : (s : Set) (unit : ℕ) → AreStored s unit (outputs_at s unit) ByReference → Each (HasShape s (shapes_of s) unit) (outputs_at s unit)
have_outputs s unit stored = by (body_at s unit) refl stored where
  by : (o : Option Body) → body_at s unit ≡ o → AreStored s unit (elim o [ None ↦ [] | Some b ↦ outputs_of b.head ]) ByReference → Each (HasShape s (shapes_of s) unit) (elim o [ None ↦ [] | Some b ↦ outputs_of b.head ])
  by None is there = tt
  by (Some b) is there =
      let found = found_among (λ (x : Body). x.number == unit) s.bodies b is in
      outputs_have s unit b found.among (eqb-true b.number unit found.passes) (outputs_of b.head) (λ name within. within) there

module _ (s : Set) (counted : IsCounted s.phrases) (image : ImageParts) (kept : AreKept image.shapes) (few : sum_by (λ (runs : List (Run Kind)). row_count runs) image.shapes ≤ 1048576) where
  -- the number of the shape of a parameter
  reference_is : (one : Phrase) (number : ℕ) (form : Shape) → slice_get s.phrases number ≡ Some one → parameter_shape s one one.node ≡ form → HaveRuns (runs_of form) image.shapes → has_one (kinds_of form) ≡ true
      → (shape : ℕ) → images.kinds_of image shape ≡ kinds_of form → reference_shape s image.shapes number ≡ shape
  reference_is one number form there formed have some shape kinds =
      let at = kinds_there image.shapes shape (kinds_of form) some kinds in
      ap (λ (o : Option Phrase). unwrap_or (option_and_then (λ (p : Phrase). shape_in image.shapes (runs_at s p)) o) 0) there
      ∙ (ap (λ f. unwrap_or (shape_in image.shapes (runs_of f)) 0) formed ∙ ap (λ o. unwrap_or o 0) (shape_found image.shapes kept few form have shape at.runs at.there at.is))

  -- an ASSIGN parameter whose place lies among places
  pub stored_refers : (rows : List OwnPlace) (places : List Place) → rows ≡ map (own_row s image.shapes) places → (unit : ℕ) (name : Naming) (one : IsStored s unit name ByReference)
      → LiesIn places one.phrase.number (places_of_item s.phrases s.constants one.phrase one.common one.item ByReference) → HaveRuns (runs_of (parameter_named s unit name).shape) image.shapes
      → (shape : ℕ) → images.kinds_of image shape ≡ kinds_of (parameter_named s unit name).shape → referred_shape rows (first_place places (parameter_named s unit name).number) ≡ Some shape
  stored_refers rows places laid unit name one lies have shape kinds =
      let named = parameter_is s unit name ByReference one in
      let form = shape_of s.phrases s.constants one.phrase one.common one.item in
      let its : slice_get s.phrases one.phrase.number ≡ Some one.phrase = ap (slice_get s.phrases) (counted one.number one.phrase one.there) ∙ one.there in
      ap (λ (p : Parameter). referred_shape rows (first_place places p.number)) named
      ∙ (there_refers s image.shapes rows places laid one.phrase.number lies.before lies.behind _ lies.is lies.apart (refl, refl)
      ∙ ap Some (reference_is one.phrase one.phrase.number form its (ap (parameter_shape s one.phrase) one.node)
      (subst (λ (p : Parameter). HaveRuns (runs_of p.shape) image.shapes) named have) one.some shape (kinds ∙ ap (λ (p : Parameter). kinds_of p.shape) named)))

  -- those of all names of a list
  pub refer_all : (block : Block) (places : List Place) → block_places image block ≡ map (own_row s image.shapes) places → (unit : ℕ)
      → ((name : Naming) (one : IsStored s unit name ByReference) → LiesIn places one.phrase.number (places_of_item s.phrases s.constants one.phrase one.common one.item ByReference)) → (names : List Naming)
      → AreStored s unit names ByReference → Each (HasShape s image.shapes unit) names → ReferTo image block s places unit names
  refer_all block places laid unit lies [] stored have = tt
  refer_all block places laid unit lies (name ∷ names) stored have = (
    (λ shape kinds. stored_refers (block_places image block) places laid unit name stored.0 (lies name stored.0) have.0 shape kinds),
    refer_all block places laid unit lies names stored.1 have.1,
  )
