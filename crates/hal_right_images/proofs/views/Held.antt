-- Views of elements lie where the data do whose elements they are.
use Rattle.std.specs.Prelude.{◌≡◌, ◌+◌, ◌&&◌, ℕ, zero, suc, Bool, true, false, List, [], ◌∷◌, Option, Some, None, slice_get}
use Rattle.std.specs.List.{list_all}
use Rattle.std.proofs.Common.{refl, sym, ap, subst, ◌∙◌, inl, inr, arith, append-nil}
use Rattle.std.proofs.lemmas.Bool.{and_from, and_parts}
use Rattle.hal_scope.specs.Rules.{IsAmong}
use Rattle.hal_values.specs.declared.value.Kind.{Kind}
use Rattle.hal_code.specs.declared.image.ImageParts.{ImageParts}
use Rattle.hal_code.specs.declared.row.Base.{Base}
use Rattle.hal_code.specs.declared.row.Base.TheVariants as base
use Rattle.hal_code.specs.declared.row.Dimension.{Dimension}
use Rattle.hal_code.specs.declared.row.Target.{Target}
use Rattle.hal_code.specs.declared.row.Target.TheVariants as target
use Rattle.hal_code.specs.declared.row.View.{View}
use Rattle.hal_code.specs.Images as images
use Rattle.hal_code.specs.Memory.{lies_from, own_memory, shared_memory, shape_memory, offsets, target_kinds, all_lie, lies_through, fits_places}
use Rattle.hal_code.specs.Sorts.{same_kind}
use Rattle.hal_meaning.specs.Elements.{Shape, kinds_of}
use Rattle.hal_meaning.specs.Places.{Storing, InCells, InPlaces, ByReference, Unstored}
use Rattle.hal_meaning.specs.ReportNames.{first_cell, first_place}
use Rattle.hal_meaning.specs.Sets.{Set}
use Rattle.hal_agreement.specs.Sites.{Site}
use Rattle.hal_gen_expr.specs.Numbering.{base_of, cell_view}
use Rattle.hal_fit_layout.proofs.Memory.{known, lies_behind}
use Rattle.hal_right_images.proofs.rows.Lying.{lies_one, element_below}
use Rattle.hal_right_images.specs.rows.Purposes.{ForElement}
use Rattle.hal_right_images.specs.views.Holding.{RefersTo, Holds, DataHold}
use Rattle.hal_right_images.specs.views.Lying.{lies_in, CellsLie}
use Rattle.hal_right_images.proofs.views.Bases.{base_low, base_shared, base_own, base_through}

-- these kinds stand among others, from a number on
abbrev pub StandFrom : List Kind → ℕ → List Kind → Type 0
StandFrom ks n wanted = (j : ℕ) (k : Kind) → slice_get wanted j ≡ Some k → slice_get ks (n + j) ≡ Some k

pub one_stands : (ks : List Kind) (n : ℕ) (k : Kind) → slice_get ks n ≡ Some k → StandFrom ks n (k ∷ [])
one_stands ks n k there zero other is = let same : n ≡ n + 0 = omega arith in subst (λ m. slice_get ks m ≡ Some other) same (there ∙ is)
one_stands ks n k there (suc j) other is = absurd (cc)

-- what lies one by one lies
lies_more : (memory : List (Option Kind)) (n : ℕ) (k : Kind) (ks : List Kind) → lies_from memory n (k ∷ []) ≡ true → lies_from memory (suc n) ks ≡ true → lies_from memory n (k ∷ ks) ≡ true
lies_more memory n k ks first rest = by (slice_get memory n) first where
  by_kind : (o : Option Kind) → elim o [ None ↦ false | Some found ↦ same_kind found k && true ] ≡ true → elim o [ None ↦ false | Some found ↦ same_kind found k && lies_from memory (suc n) ks ] ≡ true
  by_kind None is = absurd (cc)
  by_kind (Some found) is = and_from (same_kind found k) (lies_from memory (suc n) ks) (and_parts (same_kind found k) true is).0 rest

  by : (o : Option (Option Kind)) → elim o [ None ↦ false | Some there ↦ elim there [ None ↦ false | Some found ↦ same_kind found k && true ] ] ≡ true
      → elim o [ None ↦ false | Some there ↦ elim there [ None ↦ false | Some found ↦ same_kind found k && lies_from memory (suc n) ks ] ] ≡ true
  by None is = absurd (cc)
  by (Some there) is = by_kind there is

part_lies : (memory : List (Option Kind)) (at : ℕ) (ks : List Kind) → lies_from memory at ks ≡ true → (wanted : List Kind) (n : ℕ) → StandFrom ks n wanted → lies_from memory (at + n) wanted ≡ true
part_lies memory at ks lies [] n stand = refl
part_lies memory at ks lies (k ∷ wanted) n stand =
    let here : n + 0 ≡ n = omega arith in
    let further : at + suc n ≡ suc (at + n) = omega arith in
    lies_more memory (at + n) k wanted (lies_one memory at ks n k lies (subst (λ m. slice_get ks m ≡ Some k) here (stand 0 k refl)))
    (subst (λ m. lies_from memory m wanted ≡ true) further
    (part_lies memory at ks lies wanted (suc n) (λ j other is. let same : n + suc j ≡ suc n + j = omega arith in subst (λ m. slice_get ks m ≡ Some other) same (stand (suc j) other is))))

among_pass : {X : Type 0} (test : X → Bool) (xs : List X) → ((x : X) → IsAmong x xs → test x ≡ true) → list_all test xs ≡ true
among_pass test [] so = refl
among_pass test (x ∷ xs) so = and_from (test x) (list_all test xs) (so x (inl refl)) (among_pass test xs (λ y is. so y (inr is)))

-- the cells of a shape lie in its memory
known_lies : (ks : List Kind) → lies_from (known ks) 0 ks ≡ true
known_lies ks = ap (λ l. lies_from l 0 ks) (sym (append-nil (known ks))) ∙ lies_behind [] ks []

module _ (image : ImageParts) where
  -- a view in these dimensions, each of whose addresses is that of elements with its kinds
  abbrev pub Chooses : List Kind → ℕ → List Dimension → Target → Type 0
  Chooses ks before rows given = (offset : ℕ) → IsAmong offset (offsets rows) → StandFrom ks (before + offset) (target_kinds image given)

  view_lies : (memory : List (Option Kind)) (at before : ℕ) (ks : List Kind) (from : Base) (rows : List Dimension) (given : Target) → lies_from memory at ks ≡ true → Chooses ks before rows given
      → all_lie image (record { base = from; dimensions = rows; target = given }) memory (at + before) ≡ true
  view_lies memory at before ks from rows given lies chooses =
      among_pass (λ n. lies_from memory ((at + before) + n) (target_kinds image given)) (offsets rows)
      (λ offset is. let same : at + (before + offset) ≡ (at + before) + offset = omega arith in
      subst (λ m. lies_from memory m (target_kinds image given) ≡ true) same (part_lies memory at ks lies (target_kinds image given) (before + offset) (chooses offset is)))

  abbrev view_with : Base → List Dimension → Target → View
  view_with from rows given = record { base = from; dimensions = rows; target = given }

  -- through a reference
  through_lies : (process number before : ℕ) (ks : List Kind) (rows : List Dimension) (given : Target) → RefersTo image process number ks → Chooses ks before rows given
      → fits_places image (view_with (base.Through number before) rows given) (images.places_of image process) ≡ true
  through_lies process number before ks rows given refers chooses =
      let view = view_with (base.Through number before) rows given in
      let memory : lies_from (shape_memory image refers.shape) 0 ks ≡ true = ap (λ l. lies_from (known l) 0 ks) refers.is ∙ known_lies ks in
      let same : 0 + before ≡ before = omega arith in
      ap (lies_through image view before) refers.there
      ∙ subst (λ m. all_lie image view (shape_memory image refers.shape) m ≡ true) same (view_lies (shape_memory image refers.shape) 0 before ks (base.Through number before) rows given memory chooses)

  -- a view of own places
  pub own_held : (process : ℕ) (site : Site) (declared before : ℕ) (ks : List Kind) (from : Base) (rows : List Dimension) (given : Target) → lies_from (own_memory (images.places_of image process)) (first_place site.places declared) ks ≡ true
      → base_of site declared before InPlaces ≡ Some from → Chooses ks before rows given → lies_in image process (view_with from rows given) ≡ true
  own_held process site declared before ks from rows given lies begins chooses =
      subst (λ b. lies_in image process (view_with b rows given) ≡ true) (sym (base_own site declared before from begins))
      (view_lies (own_memory (images.places_of image process)) (first_place site.places declared) before ks (base.Own (first_place site.places declared + before)) rows given lies chooses)

  -- a view of elements of data that hold
  pub held_lies : (process : ℕ) (site : Site) (declared : ℕ) (way : Storing) (shape : Shape) (before : ℕ) (from : Base) (rows : List Dimension) (given : Target) → Holds image process site declared way shape
      → base_of site declared before way ≡ Some from → Chooses (kinds_of shape) before rows given → lies_in image process (view_with from rows given) ≡ true
  held_lies process site declared (InCells group) shape before from rows given holds begins chooses =
      subst (λ b. lies_in image process (view_with b rows given) ≡ true) (sym (base_shared site group declared before from begins))
      (view_lies (shared_memory image) (first_cell site.set.phrases site.set.constants declared) before (kinds_of shape) (base.Shared (first_cell site.set.phrases site.set.constants declared + before)) rows given holds chooses)
  held_lies process site declared InPlaces shape before from rows given holds begins chooses = own_held process site declared before (kinds_of shape) from rows given holds begins chooses
  held_lies process site declared ByReference shape before from rows given holds begins chooses =
      subst (λ b. lies_in image process (view_with b rows given) ≡ true) (sym (base_through site declared before from begins))
      (through_lies process (first_place site.places declared) before (kinds_of shape) rows given holds chooses)
  held_lies process site declared Unstored shape before from rows given holds begins chooses = absurd (cc)

  only_first : (n : ℕ) → IsAmong n (offsets []) → n ≡ 0
  only_first n (inl is) = is
  only_first n (inr none) = absurd none

  -- one element
  pub one_chosen : (ks : List Kind) (before : ℕ) (k : Kind) → slice_get ks before ≡ Some k → Chooses ks before [] (target.Cell k)
  one_chosen ks before k there offset is =
      let same : before ≡ before + offset = (let none = only_first offset is in omega (arith, none)) in
      subst (λ m. StandFrom ks m (k ∷ [])) same (one_stands ks before k there)

  -- views of elements to which names lead
  pub elements_lie : (s : Set) → DataHold s image → CellsLie s image ForElement
  elements_lie s hold process site rows k from at one =
      let there = element_below one.path one.shape one.one one.single one.leads (base_low site one.declared one.one.before one.way from one.begins) in
      let lies = held_lies process site one.declared one.way one.shape one.one.before from [] (target.Cell one.one.kind) (hold process site one.name one.declared one.way one.shape at one.refers) one.begins
      (one_chosen (kinds_of one.shape) one.one.before one.one.kind there) in
      subst (λ ds. lies_in image process (cell_view from ds k) ≡ true) (sym one.plain) (subst (λ x. lies_in image process (cell_view from [] x) ≡ true) (sym one.kind) lies)
