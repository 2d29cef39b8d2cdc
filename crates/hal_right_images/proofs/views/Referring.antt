-- References to the data of ASSIGN parameters lead to shapes that have their kinds.
use Rattle.std.specs.Prelude.{◌≡◌, ◌≤◌, ℕ, List, [], map, Option, Some, None, slice_get}
use Rattle.std.specs.List.{sum_by}
use Rattle.std.proofs.Common.{refl, sym, ap, subst, ◌∙◌}
use Rattle.hal_grammar.specs.Units.{File}
use Rattle.hal_phrases.specs.GatheredUnits.{phrases_of}
use Rattle.hal_phrases.specs.Phrases.{Phrase, OfItem}
use Rattle.hal_names.specs.declared.key.Space.TheVariants as space
use Rattle.hal_names.specs.Keys.{key, own}
use Rattle.hal_scope.specs.Rules.{IsSound, IsAmong, rows}
use Rattle.hal_constants.specs.Known.{known}
use Rattle.hal_values.specs.declared.value.Kind.{Kind}
use Rattle.hal_code.specs.declared.image.ImageParts.{ImageParts}
use Rattle.hal_code.specs.declared.row.OwnPlace.{OwnPlace}
use Rattle.hal_code.specs.declared.row.OwnPlace.TheVariants as place
use Rattle.hal_code.specs.declared.row.Run.{Run}
use Rattle.hal_code.specs.Images as images
use Rattle.hal_code.specs.Images.{expanded, row_count}
use Rattle.hal_code.specs.Memory.{shape_of_place, referred_shape}
use Rattle.hal_meaning.specs.Bodies.{Body, processes_of}
use Rattle.hal_meaning.specs.Calls.{Parameter, parameter_named, outputs_of}
use Rattle.hal_meaning.specs.Elements.{kinds_of, shape_of}
use Rattle.hal_meaning.specs.Expressions.{outputs_at}
use Rattle.hal_meaning.specs.Places.{ByReference, places_at, places_of, places_of_item, unit_numbers}
use Rattle.hal_meaning.specs.ReportNames.{first_place}
use Rattle.hal_meaning.specs.Sets.{Set, body_at, set_of}
use Rattle.hal_gen_expr.specs.Shapes.{runs_of}
use Rattle.hal_gen_expr.proofs.Shaped.{kinds_found}
use Rattle.hal_link.specs.Linking.{own_row}
use Rattle.hal_link.specs.Shapes.{Shapes, shapes_of}
use Rattle.hal_fit_layout.specs.Owned.{LiesIn, AreStored}
use Rattle.hal_fit_layout.proofs.Owned.{lies_in_process}
use Rattle.hal_fit_layout.proofs.Parameters.{parameter_is}
use Rattle.hal_right_images.proofs.rows.Alone.{AreKept, has_same, shapes_kept}
use Rattle.hal_right_images.proofs.rows.LookingUp.{LooksUp}
use Rattle.hal_right_images.proofs.rows.Numbered.{reference_stored}
use Rattle.hal_right_images.proofs.rows.Purposed.{each_among}
use Rattle.hal_right_images.proofs.rows.Referred.{HasShape, have_outputs, stored_refers}
use Rattle.hal_right_images.specs.rows.Parts.{HaveParts}
use Rattle.hal_right_images.specs.views.Holding.{ReferencesHold}

-- an own place that refers to a shape
refers_there : (places : List OwnPlace) (number shape : ℕ) → referred_shape places number ≡ Some shape → slice_get places number ≡ Some (place.Reference shape)
refers_there places number shape is = by (slice_get places number) refl is where
  of_place : (one : OwnPlace) → shape_of_place one ≡ Some shape → one ≡ place.Reference shape
  of_place (place.Data kind initial) so = absurd (cc)
  of_place (place.Reference other) so = ap place.Reference (let same : other ≡ shape = cc in same)

  by : (o : Option OwnPlace) → slice_get places number ≡ o → elim o [ None ↦ None | Some one ↦ shape_of_place one ] ≡ Some shape → o ≡ Some (place.Reference shape)
  by None there so = absurd (cc)
  by (Some one) there so = ap Some (of_place one so)

module _ (files : List File) (looks : LooksUp (phrases_of files)) (sound : IsSound rows (phrases_of files)) (parts : HaveParts (phrases_of files)) (turns : ℕ) (image : ImageParts) (shapes : shapes_of (set_of turns files) ≡ image.shapes)
    (few : sum_by (λ (runs : List (Run Kind)). row_count runs) image.shapes ≤ 1048576)
    (laid : (process its : ℕ) → slice_get (processes_of (phrases_of files)) process ≡ Some its
    → images.places_of image process ≡ map (own_row (set_of turns files) (shapes_of (set_of turns files))) (places_of (phrases_of files) (known (phrases_of files)) its))
    (outputs : (unit : ℕ) → AreStored (set_of turns files) unit (outputs_at (set_of turns files) unit) ByReference)
    (units : (home : ℕ) (b : Body) → body_at (set_of turns files) home ≡ Some b → (n : ℕ) × (slice_get (unit_numbers (phrases_of files)) n ≡ Some home)) where
  abbrev s : Set
  s = set_of turns files

  kept : AreKept image.shapes
  kept = subst AreKept shapes (shapes_kept s)

  pub references_hold : ReferencesHold s image
  references_hold process its m p common item own_unit there node first stored reaches =
      let one = reference_stored files looks sound parts turns p common item stored in
      let named : IsAmong one.name (outputs_at s p.around.home) =
      subst (λ (o : Option Body). IsAmong one.name (elim o [ None ↦ [] | Some b ↦ outputs_of b.head ])) (sym one.found) one.named in
      let have = subst (λ (x : Shapes). HasShape s x p.around.home one.name) shapes (each_among (HasShape s (shapes_of s) p.around.home) (outputs_at s p.around.home) one.name (have_outputs s p.around.home (outputs p.around.home)) named) in
      let same = has_same image.shapes kept few (runs_of (parameter_named s p.around.home one.name).shape) have in
      let kinds : images.kinds_of image same.place ≡ kinds_of (parameter_named s p.around.home one.name).shape =
      ap (λ o. elim o [ None ↦ [] | Some runs ↦ expanded runs ]) same.there ∙ kinds_found same.found (parameter_named s p.around.home one.name).shape same.same in
      let its_own = one.stored.found in
      let key_same : key space.Declared p.around.home one.name.name ≡ key space.Declared p.around.home item.name.name = ap (λ n. key space.Declared p.around.home n) one.its_name in
      let number : one.stored.number ≡ m = (let both : own s.phrases (key space.Declared p.around.home item.name.name) ≡ Some one.stored.number = subst (λ k. own s.phrases k ≡ Some one.stored.number) key_same its_own in cc) in
      let phrase : one.stored.phrase ≡ p = (let at : slice_get s.phrases m ≡ Some one.stored.phrase = subst (λ n. slice_get s.phrases n ≡ Some one.stored.phrase) number one.stored.there in cc) in
      let unit = units p.around.home one.body one.found in
      let lies = lies_in_process s.phrases s.constants looks.counted p.around.home m p there refl its unit.0 unit.1 reaches in
      let places = places_of s.phrases s.constants its in
      let owned : LiesIn places one.stored.phrase.number (places_of_item s.phrases s.constants one.stored.phrase one.stored.common one.stored.item ByReference) =
      subst (λ way. LiesIn places one.stored.phrase.number (places_of_item s.phrases s.constants one.stored.phrase one.stored.common one.stored.item way)) one.stored.stored_so
      (subst (λ n. LiesIn places one.stored.phrase.number (places_at s.phrases s.constants one.stored.phrase n)) one.stored.node
      (subst (λ (x : Phrase). LiesIn places x.number (places_at s.phrases s.constants x x.node)) (sym phrase) (subst (λ n. LiesIn places n (places_at s.phrases s.constants p p.node)) (sym (looks.counted m p there)) lies))) in
      let rows_laid = laid process its own_unit ∙ ap (λ (x : Shapes). map (own_row s x) places) shapes in
      let refers = stored_refers s looks.counted image kept few (images.places_of image process) places rows_laid p.around.home one.name one.stored owned have same.place kinds in
      let parameter = parameter_is s p.around.home one.name ByReference one.stored in
      let place_is : (parameter_named s p.around.home one.name).number ≡ m = ap (λ (q : Parameter). q.number) parameter ∙ (ap (λ (x : Phrase). x.number) phrase ∙ looks.counted m p there) in
      let items : OfItem one.stored.common one.stored.item ≡ OfItem common item = sym one.stored.node ∙ (ap (λ (x : Phrase). x.node) phrase ∙ node) in
      let shape_is : (parameter_named s p.around.home one.name).shape ≡ shape_of s.phrases s.constants p common item =
      ap (λ (q : Parameter). q.shape) parameter ∙ (ap (λ (x : Phrase). shape_of s.phrases s.constants x one.stored.common one.stored.item) phrase ∙ (let cs : one.stored.common ≡ common = cc in let is : one.stored.item ≡ item = cc in ap (λ c. shape_of s.phrases s.constants p c one.stored.item) cs ∙ ap (shape_of s.phrases s.constants p common) is)) in
      record {
        shape = same.place;
        there = subst (λ n. slice_get (images.places_of image process) (first_place places n) ≡ Some (place.Reference same.place)) place_is (refers_there (images.places_of image process) (first_place places (parameter_named s p.around.home one.name).number) same.place refers);
        is = kinds ∙ ap kinds_of shape_is;
      }
