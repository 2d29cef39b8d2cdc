-- Parts that are passed have the cells of their parameters.
use Rattle.std.specs.Prelude.{◌≡◌, ◌≤◌, ◌⊎◌, ◌+◌, ◌<◌, ℕ, Bool, true, false, List, [], ◌∷◌, Option, Some, None}
use Rattle.std.proofs.Common.{refl, sym, ap, subst, ◌∙◌, inl, inr}
use Rattle.hal_base.specs.declared.refusal.Place.{Place}
use Rattle.hal_grammar.specs.Leaves.{Naming}
use Rattle.hal_grammar.specs.Expressions.{Expressions, Referred, Reference, Refers, Subscript}
use Rattle.hal_grammar.specs.Declarations.{Kind, Attribute, Declared}
use Rattle.hal_grammar.specs.Units.{File}
use Rattle.hal_phrases.specs.declared.role.Role.TheVariants as roles
use Rattle.hal_phrases.specs.Phrases.{Phrase, OfItem}
use Rattle.hal_phrases.specs.GatheredUnits.{phrases_of}
use Rattle.hal_names.specs.Means.{means}
use Rattle.hal_scope.specs.Components.{has_component, meaning_has}
use Rattle.hal_scope.specs.Sorts.{type_of}
use Rattle.hal_scope.specs.Rules.{IsAmong, IsSound, rows}
use Rattle.hal_kinds.specs.declared.class.Class.TheVariants as class
use Rattle.hal_kinds.specs.Attributes.{sizes_of}
use Rattle.hal_kinds.specs.Data.{data_at, data_with, is_structure_type}
use Rattle.hal_kinds.specs.Subscripts.{is_structure_class}
use Rattle.hal_types.specs.Rules.{type_rows}
use Rattle.hal_constants.specs.Known.{Known, known}
use Rattle.hal_shapes.specs.Selections.{copies_at, copy_subs}
use Rattle.hal_shapes.specs.Arguments.{input_fits, input_named, output_fits, output_named}
use Rattle.hal_meaning.specs.Calls.{parameter_named}
use Rattle.hal_meaning.specs.Elements.{Shape, all_sizes, copy_size, kinds_of, offset, shape_of, sizes_given}
use Rattle.hal_meaning.specs.Sets.{Set, set_of}
use Rattle.hal_meaning.specs.Variables.{is_whole}
use Rattle.hal_agreement.specs.Sites.{Site}
use Rattle.hal_gen_expr.specs.Led.{Led, skips_led}
use Rattle.hal_gen_expr.specs.Numbering.{most}
use Rattle.hal_gen_expr.specs.Referents.{referent}
use Rattle.hal_storage.specs.referents.Referents.{DataOf}
use Rattle.hal_names.specs.Laws.{declared_or_around}
use Rattle.hal_right_images.proofs.views.Laying.{data_is}
use Rattle.hal_fit_names.specs.Suited.{HasFitLiterals}
use Rattle.hal_fit_names.specs.Used.{HaveSizes}
use Rattle.hal_fit_names.proofs.Placing.{items_are_placed}
use Rattle.hal_right_images.proofs.rows.Filled.{sizes_some}
use Rattle.hal_right_images.proofs.rows.Formed.{IsFormed}
use Rattle.hal_right_images.proofs.rows.LookingUp.{LooksUp}
use Rattle.hal_right_images.specs.areas.Structured.{is_structured}
use Rattle.hal_right_images.specs.areas.Reached.{AreReached, ChoiceReached}
use Rattle.hal_right_images.specs.areas.Sized.{AreKnown}
use Rattle.hal_right_images.proofs.areas.Agreeing.{KnowsConstants}
use Rattle.hal_right_images.proofs.areas.Calls.{Passes}
use Rattle.hal_right_images.proofs.areas.Classes.{item_typed}
use Rattle.hal_right_images.proofs.areas.Components.{IsComponent, component_stands}
use Rattle.hal_right_images.proofs.areas.Ends.{HasEnd, component_so, has_so, item_ends, no_group}
use Rattle.hal_right_images.proofs.areas.Inner.{never_input, never_output}
use Rattle.hal_right_images.proofs.areas.Parametered.{IsParameterFor, empty_shape, parameter_for}
use Rattle.hal_right_images.proofs.areas.Parameters.{KindsKnown, kind_known}
use Rattle.hal_right_images.proofs.areas.Parting.{IsParted, PartsKnown, component_of_it, inner_data, template_meant}
use Rattle.hal_right_images.proofs.areas.Plainly.{item_shape, plain_with}
use Rattle.hal_right_images.proofs.areas.Ranges.{IsLow, choice_reached, copies_reached}
use Rattle.hal_right_images.proofs.areas.Sizes.{item_extent}
use Rattle.hal_right_images.proofs.areas.TwinStructures.{parted_is}
use Rattle.hal_right_images.proofs.areas.Structures.{of_type}
use Rattle.hal_right_images.proofs.areas.Meaning.{IsGiven, IsGroupFor, IsItemFor, KnowsTemplates}
use Rattle.hal_right_images.proofs.areas.Standing.{Stands, none_stand}

module _ (files : List File) (turns : ℕ) (looks : LooksUp (phrases_of files)) (named : IsSound rows (phrases_of files)) (typed : IsSound type_rows (phrases_of files)) (literals : HasFitLiterals (phrases_of files)) (known_kinds : KindsKnown (phrases_of files))
    (dimensioned : HaveSizes (phrases_of files)) (parts_known : PartsKnown (phrases_of files)) (worths : KnowsConstants (set_of turns files)) (templates : KnowsTemplates (phrases_of files))
    (outward : (block : ℕ) (name : List ℕ) → means (phrases_of files) block name ≡ declared_or_around (phrases_of files) block name) where
  abbrev s : Set
  s = set_of turns files

  abbrev ps : List Phrase
  ps = phrases_of files

  abbrev vs : Known
  vs = known (phrases_of files)

  -- the sizes of data are known
  sized : (x : Phrase) (c : List Attribute) (i : Declared) (xs : Expressions) → IsAmong x ps → x.node ≡ OfItem c i → sizes_of c i ≡ Some xs → AreKnown ps vs x xs
  sized x c i xs within node is = (item_extent ps named typed looks.counted looks.meant literals x c i xs within node is (items_are_placed files looks.counted x within)).0

  module _ (site : Site) (set : site.set ≡ s) (place : Place) (name : List ℕ) (n : Naming) (ns : List Naming) (subscript : Subscript) (unit : ℕ) (parameter : Naming) (pass : Passes s site unit parameter (Refers place name (n ∷ ns) subscript))
      (unstructured : is_structured ps unit parameter ≡ false) (l : Led) (formed : IsFormed l.shape) (few : copy_size l.shape.components ≤ most)
      (path : l.path ≡ n ∷ ns) (mine : IsParted ps site.block name l) where
    abbrev given : Reference
    given = Refers place name (n ∷ ns) subscript

    -- names of parts lead to a part
    ended : (bottom : Bool) × HasEnd ps (template_meant mine) (n ∷ ns) bottom
    ended =
        let has : meaning_has ps site.block name (n ∷ ns) ≡ true =
        subst (λ b. meaning_has ps b name (n ∷ ns) ≡ true) (pass.says.block ∙ pass.block) (has_so ps named pass.says.phrase pass.says.among pass.role place name n ns subscript pass.says.is) in
        item_ends files looks named typed literals mine.number mine.phrase mine.common mine.item n ns mine.there mine.node (component_so ps site.block mine.number mine.phrase name (n ∷ ns) mine.means_it mine.there has)

    meant_here : means ps pass.phrase.around.block name ≡ Some mine.number
    meant_here = ap (λ b. means ps b name) pass.block ∙ mine.means_it

    -- rule 704
    places : (it : IsComponent ps mine.phrase (n ∷ ns) l) (sizes : Expressions) → it.sizes ≡ Some sizes → ChoiceReached ps vs pass.phrase site (all_sizes ps vs it.structure sizes) subscript
    places it sizes is =
        let has = it.extent_is sizes is in
        choice_reached ps named typed looks.counted looks.meant literals pass.phrase pass.role place name (n ∷ ns) subscript pass.says site (worths site set pass.phrase pass.block) mine.number meant_here mine.phrase mine.there
        it.structure sizes has.0 (sizes_some ps vs it.structure (Some sizes)) has.1

    copies : (c : ℕ) → copies_at ps vs mine.phrase mine.phrase.node ≡ Some c → 0 < c → IsLow c → AreReached ps vs pass.phrase site (c ∷ []) (copy_subs subscript)
    copies = copies_reached ps named typed looks.counted looks.meant literals pass.phrase pass.role place name (n ∷ ns) subscript pass.says site (worths site set pass.phrase pass.block) mine.number meant_here mine.phrase mine.there

    -- a parameter that is data
    module _ (one_for : IsParameterFor s unit pass.callee.declared parameter) where
      abbrev r : Phrase
      r = one_for.phrase

      fits_so : ((input_fits ps vs pass.phrase r (Referred given) (OfItem one_for.common one_for.item) ≡ true) × (is_whole (shape_of ps vs r one_for.common one_for.item) ≡ true))
          ⊎ ((output_fits ps vs pass.phrase r given (OfItem one_for.common one_for.item) ≡ true) × (pass.role ≡ roles.Output))
      fits_so = by pass.fits where
        by : ((input_named ps vs pass.phrase pass.callee.declared parameter (Referred given) ≡ true) × (is_whole (parameter_named s unit parameter).shape ≡ true))
            ⊎ ((output_named ps vs pass.phrase pass.callee.declared parameter given ≡ true) × (pass.role ≡ roles.Output))
            → ((input_fits ps vs pass.phrase r (Referred given) (OfItem one_for.common one_for.item) ≡ true) × (is_whole (shape_of ps vs r one_for.common one_for.item) ≡ true))
            ⊎ ((output_fits ps vs pass.phrase r given (OfItem one_for.common one_for.item) ≡ true) × (pass.role ≡ roles.Output))
        by (inl one) = inl (
          sym (ap (λ (o : Option Phrase). elim o [ None ↦ true | Some x ↦ input_fits ps vs pass.phrase x (Referred given) x.node ]) one_for.found ∙ ap (input_fits ps vs pass.phrase r (Referred given)) one_for.node) ∙ one.0,
          ap is_whole (sym one_for.shape) ∙ one.1,
        )
        by (inr one) = inr (
          sym (ap (λ (o : Option Phrase). elim o [ None ↦ true | Some x ↦ output_fits ps vs pass.phrase x given x.node ]) one_for.found ∙ ap (output_fits ps vs pass.phrase r given) one_for.node) ∙ one.0,
          one.1,
        )

      -- a part at the bottom
      bottom_stands : HasEnd ps (template_meant mine) (n ∷ ns) true → Stands site l subscript (kinds_of (shape_of ps vs r one_for.common one_for.item))
      bottom_stands end =
          let it = component_of_it files looks named typed literals parts_known site.block name n ns l path mine end in
          let type = item_typed ps typed r one_for.common one_for.item one_for.within one_for.node in
          let plain = ap is_structure_type (sym type.1) ∙ one_for.plain in
          let cells = kind_known ps known_kinds r one_for.common one_for.item type.0 one_for.within one_for.node type.1 plain one_for.stored in
          component_stands files looks named typed literals known_kinds pass.phrase site pass.block place name n ns subscript mine.number mine.means_it mine.phrase mine.there l formed few it (places it) copies
          r one_for.common one_for.item one_for.within one_for.node cells.0 one_for.plain cells.1 pass.says.phrase pass.says.among pass.role pass.says.is (pass.says.block ∙ pass.block) type.0 type.1 fits_so

      -- a part with parts is not passed
      never_passed : HasEnd ps (template_meant mine) (n ∷ ns) false → ⊥
      unfolding is_structure_class
      never_passed end = by fits_so where
        type : (kind : Kind) × (type_of one_for.common one_for.item ≡ Some kind)
        type = item_typed ps typed r one_for.common one_for.item one_for.within one_for.node

        plain : is_structure_type (Some type.0) ≡ false
        plain = ap is_structure_type (sym type.1) ∙ one_for.plain

        so : (copies : Bool) × (data_at ps mine.phrase (n ∷ ns) (OfItem mine.common mine.item) ≡ Some (data_with class.Structure 0 copies))
        so = inner_data files looks named typed literals parts_known site.block name n ns l mine end

        some : is_whole (shape_of ps vs r one_for.common one_for.item) ≡ true → sizes_of one_for.common one_for.item ≡ None → ⊥
        some whole none =
            let cells = kind_known ps known_kinds r one_for.common one_for.item type.0 one_for.within one_for.node type.1 plain one_for.stored in
            let shape = item_shape ps vs r one_for.common one_for.item cells.0 one_for.plain cells.1 ∙ ap (λ o. plain_with cells.0 (sizes_given ps vs r o)) none in
            absurd (let not_whole = sym (ap is_whole shape) ∙ whole in cc)

        by : ((input_fits ps vs pass.phrase r (Referred given) (OfItem one_for.common one_for.item) ≡ true) × (is_whole (shape_of ps vs r one_for.common one_for.item) ≡ true))
            ⊎ ((output_fits ps vs pass.phrase r given (OfItem one_for.common one_for.item) ≡ true) × (pass.role ≡ roles.Output)) → ⊥
        by (inl one) =
            never_input ps typed pass.phrase site.block pass.block place name n ns subscript mine.number mine.means_it mine.phrase mine.there pass.says.phrase pass.says.among pass.role pass.says.is (pass.says.block ∙ pass.block)
            mine.common mine.item mine.node (data_with class.Structure 0 so.0) so.1 vs refl r one_for.common one_for.item type.0 type.1 plain one.0 (some one.1)
        by (inr one) =
            never_output ps typed pass.phrase site.block pass.block place name n ns subscript mine.number mine.means_it mine.phrase mine.there pass.says.phrase pass.says.among pass.role pass.says.is (pass.says.block ∙ pass.block)
            mine.common mine.item mine.node (data_with class.Structure 0 so.0) so.1 vs refl r one_for.common one_for.item type.0 type.1 plain one.0

      data_stands : Stands site l subscript (kinds_of (shape_of ps vs r one_for.common one_for.item))
      data_stands = by ended.0 ended.1 where
        by : (bottom : Bool) → HasEnd ps (template_meant mine) (n ∷ ns) bottom → Stands site l subscript (kinds_of (shape_of ps vs r one_for.common one_for.item))
        by true end = bottom_stands end
        by false end = absurd (never_passed end)

    -- where what is passed stands
    part_stands : Stands site l subscript (kinds_of (parameter_named s unit parameter).shape)
    part_stands =
        by
        (parameter_for files turns looks typed known_kinds dimensioned (item_typed ps typed) sized pass.inside pass.called unit parameter pass.callee pass.listed unstructured)
      where
        by : IsParameterFor s unit pass.callee.declared parameter ⊎ ((parameter_named s unit parameter).shape ≡ empty_shape) → Stands site l subscript (kinds_of (parameter_named s unit parameter).shape)
        by (inl one) = subst (λ (x : Shape). Stands site l subscript (kinds_of x)) (sym one.shape) (data_stands one)
        by (inr none) = λ o among. none_stand (kinds_of l.shape) ((skips_led site subscript l + offset l.path l.shape.components) + o) (parameter_named s unit parameter).shape none

  -- whatever the name means
  module _ (site : Site) (set : site.set ≡ s) (place : Place) (name : List ℕ) (n : Naming) (ns : List Naming) (subscript : Subscript) (unit : ℕ) (parameter : Naming) (pass : Passes s site unit parameter (Refers place name (n ∷ ns) subscript))
      (unstructured : is_structured ps unit parameter ≡ false) (l : Led) (formed : IsFormed l.shape) (few : copy_size l.shape.components ≤ most)
      (path : l.path ≡ n ∷ ns) (are_data : referent site name ≡ DataOf l.declared l.stored l.shape) (given : IsGiven ps site.block name l) where
    has : has_component ps given.phrase (n ∷ ns) given.phrase.node ≡ true
    has =
        component_so ps site.block given.number given.phrase name (n ∷ ns) given.means_it given.there
        (subst (λ b. meaning_has ps b name (n ∷ ns) ≡ true) (pass.says.block ∙ pass.block) (has_so ps named pass.says.phrase pass.says.among pass.role place name n ns subscript pass.says.is))

    -- an item
    mine_of : IsItemFor ps given.phrase l → IsParted ps site.block name l
    mine_of one =
        let ended = item_ends files looks named typed literals given.number given.phrase one.common one.item n ns given.there one.node has in
        let of = of_type ps given.phrase one.common one.item ended.1.structure (type_of one.common one.item) refl ended.1.is in
        parted_is files turns looks named typed literals known_kinds templates outward site.block name l (data_is s site name l.declared l.stored l.shape set are_data) given.number given.means_it given.phrase given.there
        one.common one.item one.node of.place of.template of.copies of.typed

    pub named_part_stands : Stands site l subscript (kinds_of (parameter_named s unit parameter).shape)
    named_part_stands = by given.is where
      by : IsItemFor ps given.phrase l ⊎ IsGroupFor given.phrase l → Stands site l subscript (kinds_of (parameter_named s unit parameter).shape)
      by (inl one) = part_stands site set place name n ns subscript unit parameter pass unstructured l formed few path (mine_of one)
      by (inr group) = absurd (no_group ps given.phrase (n ∷ ns) group.labels group.variable group.node has)
