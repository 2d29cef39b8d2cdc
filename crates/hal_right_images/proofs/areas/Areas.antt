-- Areas of arguments lie where the data do that are passed.
use Rattle.std.specs.Prelude.{◌≡◌, ◌≤◌, ◌⊎◌, ◌+◌, ℕ, Bool, true, false, List, [], ◌∷◌, map, Option, Some, None, slice_get}
use Rattle.std.specs.List.{position, sum_by}
use Rattle.std.proofs.Common.{refl, sym, ap, subst, ◌∙◌, inl, inr}
use Rattle.hal_base.specs.declared.limits.TheConstants.{CELL_LIMIT}
use Rattle.hal_base.specs.declared.refusal.Place.{Place}
use Rattle.hal_grammar.specs.Leaves.{Naming}
use Rattle.hal_grammar.specs.Expressions.{Expressions, Referred, Refers, Subscript}
use Rattle.hal_grammar.specs.Declarations.{Attribute, Declared}
use Rattle.hal_grammar.specs.Units.{File}
use Rattle.hal_phrases.specs.declared.role.Role.TheVariants as roles
use Rattle.hal_phrases.specs.Phrases.{Phrase, OfItem}
use Rattle.hal_phrases.specs.GatheredUnits.{phrases_of}
use Rattle.hal_names.specs.Laws.{declared_or_around}
use Rattle.hal_names.specs.Means.{means}
use Rattle.hal_scope.specs.Rules.{IsAmong, IsSound, rows}
use Rattle.hal_kinds.specs.Attributes.{sizes_of}
use Rattle.hal_kinds.specs.Data.{is_structure_type}
use Rattle.hal_types.specs.Rules.{type_rows}
use Rattle.hal_values.specs.declared.value.Kind.{Kind}
use Rattle.hal_constants.specs.Known.{Known, known}
use Rattle.hal_shapes.specs.Arguments.{input_fits, input_named, output_fits, output_named}
use Rattle.hal_code.specs.declared.image.ImageParts.{ImageParts}
use Rattle.hal_code.specs.declared.row.Base.{Base}
use Rattle.hal_code.specs.declared.row.Dimension.{Dimension}
use Rattle.hal_code.specs.declared.row.Run.{Run}
use Rattle.hal_code.specs.declared.row.Target.TheVariants as target
use Rattle.hal_code.specs.Images as images
use Rattle.hal_code.specs.Images.{expanded, row_count}
use Rattle.hal_code.specs.Right.{cell_count}
use Rattle.hal_meaning.specs.Calls.{parameter_named}
use Rattle.hal_meaning.specs.Elements.{Shape, copy_size, kinds_of, offset, shape_of}
use Rattle.hal_meaning.specs.Sets.{Set, set_of}
use Rattle.hal_meaning.specs.Variables.{is_whole}
use Rattle.hal_agreement.specs.Sites.{Site}
use Rattle.hal_storage.specs.referents.Referents.{DataOf}
use Rattle.hal_gen_expr.specs.Led.{Led, first_chosen, rows_left, skips_led}
use Rattle.hal_gen_expr.specs.Numbering.{area_view, below, most, row_of, same_runs, shape_in}
use Rattle.hal_gen_expr.specs.Referents.{referent}
use Rattle.hal_gen_expr.specs.Shapes.{runs_of}
use Rattle.hal_gen_expr.proofs.Numbered.{below_is, first_is, then_is}
use Rattle.hal_gen_expr.proofs.Shaped.{kinds_found}
use Rattle.hal_link.specs.Shapes.{Shapes, shapes_of}
use Rattle.hal_fit_names.specs.Suited.{HasFitLiterals}
use Rattle.hal_fit_names.specs.Used.{HaveSizes}
use Rattle.hal_fit_names.proofs.Placing.{items_are_placed}
use Rattle.hal_right_images.specs.rows.Purposes.{IsSite, IsAreaFor}
use Rattle.hal_right_images.proofs.rows.Filled.{sizes_some}
use Rattle.hal_right_images.proofs.rows.Formed.{IsFormed, referent_formed}
use Rattle.hal_right_images.proofs.rows.LookingUp.{LooksUp}
use Rattle.hal_right_images.proofs.rows.Rules.{among_at}
use Rattle.hal_right_images.specs.views.Holding.{DataHold}
use Rattle.hal_right_images.specs.views.Lying.{lies_in, AreasLie}
use Rattle.hal_right_images.proofs.views.Bases.{base_low}
use Rattle.hal_right_images.proofs.views.ChosenViews.{led_is, moved_is}
use Rattle.hal_right_images.proofs.views.Held.{Chooses, StandFrom, held_lies}
use Rattle.hal_right_images.proofs.views.Laying.{data_is}
use Rattle.hal_right_images.proofs.views.Leading.{led_path}
use Rattle.hal_right_images.proofs.views.Limits.{copy_few}
use Rattle.hal_right_images.specs.areas.Structured.{is_structured}
use Rattle.hal_right_images.specs.areas.Sized.{AreKnown}
use Rattle.hal_right_images.proofs.areas.Agreeing.{KnowsConstants}
use Rattle.hal_right_images.proofs.areas.Arrays.{group_stands, item_stands}
use Rattle.hal_right_images.proofs.areas.Calls.{Passes, passes}
use Rattle.hal_right_images.proofs.areas.Classes.{item_typed}
use Rattle.hal_right_images.proofs.areas.Meaning.{IsGiven, IsGroupFor, IsItemFor, IsOwnItem, KnowsTemplates, given_is}
use Rattle.hal_right_images.proofs.areas.Parametered.{IsParameterFor, empty_shape, parameter_for}
use Rattle.hal_right_images.proofs.areas.Parameters.{KindsKnown, kind_known}
use Rattle.hal_right_images.proofs.areas.PartAreas.{named_part_stands}
use Rattle.hal_right_images.proofs.areas.PartWholes.{named_structure_stands}
use Rattle.hal_right_images.proofs.areas.Parting.{PartsKnown}
use Rattle.hal_right_images.proofs.areas.Ranges.{choice_reached, item_extent_at}
use Rattle.hal_right_images.proofs.areas.Sizes.{item_extent}
use Rattle.hal_right_images.proofs.areas.Standing.{Stands, none_stand}
use Rattle.hal_right_images.proofs.areas.TwinParameters.{IsStructureFor, structure_for}
use Rattle.hal_right_images.proofs.areas.TwinStructures.{given_item}
use Rattle.hal_right_images.proofs.areas.Wholes.{no_group, whole_stands}

module _ (files : List File) (turns : ℕ) (looks : LooksUp (phrases_of files)) (named : IsSound rows (phrases_of files)) (typed : IsSound type_rows (phrases_of files)) (literals : HasFitLiterals (phrases_of files)) (known_kinds : KindsKnown (phrases_of files))
    (templates : KnowsTemplates (phrases_of files)) (dimensioned : HaveSizes (phrases_of files)) (worths : KnowsConstants (set_of turns files)) (parts_known : PartsKnown (phrases_of files))
    (outward : (block : ℕ) (name : List ℕ) → means (phrases_of files) block name ≡ declared_or_around (phrases_of files) block name) where
  abbrev s : Set
  s = set_of turns files

  abbrev ps : List Phrase
  ps = phrases_of files

  abbrev vs : Known
  vs = known (phrases_of files)

  -- the sizes of data are known
  sized : (x : Phrase) (c : List Attribute) (i : Declared) (xs : Expressions) → IsAmong x ps → x.node ≡ OfItem c i → sizes_of c i ≡ Some xs → AreKnown ps vs x xs
  sized x c i xs within node is = (item_extent ps named typed looks.counted looks.meant literals x c i xs within node is (items_are_placed files looks.counted x within)).0

  -- an argument without names of parts
  module _ (site : Site) (set : site.set ≡ s) (place : Place) (name : List ℕ) (subscript : Subscript) (unit : ℕ) (parameter : Naming) (pass : Passes s site unit parameter (Refers place name [] subscript))
      (unstructured : is_structured ps unit parameter ≡ false) (l : Led) (formed : IsFormed l.shape) (few : copy_size l.shape.components ≤ most)
      (path : l.path ≡ []) (given : IsGiven ps site.block name l) where
    -- a parameter that is data
    module _ (one_for : IsParameterFor s unit pass.callee.declared parameter) where
      abbrev r : Phrase
      r = one_for.phrase

      abbrev common : List Attribute
      common = one_for.common

      abbrev item : Declared
      item = one_for.item

      fits_so : ((input_fits ps vs pass.phrase r (Referred (Refers place name [] subscript)) (OfItem common item) ≡ true) × (is_whole (shape_of ps vs r common item) ≡ true))
          ⊎ ((output_fits ps vs pass.phrase r (Refers place name [] subscript) (OfItem common item) ≡ true) × (pass.role ≡ roles.Output))
      fits_so = by pass.fits where
        by : ((input_named ps vs pass.phrase pass.callee.declared parameter (Referred (Refers place name [] subscript)) ≡ true) × (is_whole (parameter_named s unit parameter).shape ≡ true))
            ⊎ ((output_named ps vs pass.phrase pass.callee.declared parameter (Refers place name [] subscript) ≡ true) × (pass.role ≡ roles.Output))
            → ((input_fits ps vs pass.phrase r (Referred (Refers place name [] subscript)) (OfItem common item) ≡ true) × (is_whole (shape_of ps vs r common item) ≡ true))
            ⊎ ((output_fits ps vs pass.phrase r (Refers place name [] subscript) (OfItem common item) ≡ true) × (pass.role ≡ roles.Output))
        by (inl one) = inl (
          sym (ap (λ (o : Option Phrase). elim o [ None ↦ true | Some x ↦ input_fits ps vs pass.phrase x (Referred (Refers place name [] subscript)) x.node ]) one_for.found
              ∙ ap (input_fits ps vs pass.phrase r (Referred (Refers place name [] subscript))) one_for.node) ∙ one.0,
          ap is_whole (sym one_for.shape) ∙ one.1,
        )
        by (inr one) = inr (
          sym (ap (λ (o : Option Phrase). elim o [ None ↦ true | Some x ↦ output_fits ps vs pass.phrase x (Refers place name [] subscript) x.node ]) one_for.found
              ∙ ap (output_fits ps vs pass.phrase r (Refers place name [] subscript)) one_for.node) ∙ one.0,
          one.1,
        )

      data_stands : Stands site l subscript (kinds_of (shape_of ps vs r common item))
      data_stands =
          let type = item_typed ps typed r common item one_for.within one_for.node in
          let plain = ap is_structure_type (sym type.1) ∙ one_for.plain in
          let cells = kind_known ps known_kinds r common item type.0 one_for.within one_for.node type.1 plain one_for.stored in
          let within = among_at ps given.number given.phrase given.there in
          by given.is
          (λ one.
          item_stands files looks named typed literals known_kinds pass.phrase site pass.block place name subscript given.number given.means_it given.phrase given.there within l formed few path
          r common item one_for.within one_for.node cells.0 one_for.plain cells.1 pass.says.phrase pass.says.among pass.role pass.says.is (pass.says.block ∙ pass.block) type.0 type.1 one.common one.item one.node one.shape one.stored
          (λ sizes extent_so short.
          choice_reached ps named typed looks.counted looks.meant literals pass.phrase pass.role place name [] subscript pass.says site (worths site set pass.phrase pass.block) given.number (ap (λ b. means ps b name) pass.block ∙ given.means_it)
          given.phrase given.there given.phrase sizes (item_extent_at ps vs given.phrase one.common one.item one.node sizes extent_so) (sizes_some ps vs given.phrase (Some sizes)) short)
          fits_so)
          (λ one.
          group_stands files looks named typed literals known_kinds pass.phrase site pass.block place name subscript given.number given.means_it given.phrase given.there within l formed few path
          r common item one_for.within one_for.node cells.0 one_for.plain cells.1 pass.says.phrase pass.says.among pass.role pass.says.is (pass.says.block ∙ pass.block) type.0 type.1 one.labels one.variable one.node one.shape fits_so)
        where
          by : IsItemFor ps given.phrase l ⊎ IsGroupFor given.phrase l → (IsItemFor ps given.phrase l → Stands site l subscript (kinds_of (shape_of ps vs r common item)))
              → (IsGroupFor given.phrase l → Stands site l subscript (kinds_of (shape_of ps vs r common item))) → Stands site l subscript (kinds_of (shape_of ps vs r common item))
          by (inl one) items groups = items one
          by (inr one) items groups = groups one

    -- where what is passed stands
    pub argument_stands : Stands site l subscript (kinds_of (parameter_named s unit parameter).shape)
    argument_stands =
        by
        (parameter_for files turns looks typed known_kinds dimensioned (item_typed ps typed) sized pass.inside pass.called unit parameter pass.callee pass.listed unstructured)
      where
        by : IsParameterFor s unit pass.callee.declared parameter ⊎ ((parameter_named s unit parameter).shape ≡ empty_shape) → Stands site l subscript (kinds_of (parameter_named s unit parameter).shape)
        by (inl one) = subst (λ (x : Shape). Stands site l subscript (kinds_of x)) (sym one.shape) (data_stands one)
        by (inr none) = λ o among. none_stand (kinds_of l.shape) ((skips_led site subscript l + offset l.path l.shape.components) + o) (parameter_named s unit parameter).shape none

  -- in an image
  module _ (image : ImageParts) (shapes : shapes_of (set_of turns files) ≡ image.shapes) (cells : cell_count image ≤ CELL_LIMIT) (rows_few : sum_by (λ (runs : List (Run Kind)). row_count runs) image.shapes ≤ 1048576) where
    -- the shape that is found has the parameter's kinds
    shape_kinds : (runs : List (Run Kind)) (number : ℕ) (form : Shape) → runs ≡ runs_of form → shape_in (shapes_of s) runs ≡ Some number → images.kinds_of image number ≡ kinds_of form
    shape_kinds runs number form is at =
        let there : shape_in (shapes_of s) (runs_of form) ≡ Some number = ap (shape_in (shapes_of s)) (sym is) ∙ at in
        let place = then_is (below most) (position (λ found. same_runs found (runs_of form)) (shapes_of s)) number there in
        let same : place.0 ≡ number = below_is most place.0 number place.2 in
        let one = first_is (λ found. same_runs found (runs_of form)) (shapes_of s) place.0 place.1 in
        ap (λ (x : Shapes). elim (slice_get x number) [ None ↦ [] | Some found ↦ expanded found ]) (sym shapes)
        ∙ (ap (λ (o : Option (List (Run Kind))). elim o [ None ↦ [] | Some found ↦ expanded found ]) (ap (slice_get (shapes_of s)) (sym same) ∙ one.1) ∙ kinds_found one.0 form one.2)

    -- what is passed by an area stands where it is to
    module _ (process : ℕ) (site : Site) (rows_ : List Dimension) (shape : ℕ) (from : Base) (at : IsSite s process site) (one : IsAreaFor (shapes_of s) site rows_ shape from) (few : copy_size one.led.shape.components ≤ most) where
      set : site.set ≡ s
      set = ap (λ (x : Site). x.set) at.is

      are_data : referent site one.name ≡ DataOf one.led.declared one.led.stored one.led.shape
      are_data = led_is one.path (referent site one.name) one.led one.leads

      formed : IsFormed one.led.shape
      formed = referent_formed site.set.phrases site.set.constants site.block one.name one.led.declared one.led.stored one.led.shape are_data

      -- what declares the data
      given : IsGiven ps site.block one.name one.led
      given = given_is files turns looks templates known_kinds (item_typed ps typed) sized site set one.name one.led are_data

      own_item : IsItemFor ps given.phrase one.led → IsOwnItem ps site.block one.name one.led
      own_item = given_item files turns looks named typed literals known_kinds templates outward site.block one.name one.led (data_is s site one.name one.led.declared one.led.stored one.led.shape set are_data) given

      abbrev PassesBy : List Naming → Type 0
      PassesBy path = Passes s site one.unit one.parameter (Refers one.place one.name path one.subscript)

      abbrev Wanted : Type 0
      Wanted = Stands site one.led one.subscript (kinds_of (parameter_named s one.unit one.parameter).shape)

      -- a structure without names of parts, or copies of it
      whole_here : PassesBy [] → one.led.path ≡ [] → is_structured ps one.unit one.parameter ≡ true → Wanted
      whole_here pass path structured = by given.is where
        for_it : IsStructureFor s one.unit pass.callee.declared one.parameter
        for_it = structure_for files turns looks named typed literals known_kinds dimensioned templates outward pass.inside pass.called one.unit one.parameter pass.callee pass.listed structured

        by : IsItemFor ps given.phrase one.led ⊎ IsGroupFor given.phrase one.led → Wanted
        by (inl item) =
            whole_stands files turns looks named typed literals site one.place one.name one.unit one.parameter one.subscript pass for_it one.led path (own_item item) formed few (worths site set pass.phrase pass.block)
        by (inr group) =
            absurd (no_group files turns looks named typed literals site one.place one.name one.unit one.parameter one.subscript pass for_it given.number given.phrase group.labels group.variable given.means_it given.there group.node)

      -- for a structure, or for an array or one value
      by_path : (path : List Naming) → PassesBy path → one.led.path ≡ path → (structured : Bool) → is_structured ps one.unit one.parameter ≡ structured → Wanted
      by_path [] pass path true is = whole_here pass path is
      by_path [] pass path false is = argument_stands site set one.place one.name one.subscript one.unit one.parameter pass is one.led formed few path given
      by_path (n ∷ ns) pass path true is =
          named_structure_stands files turns looks named typed literals parts_known known_kinds dimensioned templates worths outward site set one.place one.name n ns one.subscript one.unit one.parameter pass is one.led formed few path are_data given
      by_path (n ∷ ns) pass path false is =
          named_part_stands files turns looks named typed literals known_kinds dimensioned parts_known worths templates outward site set one.place one.name n ns one.subscript one.unit one.parameter pass is one.led formed few path are_data given

      area_stands : Wanted
      area_stands =
          by_path one.path (passes files turns looks templates named typed site set one.unit one.parameter (Refers one.place one.name one.path one.subscript) one.passed) (led_path one.path (referent site one.name) one.led one.leads)
          (is_structured ps one.unit one.parameter) refl

    -- so all lie where the data do
    pub areas_lie : DataHold s image → AreasLie s image
    areas_lie hold process site rows_ shape from at one =
        let set_here : site.set ≡ s = ap (λ (x : Site). x.set) at.is in
        let l : Led = one.led in
        let data_here = led_is one.path (referent site one.name) l one.leads in
        let formed = referent_formed site.set.phrases site.set.constants site.block one.name l.declared l.stored l.shape data_here in
        let holds = hold process site one.name l.declared l.stored l.shape at data_here in
        let few = copy_few image cells rows_few process site l.declared l.stored l.shape (first_chosen site one.subscript l).before from formed.copies holds one.begins in
        let stands = area_stands process site rows_ shape from at one few in
        let place = moved_is (skips_led site one.subscript l) (offset l.path l.shape.components) (base_low site l.declared (first_chosen site one.subscript l).before l.stored from one.begins) in
        let kinds : images.kinds_of image shape ≡ kinds_of (parameter_named s one.unit one.parameter).shape =
        shape_kinds one.runs shape (parameter_named s one.unit one.parameter).shape (one.own ∙ ap (λ (x : Set). runs_of (parameter_named x one.unit one.parameter).shape) set_here) one.numbered in
        let chooses : Chooses image (kinds_of l.shape) (first_chosen site one.subscript l).before (map row_of (rows_left one.subscript l)) (target.Shape shape) =
        (λ o is.
        subst (λ m. StandFrom (kinds_of l.shape) (m + o) (images.kinds_of image shape)) (sym place)
        (subst (λ ks. StandFrom (kinds_of l.shape) ((skips_led site one.subscript l + offset l.path l.shape.components) + o) ks) (sym kinds) (stands o is))) in
        let lies = held_lies image process site l.declared l.stored l.shape (first_chosen site one.subscript l).before from (map row_of (rows_left one.subscript l)) (target.Shape shape) holds one.begins chooses in
        subst (λ ds. lies_in image process (area_view from ds shape) ≡ true) (sym one.dimensions) lies
