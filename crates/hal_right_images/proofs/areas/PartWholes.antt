-- A part with parts that is passed for a structure has its cells.
use Rattle.std.specs.Option.{is_some, option_and_then, option_map}
use Rattle.std.specs.Prelude.{◌≡◌, ◌||◌, ◌⊎◌, nat_lt, ℕ, Bool, true, false, List, ◌∷◌, Option, Some, None, slice_get, if◌then◌else◌, ◌+◌, flat_map, unwrap_or, ◌≤◌}
use Rattle.std.proofs.Common.{refl, ap, subst, ◌∙◌, sym, inl, inr, append-nil}
use Rattle.std.proofs.lemmas.Bool.{and_parts}
use Rattle.hal_base.specs.declared.refusal.Place.{Place}
use Rattle.hal_values.specs.declared.value.Kind as values
use Rattle.hal_values.specs.declared.value.Value.{Value}
use Rattle.hal_grammar.specs.Declarations.{StructureKind, Kind}
use Rattle.hal_grammar.specs.Expressions.{Expression, Expressions, Refers, Subscript, Unsubscripted, ByParts, NoSubscripts, Subscripts, MoreSubscripts, Every, Range, Portion, One as OnePlace, Position, Sub}
use Rattle.hal_grammar.specs.Leaves.{Naming}
use Rattle.hal_grammar.specs.Units.{File}
use Rattle.hal_phrases.specs.GatheredUnits.{phrases_of}
use Rattle.hal_phrases.specs.Phrases.{Phrase, OfItem, phrase}
use Rattle.hal_names.specs.Laws.{declared_or_around}
use Rattle.hal_names.specs.Means.{means}
use Rattle.hal_scope.specs.Components.{has_component, meaning_has}
use Rattle.hal_scope.specs.Rules.{IsSound, rows, ruled}
use Rattle.hal_scope.specs.Sorts.{type_of}
use Rattle.hal_kinds.specs.declared.choice.Choice.{Choice}
use Rattle.hal_kinds.specs.declared.class.Class.{Class}
use Rattle.hal_kinds.specs.declared.data.Data.{Data}
use Rattle.hal_kinds.specs.declared.class.Class.TheVariants as class
use Rattle.hal_kinds.specs.Classes.{class_of_reference}
use Rattle.hal_kinds.specs.Data.{class_of_type, data_at, data_with, is_structure_type}
use Rattle.hal_kinds.specs.Subscripts.{chosen, class_in, is_many, is_miscounted, is_structure_class, has_copies_left, has_places_left}
use Rattle.hal_constants.specs.declared.constant.Constant.TheVariants as constant
use Rattle.hal_constants.specs.Constants.{constant_of}
use Rattle.hal_constants.specs.Known.{Known, known}
use Rattle.hal_sizes.specs.Sizes.{copies_by, copies_of, size_in}
use Rattle.hal_attributes.specs.Levels.{misleveled}
use Rattle.hal_shapes.specs.Arguments.{fits_parts}
use Rattle.hal_shapes.specs.Selections.{copies_left, copy_subs, declared_for, structure_of}
use Rattle.hal_shapes.specs.Shapes.{all_parts, fills, is_excused, is_one_copy, is_whole_structure, may_count, parts_reached, same_structures, structure_argument}
use Rattle.hal_uses.specs.Subscripts.{is_string}
use Rattle.hal_types.specs.Rules.{attribute_rows, type_rows}
use Rattle.hal_meaning.specs.Calls.{parameter_named}
use Rattle.hal_meaning.specs.Elements.{Component, Shape, components_at, copy_size, kinds_of, kinds_of_component, size_given, times, offset}
use Rattle.hal_meaning.specs.Sets.{Set, set_of}
use Rattle.hal_storage.specs.referents.Referents.{DataOf}
use Rattle.hal_agreement.specs.Sites.{Site}
use Rattle.hal_fit_rules.proofs.Unbroken.{ruled_none, unbroken}
use Rattle.hal_gen_expr.specs.Constants as code
use Rattle.hal_gen_expr.specs.Led.{Led}
use Rattle.hal_gen_expr.specs.Numbering.{most}
use Rattle.hal_gen_expr.specs.Referents.{referent}
use Rattle.hal_fit_names.specs.Suited.{HasFitLiterals}
use Rattle.hal_fit_names.specs.Used.{HaveSizes}
use Rattle.hal_fit_names.proofs.MeantItems.{of_attributes}
use Rattle.hal_fit_names.proofs.Placing.{items_are_placed}
use Rattle.hal_fit_parts.proofs.Standing.{parts_stand}
use Rattle.hal_right_images.proofs.rows.Filled.{size_some}
use Rattle.hal_right_images.proofs.rows.Formed.{IsFormed}
use Rattle.hal_right_images.proofs.rows.LookingUp.{LooksUp}
use Rattle.hal_right_images.proofs.rows.Rules.{among_at}
use Rattle.hal_right_images.proofs.views.Laying.{data_is}
use Rattle.hal_right_images.specs.areas.InCopies.{Fills, StandInCopy}
use Rattle.hal_right_images.specs.areas.Structured.{is_structured}
use Rattle.hal_right_images.specs.areas.Reached.{IsReached}
use Rattle.hal_right_images.proofs.areas.Agreeing.{KnowsConstants}
use Rattle.hal_right_images.proofs.areas.Calls.{Passes}
use Rattle.hal_right_images.proofs.areas.Classes.{plain_class}
use Rattle.hal_right_images.proofs.areas.Components.{part_data, part_calm, part_class}
use Rattle.hal_right_images.proofs.areas.Copies.{alone_in, several_reached}
use Rattle.hal_right_images.proofs.areas.EndCells.{end_cells}
use Rattle.hal_right_images.proofs.areas.Ending.{IsEnd}
use Rattle.hal_right_images.proofs.areas.Filling.{filled}
use Rattle.hal_right_images.proofs.areas.FullParts.{all_form, one_or, several_form, whole_form}
use Rattle.hal_right_images.proofs.areas.Ends.{HasEnd, component_so, has_so, item_ends, no_group}
use Rattle.hal_right_images.proofs.areas.Fitting.{IsStructured, fitting as fitted, structured_parameter}
use Rattle.hal_right_images.proofs.areas.Inner.{path_class, path_counted, path_single}
use Rattle.hal_right_images.proofs.areas.Meaning.{IsGiven, IsGroupFor, IsItemFor, IsOwnItem, KnowsTemplates}
use Rattle.hal_right_images.proofs.areas.Parameters.{KindsKnown}
use Rattle.hal_right_images.proofs.areas.PartCopies.{part_of_copy_stands}
use Rattle.hal_right_images.proofs.areas.Parting.{IsParted, PartsKnown, component_of_it, inner_copied, template_meant}
use Rattle.hal_right_images.proofs.areas.Ranges.{size_low}
use Rattle.hal_right_images.proofs.areas.Standing.{Stands}
use Rattle.hal_right_images.proofs.areas.Structures.{IsOf, alike, copies_there, follow_each_other, copies_known, counted_copies, counts, none_for, one_left, structured_shape, of_type}
use Rattle.hal_right_images.proofs.areas.TwinParameters.{IsStructureFor, structure_for}
use Rattle.hal_right_images.proofs.areas.TwinStructures.{given_item}
use Rattle.hal_right_images.proofs.areas.Unarrayed.{form_of}

-- a part at the bottom is no structure
part_unwhole : (kind : Kind) (sizes : Option Expressions) (copied : Bool) (c : Choice) → is_structure_type (Some kind) ≡ false → is_whole_structure (Some (class_in (part_data kind sizes copied) c)) ≡ false
unfolding is_whole_structure
part_unwhole kind sizes copied c plain = ap (λ x. is_whole_structure (Some x)) (part_class kind sizes copied c plain) ∙ either (has_copies_left (part_data kind sizes copied) c || has_places_left (part_data kind sizes copied) c) where
  either : (b : Bool) → is_whole_structure (Some (if b then class.Array else class_of_type kind)) ≡ false
  either true = refl
  either false = plain_class kind plain

module _ (files : List File) (turns : ℕ) (looks : LooksUp (phrases_of files)) (named : IsSound rows (phrases_of files)) (typed : IsSound type_rows (phrases_of files)) (literals : HasFitLiterals (phrases_of files)) (parts_known : PartsKnown (phrases_of files)) where
  abbrev s : Set
  s = set_of turns files

  abbrev ps : List Phrase
  ps = phrases_of files

  abbrev vs : Known
  vs = known (phrases_of files)

  -- what is passed to a parameter that is a structure
  module _ (site : Site) (place : Place) (name : List ℕ) (n : Naming) (ns : List Naming) (unit : ℕ) (parameter : Naming) (x : Subscript) (pass : Passes s site unit parameter (Refers place name (n ∷ ns) x)) (for_it : IsStructureFor s unit pass.callee.declared parameter)
      (l : Led) (path : l.path ≡ n ∷ ns) (mine : IsOwnItem ps site.block name l) (formed : IsFormed l.shape) (few : copy_size l.shape.components ≤ most)
      (worth : (t : Expression) (v : Value) → constant_of ps vs pass.phrase t ≡ constant.Worth v → code.value_of site t ≡ Some v) where
    abbrev its : IsStructured s unit pass.callee.declared parameter
    its = structured_parameter files turns looks named typed literals unit pass.callee.declared parameter for_it

    abbrev Fits : Option Class → Type 0
    Fits c = fits_parts ps vs pass.phrase its.phrase its.common its.item c (Some (Refers place name (n ∷ ns) x)) ≡ true

    -- rule 705
    fit_by : (c : Option Class) → class_of_reference ps pass.phrase.around.block (Refers place name (n ∷ ns) x) ≡ c → is_excused c ≡ false → Fits c
    fit_by c is calm = fitted files turns looks named typed literals site place name unit parameter (n ∷ ns) x pass for_it c is calm

    abbrev parted : IsParted ps site.block name l
    parted = record { number = mine.number; means_it = mine.means_it; phrase = mine.phrase; there = mine.there; common = mine.common; item = mine.item; node = mine.node; components = ap (λ (y : Shape). y.components) mine.shape }

    -- names of parts lead to a part
    ended : (bottom : Bool) × HasEnd ps (template_meant parted) (n ∷ ns) bottom
    ended =
        let has : meaning_has ps site.block name (n ∷ ns) ≡ true =
        subst (λ b. meaning_has ps b name (n ∷ ns) ≡ true) (pass.says.block ∙ pass.block) (has_so ps named pass.says.phrase pass.says.among pass.role place name n ns x pass.says.is) in
        item_ends files looks named typed literals mine.number mine.phrase mine.common mine.item n ns mine.there mine.node (component_so ps site.block mine.number mine.phrase name (n ∷ ns) mine.means_it mine.there has)

    -- the class of what is passed
    class_by : (d : Data) → data_at ps mine.phrase (n ∷ ns) (OfItem mine.common mine.item) ≡ Some d → class_of_reference ps pass.phrase.around.block (Refers place name (n ∷ ns) x) ≡ Some (class_in d (chosen d x))
    class_by d is =
        path_class ps typed pass.phrase site.block pass.block place name n ns x mine.number mine.means_it mine.phrase mine.there pass.says.phrase pass.says.among pass.role pass.says.is (pass.says.block ∙ pass.block) mine.common mine.item mine.node d is

    -- a part at the bottom is not passed
    never_bottom : HasEnd ps (template_meant parted) (n ∷ ns) true → ⊥
    never_bottom end =
        let it = component_of_it files looks named typed literals parts_known site.block name n ns l path parted end in
        let d = part_data it.type_ it.sizes it.copied in
        let data_so : data_at ps mine.phrase (n ∷ ns) (OfItem mine.common mine.item) ≡ Some d =
        ap (data_at ps mine.phrase (n ∷ ns)) (sym mine.node ∙ it.node) ∙ it.data_is in
        let fits = fit_by (Some (class_in d (chosen d x))) (class_by d data_so) (part_calm it.type_ it.sizes it.copied (chosen d x) it.plain) in
        let whole = and_parts (is_whole_structure (Some (class_in d (chosen d x))))
        (structure_argument ps vs pass.phrase (structure_of ps its.phrase.around.block (type_of its.common its.item)) (copies_of ps vs its.phrase (type_of its.common its.item)) (Some (Refers place name (n ∷ ns) x))) fits in
        absurd (let no_ = sym (part_unwhole it.type_ it.sizes it.copied (chosen d x) it.plain) ∙ whole.0 in cc)

    -- a part with parts
    module _ (end : HasEnd ps (template_meant parted) (n ∷ ns) false) where
      abbrev of : IsOf ps mine.phrase mine.common mine.item end.structure
      of = of_type ps mine.phrase mine.common mine.item end.structure (type_of mine.common mine.item) refl end.is

      abbrev d : Data
      d = data_with class.Structure 0 (is_some of.copies)

      data_so : data_at ps mine.phrase (n ∷ ns) (OfItem mine.common mine.item) ≡ Some d
      data_so = inner_copied files looks named typed literals parts_known site.block name n ns l parted end

      -- rules 707 and 721
      counted_so : is_miscounted d (chosen d x) ≡ false
      counted_so =
          path_counted ps typed pass.phrase site.block pass.block place name n ns x mine.number mine.means_it mine.phrase mine.there pass.says.phrase pass.says.among pass.role pass.says.is (pass.says.block ∙ pass.block) mine.common mine.item mine.node d
          data_so

      single_so : nat_lt 0 (chosen d x).components ≡ false
      unfolding is_string
      single_so =
          path_single ps typed pass.phrase site.block pass.block place name n ns x mine.number mine.means_it mine.phrase mine.there pass.says.phrase pass.says.among pass.role pass.says.is (pass.says.block ∙ pass.block) mine.common mine.item mine.node d data_so
          refl

      fits_so : Fits (Some class.Structure)
      unfolding is_excused is_structure_class
      fits_so = fit_by (Some class.Structure) (class_by d data_so) refl

      declared_so : declared_for ps pass.phrase name ≡ Some mine.phrase
      unfolding declared_for
      declared_so = ap (option_and_then (λ k. slice_get ps k)) (ap (λ b. means ps b name) pass.block ∙ mine.means_it) ∙ mine.there

      -- rule 710
      leveled : misleveled end.phrase.node ≡ None
      unfolding attribute_rows
      leveled =
          ruled_none 710 (misleveled end.phrase.node)
          (unbroken type_rows ps typed end.phrase (among_at ps end.structure end.phrase end.there) (λ qs o. ruled 710 (misleveled o.node)) (of_attributes (λ qs o. ruled 710 (misleveled o.node)) (inr (inr (inr (inr (inr (inr (inl refl)))))))))

      -- the shapes of the data and of the parameter, whose copies are known
      led_is : l.shape ≡ record { copies = option_map (size_given ps vs mine.phrase) of.copies; components = components_at ps vs end.phrase end.phrase.node }
      led_is = mine.shape ∙ structured_shape ps vs mine.phrase mine.common mine.item end.structure of end.phrase end.there

      abbrev cs : List Component
      cs = components_at ps vs end.phrase end.phrase.node

      abbrev its_cs : List Component
      its_cs = components_at ps vs its.has.template its.has.template.node

      abbrev its_kinds : List values.Kind
      its_kinds = flat_map kinds_of_component its_cs

      components_so : l.shape.components ≡ cs
      components_so = ap (λ (y : Shape). y.components) led_is

      same : same_structures ps vs end.phrase (parts_reached end.phrase (n ∷ ns)) its.has.template (all_parts its.has.template) ≡ true
      same = alike ps vs pass.phrase mine.phrase its.phrase place name (n ∷ ns) declared_so its.common mine.common its.item mine.item mine.node its.has.number end.structure its.has.of of its.has.template its.has.there end.phrase end.there x fits_so

      ending : IsEnd ps end.structure (n ∷ ns) end.part
      ending = record { number = end.number; leading = end.leading; phrase = end.end; there = end.at; bottom = false; is = end.so }

      -- its cells stand in a copy
      cells_in_copy : StandInCopy l its_kinds
      cells_in_copy j k at =
          ap (λ p. slice_get (flat_map kinds_of_component l.shape.components) (offset p l.shape.components + j)) path
          ∙ (ap (λ zs. slice_get (flat_map kinds_of_component zs) (offset (n ∷ ns) zs + j)) components_so
          ∙ end_cells ps named typed looks.counted looks.meant literals looks.found looks.lacking (parts_stand files) end.structure its.has.number end.phrase its.has.template end.name its.has.name end.parts its.has.parts end.part n ns end.there its.has.there
          end.declares its.has.is leveled ending same j k at)

      -- they are all cells of the copy where it fills it
      fills_so : fills ps vs end.phrase (n ∷ ns) ≡ true → Fills l its_kinds
      fills_so is =
          let low : copy_size cs ≤ most = subst (λ zs. copy_size zs ≤ most) components_so few in
          let all = filled ps named typed looks.counted looks.meant literals looks.found looks.lacking (parts_stand files) end.structure its.has.number end.phrase its.has.template end.name its.has.name end.parts its.has.parts end.part n ns end.there
          its.has.there end.declares its.has.is leveled ending same is low in
          (ap (λ p. offset p l.shape.components) path ∙ (ap (offset (n ∷ ns)) components_so ∙ all.0), ap (flat_map kinds_of_component) components_so ∙ all.1)

      abbrev left : Option ℕ
      left = option_and_then (λ size. copies_left ps vs pass.phrase size (copy_subs x)) (copies_by ps vs mine.phrase of.copies)

      -- one copy is left, or it fills them
      fit : (is_one_copy left ≡ true) ⊎ Fills l its_kinds
      fit =
          by
          (one_or (is_one_copy left) (fills ps vs end.phrase (n ∷ ns))
          (follow_each_other ps vs pass.phrase mine.phrase its.phrase place name (n ∷ ns) declared_so its.common mine.common its.item mine.item mine.node its.has.number end.structure its.has.of of its.has.template its.has.there end.phrase end.there x fits_so))
        where
          by : (is_one_copy left ≡ true) ⊎ (fills ps vs end.phrase (n ∷ ns) ≡ true) → (is_one_copy left ≡ true) ⊎ Fills l its_kinds
          by (inl one) = inl one
          by (inr full) = inr (fills_so full)

      -- as many copies are left as are wanted
      count : may_count left (copies_by ps vs its.phrase its.has.of.copies) ≡ true
      count =
          counts ps vs pass.phrase mine.phrase its.phrase place name (n ∷ ns) declared_so its.common mine.common its.item mine.item mine.node its.has.number end.structure its.has.of of its.has.template its.has.there end.phrase end.there x fits_so

      second_known : (t : Expression) → its.has.of.copies ≡ Some t → size_in ps vs its.phrase t ≡ Some (size_given ps vs its.phrase t)
      second_known t is =
          copies_known ps named typed looks.counted looks.meant literals its.phrase its.common its.item its.has.of.place its.has.of.template t its.node (its.has.of.typed ∙ ap (λ c. Some (StructureKind its.has.of.place its.has.of.template c)) is)
          (items_are_placed files looks.counted its.phrase its.within)

      first_known : (t : Expression) → of.copies ≡ Some t → size_in ps vs mine.phrase t ≡ Some (size_given ps vs mine.phrase t)
      first_known t is =
          copies_known ps named typed looks.counted looks.meant literals mine.phrase mine.common mine.item of.place of.template t mine.node (of.typed ∙ ap (λ c. Some (StructureKind of.place of.template c)) is)
          (items_are_placed files looks.counted mine.phrase (among_at ps mine.number mine.phrase mine.there))

      shape_is : (parameter_named s unit parameter).shape ≡ record { copies = option_map (size_given ps vs its.phrase) its.has.of.copies; components = components_at ps vs its.has.template its.has.template.node }
      shape_is =
          its.shape ∙ structured_shape ps vs its.phrase its.common its.item its.has.number its.has.of its.has.template its.has.there

      abbrev Wanted : Type 0
      Wanted = Stands site l x (kinds_of (parameter_named s unit parameter).shape)

      -- one copy
      one_form : (there : Place) (position : Position) → x ≡ ByParts there (MoreSubscripts (OnePlace position) NoSubscripts) NoSubscripts NoSubscripts → Wanted
      one_form there position is =
          let size = counted_copies ps vs mine.phrase of.copies first_known in
          let none_left : left ≡ Some 0 = ap (λ y. option_and_then (λ m. copies_left ps vs pass.phrase m (copy_subs y)) (copies_by ps vs mine.phrase of.copies)) is
          ∙ one_left ps vs pass.phrase there position (copies_by ps vs mine.phrase of.copies) size.0 size.1 in
          let none = none_for ps vs its.phrase its.has.of.copies second_known (ap (λ o. may_count o (copies_by ps vs its.phrase its.has.of.copies)) (sym none_left) ∙ count) in
          let kinds : its_kinds ≡ kinds_of (parameter_named s unit parameter).shape =
          sym (ap kinds_of shape_is ∙ (ap (λ (c : Option Expression). times (unwrap_or (option_map (size_given ps vs its.phrase) c) 1) its_kinds) none ∙ append-nil its_kinds)) in
          subst (λ y. Stands site l y (kinds_of (parameter_named s unit parameter).shape)) (sym is)
          (subst (Stands site l (ByParts there (MoreSubscripts (OnePlace position) NoSubscripts) NoSubscripts NoSubscripts)) kinds (part_of_copy_stands site l its_kinds cells_in_copy formed few there position))

      -- several are reached
      reached : (there : Place) (sub : Sub) → is_many sub ≡ true → x ≡ ByParts there (MoreSubscripts sub NoSubscripts) NoSubscripts NoSubscripts → (t : Expression) → of.copies ≡ Some t → IsReached ps vs pass.phrase site (size_given ps vs mine.phrase t) sub
      unfolding copies_by
      reached there sub many is t so =
          several_reached ps named typed looks.counted looks.meant literals pass.phrase pass.role place name x pass.says site worth mine.number (ap (λ b. means ps b name) pass.block ∙ mine.means_it) mine.phrase mine.there mine.common mine.item mine.node
          (size_given ps vs mine.phrase t) (copies_there ps vs mine.phrase mine.common mine.item end.structure of end.phrase end.there ∙ (ap (copies_by ps vs mine.phrase) so ∙ first_known t so)) (size_some ps vs mine.phrase t)
          (size_low (constant_of ps vs mine.phrase t)) there sub many is

      -- so they stand
      several : (there : Place) (sub : Sub) → is_many sub ≡ true → is_some of.copies ≡ true → x ≡ ByParts there (MoreSubscripts sub NoSubscripts) NoSubscripts NoSubscripts → Wanted
      several there sub many copied is =
          several_form ps vs pass.phrase mine.phrase its.phrase site l cs its_cs (parameter_named s unit parameter).shape of.copies its.has.of.copies led_is shape_is first_known second_known cells_in_copy x count fit there sub many copied is
          (reached there sub many is)

      copies_form : (there : Place) (copies : Subscripts) → x ≡ ByParts there copies NoSubscripts NoSubscripts → Wanted
      unfolding is_many
      copies_form there NoSubscripts is =
          whole_form ps vs pass.phrase mine.phrase its.phrase site l cs its_cs (parameter_named s unit parameter).shape of.copies its.has.of.copies led_is shape_is first_known second_known cells_in_copy x count fit there is
      copies_form there (MoreSubscripts sub others) is =
          let right = alone_in d there sub others (subst (λ y. is_miscounted d (chosen d y) ≡ false) is counted_so) in
          by sub right.1 (is ∙ ap (λ ys. ByParts there (MoreSubscripts sub ys) NoSubscripts NoSubscripts) right.0)
        where
          by : (one_of : Sub) → is_some of.copies ≡ true → x ≡ ByParts there (MoreSubscripts one_of NoSubscripts) NoSubscripts NoSubscripts → Wanted
          by (OnePlace position) copied so = one_form there position so
          by (Every at) copied so = several there (Every at) refl copied so
          by (Range first last) copied so = several there (Range first last) refl copied so
          by (Portion number first) copied so = several there (Portion number first) refl copied so

      by_form : (x ≡ Unsubscripted) ⊎ ((there : Place) × (copies : Subscripts) × (x ≡ ByParts there copies NoSubscripts NoSubscripts)) → Wanted
      by_form (inl is) =
          all_form ps vs pass.phrase mine.phrase its.phrase site l cs its_cs (parameter_named s unit parameter).shape of.copies its.has.of.copies led_is shape_is first_known second_known cells_in_copy x count fit is
      by_form (inr some) = copies_form some.0 some.1 some.2

      -- rules 707 and 721 leave all of it, or copies
      inner_stands : Wanted
      inner_stands = by_form (form_of d x refl refl counted_so single_so)

    -- so what is passed stands
    structure_stands : Stands site l x (kinds_of (parameter_named s unit parameter).shape)
    structure_stands = by ended.0 ended.1 where
      by : (bottom : Bool) → HasEnd ps (template_meant parted) (n ∷ ns) bottom → Stands site l x (kinds_of (parameter_named s unit parameter).shape)
      by true end = absurd (never_bottom end)
      by false end = inner_stands end

  -- whatever the name means
  module _ (known_kinds : KindsKnown (phrases_of files)) (dimensioned : HaveSizes (phrases_of files)) (templates : KnowsTemplates (phrases_of files)) (worths : KnowsConstants (set_of turns files))
      (outward : (block : ℕ) (name : List ℕ) → means (phrases_of files) block name ≡ declared_or_around (phrases_of files) block name) (site : Site) (set : site.set ≡ s) (place : Place) (name : List ℕ) (n : Naming) (ns : List Naming) (x : Subscript)
      (unit : ℕ) (parameter : Naming) (pass : Passes s site unit parameter (Refers place name (n ∷ ns) x)) (structured : is_structured ps unit parameter ≡ true) (l : Led) (formed : IsFormed l.shape) (few : copy_size l.shape.components ≤ most)
      (path : l.path ≡ n ∷ ns) (are_data : referent site name ≡ DataOf l.declared l.stored l.shape) (given : IsGiven ps site.block name l) where
    for_it : IsStructureFor s unit pass.callee.declared parameter
    for_it = structure_for files turns looks named typed literals known_kinds dimensioned templates outward pass.inside pass.called unit parameter pass.callee pass.listed structured

    -- rule 608
    has : has_component ps given.phrase (n ∷ ns) given.phrase.node ≡ true
    has =
        component_so ps site.block given.number given.phrase name (n ∷ ns) given.means_it given.there
        (subst (λ b. meaning_has ps b name (n ∷ ns) ≡ true) (pass.says.block ∙ pass.block) (has_so ps named pass.says.phrase pass.says.among pass.role place name n ns x pass.says.is))

    own_item : IsItemFor ps given.phrase l → IsOwnItem ps site.block name l
    own_item = given_item files turns looks named typed literals known_kinds templates outward site.block name l (data_is s site name l.declared l.stored l.shape set are_data) given

    pub named_structure_stands : Stands site l x (kinds_of (parameter_named s unit parameter).shape)
    named_structure_stands = by given.is where
      by : IsItemFor ps given.phrase l ⊎ IsGroupFor given.phrase l → Stands site l x (kinds_of (parameter_named s unit parameter).shape)
      by (inl item) = structure_stands site place name n ns unit parameter x pass for_it l path (own_item item) formed few (worths site set pass.phrase pass.block)
      by (inr group) = absurd (no_group ps given.phrase (n ∷ ns) group.labels group.variable group.node has)
