-- All of a structure, or copies of it, that are passed for one with the same parts have its cells.
use Rattle.std.specs.Prelude.{◌≡◌, ◌≤◌, ◌⊎◌, ℕ, nat_lt, true, false, List, [], flat_map, Option, Some, None, slice_get, unwrap_or}
use Rattle.std.specs.Option.{is_some, option_and_then, option_map}
use Rattle.std.proofs.Common.{refl, sym, ap, subst, ◌∙◌, inl, inr, append-nil}
use Rattle.std.proofs.lemmas.Bool.{and_parts}
use Rattle.hal_base.specs.declared.refusal.Place.{Place}
use Rattle.hal_grammar.specs.Leaves.{Naming}
use Rattle.hal_grammar.specs.Expressions.{Expression, Refers, Subscript, Unsubscripted, ByParts, Subscripts, NoSubscripts, MoreSubscripts, Every, Range, Portion, One as OnePlace, Position, Sub}
use Rattle.hal_grammar.specs.Declarations.{Kind, StructureKind}
use Rattle.hal_grammar.specs.Units.{File}
use Rattle.hal_phrases.specs.Phrases.{Phrase, OfTemporaryGroup}
use Rattle.hal_phrases.specs.GatheredUnits.{phrases_of}
use Rattle.hal_names.specs.Means.{means}
use Rattle.hal_scope.specs.Rules.{IsAmong, IsSound, rows}
use Rattle.hal_scope.specs.Sorts.{type_of}
use Rattle.hal_kinds.specs.declared.class.Class.{Class}
use Rattle.hal_kinds.specs.declared.class.Class.TheVariants as class
use Rattle.hal_kinds.specs.Attributes.{sizes_of}
use Rattle.hal_kinds.specs.Classes.{class_of_reference}
use Rattle.hal_kinds.specs.Data.{dimensions_of, has_copies, is_structure_type}
use Rattle.hal_kinds.specs.Subscripts.{chosen, class_in, is_many, is_miscounted}
use Rattle.hal_types.specs.Rules.{type_rows}
use Rattle.hal_values.specs.declared.value.Kind as values
use Rattle.hal_values.specs.declared.value.Value.{Value}
use Rattle.hal_constants.specs.declared.constant.Constant.TheVariants as constant
use Rattle.hal_constants.specs.Constants.{constant_of}
use Rattle.hal_constants.specs.Known.{Known, known}
use Rattle.hal_shapes.specs.Arguments.{fits_parts}
use Rattle.hal_shapes.specs.Selections.{copies_left, copy_subs, declared_for, structure_of}
use Rattle.hal_shapes.specs.Shapes.{is_excused, is_whole_structure, may_count, structure_argument}
use Rattle.hal_meaning.specs.Calls.{parameter_named}
use Rattle.hal_sizes.specs.Sizes.{copies_by, copies_of, size_in}
use Rattle.hal_meaning.specs.Elements.{Component, Shape, components_at, copy_size, kinds_of, kinds_of_component, size_given, times}
use Rattle.hal_meaning.specs.Sets.{Set, set_of}
use Rattle.hal_agreement.specs.Sites.{Site}
use Rattle.hal_gen_expr.specs.Constants as code
use Rattle.hal_gen_expr.specs.Led.{Led}
use Rattle.hal_gen_expr.specs.Numbering.{most}
use Rattle.hal_fit_names.specs.Suited.{HasFitLiterals}
use Rattle.hal_fit_names.proofs.Placing.{items_are_placed}
use Rattle.hal_fit_parts.proofs.Standing.{parts_stand}
use Rattle.hal_right_images.proofs.rows.Filled.{size_some}
use Rattle.hal_right_images.proofs.rows.Formed.{IsFormed}
use Rattle.hal_right_images.proofs.rows.LookingUp.{LooksUp}
use Rattle.hal_right_images.proofs.rows.Rules.{among_at}
use Rattle.hal_right_images.proofs.areas.Calls.{Passes}
use Rattle.hal_right_images.proofs.areas.Classes.{chosen_calm, class_structured, group_class, group_counted, item_class, item_counted, item_typed, structure_single, typed_data, whole_structured}
use Rattle.hal_right_images.proofs.areas.Copies.{alone_in, copies_for, several_left, several_reached, several_stands, whole_copies_left, whole_copies_stand}
use Rattle.hal_right_images.proofs.areas.Fitting.{HasStructure, IsStructured, fitting as fitted, structured_has, structured_parameter}
use Rattle.hal_right_images.proofs.areas.Meaning.{IsOwnItem}
use Rattle.hal_right_images.proofs.areas.Ranges.{size_low}
use Rattle.hal_right_images.proofs.areas.SameParts.{structures_cells}
use Rattle.hal_right_images.proofs.areas.Standing.{Stands}
use Rattle.hal_right_images.proofs.areas.Structures.{alike, all_left, all_stands, copies_known, copies_same, copies_there, copy_stands, counted_copies, counts, none_for, one_left, structured_shape}
use Rattle.hal_right_images.proofs.areas.TwinParameters.{IsStructureFor}
use Rattle.hal_right_images.proofs.areas.Unarrayed.{form_of, unarrayed}

module _ (files : List File) (turns : ℕ) (looks : LooksUp (phrases_of files)) (named : IsSound rows (phrases_of files)) (typed : IsSound type_rows (phrases_of files)) (literals : HasFitLiterals (phrases_of files)) where
  abbrev s : Set
  s = set_of turns files

  abbrev ps : List Phrase
  ps = phrases_of files

  abbrev vs : Known
  vs = known (phrases_of files)

  -- what is passed to a parameter that is a structure
  module _ (site : Site) (place : Place) (name : List ℕ) (unit : ℕ) (parameter : Naming) (x : Subscript) (pass : Passes s site unit parameter (Refers place name [] x)) (for_it : IsStructureFor s unit pass.callee.declared parameter) where
    abbrev its : IsStructured s unit pass.callee.declared parameter
    its = structured_parameter files turns looks named typed literals unit pass.callee.declared parameter for_it

    abbrev Fits : Option Class → Type 0
    Fits c = fits_parts ps vs pass.phrase its.phrase its.common its.item c (Some (Refers place name [] x)) ≡ true

    abbrev class_passed : Option Class
    class_passed = class_of_reference ps pass.phrase.around.block (Refers place name [] x)

    fitting : (c : Option Class) → class_passed ≡ c → is_excused c ≡ false → Fits c
    fitting c is calm = fitted files turns looks named typed literals site place name unit parameter [] x pass for_it c is calm

    -- no TEMPORARY variable is
    pub no_group : (k : ℕ) (p : Phrase) (labels : List Naming) (variable : Naming) → means ps site.block name ≡ Some k → slice_get ps k ≡ Some p → p.node ≡ OfTemporaryGroup labels variable → ⊥
    unfolding is_excused is_whole_structure
    no_group k p labels variable meant there node =
        let counted = group_counted ps typed pass.says.phrase pass.says.among pass.role place name [] x pass.says.is site.block k (pass.says.block ∙ pass.block) meant p there refl labels variable node in
        let one = group_class ps typed pass.phrase.around.block k place name x p labels variable (ap (λ b. means ps b name) pass.block ∙ meant) there node counted.0 in
        let none : false ≡ true = fitting (Some class.Integer) one refl in
        absurd (cc)

    -- data that stand for themselves
    module _ (l : Led) (path : l.path ≡ []) (mine : IsOwnItem ps site.block name l) (formed : IsFormed l.shape) (few : copy_size l.shape.components ≤ most)
        (worth : (t : Expression) (v : Value) → constant_of ps vs pass.phrase t ≡ constant.Worth v → code.value_of site t ≡ Some v) where
      within : IsAmong mine.phrase ps
      within = among_at ps mine.number mine.phrase mine.there

      meant_so : means ps pass.phrase.around.block name ≡ Some mine.number
      meant_so = ap (λ b. means ps b name) pass.block ∙ mine.means_it

      -- rule 707
      counted_as : (t : Kind) → type_of mine.common mine.item ≡ Some t → is_miscounted (typed_data t (sizes_of mine.common mine.item)) (chosen (typed_data t (sizes_of mine.common mine.item)) x) ≡ false
      counted_as t type =
          item_counted ps typed pass.says.phrase pass.says.among pass.role place name [] x pass.says.is site.block mine.number (pass.says.block ∙ pass.block) mine.means_it mine.phrase mine.there refl mine.common mine.item t mine.node type

      class_as : (t : Kind) → type_of mine.common mine.item ≡ Some t → class_passed ≡ Some (class_in (typed_data t (sizes_of mine.common mine.item)) (chosen (typed_data t (sizes_of mine.common mine.item)) x))
      class_as t type = item_class ps typed pass.phrase.around.block mine.number place name x mine.phrase mine.common mine.item t meant_so mine.there mine.node type (counted_as t type)

      -- they are a structure
      structured_so : is_structure_type (type_of mine.common mine.item) ≡ true
      structured_so =
          let type = item_typed ps typed mine.phrase mine.common mine.item within mine.node in
          let c = chosen (typed_data type.0 (sizes_of mine.common mine.item)) x in
          let one = Some (class_in (typed_data type.0 (sizes_of mine.common mine.item)) c) in
          let fits : Fits one = fitting one (class_as type.0 type.1) (chosen_calm type.0 (sizes_of mine.common mine.item) c) in
          ap is_structure_type type.1
          ∙ whole_structured type.0 (sizes_of mine.common mine.item) c (and_parts (is_whole_structure one)
          (structure_argument ps vs pass.phrase (structure_of ps its.phrase.around.block (type_of its.common its.item)) (copies_of ps vs its.phrase (type_of its.common its.item)) (Some (Refers place name [] x))) fits).0

      owns : HasStructure ps mine.phrase mine.common mine.item
      owns = structured_has files turns looks named typed literals mine.phrase mine.common mine.item within mine.node structured_so

      abbrev kind : Kind
      kind = StructureKind owns.of.place owns.of.template owns.of.copies

      declared_so : declared_for ps pass.phrase name ≡ Some mine.phrase
      unfolding declared_for
      declared_so = ap (option_and_then (λ n. slice_get ps n)) meant_so ∙ mine.there

      class_so : class_passed ≡ Some class.Structure
      unfolding is_structure_type
      class_so = class_as kind owns.of.typed ∙ ap Some (class_structured kind (sizes_of mine.common mine.item) (chosen (typed_data kind (sizes_of mine.common mine.item)) x) refl)

      fits_so : Fits (Some class.Structure)
      unfolding is_excused
      fits_so = fitting (Some class.Structure) class_so refl

      abbrev cs : List Component
      cs = components_at ps vs owns.template owns.template.node

      abbrev its_cs : List Component
      its_cs = components_at ps vs its.has.template its.has.template.node

      -- a copy of it has the cells of a copy of the parameter
      cells_so : flat_map kinds_of_component cs ≡ flat_map kinds_of_component its_cs
      cells_so =
          structures_cells ps named typed looks.counted looks.meant literals looks.found looks.lacking (parts_stand files) owns.number its.has.number owns.template its.has.template owns.name its.has.name owns.parts its.has.parts
          owns.there its.has.there owns.is its.has.is
          (alike ps vs pass.phrase mine.phrase its.phrase place name [] declared_so its.common mine.common its.item mine.item mine.node its.has.number owns.number its.has.of owns.of its.has.template its.has.there owns.template owns.there x fits_so)

      first_known : (t : Expression) → owns.of.copies ≡ Some t → size_in ps vs mine.phrase t ≡ Some (size_given ps vs mine.phrase t)
      first_known t is =
          copies_known ps named typed looks.counted looks.meant literals mine.phrase mine.common mine.item owns.of.place owns.of.template t mine.node (owns.of.typed ∙ ap (λ c. Some (StructureKind owns.of.place owns.of.template c)) is)
          (items_are_placed files looks.counted mine.phrase (among_at ps mine.number mine.phrase mine.there))

      second_known : (t : Expression) → its.has.of.copies ≡ Some t → size_in ps vs its.phrase t ≡ Some (size_given ps vs its.phrase t)
      second_known t is =
          copies_known ps named typed looks.counted looks.meant literals its.phrase its.common its.item its.has.of.place its.has.of.template t its.node (its.has.of.typed ∙ ap (λ c. Some (StructureKind its.has.of.place its.has.of.template c)) is)
          (items_are_placed files looks.counted its.phrase its.within)

      -- as many copies are left as are wanted
      count : may_count (option_and_then (λ size. copies_left ps vs pass.phrase size (copy_subs x)) (copies_by ps vs mine.phrase owns.of.copies)) (copies_by ps vs its.phrase its.has.of.copies) ≡ true
      count =
          counts ps vs pass.phrase mine.phrase its.phrase place name [] declared_so its.common mine.common its.item mine.item mine.node its.has.number owns.number its.has.of owns.of its.has.template its.has.there owns.template owns.there x fits_so

      shape_is : (parameter_named s unit parameter).shape ≡ record { copies = option_map (size_given ps vs its.phrase) its.has.of.copies; components = its_cs }
      shape_is =
          its.shape ∙ structured_shape ps vs its.phrase its.common its.item its.has.number its.has.of its.has.template its.has.there

      shape_kinds : kinds_of (parameter_named s unit parameter).shape ≡ kinds_of (record { copies = option_map (size_given ps vs its.phrase) its.has.of.copies; components = cs })
      shape_kinds = ap kinds_of shape_is ∙ ap (λ (ks : List values.Kind). times (unwrap_or (option_map (size_given ps vs its.phrase) its.has.of.copies) 1) ks) (sym cells_so)

      led_is : l.shape ≡ record { copies = option_map (size_given ps vs mine.phrase) owns.of.copies; components = cs }
      led_is = mine.shape ∙ structured_shape ps vs mine.phrase mine.common mine.item owns.number owns.of owns.template owns.there

      -- all copies
      all_whole : x ≡ Unsubscripted → Stands site l x (kinds_of (parameter_named s unit parameter).shape)
      all_whole is =
          let same = copies_same ps vs mine.phrase its.phrase cs owns.of.copies its.has.of.copies first_known second_known
          (ap (λ o. may_count o (copies_by ps vs its.phrase its.has.of.copies)) (sym (ap (λ y. option_and_then (λ size. copies_left ps vs pass.phrase size (copy_subs y)) (copies_by ps vs mine.phrase owns.of.copies)) is
          ∙ all_left ps vs pass.phrase (copies_by ps vs mine.phrase owns.of.copies))) ∙ count) in
          subst (λ y. Stands site l y (kinds_of (parameter_named s unit parameter).shape)) (sym is)
          (all_stands site l (parameter_named s unit parameter).shape path (ap kinds_of led_is ∙ (same ∙ sym shape_kinds)))

      -- or one of them
      one_whole : (there : Place) (position : Position) → x ≡ ByParts there (MoreSubscripts (OnePlace position) NoSubscripts) NoSubscripts NoSubscripts → Stands site l x (kinds_of (parameter_named s unit parameter).shape)
      one_whole there position is =
          let size = counted_copies ps vs mine.phrase owns.of.copies first_known in
          let left = ap (λ y. option_and_then (λ n. copies_left ps vs pass.phrase n (copy_subs y)) (copies_by ps vs mine.phrase owns.of.copies)) is ∙ one_left ps vs pass.phrase there position (copies_by ps vs mine.phrase owns.of.copies) size.0 size.1 in
          let none = none_for ps vs its.phrase its.has.of.copies second_known (ap (λ o. may_count o (copies_by ps vs its.phrase its.has.of.copies)) (sym left) ∙ count) in
          let kinds : kinds_of (parameter_named s unit parameter).shape ≡ flat_map kinds_of_component cs =
          (shape_kinds ∙ ap (λ c. kinds_of (record { copies = option_map (size_given ps vs its.phrase) c; components = cs })) none) ∙ append-nil (flat_map kinds_of_component cs) in
          let components : l.shape.components ≡ cs = ap (λ (y : Shape). y.components) led_is in
          subst (λ y. Stands site l y (kinds_of (parameter_named s unit parameter).shape)) (sym is)
          (copy_stands site l formed few there position (parameter_named s unit parameter).shape path (kinds ∙ ap (flat_map kinds_of_component) (sym components)))

      -- or several that follow each other
      several_whole : (there : Place) (sub : Sub) → is_many sub ≡ true → has_copies kind ≡ true → x ≡ ByParts there (MoreSubscripts sub NoSubscripts) NoSubscripts NoSubscripts → Stands site l x (kinds_of (parameter_named s unit parameter).shape)
      unfolding has_copies copies_by
      several_whole there sub many copied is = by owns.of.copies refl copied where
        by : (o : Option Expression) → owns.of.copies ≡ o → is_some o ≡ true → Stands site l x (kinds_of (parameter_named s unit parameter).shape)
        by None none some = absurd (cc)
        by (Some t) so some =
            let n = size_given ps vs mine.phrase t in
            let size : copies_by ps vs mine.phrase owns.of.copies ≡ Some n = ap (copies_by ps vs mine.phrase) so ∙ first_known t so in
            let reached = several_reached ps named typed looks.counted looks.meant literals pass.phrase pass.role place name x pass.says site worth mine.number meant_so mine.phrase mine.there mine.common mine.item mine.node n
            (copies_there ps vs mine.phrase mine.common mine.item owns.number owns.of owns.template owns.there ∙ size) (size_some ps vs mine.phrase t) (size_low (constant_of ps vs mine.phrase t)) there sub many is in
            let left = ap (λ y. option_and_then (λ m. copies_left ps vs pass.phrase m (copy_subs y)) (copies_by ps vs mine.phrase owns.of.copies)) is
            ∙ several_left ps vs pass.phrase there sub (copies_by ps vs mine.phrase owns.of.copies) n reached.left size reached.reach in
            let components : l.shape.components ≡ cs = ap (λ (y : Shape). y.components) led_is in
            let counted_ : l.shape.copies ≡ Some n = ap (λ (y : Shape). y.copies) led_is ∙ ap (option_map (size_given ps vs mine.phrase)) so in
            let kinds : kinds_of (parameter_named s unit parameter).shape ≡ times reached.left (flat_map kinds_of_component l.shape.components) =
            shape_kinds ∙ (copies_for ps vs its.phrase cs reached.left its.has.of.copies reached.some second_known (ap (λ o. may_count o (copies_by ps vs its.phrase its.has.of.copies)) (sym left) ∙ count)
            ∙ ap (λ zs. times reached.left (flat_map kinds_of_component zs)) (sym components)) in
            subst (λ y. Stands site l y (kinds_of (parameter_named s unit parameter).shape)) (sym is)
            (several_stands site l n reached.left there sub (parameter_named s unit parameter).shape many path counted_ reached.low kinds)

      -- subscripts of copies: none, or one
      copies_whole : (there : Place) (copies : Subscripts) → x ≡ ByParts there copies NoSubscripts NoSubscripts → Stands site l x (kinds_of (parameter_named s unit parameter).shape)
      unfolding is_many
      copies_whole there NoSubscripts is =
          let same = copies_same ps vs mine.phrase its.phrase cs owns.of.copies its.has.of.copies first_known second_known
          (ap (λ o. may_count o (copies_by ps vs its.phrase its.has.of.copies)) (sym (ap (λ y. option_and_then (λ size. copies_left ps vs pass.phrase size (copy_subs y)) (copies_by ps vs mine.phrase owns.of.copies)) is
          ∙ whole_copies_left ps vs pass.phrase there (copies_by ps vs mine.phrase owns.of.copies))) ∙ count) in
          subst (λ y. Stands site l y (kinds_of (parameter_named s unit parameter).shape)) (sym is)
          (whole_copies_stand site l there (parameter_named s unit parameter).shape path (ap kinds_of led_is ∙ (same ∙ sym shape_kinds)))
      copies_whole there (MoreSubscripts sub others) is =
          let right = alone_in (typed_data kind (sizes_of mine.common mine.item)) there sub others (subst (λ y. is_miscounted (typed_data kind (sizes_of mine.common mine.item)) (chosen (typed_data kind (sizes_of mine.common mine.item)) y) ≡ false) is (counted_as kind owns.of.typed)) in
          by sub right.1 (is ∙ ap (λ ys. ByParts there (MoreSubscripts sub ys) NoSubscripts NoSubscripts) right.0)
        where
          by : (one_of : Sub) → has_copies kind ≡ true → x ≡ ByParts there (MoreSubscripts one_of NoSubscripts) NoSubscripts NoSubscripts → Stands site l x (kinds_of (parameter_named s unit parameter).shape)
          by (OnePlace position) copied so = one_whole there position so
          by (Every at) copied so = several_whole there (Every at) refl copied so
          by (Range first last) copied so = several_whole there (Range first last) refl copied so
          by (Portion number first) copied so = several_whole there (Portion number first) refl copied so

      by_form : (x ≡ Unsubscripted) ⊎ ((there : Place) × (copies : Subscripts) × (x ≡ ByParts there copies NoSubscripts NoSubscripts)) → Stands site l x (kinds_of (parameter_named s unit parameter).shape)
      by_form (inl is) = all_whole is
      by_form (inr some) = copies_whole some.0 some.1 some.2

      -- a structure is no array
      form : (x ≡ Unsubscripted) ⊎ ((there : Place) × (copies : Subscripts) × (x ≡ ByParts there copies NoSubscripts NoSubscripts))
      unfolding dimensions_of
      form =
          let none = unarrayed ps typed mine.phrase within mine.common mine.item mine.node (items_are_placed files looks.counted mine.phrase within) owns.of.place owns.of.template owns.of.copies owns.of.typed in
          form_of (typed_data kind (sizes_of mine.common mine.item)) x (ap dimensions_of none) (ap (λ o. nat_lt 0 (dimensions_of o)) none) (counted_as kind owns.of.typed)
          (structure_single ps typed pass.says.phrase pass.says.among pass.role place name [] x pass.says.is site.block mine.number (pass.says.block ∙ pass.block) mine.means_it mine.phrase mine.there
          refl mine.common mine.item owns.of.place owns.of.template owns.of.copies mine.node owns.of.typed)

      pub whole_stands : Stands site l x (kinds_of (parameter_named s unit parameter).shape)
      whole_stands = by_form form
