-- Arguments that are arrays or single values have the cells of their parameters.
use Rattle.std.specs.Prelude.{◌≡◌, ◌≤◌, ◌<◌, ◌⊎◌, ◌==◌, ◌&&◌, ◌||◌, ℕ, Bool, true, false, List, [], ◌∷◌, length, Option, Some, None, slice_get, if◌then◌else◌}
use Rattle.std.specs.Option.{option_and_then, is_some}
use Rattle.std.proofs.Common.{refl, sym, ap, subst, ◌∙◌, inl, inr, arith}
use Rattle.std.proofs.lemmas.Bool.{and_parts, eqb-true, leb-true}
use Rattle.hal_base.specs.declared.refusal.Place.{Place}
use Rattle.hal_grammar.specs.Leaves.{Naming}
use Rattle.hal_grammar.specs.Expressions.{Referred, Expressions, NoExpressions, MoreExpressions, Reference, Refers, Subscript, Unsubscripted, ByName, ByInteger, ByParts, Subscripts, NoSubscripts, MoreSubscripts}
use Rattle.hal_grammar.specs.Declarations.{Kind, Attribute, Declared}
use Rattle.hal_grammar.specs.Units.{File}
use Rattle.hal_phrases.specs.declared.role.Role.{Role}
use Rattle.hal_phrases.specs.declared.role.Role.TheVariants as roles
use Rattle.hal_phrases.specs.Phrases.{Phrase, OfItem, OfReference, OfTemporaryGroup}
use Rattle.hal_phrases.specs.GatheredUnits.{phrases_of}
use Rattle.hal_names.specs.Means.{means}
use Rattle.hal_scope.specs.Builtins.{builtin_named}
use Rattle.hal_scope.specs.Rules.{IsAmong, IsSound, rows}
use Rattle.hal_scope.specs.Sorts.{type_of}
use Rattle.hal_scope.specs.Uses.{is_nil}
use Rattle.hal_kinds.specs.declared.class.Class.{Class}
use Rattle.hal_kinds.specs.declared.class.Class.TheVariants as class
use Rattle.hal_kinds.specs.declared.data.Data.{Data}
use Rattle.hal_kinds.specs.Attributes.{count_of, sizes_of}
use Rattle.hal_kinds.specs.Classes.{class_of, class_of_reference}
use Rattle.hal_kinds.specs.Data.{class_of_type, data_at, data_named, data_with, is_event_type, is_structure_type}
use Rattle.hal_kinds.specs.Subscripts.{chosen, class_in, is_miscounted, subscript_count}
use Rattle.hal_kinds.specs.Subscripts as kinds
use Rattle.hal_types.specs.Rules.{type_rows, use_rows}
use Rattle.hal_uses.specs.Receivers.{is_component, is_fixed, misreceived, put, put_fault, reference_receives}
use Rattle.hal_values.specs.declared.value.Kind as values
use Rattle.hal_values.specs.declared.value.Kind.TheVariants as value
use Rattle.hal_constants.specs.Constants as constants
use Rattle.hal_constants.specs.Known.{Known, known, kind_of_item}
use Rattle.hal_constants.specs.Naming.{is_value_item}
use Rattle.hal_sizes.specs.Sizes.{extent_of}
use Rattle.hal_shapes.specs.Arguments as arguments
use Rattle.hal_shapes.specs.Arguments.{fits_places, has_component_in, input_fits, kind_of_reference, output_fits}
use Rattle.hal_shapes.specs.Selections.{copies_chosen, declared_for, extent_at, kind_at, reference_in}
use Rattle.hal_shapes.specs.Shapes.{array_argument, chooses, fits_array, fits_single, is_excused, is_lone, is_whole_array, may_equal}
use Rattle.hal_shapes.specs.Spans.{array_subs, selects}
use Rattle.hal_meaning.specs.Elements.{all_sizes, copy_size, kinds_of, product, shape_of, size_given, sizes_given}
use Rattle.hal_meaning.specs.Variables.{is_whole, temporary_shape}
use Rattle.hal_agreement.specs.Sites.{Site}
use Rattle.hal_gen_expr.specs.Led.{Led, array_list}
use Rattle.hal_gen_expr.specs.Numbering.{most}
use Rattle.hal_fit_calls.specs.Each.{Each}
use Rattle.hal_fit_rules.proofs.Unbroken.{unbroken, of_uses}
use Rattle.hal_fit_names.specs.Suited.{HasFitLiterals}
use Rattle.hal_fit_names.proofs.Placing.{items_are_placed}
use Rattle.hal_right_images.proofs.rows.Filled.{IsSome, sizes_some}
use Rattle.hal_right_images.proofs.rows.Formed.{IsFormed}
use Rattle.hal_right_images.proofs.rows.LookingUp.{LooksUp}
use Rattle.hal_right_images.specs.areas.Reached.{ChoiceReached}
use Rattle.hal_right_images.specs.areas.Sized.{extent_with}
use Rattle.hal_right_images.proofs.areas.Blocks.{whole_left}
use Rattle.hal_right_images.proofs.areas.Classes.{PassesArray, array_is, chosen_calm, group_class, group_counted, item_class, item_counted, item_typed, no_rule_at, single_plain, typed_data}
use Rattle.hal_right_images.proofs.areas.Parameters.{KindsKnown, kind_known, short_is}
use Rattle.hal_right_images.proofs.areas.Plainly.{item_shape, plain_with, sizes_long}
use Rattle.hal_right_images.proofs.areas.Sizes.{extent_is, item_extent, sized_item}
use Rattle.hal_right_images.proofs.areas.Spans.{IsShort, is_left}
use Rattle.hal_right_images.proofs.areas.Standing.{IsLeftBy, Stands, left_stands, plain_led, same_kind_is, single_stands}

-- subscripts of an array are the same for the checks and for code
pub list_same : (arrays components : Subscripts) → (if kinds.is_none arrays then components else arrays) ≡ array_list arrays components
unfolding subscript_count constants.is_none
list_same NoSubscripts components = refl
list_same (MoreSubscripts first others) components = by (subscript_count (MoreSubscripts first others) == 0) refl where
  by : (b : Bool) → (subscript_count (MoreSubscripts first others) == 0) ≡ b → (if b then components else MoreSubscripts first others) ≡ MoreSubscripts first others
  by true none = absurd (let zero_ = eqb-true (subscript_count (MoreSubscripts first others)) 0 none in omega (arith, zero_))
  by false other = refl

module _ (files : List File) (looks : LooksUp (phrases_of files)) (named : IsSound rows (phrases_of files)) (typed : IsSound type_rows (phrases_of files)) (literals : HasFitLiterals (phrases_of files)) (known_kinds : KindsKnown (phrases_of files)) where
  abbrev ps : List Phrase
  ps = phrases_of files

  abbrev vs : Known
  vs = known (phrases_of files)

  -- the dimensions of an array
  pub record HasExtent (p : Phrase) (common : List Attribute) (item : Declared) (given : Expressions) : Type 0 where
    pub extent_so : extent_of ps vs p (sizes_of common item) ≡ Some (extent_with (all_sizes ps vs p given))
    pub short : IsShort (all_sizes ps vs p given)

  pub has_extent : (p : Phrase) (common : List Attribute) (item : Declared) (given : Expressions) → IsAmong p ps → p.node ≡ OfItem common item → sizes_of common item ≡ Some given → HasExtent p common item given
  has_extent p common item given within node sized =
      let both = item_extent ps named typed looks.counted looks.meant literals p common item given within node sized (items_are_placed files looks.counted p within) in
      let low = leb-true (count_of given) 3 both.1 in
      let long = sizes_long ps vs p given in
      record {
        extent_so = ap (extent_of ps vs p) sized ∙ extent_is ps vs p given both.0 both.1;
        short = short_is (all_sizes ps vs p given) (omega (arith, low, long));
      }

  -- what is left of an array
  module _ (q : Phrase) (site : Site) (ws : List ℕ) (some : Each IsSome ws) (short : IsShort ws) where
    left_by : (subscript : Subscript) (n : ℕ) (ns : List ℕ) → Each IsSome (n ∷ ns) → IsShort (n ∷ ns) → (given : Expressions) → count_of given ≡ length (n ∷ ns) → PassesArray given subscript → ChoiceReached ps vs q site (n ∷ ns) subscript
        → selects ps vs q (extent_with ws) (extent_with (n ∷ ns)) (array_subs subscript) ≡ true → IsLeftBy site ws (n ∷ ns) subscript
    unfolding array_subs subscript_count
    left_by Unsubscripted n ns inside few given long passes reached selects_ =
        let left = is_left ps vs q site ws some short NoSubscripts n ns inside few (omega arith) tt selects_ in
        left.same ∙ ap product (whole_left site (n ∷ ns) left.lefts left.leave)
    left_by (ByName there name) n ns inside few given long passes reached selects_ = absurd passes
    left_by (ByInteger there mark number) n ns inside few given long passes reached selects_ = absurd passes
    left_by (ByParts there copies arrays components) n ns inside few given long passes reached selects_ =
        let list = array_list arrays components in
        let same = list_same arrays components in
        let low : subscript_count list ≤ count_of given = subst (λ xs. subscript_count xs ≤ count_of given) same passes in
        is_left ps vs q site ws some short list n ns inside few (omega (arith, low, long)) reached
        (subst (λ xs. selects ps vs q (extent_with ws) (extent_with (n ∷ ns)) xs ≡ true) same selects_)

    pub left_given : (p : Phrase) (subscript : Subscript) (given : Expressions) → 0 < count_of given → IsShort (all_sizes ps vs p given) → PassesArray given subscript → ChoiceReached ps vs q site (all_sizes ps vs p given) subscript
        → selects ps vs q (extent_with ws) (extent_with (all_sizes ps vs p given)) (array_subs subscript) ≡ true → IsLeftBy site ws (all_sizes ps vs p given) subscript
    unfolding count_of
    left_given p subscript NoExpressions inside few passes reached selects_ = absurd (omega (arith, inside))
    left_given p subscript (MoreExpressions first others) inside few passes reached selects_ =
        left_by subscript (size_given ps vs p first) (all_sizes ps vs p others) (sizes_some ps vs p (Some (MoreExpressions first others))) few (MoreExpressions first others) (sym (sizes_long ps vs p (MoreExpressions first others))) passes reached selects_

  -- an argument that is data of its own unit, without names of parts
  module _ (q : Phrase) (site : Site) (here : q.around.block ≡ site.block) (place : Place) (name : List ℕ) (subscript : Subscript) (k : ℕ) (meant : means ps site.block name ≡ Some k) (p : Phrase) (there : slice_get ps k ≡ Some p)
      (within : IsAmong p ps) (l : Led) (formed : IsFormed l.shape) (few : copy_size l.shape.components ≤ most) (path : l.path ≡ []) where
    abbrev given_reference : Reference
    given_reference = Refers place name [] subscript

    declared_so : declared_for ps q name ≡ Some p
    unfolding declared_for
    declared_so = ap (option_and_then (λ n. slice_get ps n)) (ap (λ b. means ps b name) here ∙ meant) ∙ there

    -- for a parameter
    module _ (r : Phrase) (common : List Attribute) (item : Declared) (inside : IsAmong r ps) (node : r.node ≡ OfItem common item) (one : values.Kind) (plain : is_structure_type (type_of common item) ≡ false)
        (one_is : kind_of_item ps vs r common item ≡ Some one) where
      parameter_is : (sizes : Option Expressions) → sizes_of common item ≡ sizes → shape_of ps vs r common item ≡ plain_with one (sizes_given ps vs r sizes)
      parameter_is sizes is = item_shape ps vs r common item one plain one_is ∙ ap (λ o. plain_with one (sizes_given ps vs r o)) is

      -- an array of an item
      module _ (other_common : List Attribute) (other : Declared) (kind : Kind) (other_node : p.node ≡ OfItem other_common other) (type : type_of other_common other ≡ Some kind)
          (shape : is_structure_type (type_of other_common other) ≡ false → l.shape ≡ shape_of ps vs p other_common other) (counted : is_miscounted (typed_data kind (sizes_of other_common other)) (chosen (typed_data kind (sizes_of other_common other)) subscript) ≡ false)
          (class_is : class_of_reference ps q.around.block (Refers place name [] subscript) ≡ Some (class_in (typed_data kind (sizes_of other_common other)) (chosen (typed_data kind (sizes_of other_common other)) subscript))) where
        abbrev its_kind : (cells : values.Kind) → Type 0
        its_kind cells = kind_of_item ps vs p other_common other ≡ Some cells

        kind_there : kind_at ps vs p [] p.node ≡ kind_of_item ps vs p other_common other
        unfolding kind_at is_nil
        kind_there = ap (kind_at ps vs p []) other_node

        extent_there : extent_at ps vs p [] p.node ≡ extent_of ps vs p (sizes_of other_common other)
        unfolding extent_at is_nil
        extent_there = ap (extent_at ps vs p []) other_node

        plain_type : is_structure_type (Some kind) ≡ false → is_structure_type (type_of other_common other) ≡ false
        plain_type is = ap is_structure_type type ∙ is

        same_kinds : (cells : values.Kind) → its_kind cells → may_equal (kind_at ps vs p [] p.node) (kind_of_item ps vs r common item) ≡ true → cells ≡ one
        unfolding may_equal
        same_kinds cells is equal =
            same_kind_is cells one (sym (ap (λ o. may_equal o (kind_of_item ps vs r common item)) (kind_there ∙ is) ∙ ap (may_equal (Some cells)) one_is) ∙ equal)

        chosen_so : (sizes given : Expressions) → HasExtent r common item sizes → HasExtent p other_common other given
            → chooses ps vs q (extent_of ps vs r (sizes_of common item)) (extent_at ps vs p [] p.node) subscript ≡ true
            → selects ps vs q (extent_with (all_sizes ps vs r sizes)) (extent_with (all_sizes ps vs p given)) (array_subs subscript) ≡ true
        unfolding chooses
        chosen_so sizes given wanted has is =
            sym (ap (λ o. chooses ps vs q o (extent_at ps vs p [] p.node) subscript) wanted.extent_so
            ∙ ap (λ o. chooses ps vs q (Some (extent_with (all_sizes ps vs r sizes))) o subscript) (extent_there ∙ has.extent_so)) ∙ is

        pub item_array : (sizes : Expressions) → sizes_of common item ≡ Some sizes → ((given : Expressions) → extent_of ps vs p (sizes_of other_common other) ≡ Some (extent_with (all_sizes ps vs p given)) → IsShort (all_sizes ps vs p given) → ChoiceReached ps vs q site (all_sizes ps vs p given) subscript)
            → fits_places ps vs q r common item (class_of_reference ps q.around.block (Refers place name [] subscript)) (Some (Refers place name [] subscript)) ≡ true → Stands site l subscript (kinds_of (shape_of ps vs r common item))
        unfolding array_argument fits_array
        item_array sizes sized reached fits =
            let d : Data = typed_data kind (sizes_of other_common other) in
            let both = and_parts (is_whole_array (class_of_reference ps q.around.block given_reference)) (fits_array ps vs q (kind_of_item ps vs r common item) (extent_of ps vs r (sizes_of common item)) given_reference) fits in
            let array = array_is kind (sizes_of other_common other) subscript counted (ap is_whole_array (sym class_is) ∙ both.0) in
            let stored = sized_item other_common other array.given array.sized in
            let cells = kind_known ps known_kinds p other_common other kind within other_node type array.plain stored in
            let found = ap (λ (o : Option Phrase). elim o [
              | None ↦ true
              | Some x ↦ is_lone (copies_chosen ps vs q subscript x)
                  && (may_equal (kind_at ps vs x [] x.node) (kind_of_item ps vs r common item) && chooses ps vs q (extent_of ps vs r (sizes_of common item)) (extent_at ps vs x [] x.node) subscript)
            ]) (sym declared_so) ∙ both.1 in
            let fit = and_parts (may_equal (kind_at ps vs p [] p.node) (kind_of_item ps vs r common item)) (chooses ps vs q (extent_of ps vs r (sizes_of common item)) (extent_at ps vs p [] p.node) subscript)
            (and_parts (is_lone (copies_chosen ps vs q subscript p)) _ found).1 in
            let same = same_kinds cells.0 cells.1 fit.0 in
            let wanted = has_extent r common item sizes inside node sized in
            let has = has_extent p other_common other array.given within other_node array.sized in
            let ws = all_sizes ps vs r sizes in
            let ns = all_sizes ps vs p array.given in
            let led_shape : l.shape ≡ plain_with one ns =
            shape (plain_type array.plain) ∙ (item_shape ps vs p other_common other cells.0 (plain_type array.plain) cells.1 ∙ (ap (λ o. plain_with cells.0 (sizes_given ps vs p o)) array.sized ∙ ap (λ c. plain_with c ns) same)) in
            left_stands site l formed few one ns (plain_led l one ns path led_shape) subscript ws (shape_of ps vs r common item) (parameter_is (Some sizes) sized)
            (left_given q site ws (sizes_some ps vs r (Some sizes)) wanted.short p subscript array.given array.some has.short array.passes (reached array.given has.extent_so has.short) (chosen_so sizes array.given wanted has fit.1))

        -- one element of an item
        pub item_single : sizes_of common item ≡ None → is_value_item other_common other ≡ false → has_component_in ps q.around.block name [] subscript ≡ false
            → arguments.is_single (class_of_reference ps q.around.block (Refers place name [] subscript)) ≡ true → may_equal (kind_of_reference ps vs q (Refers place name [] subscript)) (kind_of_item ps vs r common item) ≡ true
            → Stands site l subscript (kinds_of (shape_of ps vs r common item))
        unfolding kind_of_reference
        item_single none stored plainly single equal =
            let no_structure = single_plain kind (sizes_of other_common other) (chosen (typed_data kind (sizes_of other_common other)) subscript) (ap arguments.is_single (sym class_is) ∙ single) in
            let cells = kind_known ps known_kinds p other_common other kind within other_node type no_structure stored in
            let refers : kind_of_reference ps vs q (Refers place name [] subscript) ≡ kind_at ps vs p [] p.node =
            ap (λ b. if b then None else option_and_then (λ (x : Phrase). kind_at ps vs x [] x.node) (declared_for ps q name)) plainly ∙ ap (option_and_then (λ (x : Phrase). kind_at ps vs x [] x.node)) declared_so in
            let same = same_kinds cells.0 cells.1 (ap (λ o. may_equal o (kind_of_item ps vs r common item)) (sym refers) ∙ equal) in
            let ns = sizes_given ps vs p (sizes_of other_common other) in
            let led_shape : l.shape ≡ plain_with one ns = shape (plain_type no_structure) ∙ (item_shape ps vs p other_common other cells.0 (plain_type no_structure) cells.1 ∙ ap (λ c. plain_with c ns) same) in
            single_stands site l formed few one ns (plain_led l one ns path led_shape) subscript (shape_of ps vs r common item) (parameter_is None none)

      -- a TEMPORARY variable
      group_single : (labels : List Naming) (variable : Naming) → p.node ≡ OfTemporaryGroup labels variable → l.shape ≡ temporary_shape → sizes_of common item ≡ None → has_component_in ps q.around.block name [] subscript ≡ false
          → may_equal (kind_of_reference ps vs q (Refers place name [] subscript)) (kind_of_item ps vs r common item) ≡ true → Stands site l subscript (kinds_of (shape_of ps vs r common item))
      unfolding kind_of_reference kind_at may_equal
      group_single labels variable group shape none plainly equal =
          let refers : kind_of_reference ps vs q (Refers place name [] subscript) ≡ Some value.Double =
          ap (λ b. if b then None else option_and_then (λ (x : Phrase). kind_at ps vs x [] x.node) (declared_for ps q name)) plainly
          ∙ (ap (option_and_then (λ (x : Phrase). kind_at ps vs x [] x.node)) declared_so ∙ ap (kind_at ps vs p []) group) in
          let same = same_kind_is value.Double one (sym (ap (λ o. may_equal o (kind_of_item ps vs r common item)) refers ∙ ap (may_equal (Some value.Double)) one_is) ∙ equal) in
          let led_shape : l.shape ≡ plain_with one [] = shape ∙ ap (λ c. plain_with c []) same in
          single_stands site l formed few one [] (plain_led l one [] path led_shape) subscript (shape_of ps vs r common item) (parameter_is None none)

      -- an argument of a class that fits
      module _ (kind : Kind) (type : type_of common item ≡ Some kind) (calm : is_excused (class_of_reference ps q.around.block (Refers place name [] subscript)) ≡ false)
          (arrays : (sizes : Expressions) → sizes_of common item ≡ Some sizes → fits_places ps vs q r common item (class_of_reference ps q.around.block (Refers place name [] subscript)) (Some (Refers place name [] subscript)) ≡ true
          → Stands site l subscript (kinds_of (shape_of ps vs r common item))) where
        plain_kind : is_structure_type (Some kind) ≡ false
        plain_kind = ap is_structure_type (sym type) ∙ plain

        whole_so : (sizes : Expressions) → sizes_of common item ≡ Some sizes → arguments.is_whole common item kind ≡ true
        whole_so sizes sized = ap (λ b. b || is_some (sizes_of common item)) plain_kind ∙ ap is_some sized

        single_so : sizes_of common item ≡ None → arguments.is_whole common item kind ≡ false
        single_so none = ap (λ b. b || is_some (sizes_of common item)) plain_kind ∙ ap is_some none

        fitting : (is_excused (class_of_reference ps q.around.block (Refers place name [] subscript))
            || arguments.fits_whole ps vs q r common item (class_of_reference ps q.around.block (Refers place name [] subscript)) (Some (Refers place name [] subscript)) kind) ≡ true
            → fits_places ps vs q r common item (class_of_reference ps q.around.block (Refers place name [] subscript)) (Some (Refers place name [] subscript)) ≡ true
        fitting fits =
            let c = class_of_reference ps q.around.block (Refers place name [] subscript) in
            sym (ap (λ b. b || arguments.fits_whole ps vs q r common item c (Some (Refers place name [] subscript)) kind) calm
            ∙ ap (λ b. if b then arguments.fits_parts ps vs q r common item c (Some (Refers place name [] subscript)) else fits_places ps vs q r common item c (Some (Refers place name [] subscript))) plain_kind) ∙ fits

        pub stands_input : input_fits ps vs q r (Referred (Refers place name [] subscript)) (OfItem common item) ≡ true → is_whole (shape_of ps vs r common item) ≡ true → Stands site l subscript (kinds_of (shape_of ps vs r common item))
        unfolding input_fits class_of reference_in
        stands_input fits whole = by (sizes_of common item) refl where
          as_it : arguments.input_as ps vs q r common item (Referred (Refers place name [] subscript)) kind ≡ true
          as_it = sym (ap (λ (o : Option Kind). elim o [ None ↦ true | Some t ↦ arguments.input_as ps vs q r common item (Referred (Refers place name [] subscript)) t ]) type) ∙ fits

          by : (o : Option Expressions) → sizes_of common item ≡ o → Stands site l subscript (kinds_of (shape_of ps vs r common item))
          by None none = absurd (let not_whole = sym (ap is_whole (parameter_is None none)) ∙ whole in cc)
          by (Some sizes) sized =
              arrays sizes sized
              (fitting
              (sym (ap (λ b. if b
              then is_excused (class_of_reference ps q.around.block (Refers place name [] subscript))
              || arguments.fits_whole ps vs q r common item (class_of_reference ps q.around.block (Refers place name [] subscript)) (Some (Refers place name [] subscript)) kind
              else fits_single (class_of_type kind) (class_of_reference ps q.around.block (Refers place name [] subscript))) (whole_so sizes sized)) ∙ as_it))

        pub stands_output : (sizes_of common item ≡ None → arguments.is_single (class_of_reference ps q.around.block (Refers place name [] subscript)) ≡ true
            → may_equal (kind_of_reference ps vs q (Refers place name [] subscript)) (kind_of_item ps vs r common item) ≡ true → Stands site l subscript (kinds_of (shape_of ps vs r common item)))
            → output_fits ps vs q r (Refers place name [] subscript) (OfItem common item) ≡ true → Stands site l subscript (kinds_of (shape_of ps vs r common item))
        unfolding output_fits
        stands_output singles fits = by (sizes_of common item) refl where
          c : Option Class
          c = class_of_reference ps q.around.block (Refers place name [] subscript)

          as_it : arguments.output_as ps vs q r common item (Refers place name [] subscript) kind ≡ true
          as_it = sym (ap (λ (o : Option Kind). elim o [ None ↦ true | Some t ↦ arguments.output_as ps vs q r common item (Refers place name [] subscript) t ]) type) ∙ fits

          branch : (b : Bool) → arguments.is_whole common item kind ≡ b → (if b
              then is_excused (class_of_reference ps q.around.block (Refers place name [] subscript))
              || arguments.fits_whole ps vs q r common item (class_of_reference ps q.around.block (Refers place name [] subscript)) (Some (Refers place name [] subscript)) kind
              else arguments.is_single (class_of_reference ps q.around.block (Refers place name [] subscript)) && may_equal (kind_of_reference ps vs q (Refers place name [] subscript)) (kind_of_item ps vs r common item)) ≡ true
          branch b is = sym (ap (λ x. if x
              then is_excused (class_of_reference ps q.around.block (Refers place name [] subscript))
              || arguments.fits_whole ps vs q r common item (class_of_reference ps q.around.block (Refers place name [] subscript)) (Some (Refers place name [] subscript)) kind
              else arguments.is_single (class_of_reference ps q.around.block (Refers place name [] subscript)) && may_equal (kind_of_reference ps vs q (Refers place name [] subscript)) (kind_of_item ps vs r common item)) is) ∙ as_it

          by : (o : Option Expressions) → sizes_of common item ≡ o → Stands site l subscript (kinds_of (shape_of ps vs r common item))
          by None none =
              let both = and_parts (arguments.is_single (class_of_reference ps q.around.block (Refers place name [] subscript))) (may_equal (kind_of_reference ps vs q (Refers place name [] subscript)) (kind_of_item ps vs r common item))
              (branch false (single_so none)) in
              singles none both.0 both.1
          by (Some sizes) sized = arrays sizes sized (fitting (branch true (whole_so sizes sized)))

      -- the reference itself is looked at by the rules of subscripts and of ASSIGN arguments
      module _ (w : Phrase) (said : IsAmong w ps) (role : Role) (w_is : w.node ≡ OfReference role (Refers place name [] subscript)) (w_here : w.around.block ≡ site.block) (kind : Kind) (type : type_of common item ≡ Some kind) where
        -- how it fits
        abbrev pub Fits : Type 0
        Fits =
            ((input_fits ps vs q r (Referred (Refers place name [] subscript)) (OfItem common item) ≡ true) × (is_whole (shape_of ps vs r common item) ≡ true))
            ⊎ ((output_fits ps vs q r (Refers place name [] subscript) (OfItem common item) ≡ true) × (role ≡ roles.Output))

        meant_here : means ps q.around.block name ≡ Some k
        meant_here = ap (λ b. means ps b name) here ∙ meant

        -- no component of an item is assigned
        assigned : (other_common : List Attribute) (other : Declared) → p.node ≡ OfItem other_common other → role ≡ roles.Output → is_component (data_at ps p [] (OfItem other_common other)) subscript ≡ false
        unfolding use_rows misreceived reference_receives put put_fault
        assigned other_common other node_is output =
            let row : misreceived ps w w.node ≡ None = unbroken type_rows ps typed w said (λ qs o. misreceived qs o o.node) (of_uses (λ qs o. misreceived qs o o.node) (inr (inr (inr (inr (inr (inl refl))))))) in
            let none : put ps w.around.block (Refers place name [] subscript) ≡ None =
            ap (λ x. reference_receives ps w.around.block x (Refers place name [] subscript)) (sym output) ∙ (ap (misreceived ps w) (sym w_is) ∙ row) in
            let at_k = ap (λ (o : Option ℕ). elim o [
              | None ↦ if is_some (builtin_named name) then Some (722, place) else None
              | Some m ↦ elim (slice_get ps m) [ None ↦ None | Some x ↦ option_and_then {U = ℕ × Place} (λ rule. Some (rule, place)) (put_fault ps x [] subscript x.node) ]
            ]) (sym (ap (λ b. means ps b name) w_here ∙ meant)) ∙ none in
            let at_p = ap (λ (o : Option Phrase). elim o [ None ↦ None | Some x ↦ option_and_then {U = ℕ × Place} (λ rule. Some (rule, place)) (put_fault ps x [] subscript x.node) ]) (sym there) ∙ at_k in
            last (is_event_type (type_of other_common other)) (is_fixed ps p other_common other) (is_component (data_at ps p [] (OfItem other_common other)) subscript)
            (ap (put_fault ps p [] subscript) (sym node_is) ∙ no_rule_at place (put_fault ps p [] subscript p.node) at_p)
          where
            last : (event fixed component : Bool) → if◌then◌else◌ {A = Option ℕ} event (Some 722) (if fixed then Some 709 else if component then Some 722 else None) ≡ None → component ≡ false
            last event fixed false is = refl
            last true fixed true is = absurd (cc)
            last false true true is = absurd (cc)
            last false false true is = absurd (cc)

        component_so : (o : Option Data) → elim o [ None ↦ false | Some d ↦ arguments.has_component d subscript ] ≡ is_component o subscript
        unfolding is_component
        component_so None = refl
        component_so (Some d) = refl

        named_data : data_named ps q.around.block name [] ≡ data_at ps p [] p.node
        named_data =
            ap (option_and_then (λ m. option_and_then (λ (x : Phrase). data_at ps x [] x.node) (slice_get ps m))) meant_here ∙ ap (option_and_then (λ (x : Phrase). data_at ps x [] x.node)) there

        without : (o : Option Data) → data_at ps p [] p.node ≡ o → is_component o subscript ≡ false → has_component_in ps q.around.block name [] subscript ≡ false
        without o is none = ap (λ (x : Option Data). elim x [ None ↦ false | Some d ↦ arguments.has_component d subscript ]) (named_data ∙ is) ∙ (component_so o ∙ none)

        pub item_stands : (other_common : List Attribute) (other : Declared) → p.node ≡ OfItem other_common other → (is_structure_type (type_of other_common other) ≡ false → l.shape ≡ shape_of ps vs p other_common other) → is_value_item other_common other ≡ false
            → ((given : Expressions) → extent_of ps vs p (sizes_of other_common other) ≡ Some (extent_with (all_sizes ps vs p given)) → IsShort (all_sizes ps vs p given) → ChoiceReached ps vs q site (all_sizes ps vs p given) subscript) → Fits
            → Stands site l subscript (kinds_of (shape_of ps vs r common item))
        item_stands other_common other other_node shape stored reached fits =
            let its = item_typed ps typed p other_common other within other_node in
            let d : Data = typed_data its.0 (sizes_of other_common other) in
            let counted = item_counted ps typed w said role place name [] subscript w_is site.block k w_here meant p there refl other_common other its.0 other_node its.1 in
            let class_is = item_class ps typed q.around.block k place name subscript p other_common other its.0 meant_here there other_node its.1 counted in
            let calm = ap is_excused class_is ∙ chosen_calm its.0 (sizes_of other_common other) (chosen d subscript) in
            by calm (λ sizes sized so. item_array other_common other its.0 other_node its.1 shape counted class_is sizes sized reached so)
            (λ output none single equal. item_single other_common other its.0 other_node its.1 shape counted class_is none stored
            (without (data_at ps p [] (OfItem other_common other)) (ap (data_at ps p []) other_node) (assigned other_common other other_node output)) single equal) fits
          where
            by : is_excused (class_of_reference ps q.around.block (Refers place name [] subscript)) ≡ false
                → ((sizes : Expressions) → sizes_of common item ≡ Some sizes → fits_places ps vs q r common item (class_of_reference ps q.around.block (Refers place name [] subscript)) (Some (Refers place name [] subscript)) ≡ true
                → Stands site l subscript (kinds_of (shape_of ps vs r common item)))
                → (role ≡ roles.Output → sizes_of common item ≡ None → arguments.is_single (class_of_reference ps q.around.block (Refers place name [] subscript)) ≡ true
                → may_equal (kind_of_reference ps vs q (Refers place name [] subscript)) (kind_of_item ps vs r common item) ≡ true → Stands site l subscript (kinds_of (shape_of ps vs r common item)))
                → Fits → Stands site l subscript (kinds_of (shape_of ps vs r common item))
            by calm arrays singles (inl one) = stands_input kind type calm arrays one.0 one.1
            by calm arrays singles (inr one) = stands_output kind type calm arrays (singles one.1) one.0

        pub group_stands : (labels : List Naming) (variable : Naming) → p.node ≡ OfTemporaryGroup labels variable → l.shape ≡ temporary_shape → Fits → Stands site l subscript (kinds_of (shape_of ps vs r common item))
        unfolding is_excused is_whole_array is_component data_at is_nil
        group_stands labels variable group shape fits =
            let counted = group_counted ps typed w said role place name [] subscript w_is site.block k w_here meant p there refl labels variable group in
            let class_is = group_class ps typed q.around.block k place name subscript p labels variable meant_here there group counted.0 in
            let plainly = without (Some (data_with class.Integer 0 false)) (ap (data_at ps p []) group) counted.1 in
            by (ap is_excused class_is)
            (λ sizes sized so. absurd (let both = and_parts (is_whole_array (class_of_reference ps q.around.block (Refers place name [] subscript))) _ so in let other = sym (ap is_whole_array class_is) ∙ both.0 in cc))
            (λ none single equal. group_single labels variable group shape none plainly equal) fits
          where
            by : is_excused (class_of_reference ps q.around.block (Refers place name [] subscript)) ≡ false
                → ((sizes : Expressions) → sizes_of common item ≡ Some sizes → fits_places ps vs q r common item (class_of_reference ps q.around.block (Refers place name [] subscript)) (Some (Refers place name [] subscript)) ≡ true
                → Stands site l subscript (kinds_of (shape_of ps vs r common item)))
                → (sizes_of common item ≡ None → arguments.is_single (class_of_reference ps q.around.block (Refers place name [] subscript)) ≡ true
                → may_equal (kind_of_reference ps vs q (Refers place name [] subscript)) (kind_of_item ps vs r common item) ≡ true → Stands site l subscript (kinds_of (shape_of ps vs r common item)))
                → Fits → Stands site l subscript (kinds_of (shape_of ps vs r common item))
            by calm arrays singles (inl one) = stands_input kind type calm arrays one.0 one.1
            by calm arrays singles (inr one) = stands_output kind type calm arrays singles one.0
