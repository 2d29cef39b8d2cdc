-- Arguments with names of parts that are arrays or single values have the cells of their parameters.
use Rattle.std.specs.Prelude.{◌≡◌, ◌≤◌, ◌<◌, ◌⊎◌, ◌==◌, ◌&&◌, ◌||◌, ℕ, nat_lt, not, Bool, true, false, List, [], ◌∷◌, Option, Some, None, slice_get, if◌then◌else◌}
use Rattle.std.specs.Option.{option_and_then, is_some}
use Rattle.std.proofs.Common.{refl, sym, ap, subst, ◌∙◌, inl, inr, arith}
use Rattle.std.proofs.lemmas.Bool.{and_parts, eqb-true, ltb-false, ltb-true}
use Rattle.hal_base.specs.declared.refusal.Place.{Place}
use Rattle.hal_grammar.specs.Leaves.{Naming}
use Rattle.hal_grammar.specs.Expressions.{Referred, Expressions, Refers, Subscript, Unsubscripted, ByName, ByInteger, ByParts, Subscripts, NoSubscripts, MoreSubscripts, Every, One, Range, Portion}
use Rattle.hal_grammar.specs.Declarations.{Kind, IntegerKind, BooleanKind, EventKind, BitKind, CharacterKind, StructureKind, Attribute, Declared}
use Rattle.hal_grammar.specs.Units.{File}
use Rattle.hal_phrases.specs.declared.role.Role.{Role}
use Rattle.hal_phrases.specs.declared.role.Role.TheVariants as roles
use Rattle.hal_phrases.specs.Phrases.{Phrase, OfItem, OfReference}
use Rattle.hal_phrases.specs.GatheredUnits.{phrases_of}
use Rattle.hal_names.specs.Means.{means}
use Rattle.hal_scope.specs.Builtins.{builtin_named}
use Rattle.hal_scope.specs.Rules.{IsAmong, IsSound, rows}
use Rattle.hal_scope.specs.Sorts.{type_of}
use Rattle.hal_kinds.specs.declared.class.Class.TheVariants as class
use Rattle.hal_kinds.specs.declared.choice.Choice.{Choice}
use Rattle.hal_kinds.specs.declared.data.Data.{Data}
use Rattle.hal_kinds.specs.Attributes.{count_of, sizes_of}
use Rattle.hal_kinds.specs.Classes.{class_of, class_of_reference}
use Rattle.hal_kinds.specs.Data.{class_of_type, data_at, data_named, data_with, dimensions_of, is_event_type, is_structure_type}
use Rattle.hal_kinds.specs.Subscripts.{are_left, are_many, choice, choice_of, chosen, class_in, has_copies_left, has_places_left, is_many, is_miscounted, is_none, is_structure_class, miscopied, misplaced, parts_chosen, subscript_count}
use Rattle.hal_types.specs.Rules.{type_rows, use_rows}
use Rattle.hal_uses.specs.Receivers.{is_component, is_fixed, misreceived, put, put_fault, reference_receives}
use Rattle.hal_values.specs.declared.value.Kind as values
use Rattle.hal_constants.specs.Known.{Known, known, kind_of_item}
use Rattle.hal_sizes.specs.Sizes.{extent_of}
use Rattle.hal_shapes.specs.Arguments as arguments
use Rattle.hal_shapes.specs.Arguments.{fits_places, has_component_in, input_fits, kind_of_reference, output_fits}
use Rattle.hal_shapes.specs.declared.reach.Reach.{Reach}
use Rattle.hal_shapes.specs.declared.reach.Reach.TheVariants as reach
use Rattle.hal_shapes.specs.Reaches.{reach_of}
use Rattle.hal_shapes.specs.Selections.{copies_at, copies_by, copies_chosen, copies_left, copy_subs, declared_for, extent_at, kind_at, reference_in}
use Rattle.hal_shapes.specs.Shapes.{array_argument, chooses, fits_array, fits_single, is_excused, is_lone, is_whole_array, may_equal}
use Rattle.hal_shapes.specs.Spans.{array_subs, selects}
use Rattle.hal_meaning.specs.Elements.{all_sizes, copy_size, kinds_of, shape_of, sizes_given}
use Rattle.hal_meaning.specs.Variables.{is_whole}
use Rattle.hal_agreement.specs.Sites.{Site}
use Rattle.hal_gen_expr.specs.Led.{Led}
use Rattle.hal_gen_expr.specs.Numbering.{most}
use Rattle.hal_fit_rules.proofs.Unbroken.{unbroken, of_uses}
use Rattle.hal_fit_names.specs.Suited.{HasFitLiterals}
use Rattle.hal_right_images.proofs.rows.Filled.{sizes_some}
use Rattle.hal_right_images.proofs.rows.Formed.{IsFormed}
use Rattle.hal_right_images.proofs.rows.LookingUp.{LooksUp}
use Rattle.hal_right_images.specs.areas.Reached.{AreReached, ChoiceReached}
use Rattle.hal_right_images.specs.areas.Sized.{extent_with}
use Rattle.hal_right_images.proofs.areas.Arrays.{has_extent, left_given}
use Rattle.hal_right_images.proofs.areas.Classes.{PassesArray, calm, no_array, no_rule_at, or_none, passes_so}
use Rattle.hal_right_images.proofs.areas.Inner.{path_class, path_counted}
use Rattle.hal_right_images.proofs.areas.Parameters.{KindsKnown}
use Rattle.hal_right_images.proofs.areas.Ranges.{IsLow}
use Rattle.hal_right_images.proofs.areas.Plainly.{item_shape, plain_with}
use Rattle.hal_right_images.proofs.areas.Spans.{IsShort}
use Rattle.hal_right_images.proofs.areas.Standing.{IsPlainLed, Stands, left_stands, same_kind_is, single_stands}

-- a part of a type with sizes, in a structure that has copies or not
abbrev pub part_data : Kind → Option Expressions → Bool → Data
part_data kind sizes copied = data_with (class_of_type kind) (dimensions_of sizes) copied

-- a part at the bottom at the end of names of parts, for the checks and for code
pub record IsComponent (ps : List Phrase) (p : Phrase) (path : List Naming) (l : Led) : Type 0 where
  pub common : List Attribute
  pub item : Declared
  pub node : p.node ≡ OfItem common item
  pub structure : Phrase
  pub type_ : Kind
  pub plain : is_structure_type (Some type_) ≡ false
  pub sizes : Option Expressions
  pub copied : Bool
  pub data_is : data_at ps p path (OfItem common item) ≡ Some (part_data type_ sizes copied)
  pub cells : values.Kind
  pub kind_is : kind_at ps (known ps) p path p.node ≡ Some cells
  pub extent_is : (given : Expressions) → sizes ≡ Some given → (extent_at ps (known ps) p path p.node ≡ Some (extent_with (all_sizes ps (known ps) structure given))) × IsShort (all_sizes ps (known ps) structure given)
  pub copies : copied ≡ true → (n : ℕ) × (copies_at ps (known ps) p p.node ≡ Some n) × (0 < n) × IsLow n
  pub led : IsPlainLed l cells (sizes_given ps (known ps) structure sizes)

no_structure : (kind : Kind) → is_structure_type (Some kind) ≡ false → is_structure_class (class_of_type kind) ≡ false
unfolding class_of_type is_structure_class is_structure_type
no_structure (IntegerKind place) plain = refl
no_structure (BooleanKind place) plain = refl
no_structure (EventKind place) plain = refl
no_structure (BitKind place size) plain = refl
no_structure (CharacterKind place size) plain = refl
no_structure (StructureKind place template copies) plain = absurd (cc)

-- its class
pub part_class : (kind : Kind) (sizes : Option Expressions) (copied : Bool) (c : Choice) → is_structure_type (Some kind) ≡ false
    → class_in (part_data kind sizes copied) c ≡ (if has_copies_left (part_data kind sizes copied) c || has_places_left (part_data kind sizes copied) c then class.Array else class_of_type kind)
part_class kind sizes copied c plain =
    ap (λ b. if b then class.Structure else if has_copies_left (part_data kind sizes copied) c || has_places_left (part_data kind sizes copied) c then class.Array else class_of_type kind) (no_structure kind plain)

pub part_calm : (kind : Kind) (sizes : Option Expressions) (copied : Bool) (c : Choice) → is_structure_type (Some kind) ≡ false → is_excused (Some (class_in (part_data kind sizes copied) c)) ≡ false
unfolding is_excused
part_calm kind sizes copied c plain = ap (λ x. is_excused (Some x)) (part_class kind sizes copied c plain) ∙ either (has_copies_left (part_data kind sizes copied) c || has_places_left (part_data kind sizes copied) c) where
  either : (b : Bool) → is_excused (Some (if b then class.Array else class_of_type kind)) ≡ false
  either true = refl
  either false = calm kind

-- an array that is passed
record IsArrayPart (sizes : Option Expressions) (subscript : Subscript) : Type 0 where
  given : Expressions
  sized : sizes ≡ Some given
  some : 0 < count_of given
  passes : PassesArray given subscript

array_part : (kind : Kind) (sizes : Option Expressions) (copied : Bool) (subscript : Subscript) → is_structure_type (Some kind) ≡ false → is_miscounted (part_data kind sizes copied) (chosen (part_data kind sizes copied) subscript) ≡ false
    → has_copies_left (part_data kind sizes copied) (chosen (part_data kind sizes copied) subscript) ≡ false → is_whole_array (Some (class_in (part_data kind sizes copied) (chosen (part_data kind sizes copied) subscript))) ≡ true → IsArrayPart sizes subscript
unfolding is_whole_array dimensions_of
array_part kind sizes copied subscript plain counted lone whole = left_so (has_places_left (part_data kind sizes copied) (chosen (part_data kind sizes copied) subscript)) refl whole_so where
  whole_so : is_whole_array (Some (if has_places_left (part_data kind sizes copied) (chosen (part_data kind sizes copied) subscript) then class.Array else class_of_type kind)) ≡ true
  whole_so =
      sym (ap (λ b. is_whole_array (Some (if b || has_places_left (part_data kind sizes copied) (chosen (part_data kind sizes copied) subscript) then class.Array else class_of_type kind))) lone)
      ∙ (sym (ap (λ x. is_whole_array (Some x)) (part_class kind sizes copied (chosen (part_data kind sizes copied) subscript) plain)) ∙ whole)

  sized_so : (o : Option Expressions) → sizes ≡ o → (nat_lt 0 (dimensions_of o) && are_left (choice_of (nat_lt 0 (dimensions_of o)) subscript).places (choice_of (nat_lt 0 (dimensions_of o)) subscript).many_places) ≡ true
      → misplaced (part_data kind o copied) (choice_of (nat_lt 0 (dimensions_of o)) subscript) ≡ false → IsArrayPart sizes subscript
  sized_so None is left placed = absurd (cc)
  sized_so (Some given) is left placed =
      let both = and_parts (nat_lt 0 (count_of given)) (are_left (choice_of (nat_lt 0 (count_of given)) subscript).places (choice_of (nat_lt 0 (count_of given)) subscript).many_places) left in
      record {
        given = given;
        sized = is;
        some = ltb-true 0 (count_of given) both.0;
        passes = passes_so given (part_data kind (Some given) copied) refl both.0 subscript (subst (λ b. misplaced (part_data kind (Some given) copied) (choice_of b subscript) ≡ false) both.0 placed)
            (subst (λ b. are_left (choice_of b subscript).places (choice_of b subscript).many_places ≡ true) both.0 both.1);
      }

  left_so : (b : Bool) → has_places_left (part_data kind sizes copied) (chosen (part_data kind sizes copied) subscript) ≡ b → is_whole_array (Some (if b then class.Array else class_of_type kind)) ≡ true → IsArrayPart sizes subscript
  left_so true left is =
      sized_so sizes refl left
      (or_none (miscopied (part_data kind sizes copied) (chosen (part_data kind sizes copied) subscript)) (misplaced (part_data kind sizes copied) (chosen (part_data kind sizes copied) subscript)) counted)
  left_so false left is = absurd (let other = sym (no_array kind) ∙ is in cc)

none_alone : (n : ℕ) → 0 < n → is_lone (Some n) ≡ true → ⊥
unfolding is_lone
none_alone n some lone = let none = eqb-true n 0 lone in absurd (omega (arith, some, none))

several : (left : ℕ) (x : Reach) → x ≡ reach.Many left → is_lone (copies_by x) ≡ true → is_lone (Some left) ≡ true
unfolding copies_by
several left x is lone = sym (ap (λ r. is_lone (copies_by r)) is) ∙ lone

first_false : (b c : Bool) → (b || c) ≡ false → b ≡ false
first_false true c is = absurd (cc)
first_false false c is = refl

one_at_most : (m : ℕ) → (nat_lt 0 m && (not true || nat_lt 1 m)) ≡ false → m ≤ 1
one_at_most m is = by (nat_lt 0 m) refl (nat_lt 1 m) refl is where
  by : (b : Bool) → nat_lt 0 m ≡ b → (c : Bool) → nat_lt 1 m ≡ c → (b && c) ≡ false → m ≤ 1
  by false none c more so = let low = ltb-false 0 m none in omega (arith, low)
  by true some false more so = let low = ltb-false 1 m more in omega (arith, low)
  by true some true more so = absurd (cc)

not_left : (m : ℕ) (many : Bool) → 0 < m → many ≡ false → are_left m many ≡ false
not_left m many some one = by (m == 0) refl where
  by : (b : Bool) → (m == 0) ≡ b → (b || many) ≡ false
  by true none = let zero_ = eqb-true m 0 none in absurd (omega (arith, zero_, some))
  by false more = one

-- where at most one copy is chosen, none is left beside another one
module _ (ps : List Phrase) (vs : Known) (q p : Phrase) (site : Site) (n : ℕ) (some : 0 < n) (copies_so : copies_at ps vs p p.node ≡ Some n) where
  lone_is : (subscript : Subscript) → is_lone (copies_chosen ps vs q subscript p) ≡ true → is_lone (copies_left ps vs q n (copy_subs subscript)) ≡ true
  lone_is subscript lone = sym (ap (λ o. is_lone (option_and_then (λ size. copies_left ps vs q size (copy_subs subscript)) o)) copies_so) ∙ lone

  one_copy : (subs : Subscripts) → AreReached ps vs q site (n ∷ []) subs → (nat_lt 0 (subscript_count subs) && (not true || nat_lt 1 (subscript_count subs))) ≡ false → is_lone (copies_left ps vs q n subs) ≡ true → are_left (subscript_count subs) (are_many subs) ≡ false
  unfolding copies_left copies_by reach_of subscript_count are_many is_many
  one_copy NoSubscripts plain counted lone = absurd (none_alone n some lone)
  one_copy (MoreSubscripts (Every there) others) plain counted lone = absurd (none_alone n some lone)
  one_copy (MoreSubscripts (Range first last) others) reached counted lone = absurd (none_alone reached.0.left reached.0.some (several reached.0.left (reach_of ps vs q n (Range first last)) reached.0.reach lone))
  one_copy (MoreSubscripts (Portion count first) others) reached counted lone = absurd (none_alone reached.0.left reached.0.some (several reached.0.left (reach_of ps vs q n (Portion count first)) reached.0.reach lone))
  one_copy (MoreSubscripts (One position) NoSubscripts) plain counted lone = not_left (subscript_count (MoreSubscripts (One position) NoSubscripts)) false (omega arith) refl
  one_copy (MoreSubscripts (One position) (MoreSubscripts second others)) plain counted lone =
      let few = one_at_most (subscript_count (MoreSubscripts (One position) (MoreSubscripts second others))) counted in
      absurd (omega (arith, few))

  copies_alone : (kind : Kind) (sizes : Option Expressions) (subscript : Subscript) → AreReached ps vs q site (n ∷ []) (copy_subs subscript) → is_miscounted (part_data kind sizes true) (chosen (part_data kind sizes true) subscript) ≡ false
      → is_lone (copies_chosen ps vs q subscript p) ≡ true → has_copies_left (part_data kind sizes true) (chosen (part_data kind sizes true) subscript) ≡ false
  unfolding copy_subs copies_left choice_of parts_chosen
  copies_alone kind sizes Unsubscripted plain counted lone = absurd (none_alone n some (lone_is Unsubscripted lone))
  copies_alone kind sizes (ByName there name) plain counted lone = absurd (none_alone n some (lone_is (ByName there name) lone))
  copies_alone kind sizes (ByInteger there mark number) plain counted lone = absurd (none_alone n some (lone_is (ByInteger there mark number) lone))
  copies_alone kind sizes (ByParts there subs arrays components) plain counted lone =
      by (nat_lt 0 (dimensions_of sizes) && is_none arrays)
      (first_false (miscopied (part_data kind sizes true) (chosen (part_data kind sizes true) (ByParts there subs arrays components))) (misplaced (part_data kind sizes true) (chosen (part_data kind sizes true) (ByParts there subs arrays components))) counted)
    where
      by : (b : Bool) → miscopied (part_data kind sizes true) (if b then choice (subscript_count subs) (subscript_count components) 0 (are_many subs) (are_many components)
          else choice (subscript_count subs) (subscript_count arrays) (subscript_count components) (are_many subs) (are_many arrays)) ≡ false
          → has_copies_left (part_data kind sizes true) (if b then choice (subscript_count subs) (subscript_count components) 0 (are_many subs) (are_many components)
          else choice (subscript_count subs) (subscript_count arrays) (subscript_count components) (are_many subs) (are_many arrays)) ≡ false
      by true one = one_copy subs plain one (lone_is (ByParts there subs arrays components) lone)
      by false one = one_copy subs plain one (lone_is (ByParts there subs arrays components) lone)

part_alone : (ps : List Phrase) (vs : Known) (q p : Phrase) (site : Site) (kind : Kind) (sizes : Option Expressions) (copied : Bool) (subscript : Subscript) → (copied ≡ true → (n : ℕ) × (copies_at ps vs p p.node ≡ Some n) × (0 < n) × AreReached ps vs q site (n ∷ []) (copy_subs subscript))
    → is_miscounted (part_data kind sizes copied) (chosen (part_data kind sizes copied) subscript) ≡ false → is_lone (copies_chosen ps vs q subscript p) ≡ true
    → has_copies_left (part_data kind sizes copied) (chosen (part_data kind sizes copied) subscript) ≡ false
part_alone ps vs q p site kind sizes false subscript copies counted lone = refl
part_alone ps vs q p site kind sizes true subscript copies counted lone = let so = copies refl in copies_alone ps vs q p site so.0 so.2 so.1 kind sizes subscript so.3 counted lone

module _ (files : List File) (looks : LooksUp (phrases_of files)) (named : IsSound rows (phrases_of files)) (typed : IsSound type_rows (phrases_of files)) (literals : HasFitLiterals (phrases_of files)) (known_kinds : KindsKnown (phrases_of files)) where
  abbrev ps : List Phrase
  ps = phrases_of files

  abbrev vs : Known
  vs = known (phrases_of files)

  module _ (q : Phrase) (site : Site) (here : q.around.block ≡ site.block) (place : Place) (name : List ℕ) (n : Naming) (ns : List Naming) (subscript : Subscript) (k : ℕ) (meant : means ps site.block name ≡ Some k) (p : Phrase) (there : slice_get ps k ≡ Some p)
      (l : Led) (formed : IsFormed l.shape) (few : copy_size l.shape.components ≤ most) (it : IsComponent ps p (n ∷ ns) l)
      (places : (given : Expressions) → it.sizes ≡ Some given → ChoiceReached ps vs q site (all_sizes ps vs it.structure given) subscript) (copies : (c : ℕ) → copies_at ps vs p p.node ≡ Some c → 0 < c → IsLow c → AreReached ps vs q site (c ∷ []) (copy_subs subscript))
      (r : Phrase) (common : List Attribute) (item : Declared) (inside : IsAmong r ps) (node : r.node ≡ OfItem common item) (one : values.Kind) (plain : is_structure_type (type_of common item) ≡ false) (one_is : kind_of_item ps vs r common item ≡ Some one)
      (w : Phrase) (said : IsAmong w ps) (role : Role) (w_is : w.node ≡ OfReference role (Refers place name (n ∷ ns) subscript)) (w_here : w.around.block ≡ site.block) (kind : Kind) (type : type_of common item ≡ Some kind) where
    abbrev d : Data
    d = part_data it.type_ it.sizes it.copied

    meant_here : means ps q.around.block name ≡ Some k
    meant_here = ap (λ b. means ps b name) here ∙ meant

    declared_so : declared_for ps q name ≡ Some p
    unfolding declared_for
    declared_so = ap (option_and_then (λ m. slice_get ps m)) meant_here ∙ there

    counted : is_miscounted d (chosen d subscript) ≡ false
    counted = path_counted ps typed q site.block here place name n ns subscript k meant p there w said role w_is w_here it.common it.item it.node d it.data_is

    class_is : class_of_reference ps q.around.block (Refers place name (n ∷ ns) subscript) ≡ Some (class_in d (chosen d subscript))
    class_is = path_class ps typed q site.block here place name n ns subscript k meant p there w said role w_is w_here it.common it.item it.node d it.data_is

    calm_so : is_excused (class_of_reference ps q.around.block (Refers place name (n ∷ ns) subscript)) ≡ false
    calm_so = ap is_excused class_is ∙ part_calm it.type_ it.sizes it.copied (chosen d subscript) it.plain

    shape_is : (sizes : Option Expressions) → sizes_of common item ≡ sizes → shape_of ps vs r common item ≡ plain_with one (sizes_given ps vs r sizes)
    shape_is sizes is = item_shape ps vs r common item one plain one_is ∙ ap (λ o. plain_with one (sizes_given ps vs r o)) is

    same_kinds : may_equal (kind_at ps vs p (n ∷ ns) p.node) (kind_of_item ps vs r common item) ≡ true → it.cells ≡ one
    unfolding may_equal
    same_kinds equal = same_kind_is it.cells one (sym (ap (λ o. may_equal o (kind_of_item ps vs r common item)) it.kind_is ∙ ap (may_equal (Some it.cells)) one_is) ∙ equal)

    led_one : it.cells ≡ one → IsPlainLed l one (sizes_given ps vs it.structure it.sizes)
    led_one same = subst (λ c. IsPlainLed l c (sizes_given ps vs it.structure it.sizes)) same it.led

    copies_here : it.copied ≡ true → (c : ℕ) × (copies_at ps vs p p.node ≡ Some c) × (0 < c) × AreReached ps vs q site (c ∷ []) (copy_subs subscript)
    copies_here is = let so = it.copies is in (so.0, so.1, so.2, copies so.0 so.1 so.2 so.3)

    -- an array
    arrays : (sizes : Expressions) → sizes_of common item ≡ Some sizes → fits_places ps vs q r common item (class_of_reference ps q.around.block (Refers place name (n ∷ ns) subscript)) (Some (Refers place name (n ∷ ns) subscript)) ≡ true
        → Stands site l subscript (kinds_of (shape_of ps vs r common item))
    unfolding array_argument fits_array chooses
    arrays sizes sized fits =
        let both = and_parts (is_whole_array (class_of_reference ps q.around.block (Refers place name (n ∷ ns) subscript)))
        (fits_array ps vs q (kind_of_item ps vs r common item) (extent_of ps vs r (sizes_of common item)) (Refers place name (n ∷ ns) subscript)) fits in
        let found = ap (λ (o : Option Phrase). elim o [
          | None ↦ true
          | Some x ↦ is_lone (copies_chosen ps vs q subscript x)
              && (may_equal (kind_at ps vs x (n ∷ ns) x.node) (kind_of_item ps vs r common item) && chooses ps vs q (extent_of ps vs r (sizes_of common item)) (extent_at ps vs x (n ∷ ns) x.node) subscript)
        ]) (sym declared_so) ∙ both.1 in
        let alone = and_parts (is_lone (copies_chosen ps vs q subscript p)) _ found in
        let fit = and_parts (may_equal (kind_at ps vs p (n ∷ ns) p.node) (kind_of_item ps vs r common item)) (chooses ps vs q (extent_of ps vs r (sizes_of common item)) (extent_at ps vs p (n ∷ ns) p.node) subscript) alone.1 in
        let array = array_part it.type_ it.sizes it.copied subscript it.plain counted (part_alone ps vs q p site it.type_ it.sizes it.copied subscript copies_here counted alone.0) (ap is_whole_array (sym class_is) ∙ both.0) in
        let same = same_kinds fit.0 in
        let wanted = has_extent files looks named typed literals known_kinds r common item sizes inside node sized in
        let has = it.extent_is array.given array.sized in
        let ws = all_sizes ps vs r sizes in
        let ns_ = all_sizes ps vs it.structure array.given in
        let selects_ : selects ps vs q (extent_with ws) (extent_with ns_) (array_subs subscript) ≡ true =
        sym (ap (λ o. chooses ps vs q o (extent_at ps vs p (n ∷ ns) p.node) subscript) wanted.extent_so ∙ ap (λ o. chooses ps vs q (Some (extent_with ws)) o subscript) has.0) ∙ fit.1 in
        left_stands site l formed few one ns_ (subst (λ o. IsPlainLed l one (sizes_given ps vs it.structure o)) array.sized (led_one same)) subscript ws (shape_of ps vs r common item) (shape_is (Some sizes) sized)
        (left_given files looks named typed literals known_kinds q site ws (sizes_some ps vs r (Some sizes)) wanted.short it.structure subscript array.given array.some has.1 array.passes (places array.given array.sized) selects_)

    -- no component of it is assigned
    assigned : role ≡ roles.Output → has_component_in ps q.around.block name (n ∷ ns) subscript ≡ false
    unfolding use_rows misreceived reference_receives put put_fault is_component
    assigned output =
        let row : misreceived ps w w.node ≡ None = unbroken type_rows ps typed w said (λ qs o. misreceived qs o o.node) (of_uses (λ qs o. misreceived qs o o.node) (inr (inr (inr (inr (inr (inl refl))))))) in
        let none : put ps w.around.block (Refers place name (n ∷ ns) subscript) ≡ None =
        ap (λ x. reference_receives ps w.around.block x (Refers place name (n ∷ ns) subscript)) (sym output) ∙ (ap (misreceived ps w) (sym w_is) ∙ row) in
        let at_k = ap (λ (o : Option ℕ). elim o [
          | None ↦ if is_some (builtin_named name) then Some (722, place) else None
          | Some m ↦ elim (slice_get ps m) [ None ↦ None | Some x ↦ option_and_then {U = ℕ × Place} (λ rule. Some (rule, place)) (put_fault ps x (n ∷ ns) subscript x.node) ]
        ]) (sym (ap (λ b. means ps b name) w_here ∙ meant)) ∙ none in
        let at_p = ap (λ (o : Option Phrase). elim o [ None ↦ None | Some x ↦ option_and_then {U = ℕ × Place} (λ rule. Some (rule, place)) (put_fault ps x (n ∷ ns) subscript x.node) ]) (sym there) ∙ at_k in
        let no_component = last (is_event_type (type_of it.common it.item)) (is_fixed ps p it.common it.item) (is_component (data_at ps p (n ∷ ns) (OfItem it.common it.item)) subscript)
        (ap (put_fault ps p (n ∷ ns) subscript) (sym it.node) ∙ no_rule_at place (put_fault ps p (n ∷ ns) subscript p.node) at_p) in
        let named_data : data_named ps q.around.block name (n ∷ ns) ≡ Some d =
        ap (option_and_then (λ m. option_and_then (λ (x : Phrase). data_at ps x (n ∷ ns) x.node) (slice_get ps m))) meant_here
        ∙ (ap (option_and_then (λ (x : Phrase). data_at ps x (n ∷ ns) x.node)) there ∙ (ap (data_at ps p (n ∷ ns)) it.node ∙ it.data_is)) in
        ap (λ (x : Option Data). elim x [ None ↦ false | Some e ↦ arguments.has_component e subscript ]) named_data ∙ (sym (ap (λ o. is_component o subscript) it.data_is) ∙ no_component)
      where
        last : (event fixed component : Bool) → if◌then◌else◌ {A = Option ℕ} event (Some 722) (if fixed then Some 709 else if component then Some 722 else None) ≡ None → component ≡ false
        last event fixed false is = refl
        last true fixed true is = absurd (cc)
        last false true true is = absurd (cc)
        last false false true is = absurd (cc)

    -- one value
    singles : role ≡ roles.Output → sizes_of common item ≡ None → may_equal (kind_of_reference ps vs q (Refers place name (n ∷ ns) subscript)) (kind_of_item ps vs r common item) ≡ true → Stands site l subscript (kinds_of (shape_of ps vs r common item))
    unfolding kind_of_reference
    singles output none equal =
        let refers : kind_of_reference ps vs q (Refers place name (n ∷ ns) subscript) ≡ kind_at ps vs p (n ∷ ns) p.node =
        ap (λ b. if b then None else option_and_then (λ (x : Phrase). kind_at ps vs x (n ∷ ns) x.node) (declared_for ps q name)) (assigned output) ∙ ap (option_and_then (λ (x : Phrase). kind_at ps vs x (n ∷ ns) x.node)) declared_so in
        let same = same_kinds (ap (λ o. may_equal o (kind_of_item ps vs r common item)) (sym refers) ∙ equal) in
        single_stands site l formed few one (sizes_given ps vs it.structure it.sizes) (led_one same) subscript (shape_of ps vs r common item) (shape_is None none)

    plain_kind : is_structure_type (Some kind) ≡ false
    plain_kind = ap is_structure_type (sym type) ∙ plain

    whole_so : (sizes : Expressions) → sizes_of common item ≡ Some sizes → arguments.is_whole common item kind ≡ true
    whole_so sizes sized = ap (λ b. b || is_some (sizes_of common item)) plain_kind ∙ ap is_some sized

    single_so : sizes_of common item ≡ None → arguments.is_whole common item kind ≡ false
    single_so none = ap (λ b. b || is_some (sizes_of common item)) plain_kind ∙ ap is_some none

    fitting : (is_excused (class_of_reference ps q.around.block (Refers place name (n ∷ ns) subscript))
        || arguments.fits_whole ps vs q r common item (class_of_reference ps q.around.block (Refers place name (n ∷ ns) subscript)) (Some (Refers place name (n ∷ ns) subscript)) kind) ≡ true
        → fits_places ps vs q r common item (class_of_reference ps q.around.block (Refers place name (n ∷ ns) subscript)) (Some (Refers place name (n ∷ ns) subscript)) ≡ true
    fitting fits =
        let c = class_of_reference ps q.around.block (Refers place name (n ∷ ns) subscript) in
        sym (ap (λ b. b || arguments.fits_whole ps vs q r common item c (Some (Refers place name (n ∷ ns) subscript)) kind) calm_so
        ∙ ap (λ b. if b then arguments.fits_parts ps vs q r common item c (Some (Refers place name (n ∷ ns) subscript)) else fits_places ps vs q r common item c (Some (Refers place name (n ∷ ns) subscript))) plain_kind) ∙ fits

    -- an input argument
    stands_input : input_fits ps vs q r (Referred (Refers place name (n ∷ ns) subscript)) (OfItem common item) ≡ true → is_whole (shape_of ps vs r common item) ≡ true → Stands site l subscript (kinds_of (shape_of ps vs r common item))
    unfolding input_fits class_of reference_in
    stands_input fits whole = by (sizes_of common item) refl where
      as_it : arguments.input_as ps vs q r common item (Referred (Refers place name (n ∷ ns) subscript)) kind ≡ true
      as_it = sym (ap (λ (o : Option Kind). elim o [ None ↦ true | Some t ↦ arguments.input_as ps vs q r common item (Referred (Refers place name (n ∷ ns) subscript)) t ]) type) ∙ fits

      by : (o : Option Expressions) → sizes_of common item ≡ o → Stands site l subscript (kinds_of (shape_of ps vs r common item))
      by None none = absurd (let not_whole = sym (ap is_whole (shape_is None none)) ∙ whole in cc)
      by (Some sizes) sized =
          arrays sizes sized
          (fitting
          (sym (ap (λ b. if b
          then is_excused (class_of_reference ps q.around.block (Refers place name (n ∷ ns) subscript))
          || arguments.fits_whole ps vs q r common item (class_of_reference ps q.around.block (Refers place name (n ∷ ns) subscript)) (Some (Refers place name (n ∷ ns) subscript)) kind
          else fits_single (class_of_type kind) (class_of_reference ps q.around.block (Refers place name (n ∷ ns) subscript))) (whole_so sizes sized)) ∙ as_it))

    -- an ASSIGN argument
    stands_output : role ≡ roles.Output → output_fits ps vs q r (Refers place name (n ∷ ns) subscript) (OfItem common item) ≡ true → Stands site l subscript (kinds_of (shape_of ps vs r common item))
    unfolding output_fits
    stands_output output fits = by (sizes_of common item) refl where
      as_it : arguments.output_as ps vs q r common item (Refers place name (n ∷ ns) subscript) kind ≡ true
      as_it = sym (ap (λ (o : Option Kind). elim o [ None ↦ true | Some t ↦ arguments.output_as ps vs q r common item (Refers place name (n ∷ ns) subscript) t ]) type) ∙ fits

      branch : (b : Bool) → arguments.is_whole common item kind ≡ b → (if b
          then is_excused (class_of_reference ps q.around.block (Refers place name (n ∷ ns) subscript))
          || arguments.fits_whole ps vs q r common item (class_of_reference ps q.around.block (Refers place name (n ∷ ns) subscript)) (Some (Refers place name (n ∷ ns) subscript)) kind
          else arguments.is_single (class_of_reference ps q.around.block (Refers place name (n ∷ ns) subscript)) && may_equal (kind_of_reference ps vs q (Refers place name (n ∷ ns) subscript)) (kind_of_item ps vs r common item)) ≡ true
      branch b is = sym (ap (λ x. if x
          then is_excused (class_of_reference ps q.around.block (Refers place name (n ∷ ns) subscript))
          || arguments.fits_whole ps vs q r common item (class_of_reference ps q.around.block (Refers place name (n ∷ ns) subscript)) (Some (Refers place name (n ∷ ns) subscript)) kind
          else arguments.is_single (class_of_reference ps q.around.block (Refers place name (n ∷ ns) subscript)) && may_equal (kind_of_reference ps vs q (Refers place name (n ∷ ns) subscript)) (kind_of_item ps vs r common item)) is) ∙ as_it

      by : (o : Option Expressions) → sizes_of common item ≡ o → Stands site l subscript (kinds_of (shape_of ps vs r common item))
      by None none =
          singles output none
          (and_parts (arguments.is_single (class_of_reference ps q.around.block (Refers place name (n ∷ ns) subscript))) (may_equal (kind_of_reference ps vs q (Refers place name (n ∷ ns) subscript)) (kind_of_item ps vs r common item))
          (branch false (single_so none))).1
      by (Some sizes) sized = arrays sizes sized (fitting (branch true (whole_so sizes sized)))

    pub component_stands : ((input_fits ps vs q r (Referred (Refers place name (n ∷ ns) subscript)) (OfItem common item) ≡ true) × (is_whole (shape_of ps vs r common item) ≡ true))
        ⊎ ((output_fits ps vs q r (Refers place name (n ∷ ns) subscript) (OfItem common item) ≡ true) × (role ≡ roles.Output))
        → Stands site l subscript (kinds_of (shape_of ps vs r common item))
    component_stands (inl fit) = stands_input fit.0 fit.1
    component_stands (inr fit) = stands_output fit.1 fit.0
