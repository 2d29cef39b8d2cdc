-- Data that take values of a class take values of its sort.
use Rattle.std.proofs.Common.{◌≡◌, ℕ, zero, Bool, true, false, ◌||◌, List, Option, Some, None, slice_get, if◌then◌else◌, refl, sym, ap, ◌∙◌}
use Rattle.std.specs.Option.{option_and_then, is_some}
use Rattle.hal_grammar.specs.Leaves.{Naming}
use Rattle.hal_grammar.specs.Expressions.{Expressions}
use Rattle.hal_grammar.specs.Declarations.{Kind, IntegerKind, BooleanKind, EventKind, BitKind, CharacterKind, StructureKind, Part}
use Rattle.hal_phrases.specs.Phrases.{Node, Phrase, OfItem, OfPart, OfTemporaryGroup}
use Rattle.hal_scope.specs.Sorts.{type_among, type_of}
use Rattle.hal_scope.specs.Uses.{is_nil}
use Rattle.hal_kinds.specs.declared.choice.Choice.{Choice}
use Rattle.hal_kinds.specs.declared.class.Class.{Class}
use Rattle.hal_kinds.specs.declared.class.Class.TheVariants as class
use Rattle.hal_kinds.specs.declared.data.Data.{Data}
use Rattle.hal_kinds.specs.Attributes.{sizes_among, sizes_of}
use Rattle.hal_kinds.specs.Data.{class_of_type, data_of, part_data, data_at_part, data_of_part, component_of, component_data, data_at}
use Rattle.hal_kinds.specs.Subscripts.{is_structure_class, class_in, has_copies_left, has_places_left}
use Rattle.hal_operands.specs.declared.want.Want.TheVariants as want
use Rattle.hal_operands.specs.Taken.{takes as class_takes}
use Rattle.hal_operands.specs.Wants.{misfit, misfit_of_value, misfit_of_condition, misfit_of_whole, misfit_of_receiver}
use Rattle.hal_values.specs.declared.value.Kind as values
use Rattle.hal_values.specs.declared.value.Kind.TheVariants as kind
use Rattle.hal_code.specs.Effects.{has_places, is_value}
use Rattle.hal_code.specs.Sorts.{Sort, I, B, T, sort_of, takes, takes_part}
use Rattle.hal_fit_classes.specs.Kinded.{sort_of_class}

-- whether a class is that of conditions
abbrev pub is_condition : Class → Bool
is_condition class.Condition = true
is_condition other = false

-- data are no condition, where they are known
abbrev NoCondition : Option Data → Type 0
NoCondition o = (d : Data) → o ≡ Some d → is_condition d.class ≡ false

type_data : (type_ : Kind) → is_condition (class_of_type type_) ≡ false
unfolding class_of_type
type_data (IntegerKind place) = refl
type_data (BooleanKind place) = refl
type_data (EventKind place) = refl
type_data (BitKind place size) = refl
type_data (CharacterKind place size) = refl
type_data (StructureKind place template copies) = refl

of_known : (known d : Data) → Some known ≡ Some d → is_condition known.class ≡ false → is_condition d.class ≡ false
of_known known d is plain = ap (λ (e : Data). is_condition e.class) (let same : d ≡ known = cc in same) ∙ plain

typed_data : (o : Option Kind) (sizes : Option Expressions) → NoCondition (data_of o sizes)
unfolding data_of
typed_data None sizes d is = absurd (cc)
typed_data (Some type_) sizes d is = of_known _ d is (type_data type_)

part_is : (bottom : Bool) (part : Part) → NoCondition (part_data bottom part)
unfolding part_data
part_is true part d is = typed_data (type_among part.attributes) (sizes_among part.attributes) d is
part_is false part d is = of_known _ d is refl

copied_is : (copies : Bool) (o : Option Data) → NoCondition o → NoCondition (option_and_then (λ (e : Data). Some (record { class = e.class; dimensions = e.dimensions; copies = copies })) o)
copied_is copies None plain d is = absurd (cc)
copied_is copies (Some e) plain d is = of_known _ d is (plain e refl)

node_is : (copies : Bool) (n : Node) → NoCondition (data_at_part copies n)
unfolding data_at_part
node_is copies (OfPart bottom part) d is = copied_is copies (part_data bottom part) (part_is bottom part) d is
node_is copies other d is = absurd (cc)

at_number : (copies : Bool) (o : Option Phrase) → NoCondition (option_and_then (λ (p : Phrase). data_at_part copies p.node) o)
at_number copies None d is = absurd (cc)
at_number copies (Some p) d is = node_is copies p.node d is

component_is : (ps : List Phrase) (copies : Bool) (part : Option ℕ) → NoCondition (data_of_part ps copies part)
component_is ps copies None d is = absurd (cc)
component_is ps copies (Some k) d is = at_number copies (slice_get ps k) d is

path_is : (ps : List Phrase) (block : ℕ) (o : Option Kind) (path : List Naming) → NoCondition (component_data ps block o path)
unfolding component_data
path_is ps block None path d is = absurd (cc)
path_is ps block (Some (StructureKind place template copies)) path d is = component_is ps (is_some copies) (component_of ps block template path) d is
path_is ps block (Some other) path d is = absurd (cc)

by_path : (b : Bool) (x y : Option Data) → NoCondition x → NoCondition y → NoCondition (if b then x else y)
by_path true x y of_x of_y = of_x
by_path false x y of_x of_y = of_y

no_data : NoCondition None
no_data d is = absurd (cc)

-- what a phrase declares, with any path
pub data_plain : (ps : List Phrase) (p : Phrase) (path : List Naming) (n : Node) → NoCondition (data_at ps p path n)
unfolding data_at
data_plain ps p path (OfItem common item) =
    by_path (is_nil path) (data_of (type_of common item) (sizes_of common item)) (component_data ps p.around.block (type_of common item) path)
    (typed_data (type_of common item) (sizes_of common item)) (path_is ps p.around.block (type_of common item) path)
data_plain ps p path (OfTemporaryGroup labels variable) =
    by_path (is_nil path) (Some (record { class = class.Integer; dimensions = zero; copies = false })) None (λ d is. of_known _ d is refl) no_data
data_plain ps p path other = no_data

-- a receiver is one value of its data
whole_by : (d : Data) (structure several : Bool) → is_structure_class d.class ≡ structure → misfit_of_receiver (if structure then class.Structure else if several then class.Array else d.class) ≡ None
    → misfit_of_receiver d.class ≡ None
unfolding misfit_of_receiver
whole_by d true several same none = absurd (cc)
whole_by d false true same none = absurd (cc)
whole_by d false false same none = none

in_by : (d : Data) (structure several : Bool) → is_structure_class d.class ≡ structure → misfit_of_receiver (if structure then class.Structure else if several then class.Array else d.class) ≡ None
    → (if structure then class.Structure else if several then class.Array else d.class) ≡ d.class
unfolding misfit_of_receiver
in_by d true several same none = absurd (cc)
in_by d false true same none = absurd (cc)
in_by d false false same none = refl

pub single_received : (d : Data) (c : Choice) → misfit_of_receiver (class_in d c) ≡ None → misfit_of_receiver d.class ≡ None
single_received d c none = whole_by d (is_structure_class d.class) (has_copies_left d c || has_places_left d c) refl none

pub class_received : (d : Data) (c : Choice) → misfit_of_receiver (class_in d c) ≡ None → class_in d c ≡ d.class
class_received d c none = in_by d (is_structure_class d.class) (has_copies_left d c || has_places_left d c) refl none

-- what takes values is no structure
pub structureless : (c : Class) → misfit_of_receiver c ≡ None → is_structure_class c ≡ false
unfolding misfit_of_receiver is_structure_class
structureless class.Structure none = absurd (cc)
structureless class.Array none = refl
structureless class.Integer none = refl
structureless class.Bits none = refl
structureless class.Text none = refl
structureless class.Condition none = refl

-- whether cells of values of the first sort take one of the second
abbrev pub goes : Sort → Sort → Bool
goes I I = true
goes B B = true
goes T I = true
goes T T = true
goes one other = false

pub record Goes (c : Class) (s : Sort) : Type 0 where
  pub sort : Sort
  pub is : sort_of_class c ≡ Some sort
  pub into : goes sort s ≡ true
  pub value : is_value s ≡ true

pub same_sort : (t s : Sort) → Some t ≡ Some s → t ≡ s
same_sort t s is = cc

into_of : (t v s : Sort) → Some v ≡ Some s → goes t v ≡ true → goes t s ≡ true
into_of t v s is goes_ = ap (goes t) (sym (same_sort v s is)) ∙ goes_

value_of : (v s : Sort) → Some v ≡ Some s → is_value v ≡ true → is_value s ≡ true
value_of v s is value = ap is_value (sym (same_sort v s is)) ∙ value

pub class_goes : (c v : Class) (s : Sort) → misfit_of_receiver c ≡ None → is_condition c ≡ false → misfit want.Value v ≡ None → class_takes (Some c) (Some v) ≡ true → sort_of_class v ≡ Some s → Goes c s
unfolding class_takes misfit_of_receiver misfit misfit_of_value misfit_of_condition misfit_of_whole
class_goes class.Integer class.Integer s one plain fits takes_ worth = record { sort = I; is = refl; into = into_of I I s worth refl; value = value_of I s worth refl }
class_goes class.Bits class.Bits s one plain fits takes_ worth = record { sort = B; is = refl; into = into_of B B s worth refl; value = value_of B s worth refl }
class_goes class.Text class.Text s one plain fits takes_ worth = record { sort = T; is = refl; into = into_of T T s worth refl; value = value_of T s worth refl }
class_goes class.Text class.Integer s one plain fits takes_ worth = record { sort = T; is = refl; into = into_of T I s worth refl; value = value_of I s worth refl }
class_goes class.Integer class.Bits s one plain fits takes_ worth = absurd (cc)
class_goes class.Integer class.Text s one plain fits takes_ worth = absurd (cc)
class_goes class.Bits class.Integer s one plain fits takes_ worth = absurd (cc)
class_goes class.Bits class.Text s one plain fits takes_ worth = absurd (cc)
class_goes class.Text class.Bits s one plain fits takes_ worth = absurd (cc)
class_goes class.Condition v s one plain fits takes_ worth = absurd (cc)
class_goes class.Structure v s one plain fits takes_ worth = absurd (cc)
class_goes class.Array v s one plain fits takes_ worth = absurd (cc)
class_goes c class.Condition s one plain fits takes_ worth = absurd (cc)
class_goes c class.Structure s one plain fits takes_ worth = absurd (cc)
class_goes c class.Array s one plain fits takes_ worth = absurd (cc)

-- cells of a kind
pub kind_takes : (k : values.Kind) (s : Sort) → goes (sort_of k) s ≡ true → takes k s ≡ true
kind_takes kind.Single I is = refl
kind_takes kind.Double I is = refl
kind_takes (kind.Bits n) B is = refl
kind_takes (kind.Text n) I is = refl
kind_takes (kind.Text n) T is = refl
kind_takes k s is = absurd (cc)

-- and a component of one
pub part_taken : (k : values.Kind) (s : Sort) → has_places (sort_of k) ≡ true → goes (sort_of k) s ≡ true → takes_part k (sort_of k) s ≡ true
part_taken (kind.Bits n) B has is = refl
part_taken (kind.Text n) I has is = refl
part_taken (kind.Text n) T has is = refl
part_taken k s has is = absurd (cc)
