-- Rule 705 of the kinds and shapes of arguments.
use Rattle.std.specs.Prelude.{ℕ, nat_lt, Bool, true, false, ◌&&◌, ◌||◌, not, List, [], ◌∷◌, Option, Some, None, slice_get, if◌then◌else◌}
use Rattle.std.specs.Option.{option_and_then, option_or, is_some}
use Rattle.hal_base.specs.declared.refusal.Place.{Place}
use Rattle.hal_grammar.specs.Leaves.{Naming}
use Rattle.hal_grammar.specs.Expressions.{Expression, Expressions, NoExpressions, MoreExpressions, Reference, Refers, Subscript}
use Rattle.hal_grammar.specs.Declarations.{Kind, Attribute, Declared}
use Rattle.hal_grammar.specs.Units.{Head, Procedure, Function}
use Rattle.hal_phrases.specs.Phrases.{Node, Phrase, OfCall, OfCallForm, OfItem, OfTemplate, OfUnit}
use Rattle.hal_names.specs.declared.key.Space.TheVariants as space
use Rattle.hal_names.specs.Keys.{key, own}
use Rattle.hal_names.specs.Means.{means}
use Rattle.hal_scope.specs.Sorts.{type_of}
use Rattle.hal_scope.specs.Uses.{unless}
use Rattle.hal_kinds.specs.declared.class.Class.{Class}
use Rattle.hal_kinds.specs.Attributes.{sizes_of}
use Rattle.hal_kinds.specs.Classes.{class_of, class_of_reference}
use Rattle.hal_kinds.specs.declared.data.Data.{Data}
use Rattle.hal_kinds.specs.Data.{class_of_type, data_named, is_structure_type}
use Rattle.hal_kinds.specs.Subscripts.{chosen}
use Rattle.hal_values.specs.declared.value.Kind as values
use Rattle.hal_constants.specs.Known.{Known, kind_of_item}
use Rattle.hal_sizes.specs.Sizes.{copies_of, extent_of}
use Rattle.hal_shapes.specs.Shapes.{array_argument, fits_single, is_excused, is_whole_array, is_whole_structure, may_equal, structure_argument}
use Rattle.hal_shapes.specs.Selections.{declared_for, kind_at, reference_in, structure_of}

-- whether a reference of this class, if it is one, is what a parameter that is an array is
abbrev pub fits_places : List Phrase → Known → Phrase → Phrase → List Attribute → Declared → Option Class → Option Reference → Bool
fits_places ps vs p r common item c reference = is_whole_array c && array_argument ps vs p (kind_of_item ps vs r common item) (extent_of ps vs r (sizes_of common item)) reference

-- the same of a structure
abbrev pub fits_parts : List Phrase → Known → Phrase → Phrase → List Attribute → Declared → Option Class → Option Reference → Bool
fits_parts ps vs p r common item c reference =
    is_whole_structure c && structure_argument ps vs p (structure_of ps r.around.block (type_of common item)) (copies_of ps vs r (type_of common item)) reference

-- the same of an array or a structure
abbrev pub fits_whole : List Phrase → Known → Phrase → Phrase → List Attribute → Declared → Option Class → Option Reference → Kind → Bool
fits_whole ps vs p r common item c reference kind =
    if is_structure_type (Some kind) then fits_parts ps vs p r common item c reference else fits_places ps vs p r common item c reference

-- whether a parameter of this type is an array or a structure
abbrev pub is_whole : List Attribute → Declared → Kind → Bool
is_whole common item kind = is_structure_type (Some kind) || is_some (sizes_of common item)

-- an input argument of a parameter of this type
abbrev pub input_as : List Phrase → Known → Phrase → Phrase → List Attribute → Declared → Expression → Kind → Bool
input_as ps vs p r common item tree kind =
    if is_whole common item kind
    then is_excused (class_of ps p.around.block tree) || fits_whole ps vs p r common item (class_of ps p.around.block tree) (reference_in tree) kind
    else fits_single (class_of_type kind) (class_of ps p.around.block tree)

-- an input argument of the parameter that this phrase declares
unfoldable pub input_fits : List Phrase → Known → Phrase → Phrase → Expression → Node → Bool
input_fits ps vs p r tree (OfItem common item) = elim (type_of common item) [ None ↦ true | Some kind ↦ input_as ps vs p r common item tree kind ]
input_fits ps vs p r tree other = true

-- whether a subscript chooses places of a component of data
abbrev pub has_component : Data → Subscript → Bool
has_component d subscript = nat_lt 0 (chosen d subscript).components

abbrev pub has_component_in : List Phrase → ℕ → List ℕ → List Naming → Subscript → Bool
has_component_in ps block name path subscript = elim (data_named ps block name path) [ None ↦ false | Some d ↦ has_component d subscript ]

-- the kind of a reference to data; of a component another rule speaks
unfoldable pub kind_of_reference : List Phrase → Known → Phrase → Reference → Option values.Kind
kind_of_reference ps vs p (Refers place name path subscript) =
    if has_component_in ps p.around.block name path subscript then None else option_and_then (λ (s : Phrase). kind_at ps vs s path s.node) (declared_for ps p name)

abbrev pub is_single : Option Class → Bool
is_single c = not (is_whole_array c || is_whole_structure c)

-- an ASSIGN argument of a parameter of this type
abbrev pub output_as : List Phrase → Known → Phrase → Phrase → List Attribute → Declared → Reference → Kind → Bool
output_as ps vs p r common item reference kind =
    if is_whole common item kind
    then is_excused (class_of_reference ps p.around.block reference) || fits_whole ps vs p r common item (class_of_reference ps p.around.block reference) (Some reference) kind
    else is_single (class_of_reference ps p.around.block reference) && may_equal (kind_of_reference ps vs p reference) (kind_of_item ps vs r common item)

unfoldable pub output_fits : List Phrase → Known → Phrase → Phrase → Reference → Node → Bool
output_fits ps vs p r reference (OfItem common item) = elim (type_of common item) [ None ↦ true | Some kind ↦ output_as ps vs p r common item reference kind ]
output_fits ps vs p r reference other = true

-- the phrase that declares a parameter of the block with this number
unfoldable pub parameter_of : List Phrase → ℕ → Naming → Option Phrase
parameter_of ps k n = option_and_then (λ j. slice_get ps j) (own ps (key space.Declared k n.name))

-- whether an input argument fits the parameter of this name
abbrev pub input_named : List Phrase → Known → Phrase → ℕ → Naming → Expression → Bool
input_named ps vs p k n tree = elim (parameter_of ps k n) [ None ↦ true | Some r ↦ input_fits ps vs p r tree r.node ]

abbrev pub output_named : List Phrase → Known → Phrase → ℕ → Naming → Reference → Bool
output_named ps vs p k n reference = elim (parameter_of ps k n) [ None ↦ true | Some r ↦ output_fits ps vs p r reference r.node ]

-- whether input arguments fit parameters; where there are more of one than of the other the number is wrong
unfoldable pub inputs_fit : List Phrase → Known → Phrase → ℕ → List Naming → Expressions → Bool
inputs_fit ps vs p k [] arguments = true
inputs_fit ps vs p k (n ∷ ns) NoExpressions = true
inputs_fit ps vs p k (n ∷ ns) (MoreExpressions first others) = input_named ps vs p k n first && inputs_fit ps vs p k ns others

unfoldable pub outputs_fit : List Phrase → Known → Phrase → ℕ → List Naming → List Reference → Bool
outputs_fit ps vs p k [] receivers = true
outputs_fit ps vs p k (n ∷ ns) [] = true
outputs_fit ps vs p k (n ∷ ns) (reference ∷ references) = output_named ps vs p k n reference && outputs_fit ps vs p k ns references

-- the arguments of the call form of the block with this number
unfoldable pub form_fits : List Phrase → Known → Phrase → ℕ → Expressions → Head → Bool
form_fits ps vs p k arguments (Function place inputs returns mode) = inputs_fit ps vs p k inputs arguments
form_fits ps vs p k arguments other = true

-- the arguments of CALL of the block with this number
unfoldable pub call_fits : List Phrase → Known → Phrase → ℕ → Expressions → List Reference → Head → Bool
call_fits ps vs p k arguments receivers (Procedure place inputs outputs mode) = inputs_fit ps vs p k inputs arguments && outputs_fit ps vs p k outputs receivers
call_fits ps vs p k arguments receivers other = true

-- the head of a block
unfoldable pub head_of : Node → Option Head
head_of (OfTemplate name head declarations) = Some head
head_of (OfUnit name head declarations) = Some head
head_of other = None

-- the head of the block with this number
abbrev pub head_at : List Phrase → ℕ → Option Head
head_at ps k = option_and_then (λ (q : Phrase). head_of q.node) (slice_get ps k)

abbrev pub form_fault : List Phrase → Known → Phrase → Place → Expressions → ℕ → Option Place
form_fault ps vs p place arguments k = option_and_then (λ (head : Head). unless (form_fits ps vs p k arguments head) place) (head_at ps k)

abbrev pub call_fault : List Phrase → Known → Phrase → Place → Expressions → List Reference → ℕ → Option Place
call_fault ps vs p place arguments receivers k = option_and_then (λ (head : Head). unless (call_fits ps vs p k arguments receivers head) place) (head_at ps k)

-- rule 705 of kinds and shapes
unfoldable pub misshaped : List Phrase → Known → Phrase → Node → Option Place
misshaped ps vs p (OfCallForm place name arguments) = option_and_then (form_fault ps vs p place arguments) (means ps p.around.block name)
misshaped ps vs p (OfCall name arguments receivers) = option_and_then (call_fault ps vs p name.place arguments receivers) (means ps p.around.block name.name)
misshaped ps vs p other = None
