-- The rules of names that take values: 709, 712 of the variable of DO FOR, 722 of ASSIGN arguments.
use Rattle.std.specs.Prelude.{ℕ, ◌==◌, nat_lt, Bool, true, false, ◌&&◌, ◌||◌, not, List, [], Option, Some, None, slice_get, if◌then◌else◌}
use Rattle.std.specs.Option.{option_and_then, is_some}
use Rattle.hal_base.specs.declared.refusal.Place.{Place}
use Rattle.hal_grammar.specs.Leaves.{Naming}
use Rattle.hal_grammar.specs.Declarations.{Attribute, Declared}
use Rattle.hal_grammar.specs.Expressions.{Reference, Refers, Subscript}
use Rattle.hal_phrases.specs.declared.role.Role.{Role}
use Rattle.hal_phrases.specs.declared.role.Role.TheVariants as role
use Rattle.hal_phrases.specs.Phrases.{Node, Phrase, OfParameter, OfItem, OfStructure, OfReference, OfTemporaryGroup, OfVariable}
use Rattle.hal_names.specs.declared.key.Space.TheVariants as space
use Rattle.hal_names.specs.Keys.{key, own}
use Rattle.hal_names.specs.Means.{means}
use Rattle.hal_scope.specs.Builtins.{builtin_named}
use Rattle.hal_scope.specs.Sorts.{type_of}
use Rattle.hal_scope.specs.Uses.{unless}
use Rattle.hal_kinds.specs.declared.class.Class.{Class}
use Rattle.hal_kinds.specs.declared.class.Class.TheVariants as class
use Rattle.hal_kinds.specs.declared.data.Data.{Data}
use Rattle.hal_kinds.specs.Attributes.{constant_of}
use Rattle.hal_kinds.specs.Data.{data_at, is_event_type}
use Rattle.hal_kinds.specs.Subscripts.{chosen}

unfoldable pub is_input : Node → Bool
is_input (OfParameter name output) = not output
is_input other = false

-- whether the phrase with this number, if there is one, is an input parameter
abbrev pub is_input_at : List Phrase → Option ℕ → Bool
is_input_at ps None = false
is_input_at ps (Some k) = elim (slice_get ps k) [ None ↦ false | Some q ↦ is_input q.node ]

-- whether a name is that of an input parameter of the block to which a phrase's names belong
abbrev pub is_input_parameter : List Phrase → Phrase → List ℕ → Bool
is_input_parameter ps p name = is_input_at ps (own ps (key space.Parameter p.around.home name))

-- whether data are never assigned
abbrev pub is_fixed : List Phrase → Phrase → List Attribute → Declared → Bool
is_fixed ps p common item = is_some (constant_of common item) || is_input_parameter ps p item.name.name

-- whether what a phrase declares may stand on the left of an assignment, or another rule says that it may not
unfoldable pub may_receive : List Phrase → Phrase → Node → Bool
may_receive ps p (OfItem common item) = not (is_fixed ps p common item || is_event_type (type_of common item))
may_receive ps p (OfTemporaryGroup labels variable) = true
may_receive ps p (OfStructure name parts) = true
may_receive ps p other = false

-- rule 709 of a receiver that is what this phrase declares
abbrev pub received_by : List Phrase → Place → Phrase → Option (ℕ × Place)
received_by ps place q = if may_receive ps q q.node then None else Some (709, place)

-- rule 709 of a receiver
abbrev pub received : List Phrase → ℕ → Place → List ℕ → Option (ℕ × Place)
received ps block place name = option_and_then (λ k. option_and_then (received_by ps place) (slice_get ps k)) (means ps block name)

-- whether a subscript chooses places of a component
abbrev pub has_components : Data → Subscript → Bool
has_components d subscript = nat_lt 0 (chosen d subscript).components

-- whether these data, where they are known, have a component subscript
unfoldable pub is_component : Option Data → Subscript → Bool
is_component None subscript = false
is_component (Some d) subscript = has_components d subscript

-- the rule that an ASSIGN argument breaks which is data that this phrase declares
unfoldable pub put_fault : List Phrase → Phrase → List Naming → Subscript → Node → Option ℕ
put_fault ps p path subscript (OfItem common item) =
    if is_event_type (type_of common item) then Some 722 else if is_fixed ps p common item then Some 709 else if is_component (data_at ps p path (OfItem common item)) subscript then Some 722 else None
put_fault ps p path subscript (OfTemporaryGroup labels variable) = None
put_fault ps p path subscript other = Some 722

-- rules 709 and 722 of an ASSIGN argument
unfoldable pub put : List Phrase → ℕ → Reference → Option (ℕ × Place)
put ps block (Refers place name path subscript) =
    elim (means ps block name) [
      | None ↦ if is_some (builtin_named name) then Some (722, place) else None
      | Some k ↦ elim (slice_get ps k) [ None ↦ None | Some q ↦ option_and_then (λ rule. Some (rule, place)) (put_fault ps q path subscript q.node) ]
    ]

unfoldable pub is_integer : Class → Bool
is_integer class.Integer = true
is_integer other = false

-- whether data are a single integer
abbrev pub is_single_integer : Data → Bool
is_single_integer d = is_integer d.class && not (nat_lt 0 d.dimensions || d.copies)

-- the rule that the variable of DO FOR breaks which is data that this phrase declares
unfoldable pub counted_fault : List Phrase → Phrase → List Attribute → Declared → Option Data → Option ℕ
counted_fault ps p common item None = None
counted_fault ps p common item (Some d) = if is_single_integer d then (if is_fixed ps p common item then Some 709 else None) else Some 712

unfoldable pub variable_fault : List Phrase → Phrase → Node → Option ℕ
variable_fault ps p (OfItem common item) = counted_fault ps p common item (data_at ps p [] (OfItem common item))
variable_fault ps p (OfTemporaryGroup labels variable) = None
variable_fault ps p other = Some 712

-- rules 709 and 712 of the variable of DO FOR
abbrev pub varied : List Phrase → ℕ → Place → List ℕ → Option (ℕ × Place)
varied ps block place name =
    elim (means ps block name) [
      | None ↦ if is_some (builtin_named name) then Some (712, place) else None
      | Some k ↦ elim (slice_get ps k) [ None ↦ None | Some q ↦ option_and_then (λ rule. Some (rule, place)) (variable_fault ps q q.node) ]
    ]

-- a reference that takes a value
unfoldable pub reference_receives : List Phrase → ℕ → Role → Reference → Option (ℕ × Place)
reference_receives ps block role.Receiver (Refers place name path subscript) = received ps block place name
reference_receives ps block role.Output reference = put ps block reference
reference_receives ps block other reference = None

-- rules 709, 712 and 722
unfoldable pub misreceived : List Phrase → Phrase → Node → Option (ℕ × Place)
misreceived ps p (OfReference r reference) = reference_receives ps p.around.block r reference
misreceived ps p (OfVariable name) = varied ps p.around.block name.place name.name
misreceived ps p other = None
