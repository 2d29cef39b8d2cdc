-- The rules of subscripts: 707 of their number, 721 of those of components.
use Rattle.std.specs.Prelude.{ℕ, ◌==◌, nat_lt, Bool, true, false, ◌&&◌, ◌||◌, not, List, Option, Some, None, slice_get, if◌then◌else◌}
use Rattle.std.specs.Option.{option_and_then, is_some}
use Rattle.hal_base.specs.declared.refusal.Place.{Place}
use Rattle.hal_grammar.specs.Leaves.{Naming}
use Rattle.hal_grammar.specs.Expressions.{Reference, Refers, Subscript}
use Rattle.hal_grammar.specs.Units.{Head, Function}
use Rattle.hal_phrases.specs.Phrases.{Node, Phrase, OfTemplate, OfUnit, OfItem, OfReference}
use Rattle.hal_names.specs.Means.{means}
use Rattle.hal_scope.specs.Builtins.{builtin_named}
use Rattle.hal_scope.specs.Sorts.{type_of}
use Rattle.hal_scope.specs.Uses.{is_nil}
use Rattle.hal_kinds.specs.declared.class.Class.{Class}
use Rattle.hal_kinds.specs.declared.class.Class.TheVariants as class
use Rattle.hal_kinds.specs.declared.choice.Choice.{Choice}
use Rattle.hal_kinds.specs.declared.data.Data.{Data}
use Rattle.hal_kinds.specs.Classes.{class_of_head}
use Rattle.hal_kinds.specs.Data.{data_at, data_with, is_event_type}
use Rattle.hal_kinds.specs.Subscripts.{chosen, is_miscounted}

-- whether a class has components that subscripts choose
unfoldable pub is_string : Class → Bool
is_string class.Bits = true
is_string class.Text = true
is_string other = false

-- the rule that subscripts of a component break, of data that have components or not
abbrev pub component_fault : Bool → Choice → Option ℕ
component_fault has c = if has then (if nat_lt 1 c.components then Some 707 else None) else if nat_lt 0 c.components then Some 721 else None

-- the rule that subscripts break of data, which may be an event
abbrev pub choice_fault : Bool → Data → Choice → Option ℕ
choice_fault eventful d c = if is_miscounted d c then Some 707 else component_fault (is_string d.class && not eventful) c

-- a single value of this class
abbrev pub single : Class → Data
single c = data_with c 0 false

-- a result without arguments, or what is read of a process
unfoldable pub is_eventful_head : Head → Bool
is_eventful_head (Function place inputs returns mode) = false
is_eventful_head other = true

unfoldable pub head_fault : Head → Subscript → Option Class → Option ℕ
head_fault head subscript None = None
head_fault head subscript (Some c) = choice_fault (is_eventful_head head) (single c) (chosen (single c) subscript)

-- whether a name without a path is an event's
unfoldable pub is_event_name : List Naming → Node → Bool
is_event_name path (OfItem common item) = is_nil path && is_event_type (type_of common item)
is_event_name path other = false

unfoldable pub data_fault : Bool → Subscript → Option Data → Option ℕ
data_fault eventful subscript None = None
data_fault eventful subscript (Some d) = choice_fault eventful d (chosen d subscript)

-- the rule that a subscript breaks of what a phrase declares
unfoldable pub fault_at : List Phrase → Phrase → List Naming → Subscript → Node → Option ℕ
fault_at ps p path subscript (OfTemplate name head declarations) = head_fault head subscript (class_of_head head)
fault_at ps p path subscript (OfUnit name head declarations) = head_fault head subscript (class_of_head head)
fault_at ps p path subscript other = data_fault (is_event_name path other) subscript (data_at ps p path other)

-- the rule that a subscript breaks of a built-in function, which is an integer where it has no list
abbrev pub builtin_fault : List ℕ → Subscript → Option ℕ
builtin_fault name subscript = if is_some (builtin_named name) then choice_fault false (single class.Integer) (chosen (single class.Integer) subscript) else None

-- the rule that the subscript of a name and a path breaks
abbrev pub named_fault : List Phrase → ℕ → List ℕ → List Naming → Subscript → Option ℕ
named_fault ps block name path subscript =
    elim (means ps block name) [
      | None ↦ builtin_fault name subscript
      | Some k ↦ option_and_then (λ (p : Phrase). fault_at ps p path subscript p.node) (slice_get ps k)
    ]

-- the rule that a reference breaks by its subscript
unfoldable pub reference_fault : List Phrase → ℕ → Reference → Option (ℕ × Place)
reference_fault ps block (Refers place name path subscript) = option_and_then (λ rule. Some (rule, place)) (named_fault ps block name path subscript)

-- rules 707 and 721
unfoldable pub missubscripted : List Phrase → Phrase → Node → Option (ℕ × Place)
missubscripted ps p (OfReference r reference) = reference_fault ps p.around.block reference
missubscripted ps p other = None
