-- What the phrases are that declare names, and what names are used for.
use Rattle.std.specs.Prelude.{ℕ, Bool, true, false, List, [], ◌∷◌, Option, Some, None}
use Rattle.std.specs.Option.{option_or}
use Rattle.hal_base.specs.declared.refusal.Place.{Place}
use Rattle.hal_grammar.specs.Expressions.{Reference, Refers}
use Rattle.hal_grammar.specs.Declarations.{Kind, EventKind, Attribute, Typed, Declared}
use Rattle.hal_grammar.specs.Units.{Head, Program, Compool, Task, Procedure, Function}
use Rattle.hal_phrases.specs.declared.role.Role.{Role}
use Rattle.hal_phrases.specs.declared.role.Role.TheVariants as role
use Rattle.hal_phrases.specs.Phrases.{Node, OfTemplate, OfUnit, OfItem, OfStructure, OfStructureType, OfInitialName, OfLabel, OfCallForm, OfReference, OfSubscriptName, OfTemporaryGroup, OfVariable, OfCall, OfProcess, OfEvent}
use Rattle.hal_scope.specs.declared.used.Use.{Use}
use Rattle.hal_scope.specs.declared.sort.Sort.{Sort}
use Rattle.hal_scope.specs.declared.sort.Sort.TheVariants as sort
use Rattle.hal_scope.specs.declared.usage.Usage.{Usage}
use Rattle.hal_scope.specs.declared.usage.Usage.TheVariants as usage
use Rattle.hal_scope.specs.declared.builtin.Form.{Form}
use Rattle.hal_scope.specs.declared.builtin.Form.TheVariants as form

-- the type that an attribute is
unfoldable pub type_in : Attribute → Option Kind
type_in (Typed kind) = Some kind
type_in other = None

-- the first type among attributes
unfoldable pub type_among : List Attribute → Option Kind
type_among [] = None
type_among (attribute ∷ attributes) = option_or (type_in attribute) (type_among attributes)

-- the type of a name that is declared: its own, else the one before the comma
abbrev pub type_of : List Attribute → Declared → Option Kind
type_of common item = option_or (type_among item.attributes) (type_among common)

-- data, or an event where the type says so
unfoldable pub sort_of_type : Option Kind → Sort
sort_of_type (Some (EventKind place)) = sort.Event
sort_of_type other = sort.Data

-- a block, by its head
unfoldable pub sort_of_head : Head → Sort
sort_of_head (Program place) = sort.Process
sort_of_head (Compool place) = sort.Compool
sort_of_head (Task place) = sort.Process
sort_of_head (Procedure place inputs outputs mode) = sort.Procedure
sort_of_head (Function place inputs returns mode) = sort.Function

-- what a phrase declares; None where it declares no name that is found in a block
unfoldable pub sort_of : Node → Option Sort
sort_of (OfTemplate name head declarations) = Some (sort_of_head head)
sort_of (OfUnit name head declarations) = Some (sort_of_head head)
sort_of (OfItem common item) = Some (sort_of_type (type_of common item))
sort_of (OfStructure name parts) = Some sort.Structure
sort_of (OfLabel name) = Some sort.Label
sort_of (OfTemporaryGroup labels variable) = Some sort.Data
sort_of other = None

-- what a reference of this role is used for
unfoldable pub usage_of : Role → Usage
usage_of role.Receiver = usage.Receiver
usage_of role.Output = usage.Output
usage_of role.Event = usage.EventOperand
usage_of role.EventOrTime = usage.EventOrTime
usage_of other = usage.Value

-- a name that is used, where, and what for
abbrev pub use_of : Place → List ℕ → Usage → Use
use_of p n u = record { place = p; name = n; usage = u }

-- what a reference uses
unfoldable pub use_of_reference : Role → Reference → Use
use_of_reference r (Refers place name further subscript) = use_of place name (usage_of r)

-- the name that a phrase uses
unfoldable pub used : Node → Option Use
used (OfReference r reference) = Some (use_of_reference r reference)
used (OfSubscriptName name) = Some (use_of name.place name.name usage.Value)
used (OfInitialName name) = Some (use_of name.place name.name usage.Value)
used (OfCallForm place name arguments) = Some (use_of place name usage.CallForm)
used (OfStructureType place template) = Some (use_of place template usage.StructureType)
used (OfVariable name) = Some (use_of name.place name.name usage.Variable)
used (OfCall name arguments receivers) = Some (use_of name.place name.name usage.Called)
used (OfProcess name) = Some (use_of name.place name.name usage.Process)
used (OfEvent event) = Some (use_of event.name.place event.name.name usage.Event)
used other = None

-- whether a name of this sort may be an operand
abbrev pub is_operand : Sort → Bool
is_operand sort.Data = true
is_operand sort.Event = true
is_operand sort.Process = true
is_operand sort.Function = true
is_operand other = false

-- whether a name of this sort may be used so, or another rule names the case
abbrev pub fits : Usage → Sort → Bool
fits usage.Value s = is_operand s
fits usage.EventOrTime s = is_operand s
fits usage.Receiver sort.Structure = false
fits usage.Receiver other = true
fits usage.StructureType sort.Structure = true
fits usage.StructureType other = false
fits usage.Called sort.Procedure = true
fits usage.Called other = false
fits usage.Event sort.Event = true
fits usage.Event other = false
fits usage.Output other = true
fits usage.EventOperand other = true
fits usage.CallForm other = true
fits usage.Variable other = true
fits usage.Process other = true

-- whether a built-in function that is named so is known where its name is used so
abbrev pub is_known : Usage → Form → Bool
is_known u form.Listed = true
is_known u form.Alone = true
is_known usage.CallForm form.Arrayed = true
is_known other form.Arrayed = false

-- whether a built-in function that is known there may be used so, or another rule names the case
abbrev pub fits_builtin : Usage → Form → Bool
fits_builtin usage.Value form.Alone = true
fits_builtin usage.EventOrTime form.Alone = true
fits_builtin usage.Value other = false
fits_builtin usage.EventOrTime other = false
fits_builtin usage.Receiver other = false
fits_builtin usage.StructureType other = false
fits_builtin usage.Called other = false
fits_builtin usage.Event other = false
fits_builtin usage.Output other = true
fits_builtin usage.EventOperand other = true
fits_builtin usage.CallForm other = true
fits_builtin usage.Variable other = true
fits_builtin usage.Process other = true
