-- A unit's own template: what others see of the unit.
use Rattle.std.specs.Prelude.{ℕ, Bool, true, false, ◌&&◌, List, [], ◌∷◌, filter, Option, Some, None, bytes_eq, if◌then◌else◌}
use Rattle.std.specs.List.{list_any}
use Rattle.std.specs.Option.{is_some}
use Rattle.hal_grammar.specs.Declarations.{Kind, StructureKind, Declaration}
use Rattle.hal_grammar.specs.Units.{Head, Program, Compool, Task, Procedure, Function}
use Rattle.hal_phrases.specs.Phrases.{Node, Phrase, OfItem, OfStructure}
use Rattle.hal_names.specs.declared.key.Space.TheVariants as space
use Rattle.hal_names.specs.Keys.{key, own}
use Rattle.hal_scope.specs.Sorts.{type_of}
use Rattle.hal_templates.specs.Entries.{entries}

-- whether the unit with this number has a parameter of this name
abbrev pub is_parameter_of : List Phrase → ℕ → List ℕ → Bool
is_parameter_of ps u name = is_some (own ps (key space.Parameter u name))

-- the structure template that a type names
unfoldable pub template_of : Option Kind → Option (List ℕ)
template_of (Some (StructureKind place template copies)) = Some template
template_of other = None

-- whether this may be a name
unfoldable pub is_name : List ℕ → Option (List ℕ) → Bool
is_name name None = false
is_name name (Some other) = bytes_eq other name

-- whether this declares a parameter of the unit with this number, whose type names a structure template
unfoldable pub needs : List Phrase → ℕ → List ℕ → Node → Bool
needs ps u template (OfItem common item) = is_name template (template_of (type_of common item)) && is_parameter_of ps u item.name.name
needs ps u template other = false

-- whether the own template of the unit with this number, which is called with parameters, has this among all that the unit declares: it declares a parameter, or a structure
-- template that a parameter names
unfoldable pub is_shown : List Phrase → ℕ → List Node → Node → Bool
is_shown ps u all (OfItem common item) = is_parameter_of ps u item.name.name
is_shown ps u all (OfStructure name parts) = list_any (needs ps u name.name) all
is_shown ps u all other = false

-- what the own template of the unit with this number, which is called, declares: its parameters, and the structure templates that they name
abbrev pub called_entries : List Phrase → ℕ → List Declaration → List Node
called_entries ps u declarations = filter (is_shown ps u (entries declarations)) (entries declarations)

-- what the own template of the unit with this number, head and declarations declares: all that a COMPOOL does, and nothing of a process
unfoldable pub own_entries : List Phrase → ℕ → Head → List Declaration → List Node
own_entries ps u (Program place) declarations = []
own_entries ps u (Task place) declarations = []
own_entries ps u (Compool place) declarations = entries declarations
own_entries ps u (Procedure place inputs outputs mode) declarations = called_entries ps u declarations
own_entries ps u (Function place inputs returns mode) declarations = called_entries ps u declarations

-- those of a list that the own template of the unit with this number has, one by one
unfoldable pub shown_among : List Phrase → ℕ → List Node → List Node → List Node
shown_among ps u all [] = []
shown_among ps u all (x ∷ xs) = if is_shown ps u all x then x ∷ shown_among ps u all xs else shown_among ps u all xs
