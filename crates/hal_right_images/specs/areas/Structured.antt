-- Parameters that are structures.
use Rattle.std.specs.Prelude.{ℕ, Bool, false, List, Some, None}
use Rattle.hal_grammar.specs.Leaves.{Naming}
use Rattle.hal_phrases.specs.Phrases.{Node, Phrase, OfItem}
use Rattle.hal_scope.specs.Sorts.{type_of}
use Rattle.hal_kinds.specs.Data.{is_structure_type}
use Rattle.hal_shapes.specs.Arguments.{parameter_of}

-- whether the parameter of this name is a structure
abbrev pub is_structured_node : Node → Bool
is_structured_node (OfItem common item) = is_structure_type (type_of common item)
is_structured_node other = false

abbrev pub is_structured : List Phrase → ℕ → Naming → Bool
is_structured ps unit name = elim (parameter_of ps unit name) [ None ↦ false | Some p ↦ is_structured_node p.node ]
