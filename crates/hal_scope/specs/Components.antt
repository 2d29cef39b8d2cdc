-- Rule 608 of components that a structure doesn't have.
use Rattle.std.specs.Prelude.{ℕ, Bool, true, false, List, [], ◌∷◌, Option, Some, None, slice_get, not, ◌||◌}
use Rattle.std.specs.Option.{is_some}
use Rattle.hal_base.specs.declared.refusal.Place.{Place}
use Rattle.hal_grammar.specs.Leaves.{Naming}
use Rattle.hal_grammar.specs.Expressions.{Reference, Refers}
use Rattle.hal_grammar.specs.Declarations.{Kind, StructureKind}
use Rattle.hal_phrases.specs.Phrases.{Node, Phrase, OfItem, OfStructure, OfReference}
use Rattle.hal_names.specs.declared.key.Space.TheVariants as space
use Rattle.hal_names.specs.Keys.{key, own}
use Rattle.hal_names.specs.Means.{means}
use Rattle.hal_scope.specs.Builtins.{builtin_named}
use Rattle.hal_scope.specs.Sorts.{type_of, sort_of, is_operand}
use Rattle.hal_scope.specs.Uses.{unless, is_nil}

-- whether parts of these names, each a part of the one before, stand under the structure or part with this number
unfoldable pub has_path : List Phrase → ℕ → List Naming → Bool
has_path ps k [] = true
has_path ps k (n ∷ ns) = elim (own ps (key space.Part k n.name)) [ None ↦ false | Some part ↦ has_path ps part ns ]

-- whether a phrase is a structure template
unfoldable pub is_structure : Node → Bool
is_structure (OfStructure name parts) = true
is_structure other = false

-- whether the phrase with this number has such a component, where it is a structure template
abbrev pub structure_has : List Phrase → ℕ → List Naming → Bool
structure_has ps k path = elim (slice_get ps k) [ None ↦ true | Some p ↦ not (is_structure p.node) || has_path ps k path ]

-- whether the structure that a name means in a block has such a component; true where it means no structure
abbrev pub template_has : List Phrase → ℕ → List ℕ → List Naming → Bool
template_has ps block template path = elim (means ps block template) [ None ↦ true | Some k ↦ structure_has ps k path ]

-- whether data of this type, declared in this block, have such a component
unfoldable pub type_has : List Phrase → ℕ → List Naming → Option Kind → Bool
type_has ps block path (Some (StructureKind place template copies)) = template_has ps block template path
type_has ps block path other = false

-- whether what a phrase declares may be an operand
abbrev pub declares_operand : Node → Bool
declares_operand node = elim (sort_of node) [ None ↦ false | Some s ↦ is_operand s ]

-- whether what a phrase declares has such a component; true where it is nothing that may be an operand
unfoldable pub has_component : List Phrase → Phrase → List Naming → Node → Bool
has_component ps p path (OfItem common item) = type_has ps p.around.block path (type_of common item)
has_component ps p path other = not (declares_operand other)

-- whether what a name means in a block has such a component: a built-in function has none; true where the name isn't known
abbrev pub meaning_has : List Phrase → ℕ → List ℕ → List Naming → Bool
meaning_has ps block name path =
    elim (means ps block name) [
      | None ↦ not (is_some (builtin_named name))
      | Some k ↦ elim (slice_get ps k) [ None ↦ true | Some p ↦ has_component ps p path p.node ]
    ]

-- rule 608 of a reference
unfoldable pub lacks_in : List Phrase → ℕ → Reference → Option Place
lacks_in ps block (Refers place name further subscript) = unless (is_nil further || meaning_has ps block name further) place

-- rule 608
unfoldable pub lacks : List Phrase → Phrase → Node → Option Place
lacks ps p (OfReference role reference) = lacks_in ps p.around.block reference
lacks ps p other = None
