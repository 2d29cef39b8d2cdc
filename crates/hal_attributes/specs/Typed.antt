-- The rules of the types of names: 323, 325, 326, 327, and 724 of functions.
use Rattle.std.specs.Prelude.{ℕ, Bool, true, false, ◌&&◌, ◌||◌, not, List, Option, Some, None, bytes_eq, if◌then◌else◌}
use Rattle.std.specs.Option.{is_some}
use Rattle.hal_base.specs.declared.refusal.Place.{Place}
use Rattle.hal_grammar.specs.Leaves.{Naming}
use Rattle.hal_grammar.specs.Declarations.{Kind, EventKind, StructureKind, Attribute, Declared}
use Rattle.hal_grammar.specs.Units.{Head, Function, Returns, NoKind, HasKind}
use Rattle.hal_phrases.specs.Phrases.{Node, Phrase, OfTemplate, OfUnit, OfItem, OfPart}
use Rattle.hal_scope.specs.Sorts.{type_among, type_of}
use Rattle.hal_scope.specs.Uses.{unless}
use Rattle.hal_kinds.specs.Attributes.{sizes_of}
use Rattle.hal_kinds.specs.Data.{is_event_type, is_parameter, is_structure_type}

-- whether nothing is said of a result
unfoldable pub is_untyped : Returns → Bool
is_untyped NoKind = true
is_untyped (HasKind kind precision) = false

-- rule 323 of a head
unfoldable pub untyped_head : Head → Option Place
untyped_head (Function place inputs returns mode) = unless (not (is_untyped returns)) place
untyped_head other = None

-- rule 323
unfoldable pub untyped : Node → Option Place
untyped (OfTemplate name head declarations) = untyped_head head
untyped (OfUnit name head declarations) = untyped_head head
untyped (OfItem common item) = unless (is_some (type_of common item)) item.name.place
untyped (OfPart bottom part) = unless (not bottom || is_some (type_among part.attributes)) part.place
untyped other = None

-- whether a type is that of a structure with this template
unfoldable pub is_template : List ℕ → Option Kind → Bool
is_template name (Some (StructureKind place template copies)) = bytes_eq template name
is_template name other = false

-- rule 325
unfoldable pub named_as_template : Node → Option Place
named_as_template (OfItem common item) = unless (not (is_template item.name.name (type_of common item))) item.name.place
named_as_template other = None

-- rule 326
unfoldable pub nested : Node → Option Place
nested (OfPart bottom part) = unless (not (is_structure_type (type_among part.attributes))) part.place
nested other = None

-- whether data that are no single variable have this name: an array or a parameter
abbrev pub is_no_variable : List Phrase → Phrase → List Attribute → Declared → Bool
is_no_variable ps p common item = is_some (sizes_of common item) || is_parameter ps p item.name.name

-- rule 327
unfoldable pub misplaced_event : List Phrase → Phrase → Node → Option Place
misplaced_event ps p (OfItem common item) = unless (not (is_event_type (type_of common item) && is_no_variable ps p common item)) item.name.place
misplaced_event ps p (OfPart bottom part) = unless (not (is_event_type (type_among part.attributes))) part.place
misplaced_event ps p other = None

-- whether a type is none of results
unfoldable pub is_no_result : Kind → Bool
is_no_result (EventKind place) = true
is_no_result (StructureKind place template copies) = true
is_no_result other = false

unfoldable pub gives_no_value : Returns → Bool
gives_no_value NoKind = false
gives_no_value (HasKind kind precision) = is_no_result kind

-- rule 724 of a head
unfoldable pub no_result_head : Head → Option Place
no_result_head (Function place inputs returns mode) = unless (not (gives_no_value returns)) place
no_result_head other = None

-- rule 724
unfoldable pub no_result : Node → Option Place
no_result (OfTemplate name head declarations) = no_result_head head
no_result (OfUnit name head declarations) = no_result_head head
no_result other = None
