-- The rules of the initial values of what is declared: 702, 704 and 706.
use Rattle.std.specs.Prelude.{ℕ, ◌==◌, nat_le, ◌&&◌, ◌||◌, List, Option, Some, None, if◌then◌else◌}
use Rattle.std.specs.Option.{option_and_then, option_or}
use Rattle.hal_base.specs.declared.refusal.Place.{Place}
use Rattle.hal_grammar.specs.Declarations.{Kind, StructureKind, Initials, Attribute, Declared, Part}
use Rattle.hal_phrases.specs.Phrases.{Node, Phrase, OfInitial, OfItem}
use Rattle.hal_scope.specs.Rules.{ruled}
use Rattle.hal_scope.specs.Sorts.{type_of}
use Rattle.hal_scope.specs.Uses.{unless}
use Rattle.hal_kinds.specs.Attributes.{constant_of, initial_of}
use Rattle.hal_kinds.specs.Data.{class_of_type}
use Rattle.hal_constants.specs.Known.{Known, kind_of_item}
use Rattle.hal_sizes.specs.Cells.{cells_of_item}
use Rattle.hal_sizes.specs.Parts.{bottoms, parts_of, structure_named}
use Rattle.hal_initials.specs.Repetition.{count_of_all}
use Rattle.hal_initials.specs.Suiting.{initials_fault, missigned_initial}
use Rattle.hal_initials.specs.Falling.{fallen_all, filled, laid}

-- the values with which a name begins
abbrev pub values_of : List Attribute → Declared → Option Initials
values_of common item = option_or (initial_of common item) (constant_of common item)

-- another number of values than one or that of the cells
unfoldable pub miscounted : Place → ℕ → Option ℕ → Option Place
miscounted place count None = None
miscounted place count (Some cells) = unless ((count == 1) || (count == cells)) place

-- values of which each has its cell. A variable of more cells than a set may have in all is refused as such
unfoldable pub spread : List Phrase → Known → Phrase → Phrase → List Part → Initials → Option ℕ → Option (ℕ × Place)
spread ps vs p q parts values None = None
spread ps vs p q parts values (Some cells) =
    if (count_of_all values == cells) && nat_le cells 65536 then fallen_all ps vs p q (laid ps vs q (bottoms 0 parts)) values 0 else None

-- values of a structure with these parts, which has so many cells
abbrev pub structured : List Phrase → Known → Phrase → Phrase → List Part → Initials → Option ℕ → Option (ℕ × Place)
structured ps vs p q parts values cells = if count_of_all values == 1 then filled ps vs p q values (bottoms 0 parts) else spread ps vs p q parts values cells

-- the same of the structure template that a name means
abbrev pub structured_as : List Phrase → Known → Phrase → List ℕ → Initials → Option ℕ → Option (ℕ × Place)
structured_as ps vs p template values cells =
    option_and_then (λ (q : Phrase). option_and_then (λ (parts : List Part). structured ps vs p q parts values cells) (parts_of q.node)) (structure_named ps p.around.block template)

-- values of data that are no structure
abbrev pub single : List Phrase → Known → Phrase → List Attribute → Declared → Initials → Kind → Option (ℕ × Place)
single ps vs p common item values kind = initials_fault ps vs p (Some (class_of_type kind)) (kind_of_item ps vs p common item) values

-- values of data of this type
unfoldable pub misvalued : List Phrase → Known → Phrase → List Attribute → Declared → Initials → Kind → Option (ℕ × Place)
misvalued ps vs p common item values (StructureKind place template copies) = structured_as ps vs p template values (cells_of_item ps vs p common item)
misvalued ps vs p common item values kind = single ps vs p common item values kind

-- rule 706 of values of what is declared
abbrev pub counted : List Phrase → Known → Phrase → List Attribute → Declared → Initials → Option (ℕ × Place)
counted ps vs p common item values = ruled 706 (miscounted item.name.place (count_of_all values) (cells_of_item ps vs p common item))

-- rules 702 and 704 of these
abbrev pub valued : List Phrase → Known → Phrase → List Attribute → Declared → Initials → Option (ℕ × Place)
valued ps vs p common item values = option_and_then (λ kind. misvalued ps vs p common item values kind) (type_of common item)

-- values of what is declared
abbrev pub begun : List Phrase → Known → Phrase → List Attribute → Declared → Initials → Option (ℕ × Place)
begun ps vs p common item values = option_or (counted ps vs p common item values) (valued ps vs p common item values)

-- rules 702, 704 and 706 of initial values
unfoldable pub misinitialed : List Phrase → Known → Phrase → Node → Option (ℕ × Place)
misinitialed ps vs p (OfItem common item) = option_and_then (λ (values : Initials). begun ps vs p common item values) (values_of common item)
misinitialed ps vs p other = None

-- rule 702 of a sign before what is no integer
unfoldable pub missigned : List Phrase → Phrase → Node → Option Place
missigned ps p (OfInitial initial) = missigned_initial ps p initial
missigned ps p other = None
