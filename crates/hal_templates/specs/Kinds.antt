-- The kinds of the cells to which values behind CONSTANT fall: those of one copy of a structure, or the one kind of all cells of other data.
use Rattle.std.specs.Prelude.{ℕ, Bool, true, false, List, [], ◌∷◌, ◌++◌, length, replicate, Option, Some, None, if◌then◌else◌}
use Rattle.std.specs.Option.{option_and_then}
use Rattle.hal_grammar.specs.Expressions.{Expressions, NoExpressions, MoreExpressions}
use Rattle.hal_grammar.specs.Declarations.{Attribute, Part}
use Rattle.hal_phrases.specs.Phrases.{Phrase}
use Rattle.hal_phrases.specs.GatheredDeclarations.{is_bottom}
use Rattle.hal_values.specs.declared.value.Kind.{Kind}
use Rattle.hal_constants.specs.Known.{Known}
use Rattle.hal_templates.specs.Counts.{add, is_few, times}
use Rattle.hal_templates.specs.Own.{template_of}
use Rattle.hal_templates.specs.Sizes.{size_in}
use Rattle.hal_templates.specs.Structures.{parts_of, structure_named}
use Rattle.hal_templates.specs.Traits.{kind_given, sizes_given, type_given}

-- so many places for each place of these dimensions, where their sizes are known
unfoldable pub places_with : List Phrase → Known → Phrase → ℕ → Expressions → Option ℕ
places_with ps vs q total NoExpressions = Some total
places_with ps vs q total (MoreExpressions x xs) = elim (size_in ps vs q x) [ None ↦ None | Some n ↦ places_with ps vs q (times total n) xs ]

-- the places of an array; without dimensions there is one
unfoldable pub places_in : List Phrase → Known → Phrase → Option Expressions → Option ℕ
places_in ps vs q None = Some 1
places_in ps vs q (Some sizes) = places_with ps vs q 1 sizes

-- those of a part, unless there are too many besides so many others
abbrev pub few_places : List Phrase → Known → Phrase → ℕ → Part → Option ℕ
few_places ps vs q count part = option_and_then (λ n. if is_few (add count n) then Some n else None) (places_in ps vs q (sizes_given [] part.attributes))

-- these kinds and those of the cells of one copy, for parts of the structure template of a phrase: only bottom parts have cells
unfoldable pub laid : List Phrase → Known → Phrase → List (Option Kind) → List Part → Option (List (Option Kind))
laid ps vs q kinds [] = Some kinds
laid ps vs q kinds (x ∷ xs) =
    if is_bottom x.level xs
    then elim (few_places ps vs q (length kinds) x) [ None ↦ None | Some n ↦ laid ps vs q (kinds ++ replicate n (kind_given ps vs q [] x.attributes)) xs ]
    else laid ps vs q kinds xs

unfoldable pub kinds_of_list : List Phrase → Known → Phrase → Option (List Part) → Option (List (Option Kind))
kinds_of_list ps vs q None = None
kinds_of_list ps vs q (Some parts) = laid ps vs q [] parts

-- those of the structure template that a phrase declares
unfoldable pub kinds_of_structure : List Phrase → Known → Option Phrase → Option (List (Option Kind))
kinds_of_structure ps vs None = None
kinds_of_structure ps vs (Some q) = kinds_of_list ps vs q (parts_of q.node)

-- those of data that name this structure template, or none
unfoldable pub kinds_by : List Phrase → Known → Phrase → List Attribute → List Attribute → Option (List ℕ) → Option (List (Option Kind))
kinds_by ps vs p common own None = Some (kind_given ps vs p common own ∷ [])
kinds_by ps vs p common own (Some name) = kinds_of_structure ps vs (structure_named ps p.around.block name)

-- those of data with these attributes, where they are known and few
abbrev pub kinds_of : List Phrase → Known → Phrase → List Attribute → List Attribute → Option (List (Option Kind))
kinds_of ps vs p common own = kinds_by ps vs p common own (template_of (type_given common own))
