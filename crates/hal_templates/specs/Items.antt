-- Whether a template declares what its unit does.
use Rattle.std.specs.Prelude.{ℕ, suc, nat_le, length, Bool, true, false, ◌&&◌, List, [], ◌∷◌, Option, Some, None, slice_get, bytes_eq}
use Rattle.std.specs.Option.{option_and_then}
use Rattle.hal_grammar.specs.Leaves.{Naming}
use Rattle.hal_grammar.specs.Declarations.{Attribute, Declared, Part}
use Rattle.hal_phrases.specs.Phrases.{Node, Phrase, OfItem, OfStructure}
use Rattle.hal_names.specs.declared.key.Space.TheVariants as space
use Rattle.hal_names.specs.Keys.{key, own}
use Rattle.hal_constants.specs.Known.{Known}
use Rattle.hal_templates.specs.Meanings.{same_meaning}
use Rattle.hal_templates.specs.Own.{template_of}
use Rattle.hal_templates.specs.Structures.{names_same, same_parts}
use Rattle.hal_templates.specs.Traits.{type_given}
use Rattle.hal_templates.specs.Values.{same_constants}

-- whether data that two phrases declare have the same attributes, the values behind CONSTANT aside
abbrev pub same_attributes : List Phrase → Known → Phrase → List Attribute → List Attribute → Phrase → List Attribute → List Attribute → Bool
same_attributes ps vs p common own q other_common other_own =
    same_meaning ps vs p common own q other_common other_own && names_same ps vs p q (template_of (type_given common own))

-- whether they have the same attributes
abbrev pub same_item : List Phrase → Known → Phrase → List Attribute → List Attribute → Phrase → List Attribute → List Attribute → Bool
same_item ps vs p common own q other_common other_own =
    same_attributes ps vs p common own q other_common other_own && same_constants ps vs p common own q other_common other_own

-- the phrase that declares this name in the block with this number
abbrev pub declaring : List Phrase → ℕ → List ℕ → Option Phrase
declaring ps block name = option_and_then (λ k. slice_get ps k) (own ps (key space.Declared block name))

-- data of one name
unfoldable pub same_data : List Phrase → Known → Option Phrase → List Attribute → List Attribute → Option Phrase → List Attribute → List Attribute → Bool
same_data ps vs (Some p) common own (Some q) other_common other_own = same_item ps vs p common own q other_common other_own
same_data ps vs p common own q other_common other_own = true

-- structure templates of one name
unfoldable pub same_structures : List Phrase → Known → Option Phrase → List Part → Option Phrase → List Part → Bool
same_structures ps vs (Some p) xs (Some q) ys = same_parts ps vs p xs q ys
same_structures ps vs p xs q ys = true

-- data with these attributes that a template declares in the block with this number, and what its unit declares in that one
unfoldable pub same_as_data : List Phrase → Known → ℕ → List Attribute → Declared → ℕ → Node → Bool
same_as_data ps vs h common item u (OfItem other_common other) =
    bytes_eq item.name.name other.name.name
    && same_data ps vs (declaring ps h item.name.name) common item.attributes (declaring ps u item.name.name) other_common other.attributes
same_as_data ps vs h common item u other = false

-- a structure template
unfoldable pub same_as_structure : List Phrase → Known → ℕ → Naming → List Part → ℕ → Node → Bool
same_as_structure ps vs h name parts u (OfStructure other others) =
    bytes_eq name.name other.name && same_structures ps vs (declaring ps h name.name) parts (declaring ps u name.name) others
same_as_structure ps vs h name parts u other = false

-- what a template declares in the block with this number, and what its unit declares in that one
unfoldable pub same_entry : List Phrase → Known → ℕ → Node → ℕ → Node → Bool
same_entry ps vs h (OfItem common item) u other = same_as_data ps vs h common item u other
same_entry ps vs h (OfStructure name parts) u other = same_as_structure ps vs h name parts u other
same_entry ps vs h one u other = false

-- the same in order
unfoldable pub same_entries : List Phrase → Known → ℕ → List Node → ℕ → List Node → Bool
same_entries ps vs h [] u [] = true
same_entries ps vs h (x ∷ xs) u (y ∷ ys) = same_entry ps vs h x u y && same_entries ps vs h xs u ys
same_entries ps vs h xs u ys = false

-- the same, where so many of what the unit declares stand before
unfoldable pub same_from : List Phrase → Known → ℕ → List Node → ℕ → ℕ → List Node → Bool
same_from ps vs h [] u k ys = nat_le (length ys) k
same_from ps vs h (x ∷ xs) u k ys = elim (slice_get ys k) [ None ↦ false | Some y ↦ same_entry ps vs h x u y && same_from ps vs h xs u (suc k) ys ]
