-- Data with LOCK.
use Rattle.std.specs.Prelude.{ℕ, Bool, true, false, ◌&&◌, ◌||◌, not, List, Option, Some, None, slice_get}
use Rattle.std.specs.Option.{option_and_then}
use Rattle.std.specs.List.{list_any}
use Rattle.hal_grammar.specs.Declarations.{Attribute, LockGroup, LockAny, Declared}
use Rattle.hal_phrases.specs.Phrases.{Node, Phrase, OfItem}
use Rattle.hal_names.specs.Means.{means}
use Rattle.hal_scope.specs.Sorts.{type_of}
use Rattle.hal_kinds.specs.Data.{is_event_type}

-- whether an attribute is LOCK with a number
unfoldable pub is_numbered : Attribute → Bool
is_numbered (LockGroup place group) = true
is_numbered other = false

-- whether it is LOCK with a star
unfoldable pub is_starred : Attribute → Bool
is_starred (LockAny place) = true
is_starred other = false

-- whether a name that is declared has LOCK with a number: by its own attributes, or by those before the comma
abbrev pub has_number : List Attribute → Declared → Bool
has_number common item = list_any is_numbered item.attributes || list_any is_numbered common

-- the same with a star
abbrev pub has_star : List Attribute → Declared → Bool
has_star common item = list_any is_starred item.attributes || list_any is_starred common

-- whether a phrase declares data of a known lock group; an event is no data
unfoldable pub is_grouped : Node → Bool
is_grouped (OfItem common item) = not (is_event_type (type_of common item)) && has_number common item
is_grouped other = false

-- whether a phrase of a set does
unfoldable pub declares_grouped : Phrase → Bool
declares_grouped p = is_grouped p.node

-- whether one of phrases does
abbrev pub has_grouped : List Phrase → Bool
has_grouped ps = list_any declares_grouped ps

-- whether a phrase declares data with LOCK, of a known group or not
unfoldable pub is_locked : Node → Bool
is_locked (OfItem common item) = not (is_event_type (type_of common item)) && (has_number common item || has_star common item)
is_locked other = false

-- the phrase that declares what a name means in a block
abbrev pub meaning : List Phrase → ℕ → List ℕ → Option Phrase
meaning ps block name = option_and_then (λ k. slice_get ps k) (means ps block name)

-- whether a name means data of a known lock group
abbrev pub means_grouped : List Phrase → ℕ → List ℕ → Bool
means_grouped ps block name = elim (meaning ps block name) [ None ↦ false | Some q ↦ is_grouped q.node ]

-- whether it means data with LOCK
abbrev pub means_locked : List Phrase → ℕ → List ℕ → Bool
means_locked ps block name = elim (meaning ps block name) [ None ↦ false | Some q ↦ is_locked q.node ]
