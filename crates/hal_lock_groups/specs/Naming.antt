-- The data that phrases name, by how what each phrase of the set declares is stored.
use Rattle.std.specs.Prelude.{ℕ, List, map, Option, Some, None, slice_get, unwrap_or}
use Rattle.std.specs.Option.{option_and_then, option_map}
use Rattle.hal_phrases.specs.Phrases.{Node, Phrase}
use Rattle.hal_scope.specs.declared.used.Use.{Use}
use Rattle.hal_scope.specs.Sorts.{used}
use Rattle.hal_constants.specs.Known.{Known}
use Rattle.hal_meaning.specs.Bodies.{meant}
use Rattle.hal_meaning.specs.Places.{Storing, Unstored, storing}

-- the name that a phrase uses
abbrev pub used_name : Node → Option (List ℕ)
used_name node = option_map (λ (u : Use). u.name) (used node)

-- the number of the declaration that it means
abbrev pub named : List Phrase → Phrase → Option ℕ
named ps p = option_and_then (meant ps p.around.block) (used_name p.node)

-- how what a phrase declares is stored
abbrev pub stored : List Phrase → Known → Phrase → Storing
stored ps vs p = storing ps vs p p.node

-- the same of each phrase
unfoldable pub all_storings : List Phrase → Known → List Storing
all_storings ps vs = map (stored ps vs) ps

-- the same of the phrase with this number
abbrev pub stored_at : List Storing → ℕ → Storing
stored_at list k = unwrap_or (slice_get list k) Unstored

-- how the data are stored that a phrase names
abbrev pub storing_named : List Phrase → List Storing → Phrase → Storing
storing_named ps list p = elim (named ps p) [ None ↦ Unstored | Some k ↦ stored_at list k ]
