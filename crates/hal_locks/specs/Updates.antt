-- The rules that look at UPDATE blocks alone, and at the names that stand outside them: 801, 802 and 807.
use Rattle.std.specs.Prelude.{not, List, Option, Some, None, if◌then◌else◌}
use Rattle.std.specs.Option.{option_and_then, option_map, is_some}
use Rattle.hal_base.specs.declared.refusal.Place.{Place}
use Rattle.hal_grammar.specs.Leaves.{Naming, naming}
use Rattle.hal_phrases.specs.Phrases.{Node, Phrase, OfReturn, OfUpdate}
use Rattle.hal_scope.specs.declared.used.Use.{Use}
use Rattle.hal_scope.specs.Sorts.{used}
use Rattle.hal_scope.specs.Uses.{unless}
use Rattle.hal_locks.specs.Locked.{means_grouped}

-- a place, where the phrase stands in an UPDATE block
abbrev pub within : Phrase → Option Place → Option Place
within p place = if is_some p.around.update then place else None

-- a place, where it stands outside of them
abbrev pub outside : Phrase → Option Place → Option Place
outside p place = if is_some p.around.update then None else place

-- the name that a phrase uses, where it stands
abbrev pub named_in : Node → Option Naming
named_in node = option_map (λ (u : Use). naming u.place u.name) (used node)

-- where a phrase names data of a known lock group
abbrev pub naming_grouped : List Phrase → Phrase → Option Place
naming_grouped ps p = option_and_then (λ (n : Naming). unless (not (means_grouped ps p.around.block n.name)) n.place) (named_in p.node)

-- rule 801
abbrev pub unheld : List Phrase → Phrase → Option Place
unheld ps p = outside p (naming_grouped ps p)

-- UPDATE
unfoldable pub updating : Node → Option Place
updating (OfUpdate place labels) = Some place
updating other = None

-- rule 802
abbrev pub nested : Phrase → Option Place
nested p = within p (updating p.node)

-- RETURN
unfoldable pub returning : Node → Option Place
returning (OfReturn place value) = Some place
returning other = None

-- rule 807
abbrev pub returned : Phrase → Option Place
returned p = within p (returning p.node)
