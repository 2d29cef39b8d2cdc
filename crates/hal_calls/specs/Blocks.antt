-- Blocks that reach themselves by calls, and blocks that two processes reach: rules 901 and 902.
use Rattle.std.specs.Prelude.{ℕ, nat_lt, Bool, not, List, [], ◌∷◌, Option, Some, None, filter, length, if◌then◌else◌}
use Rattle.std.specs.Option.{option_and_then}
use Rattle.hal_base.specs.declared.refusal.Place.{Place}
use Rattle.hal_phrases.specs.Phrases.{Node, Phrase, OfUnit}
use Rattle.hal_scope.specs.Uses.{unless}
use Rattle.hal_meaning.specs.Bodies.{processes_reaching}
use Rattle.hal_meaning.specs.Places.{is_reentrant, unit_numbers}
use Rattle.hal_reach.specs.Marks.{Reached}
use Rattle.hal_reach.specs.Places.{is_among}
use Rattle.hal_reach.specs.Calls.{recursive}

-- where a phrase is a unit: at its name
unfoldable pub name_at : Node → Option Place
name_at (OfUnit name head declarations) = Some name.place
name_at other = None

-- where a phrase is one of these units
abbrev pub named_among : List ℕ → Phrase → Option Place
named_among units p = option_and_then (λ (place : Place). unless (not (is_among units p.number)) place) (name_at p.node)

-- rule 901
abbrev pub self_called : List Phrase → Phrase → Option Place
self_called ps p = named_among (recursive ps) p

-- whether more than one process reaches a block
abbrev pub is_contended : List Phrase → ℕ → Bool
is_contended ps q = nat_lt 1 (length (processes_reaching ps q))

-- the units that more than one process reaches
unfoldable pub contended : List Phrase → List ℕ
contended ps = filter (is_contended ps) (unit_numbers ps)

-- where a phrase is one of these units, and isn't REENTRANT
abbrev pub lone_among : List ℕ → Phrase → Option Place
lone_among units p = if is_reentrant p.node then None else named_among units p

-- rule 902
abbrev pub contested : List Phrase → Phrase → Option Place
contested ps p = lone_among (contended ps) p

-- the units that more than one process reaches, of those with the processes that reach them
unfoldable pub contended_among : List Reached → List ℕ
contended_among [] = []
contended_among (r ∷ rows) = if nat_lt 1 (length r.processes) then r.unit ∷ contended_among rows else contended_among rows
