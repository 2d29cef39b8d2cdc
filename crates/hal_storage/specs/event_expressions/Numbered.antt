-- The numbers of events among processes and declared events, and the phrases that are event expressions.
use Rattle.std.specs.Prelude.{ℕ, ◌+◌, Bool, false, ◌&&◌, List, length, filter_map, Option, Some, None, slice_get, unwrap_or, if◌then◌else◌}
use Rattle.std.specs.Option.{option_and_then, option_map, option_or}
use Rattle.hal_grammar.specs.Expressions.{Expression}
use Rattle.hal_phrases.specs.Phrases.{Node, Phrase, OfExpression}
use Rattle.hal_meaning.specs.Events.{place_in, is_for_event, is_real_time, postfix, Stated}

-- the number of the event that the phrase with this number declares
abbrev pub event_among : List ℕ → List ℕ → ℕ → Option ℕ
event_among processes declared k = option_or (place_in processes k) (elim (place_in declared k) [ None ↦ None | Some n ↦ Some (length processes + n) ])

-- the same of a phrase that may be there, 0 where none is
abbrev pub event_named_among : List ℕ → List ℕ → Option ℕ → ℕ
event_named_among processes declared k = unwrap_or (option_and_then (event_among processes declared) k) 0

-- whether the phrase with this number is a real-time statement
abbrev pub is_real_time_at : List Phrase → ℕ → Bool
is_real_time_at ps k = elim (slice_get ps k) [ None ↦ false | Some above ↦ is_real_time above.node ]

-- the event expression that a phrase is
abbrev pub expression_at : List Phrase → Phrase → Node → Option Expression
expression_at ps p (OfExpression r tree) = if is_for_event ps p.around.block r tree && is_real_time_at ps p.around.parent then Some tree else None
expression_at ps p other = None

-- the event expression of this tree in a phrase
abbrev pub stated_with : List Phrase → Phrase → Expression → Stated
stated_with ps p tree = record { statement = p.around.parent; items = postfix ps p.around.block tree }

abbrev pub stated_by : List Phrase → Phrase → Option Stated
stated_by ps p = option_map (stated_with ps p) (expression_at ps p p.node)

-- the event expressions of a set
unfoldable pub all_stated : List Phrase → List Stated
all_stated ps = filter_map (stated_by ps) ps
