-- Times and event expressions: rules 322, 713 and 714, 720 of a time that is a whole array, and the rules of operands behind UNTIL of SCHEDULE.
use Rattle.std.specs.Prelude.{ℕ, Bool, true, false, ◌&&◌, not, List, length, Option, Some, None, slice_get, if◌then◌else◌}
use Rattle.std.specs.Option.{option_and_then, option_or, is_some}
use Rattle.hal_base.specs.declared.refusal.Place.{Place}
use Rattle.hal_grammar.specs.Leaves.{Naming}
use Rattle.hal_grammar.specs.Expressions.{Expression, Or, And, Not, Referred, Parenthesis, Reference, Refers, Subscript, Unsubscripted, place_of}
use Rattle.hal_phrases.specs.declared.role.Role.{Role}
use Rattle.hal_phrases.specs.declared.role.Role.TheVariants as role
use Rattle.hal_phrases.specs.Phrases.{Node, Phrase, OfExpression, OfDecimal}
use Rattle.hal_names.specs.Means.{means}
use Rattle.hal_scope.specs.Builtins.{builtin_named}
use Rattle.hal_scope.specs.Uses.{unless, holds_event, is_in_event, limit_of, refers_to_event}
use Rattle.hal_kinds.specs.declared.class.Class.{Class}
use Rattle.hal_kinds.specs.declared.class.Class.TheVariants as class
use Rattle.hal_kinds.specs.Classes.{class_of}
use Rattle.hal_operands.specs.declared.want.Want.{Want}
use Rattle.hal_operands.specs.declared.want.Want.TheVariants as want
use Rattle.hal_operands.specs.Pairs.{pair_fault}
use Rattle.hal_operands.specs.Wants.{at, misfit_at}

-- whether the phrase with this number is an expression behind UNTIL of SCHEDULE or a part of one
abbrev pub is_limit_at : List Phrase → ℕ → Bool
is_limit_at ps k = elim (slice_get ps k) [ None ↦ false | Some p ↦ is_some (limit_of p.node) ]

-- whether an expression of this role, part of the phrase with this number, is a whole time
unfoldable pub is_whole_time : List Phrase → ℕ → Role → Bool
is_whole_time ps parent role.Time = true
is_whole_time ps parent role.EventOrTime = not (is_limit_at ps parent)
is_whole_time ps parent other = false

-- whether a decimal of this role, which is the whole expression with this number, is a whole time
unfoldable pub is_timely : List Phrase → ℕ → Role → Bool
is_timely ps k r = elim (slice_get ps k) [ None ↦ true | Some p ↦ is_whole_time ps p.around.parent r ]

-- rule 322
unfoldable pub untimely : List Phrase → Phrase → Node → Option Place
untimely ps p (OfDecimal r place) = unless (is_timely ps p.around.parent r) place
untimely ps p other = None

-- the rule that a time of this class breaks
unfoldable pub misfit_of_time : Class → Option ℕ
misfit_of_time class.Integer = None
misfit_of_time class.Array = Some 720
misfit_of_time other = Some 713

-- rule 713 of a whole time
abbrev pub time_fault : List Phrase → ℕ → Expression → Option (ℕ × Place)
time_fault ps block tree = at (place_of tree) (option_and_then misfit_of_time (class_of ps block tree))

-- whether there is no subscript
unfoldable pub is_unsubscripted : Subscript → Bool
is_unsubscripted Unsubscripted = true
is_unsubscripted other = false

-- whether a reference has none
unfoldable pub is_plain : Reference → Bool
is_plain (Refers place name path subscript) = is_unsubscripted subscript

-- whether a name is known that isn't declared
abbrev pub is_builtin : List ℕ → Bool
is_builtin name = is_some (builtin_named name)

-- whether a reference is an event or a process, or unknown
unfoldable pub is_event_operand : List Phrase → ℕ → Reference → Bool
is_event_operand ps block (Refers place name path subscript) =
    if is_some (means ps block name) then refers_to_event ps block (Refers place name path subscript) && is_plain (Refers place name path subscript) else not (is_builtin name)

-- whether an expression may stand in an event expression, its parts aside
unfoldable pub is_event_part : List Phrase → ℕ → Expression → Bool
is_event_part ps block (Or place first others) = true
is_event_part ps block (And place first others) = true
is_event_part ps block (Not place operand) = true
is_event_part ps block (Parenthesis place inner) = true
is_event_part ps block (Referred reference) = is_event_operand ps block reference
is_event_part ps block other = false

-- rule 714
abbrev pub event_fault : List Phrase → ℕ → Expression → Option (ℕ × Place)
event_fault ps block tree = if is_event_part ps block tree then None else Some (714, place_of tree)

-- whether an expression behind UNTIL of SCHEDULE is one of events or a part of one
abbrev pub is_of_events : List Phrase → Phrase → Expression → Bool
is_of_events ps p tree = if is_limit_at ps p.around.parent then is_in_event ps p else holds_event ps p.around.block tree

-- what is wanted of the operands of an expression behind UNTIL of SCHEDULE that isn't one of events: the same as elsewhere
unfoldable pub wanted_within : Expression → Want
wanted_within (Or place first others) = want.Truth
wanted_within (And place first others) = want.Truth
wanted_within (Not place operand) = want.Bits
wanted_within (Parenthesis place inner) = want.Single
wanted_within other = want.Anything

-- what is wanted of an operand of the phrase with this number, where that is such an expression
abbrev pub wanted_at : List Phrase → ℕ → Want
wanted_at ps k =
    elim (slice_get ps k) [
      | None ↦ want.Anything
      | Some p ↦ elim (limit_of p.node) [ None ↦ want.Anything | Some around ↦ wanted_within around ]
    ]

-- such an expression, or a part of one: its operands go together, and it is a time or what the expression around it wants
abbrev pub eventless_fault : List Phrase → Phrase → Expression → Option (ℕ × Place)
eventless_fault ps p tree =
    option_or (pair_fault ps p.around.block tree)
    (if is_limit_at ps p.around.parent then misfit_at ps p.around.block (wanted_at ps p.around.parent) tree else time_fault ps p.around.block tree)

-- an expression behind UNTIL of SCHEDULE, or a part of one
abbrev pub limit_fault : List Phrase → Phrase → Expression → Option (ℕ × Place)
limit_fault ps p tree = if is_of_events ps p tree then event_fault ps p.around.block tree else eventless_fault ps p tree

-- an expression of this role
unfoldable pub timed : List Phrase → Phrase → Role → Expression → Option (ℕ × Place)
timed ps p role.Time tree = time_fault ps p.around.block tree
timed ps p role.Event tree = event_fault ps p.around.block tree
timed ps p role.EventOrTime tree = limit_fault ps p tree
timed ps p other tree = None

-- rules 713 and 714, and what operands break behind UNTIL of SCHEDULE
unfoldable pub mistimed : List Phrase → Phrase → Node → Option (ℕ × Place)
mistimed ps p (OfExpression r tree) = timed ps p r tree
mistimed ps p other = None
