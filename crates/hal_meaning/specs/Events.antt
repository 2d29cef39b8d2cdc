-- Events and event expressions. Event p is the name of process p, and the declared events follow.
use Rattle.std.specs.Prelude.{ℕ, ◌+◌, ◌==◌, Bool, true, false, ◌&&◌, List, [], ◌∷◌, ◌++◌, Option, Some, None, slice_get, filter_map, length, nat_lt, position, unwrap_or, if◌then◌else◌}
use Rattle.std.specs.Option.{option_and_then, option_or}
use Rattle.hal_grammar.specs.Expressions.{Expression, Or, And, Not, Referred, Parenthesis, Expressions, NoExpressions, MoreExpressions, Reference, Refers}
use Rattle.hal_grammar.specs.Declarations.{Latched}
use Rattle.hal_phrases.specs.declared.role.Role.{Role}
use Rattle.hal_phrases.specs.declared.role.Role.TheVariants as role
use Rattle.hal_phrases.specs.Phrases.{Node, Phrase, OfItem, OfExpression, OfRealTime}
use Rattle.hal_scope.specs.Sorts.{type_of}
use Rattle.hal_scope.specs.Uses.{holds_event}
use Rattle.hal_kinds.specs.Attributes.{has_mark}
use Rattle.hal_kinds.specs.Data.{is_event_type}
use Rattle.hal_constants.specs.Known.{Known}
use Rattle.hal_values.specs.declared.tables.EventStart.{EventStart}
use Rattle.hal_values.specs.declared.tables.EventStart.TheVariants as event
use Rattle.hal_values.specs.declared.tables.Item.{Item}
use Rattle.hal_values.specs.declared.tables.Item.TheVariants as item
use Rattle.hal_values.specs.declared.value.Kind.TheVariants as kind
use Rattle.hal_values.specs.declared.value.Value.{Value}
use Rattle.hal_values.specs.declared.value.Value.TheVariants as value
use Rattle.hal_meaning.specs.InitialValues.{first_values}
use Rattle.hal_meaning.specs.Bodies.{meant, processes_of}
use Rattle.hal_meaning.specs.Places.{is_in_unit}

-- whether a phrase declares an event, and not in a template
abbrev pub is_event : List Phrase → ℕ → Node → Bool
is_event ps home (OfItem common item) = is_event_type (type_of common item) && is_in_unit ps home
is_event ps home other = false

-- the numbers of the phrases that declare events, in order
abbrev pub declared_events : List Phrase → List ℕ
declared_events ps = filter_map (λ (p : Phrase). if is_event ps p.around.home p.node then Some p.number else None) ps

-- whether the first of these values is TRUE
abbrev pub is_set : List Value → Bool
is_set (value.Bits len word ∷ vs) = nat_lt 0 word
is_set vs = false

-- how an event begins
abbrev pub start_at : List Phrase → Known → Phrase → Node → EventStart
start_at ps vs p (OfItem common i) =
    if has_mark Latched (i.attributes ++ common) then event.Latched (is_set (first_values ps vs p (i.attributes ++ common) (kind.Bits 1 ∷ []))) else event.Unlatched
start_at ps vs p other = event.Unlatched

abbrev pub start_of : List Phrase → Known → ℕ → EventStart
start_of ps vs k = elim (slice_get ps k) [ None ↦ event.Unlatched | Some p ↦ start_at ps vs p p.node ]

-- the place of a number in a list
abbrev pub place_in : List ℕ → ℕ → Option ℕ
place_in ks k = position (λ one. one == k) ks

-- the number of the event that a phrase declares, as a process or as an event
abbrev pub event_of : List Phrase → ℕ → Option ℕ
event_of ps k = option_or (place_in (processes_of ps) k) (elim (place_in (declared_events ps) k) [ None ↦ None | Some n ↦ Some (length (processes_of ps) + n) ])

-- the number of the event that a name means in a block; where it means none, which no accepted set has, the first process's
abbrev pub event_named : List Phrase → ℕ → List ℕ → ℕ
event_named ps block name = unwrap_or (option_and_then (event_of ps) (meant ps block name)) 0

abbrev pub event_of_reference : List Phrase → ℕ → Reference → ℕ
event_of_reference ps block (Refers place name further subscript) = event_named ps block name

abbrev mutual
  -- an event expression, its operands first
  pub postfix : List Phrase → ℕ → Expression → List Item
  postfix ps block (Or place first others) = postfix_joined ps block item.Or (postfix ps block first) others
  postfix ps block (And place first others) = postfix_joined ps block item.And (postfix ps block first) others
  postfix ps block (Not place operand) = postfix ps block operand ++ (item.Not ∷ [])
  postfix ps block (Parenthesis place inner) = postfix ps block inner
  postfix ps block (Referred reference) = item.Event (event_of_reference ps block reference) ∷ []
  postfix ps block other = item.Event 0 ∷ []

  -- operands that are joined with those before them
  pub postfix_joined : List Phrase → ℕ → Item → List Item → Expressions → List Item
  postfix_joined ps block joint before NoExpressions = before
  postfix_joined ps block joint before (MoreExpressions first others) = postfix_joined ps block joint (before ++ (postfix ps block first ++ (joint ∷ []))) others

-- an event expression: the phrase of the statement that it stands in, and its items
pub record Stated : Type 0 where
  pub statement : ℕ
  pub items : List Item

abbrev pub is_real_time : Node → Bool
is_real_time (OfRealTime place) = true
is_real_time other = false

-- whether an expression of this role is an event expression
abbrev pub is_for_event : List Phrase → ℕ → Role → Expression → Bool
is_for_event ps block role.Event tree = true
is_for_event ps block role.EventOrTime tree = holds_event ps block tree
is_for_event ps block other tree = false

abbrev pub stated_at : List Phrase → Phrase → Node → Option Stated
stated_at ps p (OfExpression r tree) =
    if is_for_event ps p.around.block r tree && elim (slice_get ps p.around.parent) [ None ↦ false | Some above ↦ is_real_time above.node ]
    then Some (record { statement = p.around.parent; items = postfix ps p.around.block tree }) else None
stated_at ps p other = None

-- the event expressions of a set, in the order in which they stand
abbrev pub stated : List Phrase → List Stated
stated ps = filter_map (λ (p : Phrase). stated_at ps p p.node) ps
