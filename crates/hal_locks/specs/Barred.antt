-- What an UPDATE block may not do: rule 803.
use Rattle.std.specs.Prelude.{ℕ, Bool, true, false, ◌&&◌, not, List, Option, Some, None}
use Rattle.std.specs.Option.{option_and_then}
use Rattle.hal_base.specs.declared.refusal.Place.{Place}
use Rattle.hal_grammar.specs.Leaves.{Naming}
use Rattle.hal_phrases.specs.declared.role.Role.{Role}
use Rattle.hal_phrases.specs.declared.role.Role.TheVariants as role
use Rattle.hal_phrases.specs.Phrases.{Node, Phrase, OfCallForm, OfReference, OfSubscriptName, OfRead, OfWrite, OfRealTime, OfEvent}
use Rattle.hal_names.specs.Means.{means}
use Rattle.hal_scope.specs.declared.builtin.Builtin.{Builtin}
use Rattle.hal_scope.specs.declared.builtin.Builtin.TheVariants as builtin
use Rattle.hal_scope.specs.Builtins.{builtin_named}
use Rattle.hal_scope.specs.Uses.{is_eventful, sort_at, unless}
use Rattle.hal_locks.specs.Updates.{named_in, within}

-- whether a reference of this role is read: it isn't where it takes a value, or is an operand of an event expression
unfoldable pub is_read : Role → Bool
is_read role.Receiver = false
is_read role.Output = false
is_read role.Event = false
is_read role.EventOrTime = false
is_read other = true

-- whether a phrase reads what it names
unfoldable pub is_reading : Node → Bool
is_reading (OfReference r reference) = is_read r
is_reading (OfSubscriptName name) = true
is_reading (OfCallForm place name arguments) = true
is_reading other = false

unfoldable pub is_runtime : Option Builtin → Bool
is_runtime (Some builtin.Runtime) = true
is_runtime other = false

-- whether a name is RUNTIME, or is read and is that of an event or a process
abbrev pub is_asked : List Phrase → ℕ → Bool → List ℕ → Bool
is_asked ps block reading name = elim (means ps block name) [ None ↦ is_runtime (builtin_named name) | Some k ↦ reading && is_eventful (sort_at ps k) ]

-- where a phrase names such a one
abbrev pub asking : List Phrase → ℕ → Node → Option Place
asking ps block node = option_and_then (λ (n : Naming). unless (not (is_asked ps block (is_reading node) n.name)) n.place) (named_in node)

-- where a phrase does what an UPDATE block may not do: READ, WRITE, a real-time statement, an event statement or action, RUNTIME, the reading of an event or a process
unfoldable pub barred : List Phrase → ℕ → Node → Option Place
barred ps block (OfRead place) = Some place
barred ps block (OfWrite place) = Some place
barred ps block (OfRealTime place) = Some place
barred ps block (OfEvent event) = Some event.place
barred ps block other = asking ps block other

-- rule 803
abbrev pub barred_within : List Phrase → Phrase → Option Place
barred_within ps p = within p (barred ps p.around.block p.node)
