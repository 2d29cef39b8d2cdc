-- The rules of names in real-time statements: 715 of events that are set, 723 of processes.
use Rattle.std.specs.Prelude.{ℕ, Bool, true, false, ◌&&◌, not, List, Option, Some, None, slice_get, if◌then◌else◌}
use Rattle.std.specs.Option.{option_and_then, is_some}
use Rattle.hal_base.specs.declared.refusal.Place.{Place}
use Rattle.hal_grammar.specs.Leaves.{Naming}
use Rattle.hal_grammar.specs.Declarations.{Latched}
use Rattle.hal_grammar.specs.Statements.{EventAction, Signal, Set, Reset, Eventful}
use Rattle.hal_phrases.specs.Phrases.{Node, Phrase, OfItem, OfProcess, OfEvent}
use Rattle.hal_names.specs.Means.{means}
use Rattle.hal_scope.specs.declared.sort.Sort.{Sort}
use Rattle.hal_scope.specs.declared.sort.Sort.TheVariants as sort
use Rattle.hal_scope.specs.Builtins.{builtin_named}
use Rattle.hal_scope.specs.Sorts.{type_of}
use Rattle.hal_scope.specs.Uses.{sort_at, unless}
use Rattle.hal_kinds.specs.Attributes.{is_marked}
use Rattle.hal_kinds.specs.Data.{is_event_type}

-- whether a declared name keeps its value when it is an event
unfoldable pub is_unlatched : Node → Bool
is_unlatched (OfItem common item) = is_event_type (type_of common item) && not (is_marked Latched common item)
is_unlatched other = false

-- whether a name means an unlatched event in a block
abbrev pub means_unlatched : List Phrase → ℕ → List ℕ → Bool
means_unlatched ps block name = elim (option_and_then (λ k. slice_get ps k) (means ps block name)) [ None ↦ false | Some p ↦ is_unlatched p.node ]

-- whether an event gets a value that it keeps
unfoldable pub is_kept : EventAction → Bool
is_kept Signal = false
is_kept Set = true
is_kept Reset = true

-- rule 715
unfoldable pub unlatched : List Phrase → Phrase → Node → Option Place
unlatched ps p (OfEvent event) = unless (not (is_kept event.action && means_unlatched ps p.around.block event.name.name)) event.place
unlatched ps p other = None

unfoldable pub is_process : Option Sort → Bool
is_process (Some sort.Process) = true
is_process other = false

-- whether a name is that of a process, or unknown
abbrev pub may_be_process : List Phrase → ℕ → List ℕ → Bool
may_be_process ps block name = elim (means ps block name) [ None ↦ not (is_some (builtin_named name)) | Some k ↦ is_process (sort_at ps k) ]

-- rule 723
unfoldable pub no_process : List Phrase → Phrase → Node → Option Place
no_process ps p (OfProcess name) = unless (may_be_process ps p.around.block name.name) name.place
no_process ps p other = None
