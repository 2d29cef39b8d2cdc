-- What a process asks for next, after the answers that it got so far.
use Rattle.std.specs.Prelude.{ℕ, zero, suc, Bool, true, false, List, [], ◌∷◌, ◌++◌, map, Option, Some, None, slice_get, if◌then◌else◌}
use Rattle.hal_values.specs.declared.request.Request.{Request}
use Rattle.hal_values.specs.declared.request.Request.TheVariants as request
use Rattle.hal_values.specs.declared.value.Value.{Value}
use Rattle.hal_values.specs.Answers.{Answered, Ends, error}
use Rattle.hal_values.specs.Answers as answered
use Rattle.hal_states.specs.Spots.{Held, Holds, Refers, Nowhere, Kept, kept}
use Rattle.hal_states.specs.Modes.{Mode, asking}
use Rattle.hal_states.specs.Telling.{writes_asked}
use Rattle.hal_meaning.specs.Bodies.{Body, processes_of}
use Rattle.hal_meaning.specs.Marks.{Handling, handling_in}
use Rattle.hal_meaning.specs.Places.{Place, places_of}
use Rattle.hal_meaning.specs.Sets.{Set, body_at}
use Rattle.hal_meaning.specs.States.{State, state, Evaluated, Gives, Asks, Caught, Restarts, Lost, bind, Flow, Normal, Returned}
use Rattle.hal_meaning.specs.Access.{Here, raise, request_made}
use Rattle.hal_meaning.specs.Calls.{is_function}
use Rattle.hal_meaning.specs.Statements.{statement, statements, grouped, settled, turn_if, goes_behind, guard_holds, span_begins, next_listed, next_stepping}
use Rattle.hal_meaning.specs.Tasks.{Meaning, Tested, Stepping, Listing, Entering, Resuming, Cycling}

-- the unit of a block that isn't an UPDATE block is a FUNCTION
abbrev pub in_function : Here → Bool
in_function h = elim (body_at h.set h.unit) [ None ↦ false | Some b ↦ if h.update then false else is_function b.head ]

-- the end of a block is reached: a FUNCTION has to return before
abbrev pub ended : Here → Bool → Flow → State → Evaluated Flow
ended h true Normal st = bind (raise h (error 1 7) st) (λ ignored after. Gives (Returned None) after)
ended h function flow st = Gives flow st

-- statements of a block, to its end
abbrev pub to_end : Meaning → Here → Evaluated Flow → Evaluated Flow
to_end rec h done = settled rec h (bind done (λ flow after. ended h (in_function h) flow after))

-- a statement of ON ERROR, and what stands behind it
abbrev pub handled : Meaning → Here → Option Handling → State → Evaluated Flow
handled rec h None st = Gives Normal st
handled rec h (Some found) st =
    bind (statement rec h found.mark found.handler st) (λ flow after. goes_behind flow (λ begun. statements rec h found.rest_mark found.rest begun) after)

-- a process begins anew after Killed
abbrev pub restarted : Meaning → Here → Evaluated Flow → Evaluated Flow
restarted rec h (Gives flow after) = Gives flow after
restarted rec h (Asks r keeps in_mode) = Asks r keeps in_mode
restarted rec h (Caught level place after) = Caught level place after
restarted rec h (Restarts keeps left) = rec (Cycling h) (state keeps [] asking left)
restarted rec h Lost = Lost

-- one cycle, and then the next one
abbrev pub finished : Meaning → Here → State → Evaluated Flow
finished rec h st = bind (request_made request.Finish st) (λ done after. rec (Cycling h) (state after.kept [] asking after.left))

-- the same behind the process's block, out of which nothing comes that is caught
abbrev pub finished_behind : Meaning → Here → Evaluated Flow → Evaluated Flow
finished_behind rec h (Gives flow after) = finished rec h after
finished_behind rec h (Asks r keeps in_mode) = Asks r keeps in_mode
finished_behind rec h (Caught level place after) = finished rec h after
finished_behind rec h (Restarts keeps left) = Restarts keeps left
finished_behind rec h Lost = Lost

abbrev pub cycle : Meaning → Here → State → Evaluated Flow
cycle rec h st = bind (request_made request.Begin st) (λ done begun. finished_behind rec h (to_end rec h (statements rec h 0 h.body begun)))

-- what a task comes to, where `rec` says what those come to that are begun in it
abbrev pub task : Meaning → Meaning
task rec (Tested h loop g) st =
    bind (guard_holds rec h g st)
    (λ held after. turn_if h loop.labels (λ begun. grouped rec h (suc loop.mark) loop.group begun) (rec (Tested h loop g)) held after)
task rec (Stepping h n loop name g) st =
    bind (next_stepping h name n st)
    (λ begins st1. bind (span_begins rec h false g begins st1)
    (λ held st2. turn_if h loop.labels (λ begun. grouped rec h (suc loop.mark) loop.group begun) (rec (Stepping h n loop name g)) held st2))
task rec (Listing h n loop name g values) st =
    bind (next_listed rec h name n 1 values g st)
    (λ held st1. turn_if h loop.labels (λ begun. grouped rec h (suc loop.mark) loop.group begun) (rec (Listing h n loop name g values)) held st1)
task rec (Entering h) st = to_end rec h (statements rec h 0 h.body st)
task rec (Resuming h place) st = to_end rec h (handled rec h (handling_in place h.first h.body) st)
task rec (Cycling h) st = restarted rec h (cycle rec h st)

-- tasks that are begun one in the other, so many
abbrev pub more_tasks : ℕ → Meaning → Meaning
more_tasks zero rec = rec
more_tasks (suc n) rec = task (more_tasks n rec)

-- no task can be begun
abbrev pub no_tasks : Meaning
no_tasks one st = Lost

-- what tasks come to: each has taken an answer, or is one of the turns of an UPDATE block, which has so many
abbrev pub tasks : ℕ → List Answered → Meaning
tasks turns [] = no_tasks
tasks turns (answered.Begun ∷ left) = task (tasks turns left)
tasks turns (answered.Told v ∷ left) = task (tasks turns left)
tasks turns (answered.Done ∷ left) = task (tasks turns left)
tasks turns (answered.Wrong e ∷ left) = task (tasks turns left)
tasks turns (answered.Block snapshot made ∷ left) = task (more_tasks turns (tasks turns left))
tasks turns (answered.Killed ∷ left) = task (tasks turns left)

-- what an own place holds at first; a reference none
abbrev pub held_first : Place → Held
held_first place = elim place.kind [ None ↦ Refers Nowhere | Some k ↦ Holds place.initial ]

-- what a process keeps at first
abbrev pub first_kept : List Place → Kept
first_kept places = kept (map held_first places) (error 0 0)

abbrev pub here_in : Set → ℕ → List Place → Body → Here
here_in s p places b =
    record { set = s; process = p; places = places; unit = b.number; block = b.number; marks = b.marks; body = b.statements; update = false; first = 0; below = [] }

-- the unit of the process with this number
abbrev pub process_body : Set → ℕ → Option Body
process_body s p = elim (slice_get (processes_of s.phrases) p) [ None ↦ None | Some k ↦ body_at s k ]

abbrev pub places_of_process : Set → ℕ → List Place
places_of_process s p = elim (slice_get (processes_of s.phrases) p) [ None ↦ [] | Some k ↦ places_of s.phrases s.constants k ]

-- the whole: what a process comes to after these answers
abbrev pub course_of : Set → ℕ → List Place → Body → List Answered → Evaluated Flow
course_of s p places b answers = task (tasks s.turns answers) (Cycling (here_in s p places b)) (state (first_kept places) [] asking answers)

abbrev pub course : Set → ℕ → List Answered → Evaluated Flow
course s p answers = elim (process_body s p) [ None ↦ Asks request.Begin (first_kept []) asking | Some b ↦ course_of s p (places_of_process s p) b answers ]

-- what it asks; each course asks
abbrev pub asked : Evaluated Flow → Request
asked (Asks r keeps in_mode) = r
asked other = request.Begin

abbrev pub asked_kept : Evaluated Flow → Kept
asked_kept (Asks r keeps in_mode) = keeps
asked_kept other = first_kept []

abbrev pub asked_mode : Evaluated Flow → Mode
asked_mode (Asks r keeps in_mode) = in_mode
asked_mode other = asking

-- the request of a process after these answers
abbrev pub next : Set → ℕ → List Answered → Request
next s p answers = asked (course s p answers)

-- how the UPDATE block ends that a process asks for; no phrase looks at the number of turns that an answer tells
abbrev pub block_mode : Set → ℕ → List Answered → List Value → Mode
block_mode s p answers snapshot = asked_mode (course s p (answers ++ (answered.Block snapshot 0 ∷ [])))

-- its writes, where it ends after just so many turns
abbrev pub block : Set → ℕ → List Answered → Ends
block s p answers snapshot turns = writes_asked s.turns (next s p answers) (block_mode s p answers snapshot) turns
