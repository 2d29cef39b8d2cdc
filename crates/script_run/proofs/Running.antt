-- One event more, and one script line more.
use Rattle.std.proofs.Common.{◌≡◌, ℕ, ◌+◌, ◌<◌, ◌≤◌, inl, inr, Some, slice_get, List, [], ◌∷◌, ◌++◌, length, take, sum_by, refl, ap, ap₂, ◌∙◌, sym, subst, append_assoc, append-nil, length-append, arith, add-one, take-suc, get_or}
use Rattle.std.proofs.lemmas.Bool.{cases_eq}
use Rattle.std.proofs.lemmas.List.Sums.{sum-map, sum_by-cons, sum_by_more_le}
use Rattle.std.proofs.lemmas.Option.{slice_get_within}
use Rattle.hal_base.specs.declared.limits.TheConstants.{TICK_SUM_LIMIT}
use Rattle.hal_values.specs.Answers.{Answered}
use Rattle.hal_values.specs.declared.tables.Tables.{Tables}
use Rattle.hal_values.specs.Loads.{Meaning, IsLoad}
use Rattle.hal_values.specs.Requests.{HasProcess}
use Rattle.exec_model.specs.declared.event.Event.{Event}
use Rattle.exec_model.specs.declared.event.Event.TheVariants as event
use Rattle.exec_model.specs.declared.script.ScriptLine.{ScriptLine}
use Rattle.exec_model.specs.declared.script.ScriptLine.TheVariants as asks
use Rattle.exec_model.specs.declared.state.State.{State}
use Rattle.exec_model.specs.Moments.{Moment, moment_of}
use Rattle.exec_model.specs.Opening.{opening}
use Rattle.exec_model.specs.Runs.{IsOfProcess, AreOfProcesses, IsQuiet, IsLowestNamed, MakesLine, MakesLines, IsUnknown, IsRunTo}
use Rattle.exec_model.specs.Scripts.{IsScript, asked_time}
use Rattle.exec_model.specs.Sound.{IsSound, KeepsClock}
use Rattle.exec_model.specs.Steps.{IsAllowed, Steps, stepped}
use Rattle.exec_model.proofs.SoundEvents.{event_time, stepped-clock}
use Rattle.exec_model.proofs.SoundRuns.{Steps-append, Steps-sound, MakesLines-steps, MakesLines-time, opening-clock, opening-sound}
use Rattle.script_run.specs.Running.{Continues, RunsBlocks, RunsLine, RunsLines}

-- events of processes keep the clock
pub KeepsClock-of_process : (m : Moment) (happens : Event) → IsOfProcess happens → KeepsClock m happens
KeepsClock-of_process m (event.Act p) one = tt
KeepsClock-of_process m (event.Open p) one = tt
KeepsClock-of_process m (event.Block p turns) one = tt
KeepsClock-of_process m (event.Tick time) one = absurd one
KeepsClock-of_process m (event.Preempt p) one = tt

-- one event of a process more
AreOfProcesses-push : (events : List Event) (happens : Event) → AreOfProcesses events → IsOfProcess happens → AreOfProcesses (events ++ happens ∷ [])
AreOfProcesses-push [] happens kind one = (one, tt)
AreOfProcesses-push (front ∷ events) happens kind one = (kind.0, AreOfProcesses-push events happens kind.1 one)

-- equal states with equal answers are one moment
pub same_moment : (one other : State) (a b : List (List Answered)) → one ≡ other → a ≡ b → moment_of one a ≡ moment_of other b
same_moment one other a b state answers = ap₂ moment_of state answers

-- how far the events of a RUN have come
pub record IsMaking (q : Meaning) (lanes : ℕ) (old : Moment) (before now : List Event) (made : ℕ) (new : Moment) : Type 0 where
  pub events : List Event
  pub journal : now ≡ before ++ events
  pub steps : Steps q lanes old events new
  pub kind : AreOfProcesses events
  pub count : length events ≡ made

pub IsMaking-start : (q : Meaning) (lanes : ℕ) (old : Moment) (before : List Event) → IsMaking q lanes old before before 0 old
IsMaking-start q lanes old before = record { events = []; journal = sym (append-nil before); steps = refl; kind = tt; count = refl }

-- one step is a list of steps
one_step : (q : Meaning) (lanes : ℕ) (old new : Moment) (happens : Event) → IsAllowed q lanes old happens → new ≡ stepped q old happens → Steps q lanes old (happens ∷ []) new
one_step q lanes old new happens allowed done = (new, record { allowed = allowed; done = done }, refl)

pub IsMaking-step : (q : Meaning) (lanes : ℕ) (old middle new : Moment) (before now later : List Event) (made : ℕ) (happens : Event)
    → IsMaking q lanes old before now made middle → IsOfProcess happens → IsAllowed q lanes middle happens → new ≡ stepped q middle happens → later ≡ now ++ happens ∷ [] → IsMaking q lanes old before later (made + 1) new
IsMaking-step q lanes old middle new before now later made happens making one allowed done is = record {
  events = making.events ++ happens ∷ [];
  journal = is ∙ ap (λ j. j ++ happens ∷ []) making.journal ∙ append_assoc before making.events (happens ∷ []);
  steps = Steps-append q lanes old middle new making.events (happens ∷ []) making.steps (one_step q lanes middle new happens allowed done);
  kind = AreOfProcesses-push making.events happens making.kind one;
  count = omega (arith, length-append making.events (happens ∷ []), making.count);
}

-- the same with the load, the lanes, the moment and the journal as they are before and after a look at the next event
pub IsMaking-seen : {A : Type 0} (f : A → Meaning) (load seen looked : A) (lanes seen_lanes : ℕ) (old middle looked_middle new : Moment) (before now looked_now later : List Event) (made : ℕ) (happens : Event)
    → seen ≡ load → looked ≡ seen → seen_lanes ≡ lanes → looked_middle ≡ middle → looked_now ≡ now
    → IsMaking (f load) lanes old before now made middle → IsOfProcess happens → IsAllowed (f seen) seen_lanes middle happens → new ≡ stepped (f looked) looked_middle happens → later ≡ looked_now ++ happens ∷ []
    → IsMaking (f load) lanes old before later (made + 1) new
IsMaking-seen f load seen looked lanes seen_lanes old middle looked_middle new before now looked_now later made happens same_load same_looked same_lanes same_middle same_now making one allowed done is =
    IsMaking-step (f load) lanes old middle new before now later made happens making one
    (subst (λ l. IsAllowed (f l) lanes middle happens) same_load (subst (λ n. IsAllowed (f seen) n middle happens) same_lanes allowed))
    (done ∙ (ap (λ m. stepped (f looked) m happens) same_middle ∙ ap (λ l. stepped (f l) middle happens) (same_looked ∙ same_load)))
    (is ∙ ap (λ j. j ++ happens ∷ []) same_now)

-- all events were made
pub Continues-all : (q : Meaning) (lanes : ℕ) (old : Moment) (before now : List Event) (count made : ℕ) (new : Moment) → made ≡ count → IsMaking q lanes old before now made new → Continues q lanes old count before now new
Continues-all q lanes old before now count made new all making = (making.events, making.journal, record { steps = making.steps; kind = making.kind; used_up = inl (making.count ∙ all) })

-- no row is Ready any more
pub Continues-quiet : (q : Meaning) (lanes : ℕ) (old : Moment) (before now : List Event) (count made : ℕ) (new : Moment) → made < count → IsQuiet new → IsMaking q lanes old before now made new → Continues q lanes old count before now new
Continues-quiet q lanes old before now count made new few quiet making =
    (making.events, making.journal, record { steps = making.steps; kind = making.kind; used_up = inr (omega (arith, making.count), quiet) })

-- the lines after which one more comes
MakesLines-push : (q : Meaning) (lanes : ℕ) (old middle new : Moment) (script : List ScriptLine) (line : ScriptLine) (front events : List Event)
    → MakesLines q lanes old script front middle → MakesLine q lanes middle line events new → MakesLines q lanes old (script ++ line ∷ []) (front ++ events) new
MakesLines-push q lanes old middle new [] line front events makes here =
    (events, [], new, (ap (λ j. j ++ events) makes.0 ∙ sym (append-nil events)), subst (λ m. MakesLine q lanes m line events new) makes.1 here, (refl, refl))
MakesLines-push q lanes old middle new (line' ∷ script) line front events (start, others, next, is, first_line, more) here =
    (start, others ++ events, next, (ap (λ j. j ++ events) is ∙ append_assoc start others events), first_line, MakesLines-push q lanes next middle new script line others events more here)

pub RunsLines-start : (q : Meaning) (lanes : ℕ) (old : Moment) (before : List Event) → RunsLines q lanes old [] before before old
RunsLines-start q lanes old before = ([], sym (append-nil before), (refl, refl))

RunsLines-push : (q : Meaning) (lanes : ℕ) (old middle new : Moment) (script : List ScriptLine) (line : ScriptLine) (before now later : List Event)
    → RunsLines q lanes old script before now middle → RunsLine q lanes middle line now later new → RunsLines q lanes old (script ++ line ∷ []) before later new
RunsLines-push q lanes old middle new script line before now later (events, is, makes) (more, is_more, here) =
    (events ++ more, (is_more ∙ (ap (λ j. j ++ more) is ∙ append_assoc before events more)), MakesLines-push q lanes old middle new script line events more makes here)

-- the next line of a script, as the load and the lanes are seen then
pub RunsLines-next : {A : Type 0} (f : A → Meaning) (load seen : A) (lanes seen_lanes : ℕ) (old middle new : Moment) (lines : List ScriptLine) (number : ℕ) (default : ScriptLine) (before now later : List Event)
    → seen ≡ load → seen_lanes ≡ lanes → number < length lines
    → RunsLines (f load) lanes old (take number lines) before now middle → RunsLine (f seen) seen_lanes middle (get_or lines number default) now later new
    → RunsLines (f load) lanes old (take (number + 1) lines) before later new
RunsLines-next f load seen lanes seen_lanes old middle new lines number default before now later same_load same_lanes there runs here =
    let line = get_or lines number default in
    let more : take (number + 1) lines ≡ take number lines ++ line ∷ [] = ap (λ k. take k lines) (add-one number) ∙ take-suc lines number default there in
    subst (λ script. RunsLines (f load) lanes old script before later new) (sym more)
    (RunsLines-push (f load) lanes old middle new (take number lines) line before now later runs
    (subst (λ l. RunsLine (f l) lanes middle line now later new) same_load (subst (λ n. RunsLine (f seen) n middle line now later new) same_lanes here)))

-- what holds of no number below one, and not of it, holds of none below the next
pub below_next : (Holds : ℕ → Type 0) (n : ℕ) → ((o : ℕ) → o < n → Holds o → ⊥) → (Holds n → ⊥) → (o : ℕ) → o < n + 1 → Holds o → ⊥
below_next Holds n below here o under holds = elim (cases_eq o n) [
  | inl e ↦ here (subst Holds e holds)
  | inr other ↦ below o (omega arith) holds
]

-- no process has the name, where none of those that exist has it
pub IsUnknown-from : (tables : Tables) (name : List ℕ) (n : ℕ) → length tables.processes ≤ n → ((o : ℕ) → o < n → slice_get tables.processes o ≡ Some name → ⊥) → IsUnknown tables name
IsUnknown-from tables name n all below o found = below o (omega (arith, slice_get_within tables.processes o name found)) found

-- where no process has the name, nothing is done
pub RunsLine-unknown : (q : Meaning) (lanes : ℕ) (old : Moment) (name : List ℕ) (before : List Event) → IsUnknown q.tables name → RunsLine q lanes old (asks.Preempt name) before before old
RunsLine-unknown q lanes old name before unknown = ([], sym (append-nil before), inr (unknown, refl, refl))

-- an event may come after a look at the next event as it may before
pub IsAllowed-seen : {A : Type 0} (f : A → Meaning) (seen looked : A) (lanes looked_lanes : ℕ) (m looked_m : Moment) (happens : Event)
    → looked ≡ seen → looked_lanes ≡ lanes → looked_m ≡ m → IsAllowed (f seen) lanes m happens → IsAllowed (f looked) looked_lanes looked_m happens
IsAllowed-seen f seen looked lanes looked_lanes m looked_m happens same_load same_lanes same_moment allowed =
    subst (λ l. IsAllowed (f l) looked_lanes looked_m happens) (sym same_load)
    (subst (λ n. IsAllowed (f seen) n looked_m happens) (sym same_lanes) (subst (λ k. IsAllowed (f seen) lanes k happens) (sym same_moment) allowed))

-- the clock goes on
pub RunsLine-tick : (q : Meaning) (lanes : ℕ) (old new : Moment) (time : ℕ) (before now : List Event) → new ≡ stepped q old (event.Tick time) → now ≡ before ++ event.Tick time ∷ []
    → RunsLine q lanes old (asks.Tick time) before now new
RunsLine-tick q lanes old new time before now done is = (event.Tick time ∷ [], is, (refl, one_step q lanes old new (event.Tick time) tt done))

-- a process of a name exists
pub IsLowestNamed-exists : (tables : Tables) (name : List ℕ) (p : ℕ) → IsLowestNamed tables name p → HasProcess tables p
IsLowestNamed-exists tables name p is = slice_get_within tables.processes p name is.named

-- the process of the name gives way
pub RunsLine-preempt : (q : Meaning) (lanes : ℕ) (old new : Moment) (name : List ℕ) (p : ℕ) (before now : List Event) → IsLowestNamed q.tables name p → new ≡ stepped q old (event.Preempt p)
    → now ≡ before ++ event.Preempt p ∷ [] → RunsLine q lanes old (asks.Preempt name) before now new
RunsLine-preempt q lanes old new name p before now is done written =
    (event.Preempt p ∷ [], written, inl (p, is, refl, one_step q lanes old new (event.Preempt p) (IsLowestNamed-exists q.tables name p is) done))

-- steps move the clock as far as their events do
Steps-clock : (q : Meaning) (lanes : ℕ) (old new : Moment) (events : List Event) → Steps q lanes old events new → new.clock ≡ old.clock + sum_by event_time events
Steps-clock q lanes old new [] steps = ap (λ (m : Moment). m.clock) steps ∙ omega arith
Steps-clock q lanes old new (happens ∷ events) (middle, step, later) =
    let split : sum_by event_time (happens ∷ events) ≡ event_time happens + sum_by event_time events = sum_by-cons event_time happens events in
    let here : middle.clock ≡ old.clock + event_time happens = ap (λ (m : Moment). m.clock) step.done ∙ stepped-clock q old happens in
    let rest : new.clock ≡ middle.clock + sum_by event_time events = Steps-clock q lanes middle new events later in
    omega arith

-- the clock after the first lines, where they move it as far as they say
RunsLines-clock : (q : Meaning) (lanes : ℕ) (old new : Moment) (lines : List ScriptLine) (before now : List Event) → RunsLines q lanes old lines before now new → new.clock ≡ old.clock + sum_by asked_time lines
RunsLines-clock q lanes old new lines before now (events, is, makes) =
    Steps-clock q lanes old new events (MakesLines-steps q lanes old new lines events makes) ∙ ap (λ n. old.clock + n) (MakesLines-time q lanes old new lines events makes)

-- the next line keeps the clock within the sum that scripts may have
pub line_fits : (q : Meaning) (lanes : ℕ) (old middle : Moment) (lines : List ScriptLine) (number : ℕ) (default : ScriptLine) (before now : List Event) → number < length lines
    → old.clock + sum_by asked_time lines ≤ TICK_SUM_LIMIT → RunsLines q lanes old (take number lines) before now middle → middle.clock + asked_time (get_or lines number default) ≤ TICK_SUM_LIMIT
line_fits q lanes old middle lines number default before now there low runs =
    let clock : middle.clock ≡ old.clock + sum_by asked_time (take number lines) = RunsLines-clock q lanes old middle (take number lines) before now runs in
    let more : sum_by asked_time (take number lines) + asked_time (get_or lines number default) ≤ sum_by asked_time lines = sum_by_more_le asked_time lines number default there in
    omega arith

-- at the opening the clock is 0, so the lines of a script keep it within the sum
pub script_fits : (tables : Tables) (script lines : List ScriptLine) (m : Moment) → m ≡ opening tables script → IsScript script → lines ≡ script → m.clock + sum_by asked_time lines ≤ TICK_SUM_LIMIT
script_fits tables script lines m begins right same =
    let clock : m.clock ≡ 0 = ap (λ (m : Moment). m.clock) begins ∙ opening-clock tables script in
    let whole : sum_by asked_time script ≤ TICK_SUM_LIMIT = subst (λ n. n ≤ TICK_SUM_LIMIT) (sum-map asked_time script) right.time in
    let lines_same : sum_by asked_time lines ≡ sum_by asked_time script = ap (sum_by asked_time) same in
    omega arith

-- the moment after the lines of a script is sound
pub lines-sound : (q : Meaning) (lanes : ℕ) (script lines : List ScriptLine) (start middle : Moment) (before now : List Event) → IsLoad q → IsScript script → start ≡ opening q.tables script → lines ≡ script
    → RunsLines q lanes start lines before now middle → IsSound q middle
lines-sound q lanes script lines start middle before now load right begins same (events, is, makes) =
    let sound : IsSound q start = subst (IsSound q) (sym begins) (opening-sound q script load) in
    let fits : start.clock + sum_by asked_time lines ≤ TICK_SUM_LIMIT = script_fits q.tables script lines start begins right same in
    let time : sum_by event_time events ≡ sum_by asked_time lines = MakesLines-time q lanes start middle lines events makes in
    (Steps-sound q lanes start middle events load sound (omega arith) (MakesLines-steps q lanes start middle lines events makes)).0

-- a run: the lines of the script, and then the open blocks
pub IsRunTo-completed : (q : Meaning) (script lines : List ScriptLine) (start middle end_ : Moment) (before now journal : List Event)
    → before ≡ [] → start ≡ opening q.tables script → lines ≡ script → RunsLines q 1 start lines before now middle → RunsBlocks q middle now journal end_ → IsRunTo q script 1 journal end_
IsRunTo-completed q script lines start middle end_ before now journal fresh begins same (events, is, makes) (rest, more, completes) = record {
  front = events;
  rest = rest;
  middle = middle;
  whole = more ∙ ap (λ j. j ++ rest) (is ∙ ap (λ b. b ++ events) fresh);
  lines = subst (λ s. MakesLines q 1 (opening q.tables script) s events middle) same (subst (λ m. MakesLines q 1 m lines events middle) begins makes);
  blocks = completes;
}
