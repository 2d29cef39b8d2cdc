-- Every moment of a run is sound.
use Rattle.std.specs.Prelude.{◌≡◌, ℕ, ◌+◌, ◌≤◌, ◌==◌, List, [], ◌∷◌, ◌++◌, map, replicate, take, sum_by, All}
use Rattle.std.proofs.Common.{sym, subst, refl, ap, ap₂, ◌∙◌, inl, inr, arith}
use Rattle.std.proofs.lemmas.Bool.{cond_both}
use Rattle.std.proofs.lemmas.List.{length-map, length-replicate, get_or-replicate}
use Rattle.std.proofs.lemmas.List.Elements.{All-head, All-tail}
use Rattle.std.proofs.lemmas.List.FromFn.{length-map-range_with_len, get_or-map-range_with_len}
use Rattle.std.proofs.lemmas.List.Sums.{sum-map, sum_by-cons, sum_by-append, sum_by-take-le}
use Rattle.hal_base.specs.declared.limits.TheConstants.{TICK_SUM_LIMIT}
use Rattle.hal_values.specs.declared.tables.Cell.{Cell}
use Rattle.hal_values.specs.declared.tables.Tables.{Tables}
use Rattle.hal_values.specs.Loads.{Meaning, IsLoad}
use Rattle.hal_values.specs.Requests.{HasProcess}
use Rattle.hal_values.specs.Tables.{process_count, IsCell, IsSnapshot}
use Rattle.exec_model.specs.declared.event.Event.{Event}
use Rattle.exec_model.specs.declared.event.Event.TheVariants as event
use Rattle.exec_model.specs.declared.script.ScriptLine.{ScriptLine}
use Rattle.exec_model.specs.declared.script.ScriptLine.TheVariants as line
use Rattle.exec_model.specs.declared.status.Status.TheVariants as status
use Rattle.exec_model.specs.Moments.{Moment, answers_of, answers_in}
use Rattle.exec_model.specs.Opening.{usual_priority, opening_row, opening_rows, event_start, unsettled, opening}
use Rattle.exec_model.specs.Rows.{row_in, idle_row}
use Rattle.exec_model.specs.Runs.{IsOfProcess, AreOfProcesses, MakesLine, MakesLines, Reaches, Completes, open_blocks, IsRunTo}
use Rattle.exec_model.specs.Scripts.{asked_time, IsScript}
use Rattle.exec_model.specs.Sound.{IsSound}
use Rattle.exec_model.specs.Steps.{Steps}
use Rattle.exec_model.proofs.SoundEvents.{stepped-sound, stepped-clock, event_time, KeepsClock-from}
use Rattle.exec_model.proofs.SoundSettling.{settle-sound, settle-clock}
use Rattle.exec_model.proofs.Soundness.{IsRowSound, IsSound-from_rows, IsRowSound-begins}

-- the initial values are of their cells' kinds
initial-snapshot : (cells : List Cell) → All IsCell cells → IsSnapshot cells (map (λ (cell : Cell). cell.initial) cells)
initial-snapshot [] right = tt
initial-snapshot (cell ∷ cells) right = ((All-head IsCell cell cells right).1, initial-snapshot cells (All-tail IsCell cell cells right))

-- a row with which a run begins is sound
opening_row-sound : (q : Meaning) (p : ℕ) → IsLoad q → HasProcess q.tables p → IsRowSound q p (opening_row q.tables.first p) []
opening_row-sound q p load exists = cond_both (p == q.tables.first) (record idle_row { status = status.Start 0; priority = usual_priority }) idle_row (λ row. IsRowSound q p row [])
    (λ first. IsRowSound-begins q p _ [] tt refl refl (load.begins p exists))
    (λ other. IsRowSound-begins q p idle_row [] tt refl refl (load.begins p exists))

-- a run begins soundly, before the first row settles
unsettled-sound : (q : Meaning) (script : List ScriptLine) → IsLoad q → IsSound q (unsettled q.tables script)
unsettled-sound q script load = IsSound-from_rows q (unsettled q.tables script)
    (length-map-range_with_len (opening_row q.tables.first) 0 (process_count q.tables))
    (length-replicate (process_count q.tables) [])
    (length-map q.tables.events event_start)
    (initial-snapshot q.tables.cells load.right.cells)
    (omega arith)
    (λ p exists.
    let row : row_in (opening_rows q.tables) p ≡ opening_row q.tables.first p = get_or-map-range_with_len (opening_row q.tables.first) 0 (process_count q.tables) p p idle_row exists (omega arith) in
    let told : answers_in (replicate (process_count q.tables) []) p ≡ [] = get_or-replicate (process_count q.tables) p [] [] exists in
    subst (λ r. IsRowSound q p r (answers_of (unsettled q.tables script) p)) (sym row) (subst (λ a. IsRowSound q p (opening_row q.tables.first p) a) (sym told) (opening_row-sound q p load exists)))

-- a run begins soundly
pub opening-sound : (q : Meaning) (script : List ScriptLine) → IsLoad q → IsSound q (opening q.tables script)
opening-sound q script load = settle-sound q (unsettled q.tables script) (unsettled-sound q script load)

-- a run begins at time 0
pub opening-clock : (tables : Tables) (script : List ScriptLine) → (opening tables script).clock ≡ 0
opening-clock tables script = settle-clock tables (unsettled tables script)

-- steps after steps are steps
pub Steps-append : (q : Meaning) (lanes : ℕ) (old middle new : Moment) (front others : List Event) → Steps q lanes old front middle → Steps q lanes middle others new → Steps q lanes old (front ++ others) new
Steps-append q lanes old middle new [] others first then_ = subst (λ m. Steps q lanes m others new) first then_
Steps-append q lanes old middle new (happens ∷ front) others first then_ = (first.0, first.1, Steps-append q lanes first.0 middle new front others first.2 then_)

-- events of processes move no clock
AreOfProcesses-time : (events : List Event) → AreOfProcesses events → sum_by event_time events ≡ 0
AreOfProcesses-time [] kind = refl
AreOfProcesses-time (happens ∷ events) kind =
    let here : event_time happens ≡ 0 = IsOfProcess-time happens kind.0 in
    let later : sum_by event_time events ≡ 0 = AreOfProcesses-time events kind.1 in
    omega (arith, sum_by-cons event_time happens events) where
      IsOfProcess-time : (happens : Event) → IsOfProcess happens → event_time happens ≡ 0
      IsOfProcess-time (event.Act p) is_one = refl
      IsOfProcess-time (event.Open p) is_one = refl
      IsOfProcess-time (event.Block p turns) is_one = refl
      IsOfProcess-time (event.Tick time) is_one = absurd is_one
      IsOfProcess-time (event.Preempt p) is_one = absurd is_one

-- the events of a script line are steps
pub MakesLine-steps : (q : Meaning) (lanes : ℕ) (old new : Moment) (asks : ScriptLine) (events : List Event) → MakesLine q lanes old asks events new → Steps q lanes old events new
MakesLine-steps q lanes old new (line.Run count) events makes = makes.steps
MakesLine-steps q lanes old new (line.Tick time) events makes = makes.1
MakesLine-steps q lanes old new (line.Preempt name) events (inl makes) = makes.3
MakesLine-steps q lanes old new (line.Preempt name) events (inr makes) = subst (λ es. Steps q lanes old es new) (sym makes.1) makes.2
MakesLine-steps q lanes old new (line.Input channel given) events makes = subst (λ es. Steps q lanes old es new) (sym makes.0) makes.1

-- they move the clock as far as the line says
pub MakesLine-time : (q : Meaning) (lanes : ℕ) (old new : Moment) (asks : ScriptLine) (events : List Event) → MakesLine q lanes old asks events new → sum_by event_time events ≡ asked_time asks
MakesLine-time q lanes old new (line.Run count) events makes = AreOfProcesses-time events makes.kind
MakesLine-time q lanes old new (line.Tick time) events makes = ap (sum_by event_time) makes.0 ∙ omega arith
MakesLine-time q lanes old new (line.Preempt name) events (inl makes) = ap (sum_by event_time) makes.2
MakesLine-time q lanes old new (line.Preempt name) events (inr makes) = ap (sum_by event_time) makes.1
MakesLine-time q lanes old new (line.Input channel given) events makes = ap (sum_by event_time) makes.0

-- the events of script lines are steps
pub MakesLines-steps : (q : Meaning) (lanes : ℕ) (old new : Moment) (lines : List ScriptLine) (events : List Event) → MakesLines q lanes old lines events new → Steps q lanes old events new
MakesLines-steps q lanes old new [] events makes = subst (λ es. Steps q lanes old es new) (sym makes.0) makes.1
MakesLines-steps q lanes old new (first ∷ lines) events (front, others, middle, whole, here, later) =
    subst (λ es. Steps q lanes old es new) (sym whole)
    (Steps-append q lanes old middle new front others (MakesLine-steps q lanes old middle first front here) (MakesLines-steps q lanes middle new lines others later))

-- they move the clock as far as the lines say
pub MakesLines-time : (q : Meaning) (lanes : ℕ) (old new : Moment) (lines : List ScriptLine) (events : List Event) → MakesLines q lanes old lines events new → sum_by event_time events ≡ sum_by asked_time lines
MakesLines-time q lanes old new [] events makes = ap (sum_by event_time) makes.0
MakesLines-time q lanes old new (first ∷ lines) events (front, others, middle, whole, here, later) =
    let now : sum_by event_time front ≡ asked_time first = MakesLine-time q lanes old middle first front here in
    let then_ : sum_by event_time others ≡ sum_by asked_time lines = MakesLines-time q lanes middle new lines others later in
    ap (sum_by event_time) whole ∙ (sum_by-append event_time front others ∙ (ap₂ (λ a b. a + b) now then_ ∙ sym (sum_by-cons asked_time first lines)))

-- blocks that are completed are steps
pub Completes-steps : (q : Meaning) (lanes : ℕ) (old new : Moment) (processes : List ℕ) (events : List Event) → Completes q lanes old processes events new → Steps q lanes old events new
Completes-steps q lanes old new [] events makes = subst (λ es. Steps q lanes old es new) (sym makes.0) makes.1
Completes-steps q lanes old new (p ∷ processes) events (turns, others, middle, whole, step, later) =
    subst (λ es. Steps q lanes old es new) (sym whole) (middle, step, Completes-steps q lanes middle new processes others later)

-- they move no clock
pub Completes-time : (q : Meaning) (lanes : ℕ) (old new : Moment) (processes : List ℕ) (events : List Event) → Completes q lanes old processes events new → sum_by event_time events ≡ 0
Completes-time q lanes old new [] events makes = ap (sum_by event_time) makes.0
Completes-time q lanes old new (p ∷ processes) events (turns, others, middle, whole, step, later) =
    ap (sum_by event_time) whole ∙ (sum_by-cons event_time (event.Block p turns) others ∙ (ap (λ n. 0 + n) (Completes-time q lanes middle new processes others later)))

-- steps within the limit of the clock keep a moment sound, and the clock goes on with them
pub Steps-sound : (q : Meaning) (lanes : ℕ) (old new : Moment) (events : List Event) → IsLoad q → IsSound q old → old.clock + sum_by event_time events ≤ TICK_SUM_LIMIT → Steps q lanes old events new
    → IsSound q new × (new.clock ≡ old.clock + sum_by event_time events)
Steps-sound q lanes old new [] load sound low steps = (subst (IsSound q) (sym steps) sound, ap (λ (m : Moment). m.clock) steps ∙ omega arith)
Steps-sound q lanes old new (happens ∷ events) load sound low (middle, step, later) =
    let split : sum_by event_time (happens ∷ events) ≡ event_time happens + sum_by event_time events = sum_by-cons event_time happens events in
    let here : middle.clock ≡ old.clock + event_time happens = ap (λ (m : Moment). m.clock) step.done ∙ stepped-clock q old happens in
    let next : IsSound q middle = subst (IsSound q) (sym step.done) (stepped-sound q lanes old happens load sound step.allowed (KeepsClock-from old happens (omega arith))) in
    let rest = Steps-sound q lanes middle new events load next (omega arith) later in
    let end_ : new.clock ≡ middle.clock + sum_by event_time events = rest.1 in
    (rest.0, omega arith)

-- the first so many lines of a script move the clock within its limit
pub script-time : (script : List ScriptLine) (lines : ℕ) → IsScript script → sum_by asked_time (take lines script) ≤ TICK_SUM_LIMIT
script-time script lines right =
    let part = sum_by-take-le asked_time script lines in
    let whole : sum_by asked_time script ≤ TICK_SUM_LIMIT = subst (λ n. n ≤ TICK_SUM_LIMIT) (sum-map asked_time script) right.time in
    omega arith

-- a moment to which the first lines of a script lead is sound
pub after_reaches-sound : (q : Meaning) (script : List ScriptLine) (lanes lines : ℕ) (journal : List Event) (m : Moment) → IsLoad q → IsScript script → Reaches q script lanes lines journal m → IsSound q m
after_reaches-sound q script lanes lines journal m load right reaches =
    let low : sum_by asked_time (take lines script) ≤ TICK_SUM_LIMIT = script-time script lines right in
    let time : sum_by event_time journal ≡ sum_by asked_time (take lines script) = MakesLines-time q lanes (opening q.tables script) m (take lines script) journal reaches in
    let start : (opening q.tables script).clock ≡ 0 = opening-clock q.tables script in
    (Steps-sound q lanes (opening q.tables script) m journal load (opening-sound q script load) (omega arith) (MakesLines-steps q lanes (opening q.tables script) m (take lines script) journal reaches)).0

-- the journal of a run is steps from its opening to its end
pub IsRunTo-steps : (q : Meaning) (script : List ScriptLine) (lanes : ℕ) (journal : List Event) (end_ : Moment) → IsRunTo q script lanes journal end_ → Steps q lanes (opening q.tables script) journal end_
IsRunTo-steps q script lanes journal end_ run =
    subst (λ es. Steps q lanes (opening q.tables script) es end_) (sym run.whole)
    (Steps-append q lanes (opening q.tables script) run.middle end_ run.front run.rest
    (MakesLines-steps q lanes (opening q.tables script) run.middle script run.front run.lines) (Completes-steps q lanes run.middle end_ (open_blocks run.middle.rows) run.rest run.blocks))

-- they move the clock as far as the script says
pub IsRunTo-time : (q : Meaning) (script : List ScriptLine) (lanes : ℕ) (journal : List Event) (end_ : Moment) → IsRunTo q script lanes journal end_ → sum_by event_time journal ≡ sum_by asked_time script
IsRunTo-time q script lanes journal end_ run =
    let front : sum_by event_time run.front ≡ sum_by asked_time script = MakesLines-time q lanes (opening q.tables script) run.middle script run.front run.lines in
    let rest : sum_by event_time run.rest ≡ 0 = Completes-time q lanes run.middle end_ (open_blocks run.middle.rows) run.rest run.blocks in
    ap (sum_by event_time) run.whole ∙ (sum_by-append event_time run.front run.rest ∙ omega arith)

-- the end of a run is sound
pub IsRunTo-sound : (q : Meaning) (script : List ScriptLine) (lanes : ℕ) (journal : List Event) (end_ : Moment) → IsLoad q → IsScript script → IsRunTo q script lanes journal end_ → IsSound q end_
IsRunTo-sound q script lanes journal end_ load right run =
    let whole : sum_by asked_time script ≤ TICK_SUM_LIMIT = subst (λ n. n ≤ TICK_SUM_LIMIT) (sum-map asked_time script) right.time in
    let time : sum_by event_time journal ≡ sum_by asked_time script = IsRunTo-time q script lanes journal end_ run in
    let start : (opening q.tables script).clock ≡ 0 = opening-clock q.tables script in
    (Steps-sound q lanes (opening q.tables script) end_ journal load (opening-sound q script load) (omega arith) (IsRunTo-steps q script lanes journal end_ run)).0
