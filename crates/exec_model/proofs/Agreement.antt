-- Loads that agree: what is sound, what may come, what it does and what is reported is the same for both, and so are their runs.
use Rattle.std.proofs.Common.{◌≡◌, ℕ, zero, suc, ◌+◌, ◌<◌, inl, inr, ◌↔◌, List, [], ◌∷◌, ◌++◌, length, map, take, flat_map, IsSome, bit_and, refl, sym, ◌∙◌, ap, ap₂, subst, arith}
use Rattle.std.specs.List.{range_with_len}
use Rattle.std.proofs.lemmas.Bool.{cases_lt}
use Rattle.std.proofs.lemmas.List.{length-take, take_all, take-take}
use Rattle.hal_values.specs.declared.request.Request.{Request}
use Rattle.hal_values.specs.declared.request.Request.TheVariants as request
use Rattle.hal_values.specs.declared.tables.Tables.{Tables}
use Rattle.hal_values.specs.declared.value.Value.{Value}
use Rattle.hal_values.specs.Answers.{Answered, Ends, Fits, FitsAlive}
use Rattle.hal_values.specs.Fitting.{FitAll-agree, FitAll-push}
use Rattle.hal_values.specs.Loads.{Meaning, FitsNext, FitAfter, FitAll, IsUpdate, IsLoad, Agree}
use Rattle.hal_values.specs.Requests.{HasProcess}
use Rattle.hal_values.specs.Tables.{process_count, IsSnapshot}
use Rattle.exec_model.specs.declared.event.Event.{Event}
use Rattle.exec_model.specs.declared.event.Event.TheVariants as event
use Rattle.exec_model.specs.declared.script.ScriptLine.{ScriptLine}
use Rattle.exec_model.specs.declared.script.ScriptLine.TheVariants as line
use Rattle.exec_model.specs.Effects.{effect}
use Rattle.exec_model.specs.Moments.{Moment, row_of, answers_of}
use Rattle.exec_model.specs.Opening.{opening}
use Rattle.hal_values.specs.ReportElements.{elements}
use Rattle.exec_model.specs.Report.{end_line, live_line, value_lines, own_values, report}
use Rattle.exec_model.specs.Runs.{IsOfProcess, AreOfProcesses, IsLowestNamed, IsUnknown, MakesLine, MakesLines, Reaches, Completes, open_blocks, IsRunTo, IsRun}
use Rattle.exec_model.specs.Scripts.{IsScript}
use Rattle.exec_model.specs.Settling.{settle}
use Rattle.exec_model.specs.Sound.{IsSound, IsWait, KeepsClock}
use Rattle.exec_model.specs.Steps.{request_of, block_of, block_done, touched_groups, block_groups, IsFree, IsActed, IsAllowed, event_done, stepped, IsStep, Steps}
use Rattle.exec_model.proofs.OneLane.{ready-has_process, inside-exists}
use Rattle.exec_model.proofs.SoundEvents.{stepped-sound}
use Rattle.exec_model.proofs.SoundRuns.{after_reaches-sound, IsRunTo-sound}

-- an answer that fits also fits where UPDATE blocks end in the same way
FitsAlive-same : (tables : Tables) (ends other : Ends) (asked : Request) (given : Answered) → ((snapshot : List Value) (turns : ℕ) → IsSnapshot tables.cells snapshot → ends snapshot turns ≡ other snapshot turns)
    → FitsAlive tables ends asked given → FitsAlive tables other asked given
FitsAlive-same tables ends other (request.Update groups) given same fit = (fit.0, fit.1, fit.2, fit.3, subst IsSome (same fit.0 fit.1 fit.3) fit.4)
FitsAlive-same tables ends other asked given same fit = fit

-- the same of all answers
Fits-same : (tables : Tables) (ends other : Ends) (asked : Request) (given : Answered) → ((snapshot : List Value) (turns : ℕ) → IsSnapshot tables.cells snapshot → ends snapshot turns ≡ other snapshot turns)
    → Fits tables ends asked given → Fits tables other asked given
Fits-same tables ends other asked given same (inl killed) = inl killed
Fits-same tables ends other asked given same (inr fit) = inr (FitsAlive-same tables ends other asked given same fit)

-- an answer that fits the second load fits the first, after answers that fit the first
FitsNext-back : (a b : Meaning) (p : ℕ) (before : List Answered) (given : Answered) → Agree a b → HasProcess a.tables p → FitAll a p before → FitsNext b p before given → FitsNext a p before given
FitsNext-back a b p before given agree exists done fit =
    Fits-same a.tables (b.block p before) (a.block p before) (a.next p before) given (λ snapshot turns full. sym (agree.block p before snapshot turns exists done full))
    (subst (λ asked. Fits a.tables (b.block p before) asked given) (sym (agree.next p before exists done))
    (subst (λ tables. Fits tables (b.block p before) (b.next p before) given) (sym agree.tables) fit))

-- later answers that fit the second load fit the first
FitAfter-back : (a b : Meaning) (p : ℕ) (before later : List Answered) → Agree a b → HasProcess a.tables p → FitAll a p before → FitAfter b p before later → FitAfter a p before later
FitAfter-back a b p before [] agree exists done fit = tt
FitAfter-back a b p before (given ∷ later) agree exists done fit = let next = FitsNext-back a b p before given agree exists done fit.0 in
    (next, FitAfter-back a b p (before ++ given ∷ []) later agree exists (FitAll-push a p before given done next) fit.1)

-- loads agree either way
pub Agree-sym : (a b : Meaning) → Agree a b → Agree b a
Agree-sym a b agree = record {
  tables = sym agree.tables;
  next = λ p answers exists fit. sym (agree.next p answers (there p exists) (back p answers exists fit));
  block = λ p answers snapshot turns exists fit full. sym (agree.block p answers snapshot turns (there p exists) (back p answers exists fit) (subst (λ (t : Tables). IsSnapshot t.cells snapshot) (sym agree.tables) full));
  own = λ p answers exists fit. sym (agree.own p answers (there p exists) (back p answers exists fit));
}
  where
    there : (p : ℕ) → HasProcess b.tables p → HasProcess a.tables p
    there p exists = subst (λ t. HasProcess t p) (sym agree.tables) exists

    back : (p : ℕ) (answers : List Answered) → HasProcess b.tables p → FitAll b p answers → FitAll a p answers
    back p answers exists fit = FitAfter-back a b p [] answers agree (there p exists) tt fit

-- a process asks the same
request_of-agree : (a b : Meaning) (m : Moment) (p : ℕ) → Agree a b → IsSound a m → HasProcess a.tables p → request_of a m p ≡ request_of b m p
request_of-agree a b m p agree sound exists = agree.next p (answers_of m p) exists (sound.fit p exists)

-- an UPDATE block does the same
block_of-agree : (a b : Meaning) (m : Moment) (p turns : ℕ) → Agree a b → IsSound a m → HasProcess a.tables p → block_of a m p turns ≡ block_of b m p turns
block_of-agree a b m p turns agree sound exists = agree.block p (answers_of m p) m.store turns exists (sound.fit p exists) sound.store

-- a moment that is sound for a load is sound for each load that agrees with it
pub IsSound-agree : (a b : Meaning) (m : Moment) → Agree a b → IsSound a m → IsSound b m
IsSound-agree a b m agree sound = record {
  rows = sound.rows ∙ ap process_count agree.tables;
  answers = sound.answers ∙ ap process_count agree.tables;
  events = sound.events ∙ ap (λ (t : Tables). length t.events) agree.tables;
  store = subst (λ (t : Tables). IsSnapshot t.cells m.store) agree.tables sound.store;
  clock = sound.clock;
  fit = λ p exists. FitAll-agree a b p (answers_of m p) agree (there p exists) (sound.fit p (there p exists));
  waits = λ p exists waiting. subst IsWait (request_of-agree a b m p agree sound (there p exists)) (sound.waits p (there p exists) waiting);
  blocks = λ p exists inside. let both = sound.blocks p (there p exists) inside in (both.0, subst IsUpdate (request_of-agree a b m p agree sound (there p exists)) both.1);
  begins = λ p exists fresh. sym (request_of-agree a b m p agree sound (there p exists)) ∙ sound.begins p (there p exists) fresh;
  between = λ p exists over. sym (request_of-agree a b m p agree sound (there p exists)) ∙ sound.between p (there p exists) over;
}
  where
    there : (p : ℕ) → HasProcess b.tables p → HasProcess a.tables p
    there p exists = subst (λ t. HasProcess t p) (sym agree.tables) exists

-- what touches no held lock group of the one touches none of the other
IsFree-agree : (a b : Meaning) (m : Moment) (p : ℕ) → Agree a b → IsSound a m → HasProcess a.tables p → IsFree a m p → IsFree b m p
IsFree-agree a b m p agree sound exists free o holder = free o (record {
  other = holder.other;
  inside = holder.inside;
  shares = λ none. holder.shares (sym same ∙ none);
})
  where
    there : HasProcess a.tables o
    there = omega (arith, inside-exists m.rows o holder.inside, sound.rows)

    same : bit_and (block_groups (request_of a m o)) (touched_groups a.tables (request_of a m p)) ≡ bit_and (block_groups (request_of b m o)) (touched_groups b.tables (request_of b m p))
    same = ap₂ (λ x y. bit_and (block_groups x) y) (request_of-agree a b m o agree sound there) (ap₂ touched_groups agree.tables (request_of-agree a b m p agree sound exists))

-- an event that may come with the one load may come with the other
pub IsAllowed-agree : (a b : Meaning) (lanes : ℕ) (m : Moment) (e : Event) → Agree a b → IsSound a m → IsAllowed a lanes m e → IsAllowed b lanes m e
IsAllowed-agree a b lanes m (event.Act p) agree sound can = let exists = ready-has_process a m p sound can.early.ready in record {
  early = can.early;
  outside = can.outside;
  asks = subst IsActed (request_of-agree a b m p agree sound exists) can.asks;
  free = IsFree-agree a b m p agree sound exists can.free;
}
IsAllowed-agree a b lanes m (event.Open p) agree sound can = let exists = ready-has_process a m p sound can.early.ready in record {
  early = can.early;
  outside = can.outside;
  asks = subst IsUpdate (request_of-agree a b m p agree sound exists) can.asks;
  free = IsFree-agree a b m p agree sound exists can.free;
}
IsAllowed-agree a b lanes m (event.Block p turns) agree sound can = record {
  early = can.early;
  inside = can.inside;
  ends = subst IsSome (block_of-agree a b m p turns agree sound (ready-has_process a m p sound can.early.ready)) can.ends;
}
IsAllowed-agree a b lanes m (event.Tick time) agree sound can = tt
IsAllowed-agree a b lanes m (event.Preempt p) agree sound can = subst (λ t. HasProcess t p) agree.tables can

-- an event does the same before the rows settle
event_done-agree : (a b : Meaning) (lanes : ℕ) (m : Moment) (e : Event) → Agree a b → IsSound a m → IsAllowed a lanes m e → event_done a m e ≡ event_done b m e
event_done-agree a b lanes m (event.Act p) agree sound can =
    ap₂ (λ t asked. effect t p (row_of m p) asked m) agree.tables (request_of-agree a b m p agree sound (ready-has_process a m p sound can.early.ready))
event_done-agree a b lanes m (event.Open p) agree sound can = refl
event_done-agree a b lanes m (event.Block p turns) agree sound can = ap (λ writes. block_done p turns writes m) (block_of-agree a b m p turns agree sound (ready-has_process a m p sound can.early.ready))
event_done-agree a b lanes m (event.Tick time) agree sound can = refl
event_done-agree a b lanes m (event.Preempt p) agree sound can = refl

-- an event that may come leads to the same moment
pub stepped-agree : (a b : Meaning) (lanes : ℕ) (m : Moment) (e : Event) → Agree a b → IsSound a m → IsAllowed a lanes m e → stepped a m e ≡ stepped b m e
stepped-agree a b lanes m e agree sound can = ap₂ settle agree.tables (event_done-agree a b lanes m e agree sound can)

-- a step with the one load is a step with the other
IsStep-agree : (a b : Meaning) (lanes : ℕ) (old new : Moment) (e : Event) → Agree a b → IsSound a old → IsStep a lanes old e new → IsStep b lanes old e new
IsStep-agree a b lanes old new e agree sound step = record {
  allowed = IsAllowed-agree a b lanes old e agree sound step.allowed;
  done = step.done ∙ stepped-agree a b lanes old e agree sound step.allowed;
}

-- functions that agree below an end give equal lists of the numbers up to there
map-range : (f g : ℕ → List Value) (first n : ℕ) → ((x : ℕ) → x < first + n → f x ≡ g x) → map f (range_with_len first n) ≡ map g (range_with_len first n)
map-range f g first zero same = refl
map-range f g first (suc n) same = ap₂ (λ x xs. x ∷ xs) (same first (omega arith)) (map-range f g (first + 1) n (λ x below. same x (omega arith)))

-- the own values are the same
own_values-agree : (a b : Meaning) (m : Moment) → Agree a b → IsSound a m → own_values a m ≡ own_values b m
own_values-agree a b m agree sound =
    map-range (λ p. a.own p (answers_of m p)) (λ p. b.own p (answers_of m p)) 0 (process_count a.tables) (λ p below. let exists : HasProcess a.tables p = omega arith in agree.own p (answers_of m p) exists (sound.fit p exists))
    ∙ ap (λ t. map (λ p. b.own p (answers_of m p)) (range_with_len 0 (process_count t))) agree.tables

-- the report is the same
pub report-agree : (a b : Meaning) (m : Moment) → Agree a b → IsSound a m → report a m ≡ report b m
report-agree a b m agree sound =
    ap₂ (λ t owns. m.output ++ (flat_map (end_line t) m.ends ++ (flat_map (live_line t m) (range_with_len 0 (process_count t)) ++ value_lines t m owns (elements t)))) agree.tables (own_values-agree a b m agree sound)

-- an event of a process keeps the clock
KeepsClock-of_process : (m : Moment) (e : Event) → IsOfProcess e → KeepsClock m e
KeepsClock-of_process m (event.Act p) kind = tt
KeepsClock-of_process m (event.Open p) kind = tt
KeepsClock-of_process m (event.Block p turns) kind = tt
KeepsClock-of_process m (event.Tick time) kind = absurd kind
KeepsClock-of_process m (event.Preempt p) kind = tt

-- a step by an event of a process keeps a moment sound
pub IsStep-sound : (q : Meaning) (lanes : ℕ) (old new : Moment) (e : Event) → IsLoad q → IsSound q old → IsOfProcess e → IsStep q lanes old e new → IsSound q new
IsStep-sound q lanes old new e load sound kind step = subst (IsSound q) (sym step.done) (stepped-sound q lanes old e load sound step.allowed (KeepsClock-of_process old e kind))

-- steps by events of processes are the same
Steps-agree : (a b : Meaning) (lanes : ℕ) (old : Moment) (events : List Event) (new : Moment) → Agree a b → IsLoad a → IsSound a old → AreOfProcesses events → Steps a lanes old events new → Steps b lanes old events new
Steps-agree a b lanes old [] new agree load sound kind steps = steps
Steps-agree a b lanes old (e ∷ events) new agree load sound kind steps = (
  steps.0,
  IsStep-agree a b lanes old steps.0 e agree sound steps.1,
  Steps-agree a b lanes steps.0 events new agree load (IsStep-sound a lanes old steps.0 e load sound kind.0 steps.1) kind.1 steps.2,
)

-- one step by any event is the same
one_step-agree : (a b : Meaning) (lanes : ℕ) (old : Moment) (events : List Event) (e : Event) (new : Moment) → Agree a b → IsSound a old → events ≡ e ∷ [] → Steps a lanes old events new → Steps b lanes old events new
one_step-agree a b lanes old events e new agree sound one steps = subst (λ es. Steps b lanes old es new) (sym one) (go (subst (λ es. Steps a lanes old es new) one steps))
  where
    go : Steps a lanes old (e ∷ []) new → Steps b lanes old (e ∷ []) new
    go steps = (steps.0, IsStep-agree a b lanes old steps.0 e agree sound steps.1, steps.2)

-- a name stands for the same process
IsLowestNamed-agree : (t u : Tables) (name : List ℕ) (p : ℕ) → t ≡ u → IsLowestNamed t name p → IsLowestNamed u name p
IsLowestNamed-agree t u name p same named = subst (λ (x : Tables). IsLowestNamed x name p) same named

-- the events of a script line are the same
MakesLine-agree : (a b : Meaning) (lanes : ℕ) (old : Moment) (l : ScriptLine) (events : List Event) (new : Moment) → Agree a b → IsLoad a → IsSound a old → MakesLine a lanes old l events new → MakesLine b lanes old l events new
MakesLine-agree a b lanes old (line.Run count) events new agree load sound made =
    record { steps = Steps-agree a b lanes old events new agree load sound made.kind made.steps; kind = made.kind; used_up = made.used_up }
MakesLine-agree a b lanes old (line.Tick time) events new agree load sound made = (made.0, one_step-agree a b lanes old events (event.Tick time) new agree sound made.0 made.1)
MakesLine-agree a b lanes old (line.Preempt name) events new agree load sound (inl made) =
    inl (made.0, IsLowestNamed-agree a.tables b.tables name made.0 agree.tables made.1, made.2, one_step-agree a b lanes old events (event.Preempt made.0) new agree sound made.2 made.3)
MakesLine-agree a b lanes old (line.Preempt name) events new agree load sound (inr made) = inr (subst (λ t. IsUnknown t name) agree.tables made.0, made.1, made.2)
MakesLine-agree a b lanes old (line.Input channel given) events new agree load sound made = made

-- each moment to which script lines lead from here is sound
abbrev pub LeadsToSound : Meaning → ℕ → Moment → List ScriptLine → Type 0
LeadsToSound q lanes old lines = (count : ℕ) (events : List Event) (m : Moment) → MakesLines q lanes old (take count lines) events m → IsSound q m

-- the same after the first line
pub LeadsToSound-rest : (q : Meaning) (lanes : ℕ) (old middle : Moment) (l : ScriptLine) (lines : List ScriptLine) (front : List Event) → LeadsToSound q lanes old (l ∷ lines) → MakesLine q lanes old l front middle → LeadsToSound q lanes middle lines
LeadsToSound-rest q lanes old middle l lines front leads made count events m rest = leads (suc count) (front ++ events) m (front, events, middle, refl, made, rest)

-- the events of script lines are the same
MakesLines-agree : (a b : Meaning) (lanes : ℕ) (old : Moment) (lines : List ScriptLine) (events : List Event) (new : Moment) → Agree a b → IsLoad a → LeadsToSound a lanes old lines
    → MakesLines a lanes old lines events new → MakesLines b lanes old lines events new
MakesLines-agree a b lanes old [] events new agree load leads made = made
MakesLines-agree a b lanes old (l ∷ lines) events new agree load leads made = (
  made.0,
  made.1,
  made.2,
  made.3,
  MakesLine-agree a b lanes old l made.0 made.2 agree load (leads 0 [] old (refl, refl)) made.4,
  MakesLines-agree a b lanes made.2 lines made.1 new agree load (LeadsToSound-rest a lanes old made.2 l lines made.0 leads made.4) made.5,
)

-- open blocks are done in the same way
Completes-agree : (a b : Meaning) (lanes : ℕ) (old : Moment) (processes : List ℕ) (events : List Event) (new : Moment) → Agree a b → IsLoad a → IsSound a old
    → Completes a lanes old processes events new → Completes b lanes old processes events new
Completes-agree a b lanes old [] events new agree load sound done = done
Completes-agree a b lanes old (p ∷ processes) events new agree load sound done = (
  done.0,
  done.1,
  done.2,
  done.3,
  IsStep-agree a b lanes old done.2 (event.Block p done.0) agree sound done.4,
  Completes-agree a b lanes done.2 processes done.1 new agree load (IsStep-sound a lanes old done.2 (event.Block p done.0) load sound tt done.4) done.5,
)

-- each moment to which the lines of a script lead from its opening is sound
pub LeadsToSound-opening : (q : Meaning) (script : List ScriptLine) (lanes : ℕ) → IsLoad q → IsScript script → LeadsToSound q lanes (opening q.tables script) script
LeadsToSound-opening q script lanes load limits count events m made = after_reaches-sound q script lanes count events m load limits made

-- the same of the first so many of its lines
LeadsToSound-take : (q : Meaning) (lanes : ℕ) (old : Moment) (script : List ScriptLine) (lines : ℕ) → LeadsToSound q lanes old script → LeadsToSound q lanes old (take lines script)
LeadsToSound-take q lanes old script lines leads count events m made = elim (cases_lt lines count) [
  | inl below ↦ leads lines events m (subst (λ ls. MakesLines q lanes old ls events m) (take_all count (take lines script) (omega (arith, length-take lines script))) made)
  | inr within ↦ leads count events m (subst (λ ls. MakesLines q lanes old ls events m) (take-take count lines script within) made)
]

-- the moment before the open blocks of a run are done is sound
pub IsRunTo-middle : (q : Meaning) (script : List ScriptLine) (lanes : ℕ) (journal : List Event) (end_ : Moment) → IsLoad q → IsScript script → (run : IsRunTo q script lanes journal end_) → IsSound q run.middle
IsRunTo-middle q script lanes journal end_ load limits run = after_reaches-sound q script lanes (length script) run.front run.middle load limits
    (subst (λ ls. MakesLines q lanes (opening q.tables script) ls run.front run.middle) (sym (take_all (length script) script (omega arith))) run.lines)

-- a moment that a journal reaches with the one load is reached with the other
Reaches-into : (a b : Meaning) (script : List ScriptLine) (lanes lines : ℕ) (journal : List Event) (m : Moment) → Agree a b → IsLoad a → IsScript script
    → Reaches a script lanes lines journal m → Reaches b script lanes lines journal m
Reaches-into a b script lanes lines journal m agree load limits reaches =
    subst (λ t. MakesLines b lanes (opening t script) (take lines script) journal m) agree.tables
    (MakesLines-agree a b lanes (opening a.tables script) (take lines script) journal m agree load
    (LeadsToSound-take a lanes (opening a.tables script) script lines (LeadsToSound-opening a script lanes load limits)) reaches)

-- a run of the one load is a run of the other, to the same moment
IsRunTo-into : (a b : Meaning) (script : List ScriptLine) (lanes : ℕ) (journal : List Event) (end_ : Moment) → Agree a b → IsLoad a → IsScript script
    → IsRunTo a script lanes journal end_ → IsRunTo b script lanes journal end_
IsRunTo-into a b script lanes journal end_ agree load limits run = record {
  front = run.front;
  rest = run.rest;
  middle = run.middle;
  whole = run.whole;
  lines = subst (λ t. MakesLines b lanes (opening t script) script run.front run.middle) agree.tables
      (MakesLines-agree a b lanes (opening a.tables script) script run.front run.middle agree load (LeadsToSound-opening a script lanes load limits) run.lines);
  blocks = Completes-agree a b lanes run.middle (open_blocks run.middle.rows) run.rest end_ agree load (IsRunTo-middle a script lanes journal end_ load limits run) run.blocks;
}

-- journals of loads that agree reach the same moments
pub Reaches-agree : (a b : Meaning) → IsLoad a → IsLoad b → Agree a b → (script : List ScriptLine) (lanes lines : ℕ) (journal : List Event) (m : Moment) → IsScript script
    → Reaches a script lanes lines journal m ↔ Reaches b script lanes lines journal m
Reaches-agree a b load other agree script lanes lines journal m limits =
    (Reaches-into a b script lanes lines journal m agree load limits, Reaches-into b a script lanes lines journal m (Agree-sym a b agree) other limits)

-- loads that agree have the same runs to the same moments
pub IsRunTo-agree : (a b : Meaning) → IsLoad a → IsLoad b → Agree a b → (script : List ScriptLine) (lanes : ℕ) (journal : List Event) (m : Moment) → IsScript script
    → IsRunTo a script lanes journal m ↔ IsRunTo b script lanes journal m
IsRunTo-agree a b load other agree script lanes journal m limits =
    (IsRunTo-into a b script lanes journal m agree load limits, IsRunTo-into b a script lanes journal m (Agree-sym a b agree) other limits)

-- loads that agree have the same runs
pub IsRun-agree : (a b : Meaning) → IsLoad a → IsLoad b → Agree a b → (script : List ScriptLine) (lanes : ℕ) (journal : List Event) → IsScript script → IsRun a script lanes journal ↔ IsRun b script lanes journal
IsRun-agree a b load other agree script lanes journal limits = (
  λ run. (run.0, IsRunTo-into a b script lanes journal run.0 agree load limits run.1),
  λ run. (run.0, IsRunTo-into b a script lanes journal run.0 (Agree-sym a b agree) other limits run.1),
)

-- at a moment that a journal reaches, loads that agree have the same report
pub Reaches-report : (a b : Meaning) → IsLoad a → Agree a b → (script : List ScriptLine) (lanes lines : ℕ) (journal : List Event) (m : Moment) → IsScript script → Reaches a script lanes lines journal m → report a m ≡ report b m
Reaches-report a b load agree script lanes lines journal m limits reaches = report-agree a b m agree (after_reaches-sound a script lanes lines journal m load limits reaches)

-- and at the end of a run
pub IsRunTo-report : (a b : Meaning) → IsLoad a → Agree a b → (script : List ScriptLine) (lanes : ℕ) (journal : List Event) (m : Moment) → IsScript script → IsRunTo a script lanes journal m → report a m ≡ report b m
IsRunTo-report a b load agree script lanes journal m limits run = report-agree a b m agree (IsRunTo-sound a script lanes journal m load limits run)
