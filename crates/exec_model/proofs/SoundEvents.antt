-- An event keeps a moment sound, and moves the clock as far as a Tick says.
use Rattle.std.specs.Prelude.{◌≡◌, ℕ, ◌+◌, ◌≤◌, true, false, List, [], ◌∷◌, ◌++◌, Option, Some, None, IsSome, slice_set, suc}
use Rattle.std.proofs.Common.{sym, subst, refl, ap, ◌∙◌, inr, arith}
use Rattle.std.proofs.lemmas.Bool.{cond_both}
use Rattle.std.proofs.lemmas.List.{get_or-set_same, set-set}
use Rattle.hal_base.specs.declared.limits.TheConstants.{TICK_SUM_LIMIT}
use Rattle.hal_values.specs.declared.request.Request.{Request}
use Rattle.hal_values.specs.declared.request.Request.TheVariants as request
use Rattle.hal_values.specs.declared.tables.Tables.{Tables}
use Rattle.hal_values.specs.declared.value.Kind.{Kind}
use Rattle.hal_values.specs.declared.value.Value.{Value}
use Rattle.hal_values.specs.Answers.{Block, Killed, Ends, FitsAlive}
use Rattle.hal_values.specs.Fitting.{FitAll-push, FitAll-killed}
use Rattle.hal_values.specs.Loads.{Meaning, IsLoad, FitAll, IsUpdate}
use Rattle.hal_values.specs.Requests.{HasProcess}
use Rattle.hal_values.specs.Tables.{IsSnapshot}
use Rattle.exec_model.specs.declared.event.Event.{Event}
use Rattle.exec_model.specs.declared.event.Event.TheVariants as event
use Rattle.exec_model.specs.declared.row.Row.{Row}
use Rattle.exec_model.specs.declared.status.How.TheVariants.{Terminated}
use Rattle.exec_model.specs.declared.status.Status.{Status}
use Rattle.exec_model.specs.declared.status.Status.TheVariants as status
use Rattle.exec_model.specs.Effects.{terminate_done, wait_status, wait_begun, input_done, effect}
use Rattle.exec_model.specs.Killing.{family, is_of_family, family_killed}
use Rattle.exec_model.specs.Moments.{Moment, row_of, answers_of, answers_in, with_row, answered, made_ready, with_event}
use Rattle.exec_model.specs.Rows.{is_active, is_ready, is_ready_status}
use Rattle.exec_model.specs.Sound.{IsSound, KeepsClock}
use Rattle.exec_model.specs.Steps.{request_of, IsAllowed, CanAct, CanOpen, CanBlock, block_of, written, block_done, preempted, event_done, stepped}
use Rattle.exec_model.proofs.SoundData.{written-snapshot}
use Rattle.exec_model.proofs.SoundEffects.{ready-exists, effect-sound}
use Rattle.exec_model.proofs.SoundKilling.{all_killed-outside}
use Rattle.exec_model.proofs.SoundSettling.{settle-sound, settle-clock}
use Rattle.exec_model.proofs.Soundness.{IsSound-row, IsSound-set, IsSound-same, with_row-sound, made_ready-sound, IsRowSound-begins, IsRowSound-ready, IsRowSound-same, begins_no_block, asks_begun}

-- an Act keeps a moment sound
act-sound : (q : Meaning) (lanes : ℕ) (m : Moment) (p : ℕ) → IsLoad q → IsSound q m → CanAct q lanes m p → IsSound q (event_done q m (event.Act p))
act-sound q lanes m p load sound can =
    let exists = ready-exists q m p sound can.early.ready in
    effect-sound q m p (request_of q m p) load (record { sound = sound; exists = exists; ready = can.early.ready; outside = can.outside; asks = refl })
    (load.in_order p (answers_of m p) exists (sound.fit p exists))

-- an Open keeps a moment sound
open-sound : (q : Meaning) (lanes : ℕ) (m : Moment) (p : ℕ) → IsSound q m → CanOpen q lanes m p → IsSound q (event_done q m (event.Open p))
open-sound q lanes m p sound can =
    let exists = ready-exists q m p sound can.early.ready in
    let row = IsSound-row q m p sound exists in
    with_row-sound q m p (record (row_of m p) { inside = true }) sound (record {
      fit = row.fit;
      waits = row.waits;
      blocks = λ e. (can.early.ready, can.asks);
      begins = row.begins;
      between = row.between;
    })

-- an UPDATE block is answered by what the shared cells held before
block-fits : (tables : Tables) (ends : Ends) (asked : Request) (store : List Value) (turns : ℕ) → IsUpdate asked → IsSnapshot tables.cells store → IsSome (ends store turns) → FitsAlive tables ends asked (Block store turns)
block-fits tables ends (request.Update groups) store turns asks full some = (store, turns, refl, full, some)
block-fits tables ends others store turns asks full some = absurd asks

-- the writes of a block that is done keep a moment sound
block-sound : (q : Meaning) (lanes : ℕ) (m : Moment) (p turns : ℕ) (writes : List (ℕ × Value)) → IsLoad q → IsSound q m → CanBlock q lanes m p turns → block_of q m p turns ≡ Some writes → IsSound q (block_done p turns (Some writes) m)
block-sound q lanes m p turns writes load sound can e =
    let exists = ready-exists q m p sound can.early.ready in
    let row = IsSound-row q m p sound exists in
    let asks = (row.blocks can.inside).1 in
    let full = written-snapshot q.tables m.store writes sound.store (load.writes_right p (answers_of m p) m.store turns writes exists row.fit sound.store e) in
    let given = answers_of m p ++ Block m.store turns ∷ [] in
    let fit : FitAll q p given = FitAll-push q p (answers_of m p) (Block m.store turns) row.fit
    (inr (block-fits q.tables (q.block p (answers_of m p)) (request_of q m p) m.store turns asks sound.store (subst IsSome (sym e) refl))) in
    let old : Moment = answered p (Block m.store turns) (record m { store = written m.store writes }) in
    cond_both (row_of m p).doomed _ (with_row p (record (row_of m p) { inside = false }) old) (IsSound q)
    (λ doomed.
    let told : answers_in (slice_set m.answers p given) p ≡ given = get_or-set_same m.answers p given [] (subst (λ n. suc p ≤ n) (sym sound.answers) exists) in
    IsSound-set q m (answered p Killed (with_row p (record (row_of m p) { inside = false; status = status.Ending Terminated }) old)) p (record (row_of m p) { inside = false; status = status.Ending Terminated }) (given ++ Killed ∷ []) sound refl
    (ap (λ before. slice_set (slice_set m.answers p given) p (before ++ Killed ∷ [])) told ∙ set-set m.answers p given (given ++ Killed ∷ []))
    sound.events full sound.clock
    (IsRowSound-begins q p _ _ (FitAll-killed q p given fit) refl refl (load.restarts p given exists fit)))
    (λ spared.
    IsSound-set q m (with_row p (record (row_of m p) { inside = false }) old) p (record (row_of m p) { inside = false }) given sound refl refl sound.events full sound.clock
    (IsRowSound-ready q p _ given fit can.early.ready refl (asks_begun q p (row_of m p) (answers_of m p) row (λ begins. begins_no_block (request_of q m p) begins asks))))

-- the same, by what the load says of the block
block_done-sound : (q : Meaning) (lanes : ℕ) (m : Moment) (p turns : ℕ) (found : Option (List (ℕ × Value))) → IsLoad q → IsSound q m → CanBlock q lanes m p turns → block_of q m p turns ≡ found → IsSound q (block_done p turns found m)
block_done-sound q lanes m p turns None load sound can e = sound
block_done-sound q lanes m p turns (Some writes) load sound can e = block-sound q lanes m p turns writes load sound can e

-- no status but one is Ready
is_ready-is : (s : Status) → is_ready_status s ≡ true → s ≡ status.Ready
is_ready-is status.Ready e = refl
is_ready-is others e = absurd cc

-- a Preempt keeps a moment sound
preempted-sound : (q : Meaning) (m : Moment) (p : ℕ) → IsSound q m → HasProcess q.tables p → IsSound q (preempted p (row_of m p) m)
preempted-sound q m p sound exists = cond_both (is_ready (row_of m p)) (made_ready p (row_of m p) m) m (IsSound q)
    (λ ready. made_ready-sound q m p (row_of m p) sound (IsRowSound-same q p (row_of m p) _ (answers_of m p) (IsSound-row q m p sound exists) (sym (is_ready-is (row_of m p).status ready)) refl refl))
    (λ unready. sound)

-- an event keeps a moment sound
pub event_done-sound : (q : Meaning) (lanes : ℕ) (m : Moment) (e : Event) → IsLoad q → IsSound q m → IsAllowed q lanes m e → KeepsClock m e → IsSound q (event_done q m e)
event_done-sound q lanes m (event.Act p) load sound allowed keeps = act-sound q lanes m p load sound allowed
event_done-sound q lanes m (event.Open p) load sound allowed keeps = open-sound q lanes m p sound allowed
event_done-sound q lanes m (event.Block p turns) load sound allowed keeps = block_done-sound q lanes m p turns (block_of q m p turns) load sound allowed refl
event_done-sound q lanes m (event.Tick time) load sound allowed keeps = IsSound-same q m (record m { clock = m.clock + time }) sound refl refl sound.events sound.store keeps
event_done-sound q lanes m (event.Preempt p) load sound allowed keeps = preempted-sound q m p sound allowed

-- so the moment after it is sound, too
pub stepped-sound : (q : Meaning) (lanes : ℕ) (m : Moment) (e : Event) → IsLoad q → IsSound q m → IsAllowed q lanes m e → KeepsClock m e → IsSound q (stepped q m e)
stepped-sound q lanes m e load sound allowed keeps = settle-sound q (event_done q m e) (event_done-sound q lanes m e load sound allowed keeps)

-- where a WAIT begins the clock stays
wait_begun-clock : (p : ℕ) (row : Row) (waits : Option Status) (m : Moment) → (wait_begun p row waits m).clock ≡ m.clock
wait_begun-clock p row None m = refl
wait_begun-clock p row (Some s) m = refl

-- where a datum is read the clock stays
input_done-clock : (p channel : ℕ) (k : Kind) (data_ : List (List ℕ)) (m : Moment) → (input_done p channel k data_ m).clock ≡ m.clock
input_done-clock p channel k [] m = refl
input_done-clock p channel k (datum ∷ rest) m = refl

-- killing keeps the clock
pub family_killed-clock : (head : ℕ) (m : Moment) → (family_killed head m).clock ≡ m.clock
family_killed-clock head m = (all_killed-outside (family m.rows head) m).clock

-- where a process terminates another the clock stays
terminate_done-clock : (p o : ℕ) (row : Row) (m : Moment) → (terminate_done p o row m).clock ≡ m.clock
terminate_done-clock p o row m = cond_both (is_active row) _ _ (λ (n : Moment). n.clock ≡ m.clock)
    (λ active. cond_both (is_of_family m.rows p o) _ _ (λ (n : Moment). n.clock ≡ m.clock)
    (λ descends. cond_both (is_of_family m.rows o p) (family_killed o m) _ (λ (n : Moment). n.clock ≡ m.clock) (λ itself. family_killed-clock o m) (λ stranger. family_killed-clock o m))
    (λ apart. refl))
    (λ inactive. refl)

-- what a request does keeps the clock
pub effect-clock : (tables : Tables) (p : ℕ) (row : Row) (asked : Request) (m : Moment) → (effect tables p row asked m).clock ≡ m.clock
effect-clock tables p row request.Begin m = refl
effect-clock tables p row (request.Read at) m = refl
effect-clock tables p row (request.Write cell v) m = refl
effect-clock tables p row request.Pass m = refl
effect-clock tables p row (request.Update groups) m = refl
effect-clock tables p row (request.Schedule plan) m = cond_both (is_active (row_of m plan.process)) _ _ (λ (n : Moment). n.clock ≡ m.clock) (λ active. refl) (λ inactive. refl)
effect-clock tables p row (request.Cancel o) m = cond_both (is_active (row_of m o)) _ _ (λ (n : Moment). n.clock ≡ m.clock) (λ active. refl) (λ inactive. refl)
effect-clock tables p row (request.Terminate o) m = terminate_done-clock p o (row_of m o) m
effect-clock tables p row (request.Wait ask) m = wait_begun-clock p row (wait_status tables m p ask) m
effect-clock tables p row (request.Signal e) m = settle-clock tables (with_event tables e true m)
effect-clock tables p row (request.Set e) m = refl
effect-clock tables p row (request.Reset e) m = refl
effect-clock tables p row (request.Priority o priority) m = cond_both (is_active (row_of m o)) _ _ (λ (n : Moment). n.clock ≡ m.clock) (λ active. refl) (λ inactive. refl)
effect-clock tables p row (request.Print channel line) m = refl
effect-clock tables p row (request.Input channel k) m = input_done-clock p channel k _ m
effect-clock tables p row request.Now m = refl
effect-clock tables p row (request.Stop e) m = family_killed-clock p m
effect-clock tables p row request.Finish m = refl
effect-clock tables p row (request.Look cell) m = refl
effect-clock tables p row (request.Close turns) m = refl

-- a block that is done keeps the clock
block_done-clock : (p turns : ℕ) (found : Option (List (ℕ × Value))) (m : Moment) → (block_done p turns found m).clock ≡ m.clock
block_done-clock p turns None m = refl
block_done-clock p turns (Some writes) m = cond_both (row_of m p).doomed _ _ (λ (n : Moment). n.clock ≡ m.clock) (λ doomed. refl) (λ spared. refl)

-- how far an event moves the clock
abbrev pub event_time : Event → ℕ
event_time (event.Act p) = 0
event_time (event.Open p) = 0
event_time (event.Block p turns) = 0
event_time (event.Tick time) = time
event_time (event.Preempt p) = 0

-- so the clock goes on
pub event_done-clock : (q : Meaning) (m : Moment) (e : Event) → (event_done q m e).clock ≡ m.clock + event_time e
event_done-clock q m (event.Act p) = effect-clock q.tables p (row_of m p) (request_of q m p) m ∙ omega arith
event_done-clock q m (event.Open p) = omega arith
event_done-clock q m (event.Block p turns) = block_done-clock p turns (block_of q m p turns) m ∙ omega arith
event_done-clock q m (event.Tick time) = refl
event_done-clock q m (event.Preempt p) = cond_both (is_ready (row_of m p)) (made_ready p (row_of m p) m) m (λ (n : Moment). n.clock ≡ m.clock + 0) (λ ready. omega arith) (λ unready. omega arith)

-- and so it does with settling
pub stepped-clock : (q : Meaning) (m : Moment) (e : Event) → (stepped q m e).clock ≡ m.clock + event_time e
stepped-clock q m e = settle-clock q.tables (event_done q m e) ∙ event_done-clock q m e

-- an event keeps the clock within the limit if its sum does
pub KeepsClock-from : (m : Moment) (e : Event) → m.clock + event_time e ≤ TICK_SUM_LIMIT → KeepsClock m e
KeepsClock-from m (event.Act p) low = tt
KeepsClock-from m (event.Open p) low = tt
KeepsClock-from m (event.Block p turns) low = tt
KeepsClock-from m (event.Tick time) low = low
KeepsClock-from m (event.Preempt p) low = tt
