-- What a request does keeps a moment sound.
use Rattle.std.specs.Prelude.{◌≡◌, ◌≢◌, ℕ, ◌<◌, ◌≤◌, nat_lt, nat_le, Bool, true, false, List, [], ◌∷◌, ◌++◌, length, slice_index_or, slice_set, Option, Some, None}
use Rattle.std.proofs.Common.{sym, subst, refl, ap, ◌∙◌, inl, inr, ⊎_elim}
use Rattle.std.proofs.lemmas.Bool.{cases_eq, cases_lt, cond_both}
use Rattle.std.proofs.lemmas.List.{length-set, get_or_past, get_or-set_same}
use Rattle.std.proofs.lemmas.Option.{same_Some}
use Rattle.hal_base.specs.declared.limits.TheConstants.{TICK_SUM_LIMIT}
use Rattle.hal_values.specs.declared.environment.ErrNo.{ErrNo}
use Rattle.hal_values.specs.declared.plan.Cycle.{Cycle}
use Rattle.hal_values.specs.declared.plan.Cycle.TheVariants as cycle
use Rattle.hal_values.specs.declared.plan.Pause.{Pause}
use Rattle.hal_values.specs.declared.plan.Pause.TheVariants as pause
use Rattle.hal_values.specs.declared.plan.Plan.{Plan}
use Rattle.hal_values.specs.declared.plan.When.{When}
use Rattle.hal_values.specs.declared.plan.When.TheVariants as when
use Rattle.hal_values.specs.declared.request.Request.{Request}
use Rattle.hal_values.specs.declared.request.Request.TheVariants as request
use Rattle.hal_values.specs.declared.tables.Tables.{Tables}
use Rattle.hal_values.specs.declared.value.Kind.{Kind}
use Rattle.hal_values.specs.declared.value.Value.{Value}
use Rattle.hal_values.specs.Answers.{Answered, Begun, Told, Done, Wrong, error, FitsAlive}
use Rattle.hal_values.specs.Fitting.{FitAll-push}
use Rattle.hal_values.specs.Loads.{Meaning, IsLoad, FitAll}
use Rattle.hal_values.specs.Requests.{HasProcess, IsInOrder}
use Rattle.hal_values.specs.Tables.{process_count, IsSnapshot}
use Rattle.exec_model.specs.declared.row.Row.{Row}
use Rattle.exec_model.specs.declared.status.How.TheVariants.{Cancelled, Error}
use Rattle.exec_model.specs.declared.status.Status.{Status}
use Rattle.exec_model.specs.declared.status.Status.TheVariants as status
use Rattle.exec_model.specs.Data.{datum_value}
use Rattle.exec_model.specs.Effects.{value_at, start_status, scheduled, schedule_done, cancel_done, terminate_done, wait_status, wait_begun, signal_done, priority_done, datum_answer, input_done, next_status, finished, stop_done, effect}
use Rattle.exec_model.specs.Expressions.{truth}
use Rattle.exec_model.specs.Killing.{is_of_family, family_killed}
use Rattle.exec_model.specs.Moments.{Moment, row_of, answers_of, with_row, answered, event_of, event_set, with_event, taken_from}
use Rattle.exec_model.specs.Rows.{idle_row, is_active, is_active_status, is_ready, is_ready_status, is_waiting, is_ending, has_dependents}
use Rattle.exec_model.specs.Settling.{settle}
use Rattle.exec_model.specs.Sound.{IsSound, IsWait, is_between}
use Rattle.exec_model.specs.Steps.{request_of}
use Rattle.exec_model.specs.Times.{not_before, later}
use Rattle.exec_model.proofs.SoundData.{snapshot-set, value_at-is, seconds-integer, datum_value-datum}
use Rattle.exec_model.proofs.SoundKilling.{HasEnded, family_killed-sound, family_killed-other, family_killed-ends}
use Rattle.exec_model.proofs.SoundSettling.{IsSameAt, with_row-other, settle-sound, GoesOn, settle-goes_on}
use Rattle.exec_model.proofs.Soundness.{IsSound-row, IsSound-same, with_row-sound, answered-sound, answered-with_row-sound, IsRowSound-begins, IsRowSound-ready, IsRowSound-same, asks_begun}

-- the process is Ready and outside a block at a sound moment, and asks this
pub record IsActing (q : Meaning) (m : Moment) (p : ℕ) (asked : Request) : Type 0 where
  pub sound : IsSound q m
  pub exists : HasProcess q.tables p
  pub ready : is_ready (row_of m p) ≡ true
  pub outside : (row_of m p).inside ≡ false
  pub asks : request_of q m p ≡ asked

-- a Ready process exists
pub ready-exists : (q : Meaning) (m : Moment) (p : ℕ) → IsSound q m → is_ready (row_of m p) ≡ true → HasProcess q.tables p
ready-exists q m p sound ready = ⊎_elim (λ (exists : p < process_count q.tables). exists)
    (λ (past : process_count q.tables ≤ p).
    let idle : row_of m p ≡ idle_row = get_or_past m.rows p idle_row (subst (λ n. n ≤ p) (sym sound.rows) past) in
    absurd (let no = ap is_ready idle in cc))
    (cases_lt p (process_count q.tables))

-- of an acting process that doesn't ask Begin a cycle has begun
acting-begun : (q : Meaning) (m : Moment) (p : ℕ) (asked : Request) → IsActing q m p asked → (asked ≡ request.Begin → ⊥) → (row_of m p).begun ≡ true
acting-begun q m p asked act other = asks_begun q p (row_of m p) (answers_of m p) (IsSound-row q m p act.sound act.exists) (λ e. other (sym act.asks ∙ e))

-- one more answer that fits what is asked
acting-fit : (q : Meaning) (m : Moment) (p : ℕ) (asked : Request) (given : Answered) → IsActing q m p asked → FitsAlive q.tables (q.block p (answers_of m p)) asked given → FitAll q p (answers_of m p ++ given ∷ [])
acting-fit q m p asked given act fits =
    FitAll-push q p (answers_of m p) given (act.sound.fit p act.exists) (inr (subst (λ r. FitsAlive q.tables (q.block p (answers_of m p)) r given) (sym act.asks) fits))

-- a process is answered what fits its request, which isn't Begin
pub told-sound : (q : Meaning) (m : Moment) (p : ℕ) (asked : Request) (given : Answered) → IsActing q m p asked → (asked ≡ request.Begin → ⊥) → FitsAlive q.tables (q.block p (answers_of m p)) asked given
    → IsSound q (answered p given m)
told-sound q m p asked given act other fits =
    answered-sound q m p given act.sound (IsRowSound-ready q p (row_of m p) _ (acting-fit q m p asked given act fits) act.ready act.outside (acting-begun q m p asked act other))

-- a process acts on where neither its row nor its answers change
acting-same : (q : Meaning) (m n : Moment) (p : ℕ) (asked : Request) → IsActing q m p asked → IsSound q n → IsSameAt p m n → IsActing q n p asked
acting-same q m n p asked act sound same = record {
  sound = sound;
  exists = act.exists;
  ready = ap is_ready same.row ∙ act.ready;
  outside = ap (λ (r : Row). r.inside) same.row ∙ act.outside;
  asks = ap (q.next p) same.answers ∙ act.asks;
}

-- so where what lies outside the rows and answers changes
acting-outside : (q : Meaning) (m n : Moment) (p : ℕ) (asked : Request) → IsActing q m p asked → n.rows ≡ m.rows → n.answers ≡ m.answers
    → length n.events ≡ length m.events → IsSnapshot q.tables.cells n.store → n.clock ≡ m.clock → IsActing q n p asked
acting-outside q m n p asked act rows answers events store clock =
    acting-same q m n p asked act
    (IsSound-same q m n act.sound rows answers (events ∙ act.sound.events) store (subst (λ c. c ≤ TICK_SUM_LIMIT) (sym clock) act.sound.clock))
    (record { row = ap (λ rs. slice_index_or rs p idle_row) rows; answers = ap (λ as'. slice_index_or as' p []) answers })

-- a process acts on where another field of a row, its own or another's, changes
acting-row : (q : Meaning) (m : Moment) (p o : ℕ) (row : Row) (asked : Request) → IsActing q m p asked → HasProcess q.tables o → row.status ≡ (row_of m o).status → row.inside ≡ (row_of m o).inside → row.begun ≡ (row_of m o).begun
    → IsActing q (with_row o row m) p asked
acting-row q m p o row asked act exists s i b =
    let sound : IsSound q (with_row o row m) = with_row-sound q m o row act.sound (IsRowSound-same q o (row_of m o) row (answers_of m o) (IsSound-row q m o act.sound exists) s i b) in
    ⊎_elim
    (λ (same : p ≡ o).
    let here : row_of (with_row o row m) p ≡ row =
    subst (λ k. row_of (with_row o row m) k ≡ row) (sym same) (get_or-set_same m.rows o row idle_row (subst (λ n. o < n) (sym act.sound.rows) exists)) in
    record {
      sound = sound;
      exists = act.exists;
      ready = ap is_ready here ∙ (ap is_ready_status s ∙ (ap (λ k. is_ready (row_of m k)) (sym same) ∙ act.ready));
      outside = ap (λ (r : Row). r.inside) here ∙ (i ∙ (ap (λ k. (row_of m k).inside) (sym same) ∙ act.outside));
      asks = act.asks;
    })
    (λ (other : p ≡ o → ⊥). acting-same q m (with_row o row m) p asked act sound (with_row-other o row m p other))
    (cases_eq p o)

-- an Idle row is scheduled: it waits for its first cycle
start-between : (now : ℕ) (w : When) → is_waiting (start_status now w) ≡ false
start-between now when.Now = refl
start-between now (when.At t) = refl
start-between now (when.After t) = refl
start-between now (when.On x) = refl

-- a row that isn't active is Idle, which lies between cycles, and isn't Ready
inactive-between : (s : Status) → is_active_status s ≡ false → is_between s ≡ true
inactive-between status.Idle e = refl
inactive-between others e = absurd cc

inactive-unready : (s : Status) → is_active_status s ≡ false → is_ready_status s ≡ false
inactive-unready status.Idle e = refl
inactive-unready others e = absurd cc

-- a SCHEDULE keeps a moment sound
schedule-sound : (q : Meaning) (m : Moment) (p : ℕ) (plan : Plan) → IsActing q m p (request.Schedule plan) → HasProcess q.tables plan.process → IsSound q (schedule_done p plan (row_of m plan.process) m)
schedule-sound q m p plan act exists = cond_both (is_active (row_of m plan.process)) _ _ (IsSound q)
    (λ active. told-sound q m p (request.Schedule plan) (Wrong (error 2 1)) act (λ e. cc) (inr refl))
    (λ inactive.
    let o = plan.process in
    let new = scheduled p m.clock plan (row_of m o) in
    let asks = act.sound.between o exists (inactive-between (row_of m o).status inactive) in
    let sound : IsSound q (with_row o new m) = with_row-sound q m o new act.sound (IsRowSound-begins q o new (answers_of m o) (act.sound.fit o exists) (start-between m.clock plan.when) refl asks) in
    let other : p ≢ o = λ same. let no = inactive-unready (row_of m o).status inactive in let yes = ap (λ k. is_ready (row_of m k)) same in let ready = act.ready in cc in
    told-sound q (with_row o new m) p (request.Schedule plan) Done (acting-same q m (with_row o new m) p (request.Schedule plan) act sound (with_row-other o new m p other)) (λ e. cc) (inl refl))

-- a CANCEL keeps a moment sound
cancel-sound : (q : Meaning) (m : Moment) (p o : ℕ) → IsActing q m p (request.Cancel o) → HasProcess q.tables o → IsSound q (cancel_done p o (row_of m o) m)
cancel-sound q m p o act exists = cond_both (is_active (row_of m o)) _ _ (IsSound q)
    (λ active. told-sound q _ p (request.Cancel o) Done (acting-row q m p o (record (row_of m o) { cancelled = true }) (request.Cancel o) act exists refl refl refl) (λ e. cc) (inl refl))
    (λ inactive. told-sound q m p (request.Cancel o) (Wrong (error 2 2)) act (λ e. cc) (inr refl))

-- a change of priority keeps a moment sound
priority-sound : (q : Meaning) (m : Moment) (p o priority : ℕ) → IsActing q m p (request.Priority o priority) → HasProcess q.tables o → IsSound q (priority_done p o priority (row_of m o) m)
priority-sound q m p o priority act exists = cond_both (is_active (row_of m o)) _ _ (IsSound q)
    (λ active. told-sound q _ p (request.Priority o priority) Done (acting-row q m p o (record (row_of m o) { priority = priority }) (request.Priority o priority) act exists refl refl refl) (λ e. cc) (inl refl))
    (λ inactive. told-sound q m p (request.Priority o priority) (Wrong (error 2 2)) act (λ e. cc) (inr refl))

-- a TERMINATE keeps a moment sound
terminate-sound : (q : Meaning) (m : Moment) (p o : ℕ) → IsLoad q → IsActing q m p (request.Terminate o) → IsSound q (terminate_done p o (row_of m o) m)
terminate-sound q m p o load act = cond_both (is_active (row_of m o)) _ _ (IsSound q)
    (λ active. cond_both (is_of_family m.rows p o) _ _ (IsSound q)
    (λ descends. cond_both (is_of_family m.rows o p) (family_killed o m) _ (IsSound q)
    (λ itself. family_killed-sound q o m load act.sound)
    (λ stranger. told-sound q _ p (request.Terminate o) Done (acting-same q m _ p (request.Terminate o) act (family_killed-sound q o m load act.sound) (family_killed-other o m p stranger)) (λ e. cc) (inl refl)))
    (λ apart. told-sound q m p (request.Terminate o) (Wrong (error 2 3)) act (λ e. cc) (inr (inr refl))))
    (λ inactive. told-sound q m p (request.Terminate o) (Wrong (error 2 2)) act (λ e. cc) (inr (inl refl)))

-- the status of a WAIT isn't one between cycles
wait_status-within : (tables : Tables) (m : Moment) (p : ℕ) (ask : Pause) (s : Status) → wait_status tables m p ask ≡ Some s → is_between s ≡ false
wait_status-within tables m p (pause.For t) s = cond_both (nat_le (later m.clock t) m.clock) None (Some (status.Time (later m.clock t))) (λ o. o ≡ Some s → is_between s ≡ false)
    (λ yes e. absurd cc) (λ no e. ap is_between (sym (same_Some _ s e)))
wait_status-within tables m p (pause.Till t) s = cond_both (nat_le (not_before m.clock t) m.clock) None (Some (status.Time (not_before m.clock t))) (λ o. o ≡ Some s → is_between s ≡ false)
    (λ yes e. absurd cc) (λ no e. ap is_between (sym (same_Some _ s e)))
wait_status-within tables m p (pause.Event x) s = cond_both (truth tables m x) None (Some (status.Event x)) (λ o. o ≡ Some s → is_between s ≡ false)
    (λ yes e. absurd cc) (λ no e. ap is_between (sym (same_Some _ s e)))
wait_status-within tables m p pause.Dependents s = cond_both (has_dependents m.rows p) (Some status.Dependents) None (λ o. o ≡ Some s → is_between s ≡ false)
    (λ yes e. ap is_between (sym (same_Some _ s e))) (λ no e. absurd cc)

-- a WAIT keeps a moment sound
wait-sound : (q : Meaning) (m : Moment) (p : ℕ) (ask : Pause) (waits : Option Status) → IsActing q m p (request.Wait ask) → ((s : Status) → waits ≡ Some s → is_between s ≡ false) → IsSound q (wait_begun p (row_of m p) waits m)
wait-sound q m p ask None act within = told-sound q m p (request.Wait ask) Done act (λ e. cc) refl
wait-sound q m p ask (Some s) act within =
    with_row-sound q m p (record (row_of m p) { status = s }) act.sound (record {
      fit = act.sound.fit p act.exists;
      waits = λ e. subst IsWait (sym act.asks) tt;
      blocks = λ e. absurd (let no = act.outside in cc);
      begins = λ e. absurd (let yes = acting-begun q m p (request.Wait ask) act (λ e. cc) in cc);
      between = λ e. absurd (let no = within s refl in cc);
    })

-- an event that is set leaves as many events
length-event_set : (tables : Tables) (e : ℕ) (to : Bool) (events : List Bool) → length (event_set tables e to events) ≡ length events
length-event_set tables e to events = cond_both (nat_lt e (process_count tables)) events _ (λ new. length new ≡ length events) (λ own. refl) (λ declared. length-set events _ to)

-- a process acts on where an event is set
acting-event : (q : Meaning) (m : Moment) (p e : ℕ) (to : Bool) (asked : Request) → IsActing q m p asked → IsActing q (with_event q.tables e to m) p asked
acting-event q m p e to asked act = acting-outside q m (with_event q.tables e to m) p asked act refl refl (length-event_set q.tables e to m.events) act.sound.store refl

-- a process that asks something other than Begin acts on where the rows settle
acting-settle : (q : Meaning) (m : Moment) (p : ℕ) (asked : Request) → IsActing q m p asked → (asked ≡ request.Begin → ⊥) → IsActing q (settle q.tables m) p asked
acting-settle q m p asked act other =
    let on : GoesOn p (answers_of m p) (settle q.tables m) =
    settle-goes_on q.tables m p (answers_of m p) (record { going = record { ready = act.ready; outside = act.outside; begun = acting-begun q m p asked act other }; answers = refl }) in
    record {
      sound = settle-sound q m act.sound;
      exists = act.exists;
      ready = on.going.ready;
      outside = on.going.outside;
      asks = ap (q.next p) on.answers ∙ act.asks;
    }

-- a SIGNAL keeps a moment sound
signal-sound : (q : Meaning) (m : Moment) (p e : ℕ) → IsActing q m p (request.Signal e) → IsSound q (signal_done q.tables p e m)
signal-sound q m p e act =
    told-sound q _ p (request.Signal e) Done
    (acting-event q _ p e (event_of q.tables m e) (request.Signal e) (acting-settle q _ p (request.Signal e) (acting-event q m p e true (request.Signal e) act) (λ e'. cc)))
    (λ e'. cc) refl

-- an INPUT keeps a moment sound
input-sound : (q : Meaning) (m : Moment) (p channel : ℕ) (k : Kind) (data_ : List (List ℕ)) → IsActing q m p (request.Input channel k) → IsSound q (input_done p channel k data_ m)
input-sound q m p channel k [] act = told-sound q m p (request.Input channel k) (Wrong (error 3 1)) act (λ e. cc) (inr (inl refl))
input-sound q m p channel k (datum ∷ rest) act =
    told-sound q _ p (request.Input channel k) (datum_answer (datum_value k datum))
    (acting-outside q m (taken_from channel m) p (request.Input channel k) act refl refl refl act.sound.store refl) (λ e. cc)
    (go (datum_value k datum) refl) where
      go : (o : Option Value) → datum_value k datum ≡ o → FitsAlive q.tables (q.block p (answers_of m p)) (request.Input channel k) (datum_answer o)
      go None e = inr (inr refl)
      go (Some v) e = inl (v, refl, datum_value-datum k datum v e)

-- no process waits after a cycle
finished-awake : (now : ℕ) (row : Row) → is_waiting (finished now row).status ≡ false
finished-awake now row = cond_both row.cancelled (status.Ending Cancelled) (next_status now row row.cycle) (λ s. is_waiting s ≡ false) (λ yes. refl) (λ no. next_awake row.cycle) where
  next_awake : (c : Cycle) → is_waiting (next_status now row c) ≡ false
  next_awake cycle.Once = refl
  next_awake cycle.Again = refl
  next_awake (cycle.Every t) = refl
  next_awake (cycle.After t) = refl

-- a cycle that is done keeps a moment sound
finish-sound : (q : Meaning) (m : Moment) (p : ℕ) → IsLoad q → IsActing q m p request.Finish → IsSound q (answered p Done (with_row p (finished m.clock (row_of m p)) m))
finish-sound q m p load act =
    answered-with_row-sound q m p (finished m.clock (row_of m p)) Done act.sound
    (IsRowSound-begins q p (finished m.clock (row_of m p)) _ (acting-fit q m p request.Finish Done act refl) (finished-awake m.clock (row_of m p)) act.outside
    (load.cycles p (answers_of m p) act.exists (act.sound.fit p act.exists) act.asks))

-- a cycle that begins keeps a moment sound
begin-sound : (q : Meaning) (m : Moment) (p : ℕ) → IsActing q m p request.Begin → IsSound q (answered p Begun (with_row p (record (row_of m p) { begun = true; started = true }) m))
begin-sound q m p act =
    answered-with_row-sound q m p (record (row_of m p) { begun = true; started = true }) Begun act.sound
    (IsRowSound-ready q p _ _ (acting-fit q m p request.Begin Begun act refl) act.ready act.outside refl)

-- a status that ends is one between cycles
ending-between : (s : Status) → is_ending s ≡ true → is_between s ≡ true
ending-between (status.Ending how) e = refl
ending-between others e = absurd cc

-- an error that stops a process keeps a moment sound
stop-sound : (q : Meaning) (m : Moment) (p : ℕ) (e : ErrNo) → IsLoad q → IsActing q m p (request.Stop e) → IsSound q (stop_done p e m)
stop-sound q m p e load act =
    let n = family_killed p m in
    let sound : IsSound q n = family_killed-sound q p m load act.sound in
    let has : HasEnded (row_of n p) = family_killed-ends m p (subst (λ k. p < k) (sym act.sound.rows) act.exists) act.ready act.outside in
    with_row-sound q n p (record (row_of n p) { status = status.Ending (Error e) }) sound
    (IsRowSound-begins q p _ (answers_of n p) (sound.fit p act.exists) refl has.outside (sound.between p act.exists (ending-between (row_of n p).status has.ends)))

-- what an acting process asks for keeps a moment sound
pub effect-sound : (q : Meaning) (m : Moment) (p : ℕ) (asked : Request) → IsLoad q → IsActing q m p asked → IsInOrder q.tables asked → IsSound q (effect q.tables p (row_of m p) asked m)
effect-sound q m p request.Begin load act order = begin-sound q m p act
effect-sound q m p (request.Read at) load act order = told-sound q m p (request.Read at) (Told (value_at q.tables m at)) act (λ e. cc) (value_at q.tables m at, refl, value_at-is q.tables m at act.sound.store order)
effect-sound q m p (request.Write cell v) load act order =
    told-sound q _ p (request.Write cell v) Done
    (acting-outside q m (record m { store = slice_set m.store cell v }) p (request.Write cell v) act refl refl refl (snapshot-set q.tables.cells m.store cell v act.sound.store order) refl) (λ e. cc) refl
effect-sound q m p request.Pass load act order = told-sound q m p request.Pass Done act (λ e. cc) refl
effect-sound q m p (request.Update groups) load act order = act.sound
effect-sound q m p (request.Schedule plan) load act order = schedule-sound q m p plan act order.process
effect-sound q m p (request.Cancel o) load act order = cancel-sound q m p o act order
effect-sound q m p (request.Terminate o) load act order = terminate-sound q m p o load act
effect-sound q m p (request.Wait ask) load act order = wait-sound q m p ask (wait_status q.tables m p ask) act (λ s e. wait_status-within q.tables m p ask s e)
effect-sound q m p (request.Signal e) load act order = signal-sound q m p e act
effect-sound q m p (request.Set e) load act order = told-sound q _ p (request.Set e) Done (acting-event q m p e true (request.Set e) act) (λ e'. cc) refl
effect-sound q m p (request.Reset e) load act order = told-sound q _ p (request.Reset e) Done (acting-event q m p e false (request.Reset e) act) (λ e'. cc) refl
effect-sound q m p (request.Priority o priority) load act order = priority-sound q m p o priority act order
effect-sound q m p (request.Print channel line) load act order =
    told-sound q _ p (request.Print channel line) Done (acting-outside q m (record m { output = m.output ++ _ }) p (request.Print channel line) act refl refl refl act.sound.store refl) (λ e. cc) refl
effect-sound q m p (request.Input channel k) load act order = input-sound q m p channel k (slice_index_or m.input channel []) act
effect-sound q m p request.Now load act order = told-sound q m p request.Now _ act (λ e. cc) (_, refl, seconds-integer m.clock act.sound.clock)
effect-sound q m p (request.Stop e) load act order = stop-sound q m p e load act
effect-sound q m p request.Finish load act order = finish-sound q m p load act
effect-sound q m p (request.Look cell) load act order = act.sound
effect-sound q m p (request.Close turns) load act order = act.sound
