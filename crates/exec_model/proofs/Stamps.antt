-- Each Ready row has a stamp of its own, at every moment of a run.
use Rattle.std.specs.Prelude.{nat_le, ◌==◌, slice_index_or}
use Rattle.std.specs.List.{range_with_len}
use Rattle.std.proofs.Common.{◌≡◌, ℕ, zero, suc, ◌+◌, ◌<◌, ◌≤◌, Bool, true, false, cond, List, [], ◌∷◌, length, map, set, Option, Some, None, ◌⊎◌, inl, inr, sym, refl, ap, subst, ◌∙◌, arith}
use Rattle.std.proofs.lemmas.Bool.{cases_eq, cases_lt, cond_both}
use Rattle.std.proofs.lemmas.List.{get_or-set_same, get_or-set_other, set_past}
use Rattle.hal_values.specs.declared.environment.ErrNo.{ErrNo}
use Rattle.hal_values.specs.declared.plan.Cycle.{Cycle}
use Rattle.hal_values.specs.declared.plan.Cycle.TheVariants as cycle
use Rattle.hal_values.specs.declared.plan.Pause.{Pause}
use Rattle.hal_values.specs.declared.plan.Pause.TheVariants as pause
use Rattle.hal_values.specs.declared.plan.Plan.{Plan}
use Rattle.hal_values.specs.declared.plan.When.{When}
use Rattle.hal_values.specs.declared.plan.When.TheVariants as when
use Rattle.hal_values.specs.declared.request.Request.{Request}
use Rattle.hal_values.specs.declared.request.Request.TheVariants as request
use Rattle.hal_values.specs.declared.tables.Tables.{Tables}
use Rattle.hal_values.specs.declared.value.Kind.{Kind}
use Rattle.hal_values.specs.declared.value.Value.{Value}
use Rattle.hal_values.specs.Answers.{Answered, Killed, Done, Block}
use Rattle.hal_values.specs.Loads.{Meaning}
use Rattle.hal_values.specs.Tables.{process_count}
use Rattle.exec_model.specs.declared.change.Change.{Change}
use Rattle.exec_model.specs.declared.change.Change.TheVariants.{Cancels, Drops, Leaves, Readies}
use Rattle.exec_model.specs.declared.event.Event.{Event}
use Rattle.exec_model.specs.declared.event.Event.TheVariants as event
use Rattle.exec_model.specs.declared.row.Row.{Row}
use Rattle.exec_model.specs.declared.script.ScriptLine.{ScriptLine}
use Rattle.exec_model.specs.declared.status.How.TheVariants.{Cancelled, Terminated, Error}
use Rattle.exec_model.specs.declared.status.Status.{Status}
use Rattle.exec_model.specs.declared.status.Status.TheVariants as status
use Rattle.exec_model.specs.Effects.{effect, schedule_done, start_status, scheduled, cancel_done, terminate_done, wait_status, wait_begun, signal_done, priority_done, input_done, next_status, finished, stop_done}
use Rattle.exec_model.specs.Expressions.{truth}
use Rattle.exec_model.specs.Killing.{killed_outside, killed, all_killed, family_killed, family, is_of_family}
use Rattle.exec_model.specs.Moments.{Moment, row_of, with_row, made_ready, answered, event_of, with_event}
use Rattle.exec_model.specs.Opening.{opening_row, unsettled, opening}
use Rattle.exec_model.specs.Rows.{idle_row, row_in, is_active, is_ready_status, is_ready, has_dependents}
use Rattle.exec_model.specs.Settling.{left_row, wait_done, change_made, settle}
use Rattle.exec_model.specs.Sound.{IsStamped}
use Rattle.exec_model.specs.Steps.{block_left, block_done, block_of, event_done, stepped, written, request_of}
use Rattle.exec_model.specs.Times.{later, not_before}
use Rattle.exec_model.proofs.Settled.{settle-keeps}

-- after one row is replaced, a row is that one, or as before
row_in-set : (rows : List Row) (p o : ℕ) (made : Row) → ((o ≡ p) × (row_in (set rows p made) o ≡ made)) ⊎ (row_in (set rows p made) o ≡ row_in rows o)
row_in-set rows p o made = go (cases_eq o p) (cases_lt p (length rows)) where
  go : (o ≡ p) ⊎ (o ≡ p → ⊥) → (p < length rows) ⊎ (length rows ≤ p) → ((o ≡ p) × (row_in (set rows p made) o ≡ made)) ⊎ (row_in (set rows p made) o ≡ row_in rows o)
  go (inr other) within = inr (get_or-set_other rows p o made idle_row other)
  go (inl same) (inr past) = inr (ap (λ new. row_in new o) (set_past rows p made past))
  go (inl same) (inl within) = inl (same, subst (λ i. row_in (set rows p made) i ≡ made) (sym same) (get_or-set_same rows p made idle_row within))

-- the row is not Ready, or it takes the place of a Ready row with the same stamp
abbrev KeepsStamp : Row → Row → Type 0
KeepsStamp old new = is_ready new ≡ true → (is_ready old ≡ true) × (new.stamp ≡ old.stamp)

-- a Ready row after one was replaced was Ready, with the same stamp
set-KeepsStamp : (rows : List Row) (p o : ℕ) (made : Row) → KeepsStamp (row_in rows p) made → KeepsStamp (row_in rows o) (row_in (set rows p made) o)
set-KeepsStamp rows p o made keeps = go (row_in-set rows p o made) where
  go : ((o ≡ p) × (row_in (set rows p made) o ≡ made)) ⊎ (row_in (set rows p made) o ≡ row_in rows o) → KeepsStamp (row_in rows o) (row_in (set rows p made) o)
  go (inl new) = subst (λ row. KeepsStamp (row_in rows o) row) (sym new.1) (subst (λ i. KeepsStamp (row_in rows i) made) (sym new.0) keeps)
  go (inr same) = subst (λ row. KeepsStamp (row_in rows o) row) (sym same) (λ ready. (ready, refl))

-- stamps stay apart where a row is replaced by one that keeps its stamp
with_row-stamped : (p : ℕ) (made : Row) (m : Moment) → KeepsStamp (row_of m p) made → IsStamped m → IsStamped (with_row p made m)
with_row-stamped p made m keeps before = record {
  below = λ o ready. let was : (is_ready (row_of m o) ≡ true) × ((row_in (set m.rows p made) o).stamp ≡ (row_of m o).stamp) = set-KeepsStamp m.rows p o made keeps ready in
      omega (arith, was.1, before.below o was.0);
  apart = λ o o' ready ready' same.
      let was : (is_ready (row_of m o) ≡ true) × ((row_in (set m.rows p made) o).stamp ≡ (row_of m o).stamp) = set-KeepsStamp m.rows p o made keeps ready in
      let was' : (is_ready (row_of m o') ≡ true) × ((row_in (set m.rows p made) o').stamp ≡ (row_of m o').stamp) = set-KeepsStamp m.rows p o' made keeps ready' in
      before.apart o o' was.0 was'.0 (sym was.1 ∙ same ∙ was'.1);
}

-- where a row gets the next stamp, a Ready row has that one, or was Ready with the same stamp below it
abbrev HasStamp : Moment → ℕ → ℕ → Row → Type 0
HasStamp m p o row = ((o ≡ p) × (row.stamp ≡ m.stamp)) ⊎ ((is_ready (row_of m o) ≡ true) × (row.stamp ≡ (row_of m o).stamp) × (row.stamp < m.stamp))

-- each Ready row is so
made_ready-HasStamp : (p o : ℕ) (made : Row) (m : Moment) → made.stamp ≡ m.stamp → IsStamped m → is_ready (row_in (set m.rows p made) o) ≡ true → HasStamp m p o (row_in (set m.rows p made) o)
made_ready-HasStamp p o made m last before = go (row_in-set m.rows p o made) where
  go : ((o ≡ p) × (row_in (set m.rows p made) o ≡ made)) ⊎ (row_in (set m.rows p made) o ≡ row_in m.rows o) → is_ready (row_in (set m.rows p made) o) ≡ true → HasStamp m p o (row_in (set m.rows p made) o)
  go (inl new) ready = inl (new.0, ap (λ (row : Row). row.stamp) new.1 ∙ last)
  go (inr same) ready =
      let was : is_ready (row_of m o) ≡ true = subst (λ row. is_ready row ≡ true) same ready in
      let stamp : (row_in (set m.rows p made) o).stamp ≡ (row_of m o).stamp = ap (λ (row : Row). row.stamp) same in
      inr (was, stamp, omega (arith, stamp, before.below o was))

-- such a stamp is at most the next one
HasStamp-most : (m : Moment) (p o : ℕ) (row : Row) → HasStamp m p o row → row.stamp < m.stamp + 1
HasStamp-most m p o row (inl new) = omega (arith, new.1)
HasStamp-most m p o row (inr old) = omega (arith, old.2)

-- such stamps are apart
HasStamp-apart : (m : Moment) (p o o' : ℕ) (row row' : Row) → IsStamped m → HasStamp m p o row → HasStamp m p o' row' → row.stamp ≡ row'.stamp → o ≡ o'
HasStamp-apart m p o o' row row' before (inl new) (inl new') same = new.0 ∙ sym new'.0
HasStamp-apart m p o o' row row' before (inl new) (inr old) same = absurd (omega (arith, new.1, old.2, same))
HasStamp-apart m p o o' row row' before (inr old) (inl new) same = absurd (omega (arith, new.1, old.2, same))
HasStamp-apart m p o o' row row' before (inr old) (inr old') same = before.apart o o' old.0 old'.0 (sym old.1 ∙ same ∙ old'.1)

-- stamps stay apart where a row becomes Ready with the next one
made_ready-stamped : (p : ℕ) (row : Row) (m : Moment) → IsStamped m → IsStamped (made_ready p row m)
made_ready-stamped p row m before =
    let made : Row = record row { status = status.Ready; stamp = m.stamp } in
    record {
      below = λ o ready. HasStamp-most m p o (row_in (set m.rows p made) o) (made_ready-HasStamp p o made m refl before ready);
      apart = λ o o' ready ready' same.
          HasStamp-apart m p o o' (row_in (set m.rows p made) o) (row_in (set m.rows p made) o') before (made_ready-HasStamp p o made m refl before ready) (made_ready-HasStamp p o' made m refl before ready') same;
    }

-- an answer keeps stamps
answered-stamped : (p : ℕ) (given : Answered) (m : Moment) → IsStamped m → IsStamped (answered p given m)
answered-stamped p given m before = record { below = before.below; apart = before.apart }

-- a row that ends its time leaves
left_row-stamped : (p : ℕ) (s : Status) (m : Moment) → IsStamped m → IsStamped (left_row p (row_of m p) s m)
left_row-stamped p (status.Ending how) m before =
    let after : IsStamped (with_row p (record (row_of m p) { status = status.Idle }) m) = with_row-stamped p (record (row_of m p) { status = status.Idle }) m (λ e. cc) before in
    record { below = after.below; apart = after.apart }
left_row-stamped p other m before = before

-- a row whose wait is over gets the next stamp
wait_done-stamped : (p : ℕ) (row : Row) (s : Status) (m : Moment) → IsStamped m → IsStamped (wait_done p row s m)
wait_done-stamped p row status.Idle m before = before
wait_done-stamped p row (status.Start t) m before = made_ready-stamped p (record row { start = t }) m before
wait_done-stamped p row (status.StartOn x) m before = made_ready-stamped p (record row { start = m.clock }) m before
wait_done-stamped p row status.Ready m before = before
wait_done-stamped p row (status.Time t) m before = answered-stamped p Done (made_ready p row m) (made_ready-stamped p row m before)
wait_done-stamped p row (status.Event x) m before = answered-stamped p Done (made_ready p row m) (made_ready-stamped p row m before)
wait_done-stamped p row status.Dependents m before = answered-stamped p Done (made_ready p row m) (made_ready-stamped p row m before)
wait_done-stamped p row (status.Gap t) m before = made_ready-stamped p (record row { start = t }) m before
wait_done-stamped p row (status.Ending how) m before = before

-- a change keeps stamps apart
pub change_made-stamped : (p : ℕ) (change : Change) (m : Moment) → IsStamped m → IsStamped (change_made p (row_of m p) change m)
change_made-stamped p Cancels m before = with_row-stamped p (record (row_of m p) { cancelled = true }) m (λ ready. (ready, refl)) before
change_made-stamped p Drops m before = with_row-stamped p (record (row_of m p) { status = status.Ending Cancelled }) m (λ e. cc) before
change_made-stamped p Leaves m before = left_row-stamped p (row_of m p).status m before
change_made-stamped p Readies m before = wait_done-stamped p (row_of m p) (row_of m p).status m before

-- settling keeps stamps apart
pub settle-stamped : (tables : Tables) (m : Moment) → IsStamped m → IsStamped (settle tables m)
settle-stamped tables m before = settle-keeps IsStamped tables (λ old next e here. change_made-stamped next.0 next.1 old here) m before

-- one of two moments that are stamped
either-stamped : (b : Bool) (m m' : Moment) → IsStamped m → IsStamped m' → IsStamped (cond b m m')
either-stamped true m m' here other = here
either-stamped false m m' here other = other

-- a process that isn't inside an UPDATE block ends, or stays as it is
killed_outside-stamped : (p : ℕ) (s : Status) (m : Moment) → IsStamped m → IsStamped (killed_outside p (row_of m p) s m)
killed_outside-stamped p status.Idle m before = before
killed_outside-stamped p (status.Ending how) m before = before
killed_outside-stamped p other m before =
    let after : IsStamped (with_row p (record (row_of m p) { status = status.Ending Terminated }) m) = with_row-stamped p (record (row_of m p) { status = status.Ending Terminated }) m (λ e. cc) before in
    record { below = after.below; apart = after.apart }

-- killing keeps stamps apart
killed-stamped : (p : ℕ) (m : Moment) → IsStamped m → IsStamped (killed p m)
killed-stamped p m before = either-stamped (row_of m p).inside (with_row p (record (row_of m p) { doomed = true }) m) (killed_outside p (row_of m p) (row_of m p).status m)
    (with_row-stamped p (record (row_of m p) { doomed = true }) m (λ ready. (ready, refl)) before) (killed_outside-stamped p (row_of m p).status m before)

-- killing several keeps stamps apart
all_killed-stamped : (processes : List ℕ) (m : Moment) → IsStamped m → IsStamped (all_killed processes m)
all_killed-stamped [] m before = before
all_killed-stamped (p ∷ processes) m before = all_killed-stamped processes (killed p m) (killed-stamped p m before)

-- killing a process and its descendants keeps stamps apart
family_killed-stamped : (head : ℕ) (m : Moment) → IsStamped m → IsStamped (family_killed head m)
family_killed-stamped head m before = all_killed-stamped (family m.rows head) m before

-- a plan doesn't begin Ready
start_status-waits : (now : ℕ) (when_ : When) → is_ready_status (start_status now when_) ≡ true → ⊥
start_status-waits now when.Now e = cc
start_status-waits now (when.At t) e = cc
start_status-waits now (when.After t) e = cc
start_status-waits now (when.On x) e = cc

-- a SCHEDULE keeps stamps apart
schedule_done-stamped : (p : ℕ) (plan : Plan) (m : Moment) → IsStamped m → IsStamped (schedule_done p plan (row_of m plan.process) m)
schedule_done-stamped p plan m before =
    let new : Moment = with_row plan.process (scheduled p m.clock plan (row_of m plan.process)) m in
    let after : IsStamped new = with_row-stamped plan.process (scheduled p m.clock plan (row_of m plan.process)) m (λ ready. absurd (start_status-waits m.clock plan.when ready)) before in
    either-stamped (is_active (row_of m plan.process)) (answered p _ m) (answered p _ new) (answered-stamped p _ m before) (answered-stamped p _ new after)

-- a CANCEL keeps stamps apart
cancel_done-stamped : (p q : ℕ) (m : Moment) → IsStamped m → IsStamped (cancel_done p q (row_of m q) m)
cancel_done-stamped p q m before =
    let new : Moment = with_row q (record (row_of m q) { cancelled = true }) m in
    let after : IsStamped new = with_row-stamped q (record (row_of m q) { cancelled = true }) m (λ ready. (ready, refl)) before in
    either-stamped (is_active (row_of m q)) (answered p _ new) (answered p _ m) (answered-stamped p _ new after) (answered-stamped p _ m before)

-- a new priority keeps stamps apart
priority_done-stamped : (p q priority : ℕ) (m : Moment) → IsStamped m → IsStamped (priority_done p q priority (row_of m q) m)
priority_done-stamped p q priority m before =
    let new : Moment = with_row q (record (row_of m q) { priority = priority }) m in
    let after : IsStamped new = with_row-stamped q (record (row_of m q) { priority = priority }) m (λ ready. (ready, refl)) before in
    either-stamped (is_active (row_of m q)) (answered p _ new) (answered p _ m) (answered-stamped p _ new after) (answered-stamped p _ m before)

-- a TERMINATE keeps stamps apart
terminate_done-stamped : (p q : ℕ) (m : Moment) → IsStamped m → IsStamped (terminate_done p q (row_of m q) m)
terminate_done-stamped p q m before =
    let new : Moment = family_killed q m in
    let after : IsStamped new = family_killed-stamped q m before in
    either-stamped (is_active (row_of m q)) _ (answered p _ m)
    (either-stamped (is_of_family m.rows p q) _ (answered p _ m)
    (either-stamped (is_of_family m.rows q p) new (answered p _ new) after (answered-stamped p _ new after))
    (answered-stamped p _ m before))
    (answered-stamped p _ m before)

-- a status that isn't Ready, if any
abbrev Waits : Option Status → Type 0
Waits None = Unit {0}
Waits (Some s) = is_ready_status s ≡ true → ⊥

-- one of two that wait
either-waits : (b : Bool) (o o' : Option Status) → Waits o → Waits o' → Waits (cond b o o')
either-waits true o o' here other = here
either-waits false o o' here other = other

-- a WAIT gives no Ready status
wait_status-waits : (tables : Tables) (m : Moment) (p : ℕ) (waits : Pause) → Waits (wait_status tables m p waits)
wait_status-waits tables m p (pause.For t) = either-waits (nat_le (later m.clock t) m.clock) None (Some (status.Time (later m.clock t))) tt (λ e. cc)
wait_status-waits tables m p (pause.Till t) = either-waits (nat_le (not_before m.clock t) m.clock) None (Some (status.Time (not_before m.clock t))) tt (λ e. cc)
wait_status-waits tables m p (pause.Event x) = either-waits (truth tables m x) None (Some (status.Event x)) tt (λ e. cc)
wait_status-waits tables m p pause.Dependents = either-waits (has_dependents m.rows p) (Some status.Dependents) None (λ e. cc) tt

-- a WAIT keeps stamps apart
wait_begun-stamped : (p : ℕ) (o : Option Status) (m : Moment) → Waits o → IsStamped m → IsStamped (wait_begun p (row_of m p) o m)
wait_begun-stamped p None m waits before = answered-stamped p Done m before
wait_begun-stamped p (Some s) m waits before = with_row-stamped p (record (row_of m p) { status = s }) m (λ ready. absurd (waits ready)) before

-- an event of another value keeps stamps apart
with_event-stamped : (tables : Tables) (e : ℕ) (to : Bool) (m : Moment) → IsStamped m → IsStamped (with_event tables e to m)
with_event-stamped tables e to m before = record { below = before.below; apart = before.apart }

-- a SIGNAL keeps stamps apart
signal_done-stamped : (tables : Tables) (p e : ℕ) (m : Moment) → IsStamped m → IsStamped (signal_done tables p e m)
signal_done-stamped tables p e m before =
    let new : Moment = settle tables (with_event tables e true m) in
    let after : IsStamped new = settle-stamped tables (with_event tables e true m) (with_event-stamped tables e true m before) in
    answered-stamped p Done (with_event tables e (event_of tables m e) new) (with_event-stamped tables e (event_of tables m e) new after)

-- a READ keeps stamps apart
input_done-stamped : (p channel : ℕ) (kind : Kind) (left : List (List ℕ)) (m : Moment) → IsStamped m → IsStamped (input_done p channel kind left m)
input_done-stamped p channel kind [] m before = answered-stamped p _ m before
input_done-stamped p channel kind (datum ∷ rest) m before = record { below = before.below; apart = before.apart }

-- a process whose cycle is done isn't Ready
next_status-waits : (now : ℕ) (row : Row) (cycle_ : Cycle) → is_ready_status (next_status now row cycle_) ≡ true → ⊥
next_status-waits now row cycle.Once e = cc
next_status-waits now row cycle.Again e = cc
next_status-waits now row (cycle.Every t) e = cc
next_status-waits now row (cycle.After t) e = cc

-- nor is one that is cancelled
finished-waits : (now : ℕ) (row : Row) → is_ready (finished now row) ≡ true → ⊥
finished-waits now row = go row.cancelled where
  go : (b : Bool) → is_ready_status (cond b (status.Ending Cancelled) (next_status now row row.cycle)) ≡ true → ⊥
  go true e = cc
  go false e = next_status-waits now row row.cycle e

-- an error keeps stamps apart
stop_done-stamped : (p : ℕ) (e : ErrNo) (m : Moment) → IsStamped m → IsStamped (stop_done p e m)
stop_done-stamped p e m before =
    let new : Moment = family_killed p m in
    with_row-stamped p (record (row_of new p) { status = status.Ending (Error e) }) new (λ ready. cc) (family_killed-stamped p m before)

-- what a request does keeps stamps apart
effect-stamped : (tables : Tables) (p : ℕ) (asked : Request) (m : Moment) → IsStamped m → IsStamped (effect tables p (row_of m p) asked m)
effect-stamped tables p request.Begin m before =
    let new : Moment = with_row p (record (row_of m p) { begun = true; started = true }) m in
    answered-stamped p _ new (with_row-stamped p (record (row_of m p) { begun = true; started = true }) m (λ ready. (ready, refl)) before)
effect-stamped tables p (request.Read spot) m before = answered-stamped p _ m before
effect-stamped tables p (request.Write cell v) m before = record { below = before.below; apart = before.apart }
effect-stamped tables p request.Pass m before = answered-stamped p _ m before
effect-stamped tables p (request.Update groups) m before = before
effect-stamped tables p (request.Schedule plan) m before = schedule_done-stamped p plan m before
effect-stamped tables p (request.Cancel q) m before = cancel_done-stamped p q m before
effect-stamped tables p (request.Terminate q) m before = terminate_done-stamped p q m before
effect-stamped tables p (request.Wait waits) m before = wait_begun-stamped p (wait_status tables m p waits) m (wait_status-waits tables m p waits) before
effect-stamped tables p (request.Signal e) m before = signal_done-stamped tables p e m before
effect-stamped tables p (request.Set e) m before = record { below = before.below; apart = before.apart }
effect-stamped tables p (request.Reset e) m before = record { below = before.below; apart = before.apart }
effect-stamped tables p (request.Priority q priority) m before = priority_done-stamped p q priority m before
effect-stamped tables p (request.Print channel line) m before = record { below = before.below; apart = before.apart }
effect-stamped tables p (request.Input channel kind) m before = input_done-stamped p channel kind (slice_index_or m.input channel []) m before
effect-stamped tables p request.Now m before = answered-stamped p _ m before
effect-stamped tables p (request.Stop e) m before = stop_done-stamped p e m before
effect-stamped tables p request.Finish m before =
    let new : Moment = with_row p (finished m.clock (row_of m p)) m in
    answered-stamped p Done new (with_row-stamped p (finished m.clock (row_of m p)) m (λ ready. absurd (finished-waits m.clock (row_of m p) ready)) before)
effect-stamped tables p (request.Look cell) m before = before
effect-stamped tables p (request.Close turns) m before = before

-- the end of an UPDATE block keeps stamps apart
block_left-stamped : (p : ℕ) (m : Moment) → IsStamped m → IsStamped (block_left p (row_of m p) m)
block_left-stamped p m before =
    let dead : Moment = with_row p (record (row_of m p) { inside = false; status = status.Ending Terminated }) m in
    either-stamped (row_of m p).doomed (answered p Killed dead) (with_row p (record (row_of m p) { inside = false }) m)
    (answered-stamped p Killed dead (with_row-stamped p (record (row_of m p) { inside = false; status = status.Ending Terminated }) m (λ ready. cc) before))
    (with_row-stamped p (record (row_of m p) { inside = false }) m (λ ready. (ready, refl)) before)

-- an UPDATE block keeps stamps apart
block_done-stamped : (p turns : ℕ) (writes : Option (List (ℕ × Value))) (m : Moment) → IsStamped m → IsStamped (block_done p turns writes m)
block_done-stamped p turns None m before = before
block_done-stamped p turns (Some writes) m before =
    let new : Moment = answered p (Block m.store turns) (record m { store = written m.store writes }) in
    block_left-stamped p new (record { below = before.below; apart = before.apart })

-- an event keeps stamps apart, before the rows settle
pub event_done-stamped : (q : Meaning) (m : Moment) (happens : Event) → IsStamped m → IsStamped (event_done q m happens)
event_done-stamped q m (event.Act p) before = effect-stamped q.tables p (request_of q m p) m before
event_done-stamped q m (event.Open p) before = with_row-stamped p (record (row_of m p) { inside = true }) m (λ ready. (ready, refl)) before
event_done-stamped q m (event.Block p turns) before = block_done-stamped p turns (block_of q m p turns) m before
event_done-stamped q m (event.Tick time) before = record { below = before.below; apart = before.apart }
event_done-stamped q m (event.Preempt p) before = either-stamped (is_ready (row_of m p)) (made_ready p (row_of m p) m) m (made_ready-stamped p (row_of m p) m before) before

-- an event keeps stamps apart
pub stepped-stamped : (q : Meaning) (m : Moment) (happens : Event) → IsStamped m → IsStamped (stepped q m happens)
stepped-stamped q m happens before = settle-stamped q.tables (event_done q m happens) (event_done-stamped q m happens before)

-- no row is Ready before the first settling
opening_row-waits : (first p : ℕ) → is_ready (opening_row first p) ≡ true → ⊥
opening_row-waits first p = cond_both (p == first) _ idle_row (λ row. is_ready row ≡ true → ⊥) (λ same e. cc) (λ other e. cc)

-- no row that a list of processes opens is Ready
opening_rows-wait : (first : ℕ) (processes : List ℕ) (p : ℕ) → is_ready (row_in (map (opening_row first) processes) p) ≡ true → ⊥
opening_rows-wait first [] p e = cc
opening_rows-wait first (o ∷ processes) zero e = opening_row-waits first o e
opening_rows-wait first (o ∷ processes) (suc p) e = opening_rows-wait first processes p e

-- as a run begins, stamps are apart
pub opening-stamped : (tables : Tables) (script : List ScriptLine) → IsStamped (opening tables script)
opening-stamped tables script = settle-stamped tables (unsettled tables script) (record {
  below = λ p ready. absurd (opening_rows-wait tables.first (range_with_len 0 (process_count tables)) p ready);
  apart = λ p o ready. absurd (opening_rows-wait tables.first (range_with_len 0 (process_count tables)) p ready);
})
