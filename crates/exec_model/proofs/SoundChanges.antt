-- A moment stays sound where rows change by themselves.
use Rattle.std.specs.Prelude.{◌≡◌, ℕ, true, false, not, ◌&&◌, List, [], ◌∷◌, ◌++◌, Some}
use Rattle.std.proofs.Common.{sym, refl, ap, ◌∙◌, inr}
use Rattle.std.proofs.lemmas.Bool.{and_parts, not-true}
use Rattle.std.proofs.lemmas.List.{set-get_or}
use Rattle.hal_values.specs.declared.request.Request.{Request}
use Rattle.hal_values.specs.declared.request.Request.TheVariants as request
use Rattle.hal_values.specs.declared.tables.Tables.{Tables}
use Rattle.hal_values.specs.Answers.{Answered, Done, Ends, FitsAlive}
use Rattle.hal_values.specs.Fitting.{FitAll-push}
use Rattle.hal_values.specs.Loads.{Meaning}
use Rattle.hal_values.specs.Requests.{HasProcess}
use Rattle.exec_model.specs.declared.change.Change.{Change}
use Rattle.exec_model.specs.declared.change.Change.TheVariants.{Cancels, Drops, Leaves, Readies}
use Rattle.exec_model.specs.declared.row.Row.{Row}
use Rattle.exec_model.specs.declared.status.How.TheVariants.{Cancelled}
use Rattle.exec_model.specs.declared.status.Status.{Status}
use Rattle.exec_model.specs.declared.status.Status.TheVariants as status
use Rattle.exec_model.specs.Moments.{Moment, row_of, answers_of}
use Rattle.exec_model.specs.Rows.{is_ready, is_ready_status, is_waiting, is_before_cycle}
use Rattle.exec_model.specs.Settling.{first_change, can_make, left_row, wait_done, change_made}
use Rattle.exec_model.specs.Sound.{IsSound, IsWait, is_between}
use Rattle.exec_model.proofs.Settled.{first_change-can}
use Rattle.exec_model.proofs.Soundness.{IsRowSound, IsSound-row, IsSound-set, with_row-sound, made_ready-sound, answered-made_ready-sound, IsRowSound-begins, IsRowSound-ready, IsRowSound-same, begins_no_wait, begins_outside, unready_outside, asks_begun}

-- a WAIT is answered Done
pub waits-done : (tables : Tables) (ends : Ends) (asked : Request) → IsWait asked → FitsAlive tables ends asked Done
waits-done tables ends (request.Wait pause) waits = refl
waits-done tables ends asked waits = absurd waits

-- a row between its cycles becomes Ready
IsRowSound-readied : (q : Meaning) (p : ℕ) (row new : Row) (answers : List Answered) → IsRowSound q p row answers → is_between row.status ≡ true → is_waiting new.status ≡ false → new.inside ≡ row.inside → IsRowSound q p new answers
IsRowSound-readied q p row new answers sound between awake same =
    let asks = sound.between between in
    IsRowSound-begins q p new answers sound.fit awake (same ∙ begins_outside q p row answers sound asks) asks

-- a row whose WAIT is over becomes Ready, and its process is answered Done
IsRowSound-woken : (q : Meaning) (p : ℕ) (row new : Row) (answers : List Answered) → IsRowSound q p row answers → is_waiting row.status ≡ true → is_ready row ≡ false → is_ready new ≡ true → new.inside ≡ row.inside → new.begun ≡ row.begun
    → IsRowSound q p new (answers ++ Done ∷ [])
IsRowSound-woken q p row new answers sound waits unready ready inside begun =
    IsRowSound-ready q p new (answers ++ Done ∷ [])
    (FitAll-push q p answers Done sound.fit (inr (waits-done q.tables (q.block p answers) (q.next p answers) (sound.waits waits))))
    ready
    (inside ∙ unready_outside q p row answers sound unready)
    (begun ∙ asks_begun q p row answers sound (λ e. begins_no_wait (q.next p answers) e (sound.waits waits)))

-- a row whose wait is over becomes Ready soundly
wait_done-sound : (q : Meaning) (m : Moment) (p : ℕ) (s : Status) → IsSound q m → HasProcess q.tables p → (row_of m p).status ≡ s → IsSound q (wait_done p (row_of m p) s m)
wait_done-sound q m p status.Idle sound exists e = sound
wait_done-sound q m p (status.Start t) sound exists e =
    made_ready-sound q m p (record (row_of m p) { start = t }) sound (IsRowSound-readied q p (row_of m p) _ (answers_of m p) (IsSound-row q m p sound exists) (ap is_between e) refl refl)
wait_done-sound q m p (status.StartOn x) sound exists e =
    made_ready-sound q m p (record (row_of m p) { start = m.clock }) sound (IsRowSound-readied q p (row_of m p) _ (answers_of m p) (IsSound-row q m p sound exists) (ap is_between e) refl refl)
wait_done-sound q m p status.Ready sound exists e = sound
wait_done-sound q m p (status.Time t) sound exists e =
    answered-made_ready-sound q m p (row_of m p) Done sound (IsRowSound-woken q p (row_of m p) _ (answers_of m p) (IsSound-row q m p sound exists) (ap is_waiting e) (ap is_ready_status e) refl refl refl)
wait_done-sound q m p (status.Event x) sound exists e =
    answered-made_ready-sound q m p (row_of m p) Done sound (IsRowSound-woken q p (row_of m p) _ (answers_of m p) (IsSound-row q m p sound exists) (ap is_waiting e) (ap is_ready_status e) refl refl refl)
wait_done-sound q m p status.Dependents sound exists e =
    answered-made_ready-sound q m p (row_of m p) Done sound (IsRowSound-woken q p (row_of m p) _ (answers_of m p) (IsSound-row q m p sound exists) (ap is_waiting e) (ap is_ready_status e) refl refl refl)
wait_done-sound q m p (status.Gap t) sound exists e =
    made_ready-sound q m p (record (row_of m p) { start = t }) sound (IsRowSound-readied q p (row_of m p) _ (answers_of m p) (IsSound-row q m p sound exists) (ap is_between e) refl refl)
wait_done-sound q m p (status.Ending how) sound exists e = sound

-- a row that has ended becomes Idle soundly
left_row-sound : (q : Meaning) (m : Moment) (p : ℕ) (s : Status) → IsSound q m → HasProcess q.tables p → (row_of m p).status ≡ s → IsSound q (left_row p (row_of m p) s m)
left_row-sound q m p (status.Ending how) sound exists e =
    IsSound-set q m (left_row p (row_of m p) (status.Ending how) m) p (record (row_of m p) { status = status.Idle }) (answers_of m p) sound refl (sym (set-get_or m.answers p [])) sound.events sound.store sound.clock
    (IsRowSound-readied q p (row_of m p) _ (answers_of m p) (IsSound-row q m p sound exists) (ap is_between e) refl refl)
left_row-sound q m p status.Idle sound exists e = sound
left_row-sound q m p (status.Start t) sound exists e = sound
left_row-sound q m p (status.StartOn x) sound exists e = sound
left_row-sound q m p status.Ready sound exists e = sound
left_row-sound q m p (status.Time t) sound exists e = sound
left_row-sound q m p (status.Event x) sound exists e = sound
left_row-sound q m p status.Dependents sound exists e = sound
left_row-sound q m p (status.Gap t) sound exists e = sound

-- a cancelled row of which no cycle has begun is dropped
IsRowSound-dropped : (q : Meaning) (p : ℕ) (row new : Row) (answers : List Answered) → IsRowSound q p row answers → row.begun ≡ false → is_waiting new.status ≡ false → new.inside ≡ row.inside → IsRowSound q p new answers
IsRowSound-dropped q p row new answers sound fresh awake same =
    let asks = sound.begins fresh in
    IsRowSound-begins q p new answers sound.fit awake (same ∙ begins_outside q p row answers sound asks) asks

-- a change that can be made keeps a moment sound
can_make-sound : (q : Meaning) (m : Moment) (p : ℕ) (change : Change) → IsSound q m → HasProcess q.tables p → can_make q.tables m p (row_of m p) change ≡ true → IsSound q (change_made p (row_of m p) change m)
can_make-sound q m p Cancels sound exists can =
    with_row-sound q m p (record (row_of m p) { cancelled = true }) sound (IsRowSound-same q p (row_of m p) _ (answers_of m p) (IsSound-row q m p sound exists) refl refl refl)
can_make-sound q m p Drops sound exists can =
    let outer = and_parts (row_of m p).cancelled (not (row_of m p).begun && is_before_cycle (row_of m p).status) can in
    let inner = and_parts (not (row_of m p).begun) (is_before_cycle (row_of m p).status) outer.1 in
    with_row-sound q m p (record (row_of m p) { status = status.Ending Cancelled }) sound
    (IsRowSound-dropped q p (row_of m p) _ (answers_of m p) (IsSound-row q m p sound exists) (not-true (row_of m p).begun inner.0) refl refl)
can_make-sound q m p Leaves sound exists can = left_row-sound q m p (row_of m p).status sound exists refl
can_make-sound q m p Readies sound exists can = wait_done-sound q m p (row_of m p).status sound exists refl

-- a change that a row makes by itself keeps a moment sound
pub change_made-sound : (q : Meaning) (m : Moment) (p : ℕ) (change : Change) → IsSound q m → HasProcess q.tables p → first_change q.tables m p (row_of m p) ≡ Some change → IsSound q (change_made p (row_of m p) change m)
change_made-sound q m p change sound exists first = can_make-sound q m p change sound exists (first_change-can q.tables m p (row_of m p) change first)
