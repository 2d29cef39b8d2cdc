-- What holds of one row and its answers at every moment of a run, and how a moment stays sound where one row changes.
use Rattle.std.specs.Prelude.{◌≡◌, ℕ, ◌<◌, ◌≤◌, true, false, List, [], ◌∷◌, ◌++◌, length, slice_set}
use Rattle.std.proofs.Common.{sym, subst, refl, ap, ◌∙◌, ⊎_elim}
use Rattle.std.proofs.lemmas.Bool.{cases_eq, cases_Bool}
use Rattle.std.proofs.lemmas.List.{length-set, get_or-set_same, get_or-set_other, set-get_or}
use Rattle.hal_base.specs.declared.limits.TheConstants.{TICK_SUM_LIMIT}
use Rattle.hal_values.specs.declared.request.Request.{Request}
use Rattle.hal_values.specs.declared.request.Request.TheVariants as request
use Rattle.hal_values.specs.Answers.{Answered}
use Rattle.hal_values.specs.Loads.{Meaning, FitAll, IsUpdate}
use Rattle.hal_values.specs.Requests.{HasProcess}
use Rattle.hal_values.specs.Tables.{process_count, IsSnapshot}
use Rattle.exec_model.specs.declared.row.Row.{Row}
use Rattle.exec_model.specs.declared.status.Status.{Status}
use Rattle.exec_model.specs.declared.status.Status.TheVariants as status
use Rattle.exec_model.specs.Moments.{Moment, row_of, answers_of, answers_in, with_row, answered, made_ready}
use Rattle.exec_model.specs.Rows.{row_in, idle_row, is_ready, is_ready_status, is_waiting}
use Rattle.exec_model.specs.Sound.{IsSound, IsWait, is_between}

-- what holds of a process with this row and these answers
pub record IsRowSound (q : Meaning) (p : ℕ) (row : Row) (answers : List Answered) : Type 0 where
  pub fit : FitAll q p answers
  pub waits : is_waiting row.status ≡ true → IsWait (q.next p answers)
  pub blocks : row.inside ≡ true → (is_ready row ≡ true) × IsUpdate (q.next p answers)
  pub begins : row.begun ≡ false → q.next p answers ≡ request.Begin
  pub between : is_between row.status ≡ true → q.next p answers ≡ request.Begin

-- it holds of each process at a sound moment
pub IsSound-row : (q : Meaning) (m : Moment) (p : ℕ) → IsSound q m → HasProcess q.tables p → IsRowSound q p (row_of m p) (answers_of m p)
IsSound-row q m p sound exists = record {
  fit = sound.fit p exists;
  waits = sound.waits p exists;
  blocks = sound.blocks p exists;
  begins = sound.begins p exists;
  between = sound.between p exists;
}

-- a moment is sound at which it holds of each process
pub IsSound-from_rows : (q : Meaning) (m : Moment) → length m.rows ≡ process_count q.tables → length m.answers ≡ process_count q.tables → length m.events ≡ length q.tables.events
    → IsSnapshot q.tables.cells m.store → m.clock ≤ TICK_SUM_LIMIT → ((p : ℕ) → HasProcess q.tables p → IsRowSound q p (row_of m p) (answers_of m p)) → IsSound q m
IsSound-from_rows q m rows answers events store clock each = record {
  rows = rows;
  answers = answers;
  events = events;
  store = store;
  clock = clock;
  fit = λ p exists. (each p exists).fit;
  waits = λ p exists. (each p exists).waits;
  blocks = λ p exists. (each p exists).blocks;
  begins = λ p exists. (each p exists).begins;
  between = λ p exists. (each p exists).between;
}

-- where one row and its answers are replaced, it holds of each process
rows_set : (q : Meaning) (rows : List Row) (answers : List (List Answered)) (p : ℕ) (row : Row) (given : List Answered) → length rows ≡ process_count q.tables → length answers ≡ process_count q.tables
    → ((o : ℕ) → HasProcess q.tables o → IsRowSound q o (row_in rows o) (answers_in answers o)) → IsRowSound q p row given
    → (o : ℕ) → HasProcess q.tables o → IsRowSound q o (row_in (slice_set rows p row) o) (answers_in (slice_set answers p given) o)
rows_set q rows answers p row given many told each new o exists = ⊎_elim
    (λ (e : o ≡ p).
    let inside : p < length rows = subst (λ i. i < length rows) e (subst (λ n. o < n) (sym many) exists) in
    let known : p < length answers = subst (λ i. i < length answers) e (subst (λ n. o < n) (sym told) exists) in
    subst (λ i. IsRowSound q i (row_in (slice_set rows p row) i) (answers_in (slice_set answers p given) i)) (sym e)
    (subst (λ r. IsRowSound q p r (answers_in (slice_set answers p given) p)) (sym (get_or-set_same rows p row idle_row inside))
    (subst (λ a. IsRowSound q p row a) (sym (get_or-set_same answers p given [] known)) new)))
    (λ (e : o ≡ p → ⊥).
    subst (λ r. IsRowSound q o r (answers_in (slice_set answers p given) o)) (sym (get_or-set_other rows p o row idle_row e))
    (subst (λ a. IsRowSound q o (row_in rows o) a) (sym (get_or-set_other answers p o given [] e)) (each o exists)))
    (cases_eq o p)

-- a moment stays sound where one row and its answers are replaced soundly
pub IsSound-set : (q : Meaning) (m n : Moment) (p : ℕ) (row : Row) (given : List Answered) → IsSound q m → n.rows ≡ slice_set m.rows p row → n.answers ≡ slice_set m.answers p given
    → length n.events ≡ length q.tables.events → IsSnapshot q.tables.cells n.store → n.clock ≤ TICK_SUM_LIMIT → IsRowSound q p row given → IsSound q n
IsSound-set q m n p row given sound r a events store clock new = IsSound-from_rows q n
    (ap length r ∙ length-set m.rows p row ∙ sound.rows)
    (ap length a ∙ length-set m.answers p given ∙ sound.answers)
    events store clock
    (λ o exists.
    subst (λ rows. IsRowSound q o (row_in rows o) (answers_in n.answers o)) (sym r)
    (subst (λ answers. IsRowSound q o (row_in (slice_set m.rows p row) o) (answers_in answers o)) (sym a)
    (rows_set q m.rows m.answers p row given sound.rows sound.answers (λ i there. IsSound-row q m i sound there) new o exists)))

-- a moment stays sound where neither rows nor answers change
pub IsSound-same : (q : Meaning) (m n : Moment) → IsSound q m → n.rows ≡ m.rows → n.answers ≡ m.answers
    → length n.events ≡ length q.tables.events → IsSnapshot q.tables.cells n.store → n.clock ≤ TICK_SUM_LIMIT → IsSound q n
IsSound-same q m n sound r a events store clock = IsSound-from_rows q n (ap length r ∙ sound.rows) (ap length a ∙ sound.answers) events store clock
    (λ o exists.
    subst (λ rows. IsRowSound q o (row_in rows o) (answers_in n.answers o)) (sym r)
    (subst (λ answers. IsRowSound q o (row_in m.rows o) (answers_in answers o)) (sym a) (IsSound-row q m o sound exists)))

-- a row is replaced soundly
pub with_row-sound : (q : Meaning) (m : Moment) (p : ℕ) (row : Row) → IsSound q m → IsRowSound q p row (answers_of m p) → IsSound q (with_row p row m)
with_row-sound q m p row sound new =
    IsSound-set q m (with_row p row m) p row (answers_of m p) sound refl (sym (set-get_or m.answers p [])) sound.events sound.store sound.clock new

-- a process is answered soundly
pub answered-sound : (q : Meaning) (m : Moment) (p : ℕ) (given : Answered) → IsSound q m → IsRowSound q p (row_of m p) (answers_of m p ++ given ∷ []) → IsSound q (answered p given m)
answered-sound q m p given sound new =
    IsSound-set q m (answered p given m) p (row_of m p) (answers_of m p ++ given ∷ []) sound (sym (set-get_or m.rows p idle_row)) refl sound.events sound.store sound.clock new

-- a row is replaced and its process is answered soundly
pub answered-with_row-sound : (q : Meaning) (m : Moment) (p : ℕ) (row : Row) (given : Answered) → IsSound q m → IsRowSound q p row (answers_of m p ++ given ∷ [])
    → IsSound q (answered p given (with_row p row m))
answered-with_row-sound q m p row given sound new =
    IsSound-set q m (answered p given (with_row p row m)) p row (answers_of m p ++ given ∷ []) sound refl refl sound.events sound.store sound.clock new

-- a row becomes Ready soundly
pub made_ready-sound : (q : Meaning) (m : Moment) (p : ℕ) (row : Row) → IsSound q m → IsRowSound q p (record row { status = status.Ready; stamp = m.stamp }) (answers_of m p) → IsSound q (made_ready p row m)
made_ready-sound q m p row sound new =
    IsSound-set q m (made_ready p row m) p (record row { status = status.Ready; stamp = m.stamp }) (answers_of m p) sound refl (sym (set-get_or m.answers p [])) sound.events sound.store sound.clock new

-- a row becomes Ready and its process is answered soundly
pub answered-made_ready-sound : (q : Meaning) (m : Moment) (p : ℕ) (row : Row) (given : Answered) → IsSound q m
    → IsRowSound q p (record row { status = status.Ready; stamp = m.stamp }) (answers_of m p ++ given ∷ []) → IsSound q (answered p given (made_ready p row m))
answered-made_ready-sound q m p row given sound new =
    IsSound-set q m (answered p given (made_ready p row m)) p (record row { status = status.Ready; stamp = m.stamp }) (answers_of m p ++ given ∷ []) sound refl refl sound.events sound.store sound.clock new

-- a Ready status is neither waiting nor between cycles
pub is_ready-others : (s : Status) → is_ready_status s ≡ true → (is_waiting s ≡ false) × (is_between s ≡ false)
is_ready-others status.Idle e = absurd cc
is_ready-others (status.Start t) e = absurd cc
is_ready-others (status.StartOn x) e = absurd cc
is_ready-others status.Ready e = (refl, refl)
is_ready-others (status.Time t) e = absurd cc
is_ready-others (status.Event x) e = absurd cc
is_ready-others status.Dependents e = absurd cc
is_ready-others (status.Gap t) e = absurd cc
is_ready-others (status.Ending how) e = absurd cc

-- a process that is Ready and outside a block, and of which a cycle has begun, is sound after fitting answers
pub IsRowSound-ready : (q : Meaning) (p : ℕ) (row : Row) (answers : List Answered) → FitAll q p answers → is_ready row ≡ true → row.inside ≡ false → row.begun ≡ true → IsRowSound q p row answers
IsRowSound-ready q p row answers fit ready outside begun = let others = is_ready-others row.status ready in record {
  fit = fit;
  waits = λ e. absurd (let no = others.0 in cc);
  blocks = λ e. absurd cc;
  begins = λ e. absurd cc;
  between = λ e. absurd (let no = others.1 in cc);
}

-- a process that asks Begin is sound where it is neither in a WAIT nor inside a block
pub IsRowSound-begins : (q : Meaning) (p : ℕ) (row : Row) (answers : List Answered) → FitAll q p answers → is_waiting row.status ≡ false → row.inside ≡ false → q.next p answers ≡ request.Begin → IsRowSound q p row answers
IsRowSound-begins q p row answers fit awake outside asks = record {
  fit = fit;
  waits = λ e. absurd cc;
  blocks = λ e. absurd cc;
  begins = λ e. asks;
  between = λ e. asks;
}

-- a process whose row differs in nothing that is spoken of
pub IsRowSound-same : (q : Meaning) (p : ℕ) (row new : Row) (answers : List Answered) → IsRowSound q p row answers → new.status ≡ row.status → new.inside ≡ row.inside → new.begun ≡ row.begun → IsRowSound q p new answers
IsRowSound-same q p row new answers sound s i b = record {
  fit = sound.fit;
  waits = λ e. sound.waits (ap is_waiting (sym s) ∙ e);
  blocks = λ e. (ap is_ready_status s ∙ (sound.blocks (sym i ∙ e)).0, (sound.blocks (sym i ∙ e)).1);
  begins = λ e. sound.begins (sym b ∙ e);
  between = λ e. sound.between (ap is_between (sym s) ∙ e);
}

-- no request is both Begin and a WAIT
pub begins_no_wait : (asked : Request) → asked ≡ request.Begin → IsWait asked → ⊥
begins_no_wait asked e waits = subst IsWait e waits

-- no request is both Begin and an UPDATE block
pub begins_no_block : (asked : Request) → asked ≡ request.Begin → IsUpdate asked → ⊥
begins_no_block asked e asks = subst IsUpdate e asks

-- a process that asks Begin is outside a block
pub begins_outside : (q : Meaning) (p : ℕ) (row : Row) (answers : List Answered) → IsRowSound q p row answers → q.next p answers ≡ request.Begin → row.inside ≡ false
begins_outside q p row answers sound asks = ⊎_elim (λ (e : row.inside ≡ true). absurd (begins_no_block (q.next p answers) asks (sound.blocks e).1)) (λ e. e) (cases_Bool row.inside)

-- a process that isn't Ready is outside a block
pub unready_outside : (q : Meaning) (p : ℕ) (row : Row) (answers : List Answered) → IsRowSound q p row answers → is_ready row ≡ false → row.inside ≡ false
unready_outside q p row answers sound unready = ⊎_elim (λ (e : row.inside ≡ true). absurd (let ready = (sound.blocks e).0 in cc)) (λ e. e) (cases_Bool row.inside)

-- of a process that asks something other than Begin a cycle has begun
pub asks_begun : (q : Meaning) (p : ℕ) (row : Row) (answers : List Answered) → IsRowSound q p row answers → (q.next p answers ≡ request.Begin → ⊥) → row.begun ≡ true
asks_begun q p row answers sound other = ⊎_elim (λ e. e) (λ (e : row.begun ≡ false). absurd (other (sound.begins e))) (cases_Bool row.begun)
