-- A moment stays sound where processes are killed, and which rows stay as they are.
use Rattle.std.specs.Prelude.{◌≡◌, ◌≢◌, ℕ, zero, suc, ◌<◌, ◌≤◌, ◌==◌, Bool, true, false, List, [], ◌∷◌, length, filter, Some, All, Contains, cond}
use Rattle.std.specs.List.{range_with_len}
use Rattle.std.proofs.Common.{sym, subst, refl, ap, ◌∙◌, ⊎_elim, arith}
use Rattle.std.proofs.lemmas.Bool.{cases_eq, cases_lt, cond_both, eq-eqb, or_left}
use Rattle.std.proofs.lemmas.List.{get_or_past, get_or-set_same, length-set}
use Rattle.std.proofs.lemmas.List.Elements.{All-head, All-tail, All-weaker, filter_passes}
use Rattle.std.proofs.lemmas.List.FromFn.{length-range_with_len, get_or-range_with_len}
use Rattle.hal_values.specs.Answers.{Killed}
use Rattle.hal_values.specs.Fitting.{FitAll-killed}
use Rattle.hal_values.specs.Loads.{Meaning, IsLoad}
use Rattle.hal_values.specs.Requests.{HasProcess}
use Rattle.hal_values.specs.Tables.{process_count}
use Rattle.exec_model.specs.declared.row.Row.{Row}
use Rattle.exec_model.specs.declared.status.How.TheVariants.{Terminated}
use Rattle.exec_model.specs.declared.status.Status.{Status}
use Rattle.exec_model.specs.declared.status.Status.TheVariants as status
use Rattle.exec_model.specs.Killing.{leads, is_of_family, family, killed_outside, killed, all_killed, family_killed}
use Rattle.exec_model.specs.Moments.{Moment, row_of, answers_of, with_row, answered}
use Rattle.exec_model.specs.Rows.{idle_row, is_ending, is_ready_status}
use Rattle.exec_model.specs.Sound.{IsSound}
use Rattle.exec_model.proofs.SoundSettling.{IsSameOutside, IsSameOutside-refl, IsSameOutside-trans, IsSameAt, IsSameAt-refl, IsSameAt-trans, with_row-other}
use Rattle.exec_model.proofs.Soundness.{IsSound-row, with_row-sound, answered-with_row-sound, IsRowSound-begins, IsRowSound-same}
use Rattle.std.proofs.lemmas.List.{get_or-set_other}

-- p is answered Killed, and ends terminated
abbrev ended : ℕ → Row → Moment → Moment
ended p row m = answered p Killed (with_row p (record row { status = status.Ending Terminated }) m)

-- so the moment stays sound
ended-sound : (q : Meaning) (m : Moment) (p : ℕ) → IsLoad q → IsSound q m → HasProcess q.tables p → (row_of m p).inside ≡ false → IsSound q (ended p (row_of m p) m)
ended-sound q m p load sound exists outside =
    answered-with_row-sound q m p (record (row_of m p) { status = status.Ending Terminated }) Killed sound
    (IsRowSound-begins q p _ _ (FitAll-killed q p (answers_of m p) (sound.fit p exists)) refl outside (load.restarts p (answers_of m p) exists (sound.fit p exists)))

-- a process outside a block is killed soundly
killed_outside-sound : (q : Meaning) (m : Moment) (p : ℕ) (s : Status) → IsLoad q → IsSound q m → HasProcess q.tables p → (row_of m p).inside ≡ false → IsSound q (killed_outside p (row_of m p) s m)
killed_outside-sound q m p status.Idle load sound exists outside = sound
killed_outside-sound q m p (status.Ending how) load sound exists outside = sound
killed_outside-sound q m p others load sound exists outside = ended-sound q m p load sound exists outside

-- a process is killed soundly, also where there is no such process
pub killed-sound : (q : Meaning) (m : Moment) (p : ℕ) → IsLoad q → IsSound q m → IsSound q (killed p m)
killed-sound q m p load sound = ⊎_elim
    (λ (exists : p < process_count q.tables).
    cond_both (row_of m p).inside _ (killed_outside p (row_of m p) (row_of m p).status m) (IsSound q)
    (λ inside. with_row-sound q m p (record (row_of m p) { doomed = true }) sound (IsRowSound-same q p (row_of m p) _ (answers_of m p) (IsSound-row q m p sound exists) refl refl refl))
    (λ outside. killed_outside-sound q m p (row_of m p).status load sound exists outside))
    (λ (past : process_count q.tables ≤ p).
    subst (λ row. IsSound q (cond row.inside (with_row p (record row { doomed = true }) m) (killed_outside p row row.status m)))
    (sym (get_or_past m.rows p idle_row (subst (λ n. n ≤ p) (sym sound.rows) past))) sound)
    (cases_lt p (process_count q.tables))

-- processes are killed soundly
pub all_killed-sound : (q : Meaning) (processes : List ℕ) (m : Moment) → IsLoad q → IsSound q m → IsSound q (all_killed processes m)
all_killed-sound q [] m load sound = sound
all_killed-sound q (p ∷ processes) m load sound = all_killed-sound q processes (killed p m) load (killed-sound q m p load sound)

-- a process and its descendants are killed soundly
pub family_killed-sound : (q : Meaning) (head : ℕ) (m : Moment) → IsLoad q → IsSound q m → IsSound q (family_killed head m)
family_killed-sound q head m load sound = all_killed-sound q (family m.rows head) m load sound

-- a process outside a block that is killed changes nothing outside its row
killed_outside-outside : (p : ℕ) (row : Row) (s : Status) (m : Moment) → IsSameOutside m (killed_outside p row s m)
killed_outside-outside p row status.Idle m = IsSameOutside-refl m
killed_outside-outside p row (status.Ending how) m = IsSameOutside-refl m
killed_outside-outside p row others m = record { store = refl; clock = refl; events = refl; output = refl; input = refl }

-- nor does any process
pub killed-outside : (p : ℕ) (m : Moment) → IsSameOutside m (killed p m)
killed-outside p m = cond_both (row_of m p).inside _ (killed_outside p (row_of m p) (row_of m p).status m) (IsSameOutside m)
    (λ inside. record { store = refl; clock = refl; events = refl; output = refl; input = refl })
    (λ outside. killed_outside-outside p (row_of m p) (row_of m p).status m)

-- killing changes nothing outside rows and answers
pub all_killed-outside : (processes : List ℕ) (m : Moment) → IsSameOutside m (all_killed processes m)
all_killed-outside [] m = IsSameOutside-refl m
all_killed-outside (p ∷ processes) m = IsSameOutside-trans m (killed p m) _ (killed-outside p m) (all_killed-outside processes (killed p m))

-- another process outside a block is killed
killed_outside-other : (o : ℕ) (row : Row) (s : Status) (m : Moment) (p : ℕ) → p ≢ o → IsSameAt p m (killed_outside o row s m)
killed_outside-other o row status.Idle m p other = IsSameAt-refl p m
killed_outside-other o row (status.Ending how) m p other = IsSameAt-refl p m
killed_outside-other o row others m p other = record { row = get_or-set_other m.rows o p _ idle_row other; answers = get_or-set_other m.answers o p _ [] other }

-- another process is killed
pub killed-other : (o : ℕ) (m : Moment) (p : ℕ) → p ≢ o → IsSameAt p m (killed o m)
killed-other o m p other = cond_both (row_of m o).inside _ (killed_outside o (row_of m o) (row_of m o).status m) (IsSameAt p m)
    (λ inside. with_row-other o _ m p other)
    (λ outside. killed_outside-other o (row_of m o) (row_of m o).status m p other)

-- other processes are killed
pub all_killed-other : (processes : List ℕ) (m : Moment) (p : ℕ) → All (λ o. p ≢ o) processes → IsSameAt p m (all_killed processes m)
all_killed-other [] m p others = IsSameAt-refl p m
all_killed-other (o ∷ processes) m p others =
    IsSameAt-trans p m (killed o m) _ (killed-other o m p (All-head (λ i. p ≢ i) o processes others)) (all_killed-other processes (killed o m) p (All-tail (λ i. p ≢ i) o processes others))

-- a process that isn't of the family that is killed stays as it is
pub family_killed-other : (head : ℕ) (m : Moment) (p : ℕ) → is_of_family m.rows head p ≡ false → IsSameAt p m (family_killed head m)
family_killed-other head m p stranger =
    all_killed-other (family m.rows head) m p
    (All-weaker (λ o. is_of_family m.rows head o ≡ true) (λ o. p ≢ o) (λ o member same. let no = ap (is_of_family m.rows head) same in cc)
    (family m.rows head) (filter_passes (is_of_family m.rows head) (range_with_len 0 (length m.rows))))

-- the row has ended, outside a block
pub record HasEnded (row : Row) : Type 0 where
  pub ends : is_ending row.status ≡ true
  pub outside : row.inside ≡ false

-- a row that has ended isn't killed again
killed_outside-ended : (p : ℕ) (row : Row) (s : Status) (m : Moment) → is_ending s ≡ true → killed_outside p row s m ≡ m
killed_outside-ended p row (status.Ending how) m e = refl
killed_outside-ended p row others m e = absurd cc

-- so it stays where processes are killed
killed-ended : (o : ℕ) (m : Moment) (p : ℕ) → HasEnded (row_of m p) → HasEnded (row_of (killed o m) p)
killed-ended o m p has = ⊎_elim
    (λ (same : p ≡ o).
    cond_both (row_of m o).inside _ (killed_outside o (row_of m o) (row_of m o).status m) (λ n. HasEnded (row_of n p))
    (λ inside. absurd (let no = ap (λ i. (row_of m i).inside) same in let out = has.outside in cc))
    (λ outside. subst (λ n. HasEnded (row_of n p)) (sym (killed_outside-ended o (row_of m o) (row_of m o).status m (ap (λ i. is_ending (row_of m i).status) (sym same) ∙ has.ends))) has))
    (λ (other : p ≡ o → ⊥). subst HasEnded (sym (killed-other o m p other).row) has)
    (cases_eq p o)

-- the same of several
all_killed-ended : (processes : List ℕ) (m : Moment) (p : ℕ) → HasEnded (row_of m p) → HasEnded (row_of (all_killed processes m) p)
all_killed-ended [] m p has = has
all_killed-ended (o ∷ processes) m p has = all_killed-ended processes (killed o m) p (killed-ended o m p has)

-- a Ready row outside a block that is killed has ended
killed_outside-ends : (p : ℕ) (s : Status) (m : Moment) → p < length m.rows → is_ready_status s ≡ true → (row_of m p).inside ≡ false → HasEnded (row_of (killed_outside p (row_of m p) s m) p)
killed_outside-ends p status.Ready m exists ready outside = subst HasEnded (sym (get_or-set_same m.rows p _ idle_row exists)) (record { ends = refl; outside = outside })
killed_outside-ends p others m exists ready outside = absurd cc

-- the same, where it may be inside a block
killed-ends : (m : Moment) (p : ℕ) → p < length m.rows → is_ready_status (row_of m p).status ≡ true → (row_of m p).inside ≡ false → HasEnded (row_of (killed p m) p)
killed-ends m p exists ready out = cond_both (row_of m p).inside _ (killed_outside p (row_of m p) (row_of m p).status m) (λ n. HasEnded (row_of n p))
    (λ inside. absurd cc)
    (λ outside. killed_outside-ends p (row_of m p).status m exists ready outside)

-- killing keeps the number of rows
length-killed : (p : ℕ) (m : Moment) → length (killed p m).rows ≡ length m.rows
length-killed p m = cond_both (row_of m p).inside _ (killed_outside p (row_of m p) (row_of m p).status m) (λ n. length n.rows ≡ length m.rows)
    (λ inside. length-set m.rows p _)
    (λ outside. length-killed_outside p (row_of m p) (row_of m p).status m)
  where
    length-killed_outside : (p : ℕ) (row : Row) (s : Status) (m : Moment) → length (killed_outside p row s m).rows ≡ length m.rows
    length-killed_outside p row status.Idle m = refl
    length-killed_outside p row (status.Ending how) m = refl
    length-killed_outside p row others m = length-set m.rows p (record row { status = status.Ending Terminated })

-- an element other than the first is one of the others
Contains-later : (o : ℕ) (processes : List ℕ) (p : ℕ) → Contains (o ∷ processes) p → (p ≡ o → ⊥) → Contains processes p
Contains-later o processes p (zero, inside, e) other = absurd (other (sym e))
Contains-later o processes p (suc k, inside, e) other = (k, omega arith, e)

-- each Ready row outside a block has ended that is killed among others
all_killed-ends : (processes : List ℕ) (m : Moment) (p : ℕ) → Contains processes p → p < length m.rows → is_ready_status (row_of m p).status ≡ true → (row_of m p).inside ≡ false → HasEnded (row_of (all_killed processes m) p)
all_killed-ends [] m p (k, inside, e) exists ready outside = absurd (omega arith)
all_killed-ends (o ∷ processes) m p among exists ready outside = ⊎_elim
    (λ (same : p ≡ o). all_killed-ended processes (killed o m) p (subst (λ i. HasEnded (row_of (killed i m) p)) same (killed-ends m p exists ready outside)))
    (λ (other : p ≡ o → ⊥).
    let row = (killed-other o m p other).row in
    all_killed-ends processes (killed o m) p (Contains-later o processes p among other) (subst (λ n. p < n) (sym (length-killed o m)) exists)
    (ap (λ (r : Row). is_ready_status r.status) row ∙ ready) (ap (λ (r : Row). r.inside) row ∙ outside))
    (cases_eq p o)

-- an element that passes stays
filter-contains : (test : ℕ → Bool) (numbers : List ℕ) (p : ℕ) → Contains numbers p → test p ≡ true → Contains (filter test numbers) p
filter-contains test [] p (k, inside, e) passes = absurd (omega arith)
filter-contains test (o ∷ numbers) p (zero, inside, e) passes =
    cond_both (test o) (o ∷ filter test numbers) (filter test numbers) (λ kept. Contains kept p) (λ yes. (zero, omega arith, e)) (λ no. absurd (let also = ap test e in cc))
filter-contains test (o ∷ numbers) p (suc k, inside, e) passes =
    let later : Contains (filter test numbers) p = filter-contains test numbers p (k, omega arith, e) passes in
    cond_both (test o) (o ∷ filter test numbers) (filter test numbers) (λ kept. Contains kept p) (λ yes. (suc later.0, omega (arith, later.1), later.2)) (λ no. later)

-- a process is of its own family
of_own_family : (steps : ℕ) (rows : List Row) (p : ℕ) → leads steps rows (Some p) p ≡ true
of_own_family zero rows p = eq-eqb p p refl
of_own_family (suc steps) rows p = or_left (p == p) _ (eq-eqb p p refl)

-- so it is among those that are killed
family-self : (rows : List Row) (p : ℕ) → p < length rows → Contains (family rows p) p
family-self rows p exists =
    filter-contains (is_of_family rows p) (range_with_len 0 (length rows)) p
    (p, subst (λ n. p < n) (sym (length-range_with_len 0 (length rows))) exists, get_or-range_with_len 0 (length rows) p p exists ∙ omega arith)
    (of_own_family (length rows) rows p)

-- a Ready process outside a block has ended whose family is killed
pub family_killed-ends : (m : Moment) (p : ℕ) → p < length m.rows → is_ready_status (row_of m p).status ≡ true → (row_of m p).inside ≡ false → HasEnded (row_of (family_killed p m) p)
family_killed-ends m p exists ready outside = all_killed-ends (family m.rows p) m p (family-self m.rows p exists) exists ready outside
