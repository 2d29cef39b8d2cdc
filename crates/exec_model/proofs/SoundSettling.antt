-- What settling leaves as it is: soundness, the store, the clock, and a process that may act.
use Rattle.std.specs.Prelude.{◌≡◌, ℕ, ◌<◌, true, false, not, ◌&&◌, List, length, ◌≢◌}
use Rattle.std.proofs.Common.{sym, subst, refl, ap, ◌∙◌, ⊎_elim}
use Rattle.std.proofs.lemmas.Bool.{and_parts, cases_eq}
use Rattle.std.proofs.lemmas.List.{get_or-set_same, get_or-set_other}
use Rattle.hal_values.specs.declared.tables.Tables.{Tables}
use Rattle.hal_values.specs.Answers.{Answered, Done}
use Rattle.hal_values.specs.Loads.{Meaning}
use Rattle.exec_model.specs.declared.change.Change.{Change}
use Rattle.exec_model.specs.declared.change.Change.TheVariants.{Cancels, Drops, Leaves, Readies}
use Rattle.exec_model.specs.declared.row.Row.{Row}
use Rattle.exec_model.specs.declared.status.Status.{Status}
use Rattle.exec_model.specs.declared.status.Status.TheVariants as status
use Rattle.exec_model.specs.Moments.{Moment, row_of, answers_of, with_row, answered, made_ready}
use Rattle.exec_model.specs.Rows.{idle_row, is_ready, is_ready_status, is_ending, is_before_cycle}
use Rattle.exec_model.specs.Settling.{can_make, wait_over, left_row, wait_done, change_made, settle}
use Rattle.exec_model.specs.Sound.{IsSound}
use Rattle.exec_model.proofs.Settled.{first_change-can, next_change-finds, settle-keeps}
use Rattle.exec_model.proofs.SoundChanges.{change_made-sound}

-- settling keeps a moment sound
pub settle-sound : (q : Meaning) (m : Moment) → IsSound q m → IsSound q (settle q.tables m)
settle-sound q m sound =
    settle-keeps (IsSound q) q.tables
    (λ old next e here.
    let found = next_change-finds q.tables old next e in
    change_made-sound q old next.0 next.1 here (subst (λ n. next.0 < n) here.rows found.0) found.1)
    m sound

-- what moments have in common that differ in rows, answers, ends and stamps alone
pub record IsSameOutside (old new : Moment) : Type 0 where
  pub store : new.store ≡ old.store
  pub clock : new.clock ≡ old.clock
  pub events : new.events ≡ old.events
  pub output : new.output ≡ old.output
  pub input : new.input ≡ old.input

-- a moment has all of that in common with itself
pub IsSameOutside-refl : (m : Moment) → IsSameOutside m m
IsSameOutside-refl m = record { store = refl; clock = refl; events = refl; output = refl; input = refl }

-- what is in common along two moves is so along both
pub IsSameOutside-trans : (a b c : Moment) → IsSameOutside a b → IsSameOutside b c → IsSameOutside a c
IsSameOutside-trans a b c first then_ = record {
  store = then_.store ∙ first.store;
  clock = then_.clock ∙ first.clock;
  events = then_.events ∙ first.events;
  output = then_.output ∙ first.output;
  input = then_.input ∙ first.input;
}

-- a row that leaves changes nothing outside
left_row-outside : (p : ℕ) (row : Row) (s : Status) (m : Moment) → IsSameOutside m (left_row p row s m)
left_row-outside p row (status.Ending how) m = record { store = refl; clock = refl; events = refl; output = refl; input = refl }
left_row-outside p row other m = record { store = refl; clock = refl; events = refl; output = refl; input = refl }

-- a row that becomes Ready changes nothing outside
made_ready-outside : (p : ℕ) (row : Row) (m : Moment) → IsSameOutside m (made_ready p row m)
made_ready-outside p row m = record { store = refl; clock = refl; events = refl; output = refl; input = refl }

-- nor where its process is answered too
readied-outside : (p : ℕ) (row : Row) (given : Answered) (m : Moment) → IsSameOutside m (answered p given (made_ready p row m))
readied-outside p row given m = record { store = refl; clock = refl; events = refl; output = refl; input = refl }

-- a row whose wait is over changes nothing outside
wait_done-outside : (p : ℕ) (row : Row) (s : Status) (m : Moment) → IsSameOutside m (wait_done p row s m)
wait_done-outside p row status.Idle m = IsSameOutside-refl m
wait_done-outside p row (status.Start t) m = made_ready-outside p (record row { start = t }) m
wait_done-outside p row (status.StartOn x) m = made_ready-outside p (record row { start = m.clock }) m
wait_done-outside p row status.Ready m = IsSameOutside-refl m
wait_done-outside p row (status.Time t) m = readied-outside p row Done m
wait_done-outside p row (status.Event x) m = readied-outside p row Done m
wait_done-outside p row status.Dependents m = readied-outside p row Done m
wait_done-outside p row (status.Gap t) m = made_ready-outside p (record row { start = t }) m
wait_done-outside p row (status.Ending how) m = IsSameOutside-refl m

-- a change that a row makes by itself changes nothing outside
pub change_made-outside : (p : ℕ) (row : Row) (change : Change) (m : Moment) → IsSameOutside m (change_made p row change m)
change_made-outside p row Cancels m = record { store = refl; clock = refl; events = refl; output = refl; input = refl }
change_made-outside p row Drops m = record { store = refl; clock = refl; events = refl; output = refl; input = refl }
change_made-outside p row Leaves m = left_row-outside p row row.status m
change_made-outside p row Readies m = wait_done-outside p row row.status m

-- settling changes nothing outside
pub settle-outside : (tables : Tables) (m : Moment) → IsSameOutside m (settle tables m)
settle-outside tables m =
    settle-keeps (IsSameOutside m) tables
    (λ old next e here. IsSameOutside-trans m old _ here (change_made-outside next.0 (row_of old next.0) next.1 old))
    m (IsSameOutside-refl m)

-- settling keeps the store
pub settle-store : (tables : Tables) (m : Moment) → (settle tables m).store ≡ m.store
settle-store tables m = (settle-outside tables m).store

-- settling keeps the clock
pub settle-clock : (tables : Tables) (m : Moment) → (settle tables m).clock ≡ m.clock
settle-clock tables m = (settle-outside tables m).clock

-- the row and the answers of a process are the same at both moments
pub record IsSameAt (p : ℕ) (old new : Moment) : Type 0 where
  pub row : row_of new p ≡ row_of old p
  pub answers : answers_of new p ≡ answers_of old p

-- they are the same at one moment
pub IsSameAt-refl : (p : ℕ) (m : Moment) → IsSameAt p m m
IsSameAt-refl p m = record { row = refl; answers = refl }

-- what is the same along two moves is so along both
pub IsSameAt-trans : (p : ℕ) (a b c : Moment) → IsSameAt p a b → IsSameAt p b c → IsSameAt p a c
IsSameAt-trans p a b c first then_ = record { row = then_.row ∙ first.row; answers = then_.answers ∙ first.answers }

-- another row is replaced
pub with_row-other : (o : ℕ) (row : Row) (m : Moment) (p : ℕ) → p ≢ o → IsSameAt p m (with_row o row m)
with_row-other o row m p other = record { row = get_or-set_other m.rows o p row idle_row other; answers = refl }

-- another process is answered
pub answered-other : (o : ℕ) (given : Answered) (m : Moment) (p : ℕ) → p ≢ o → IsSameAt p m (answered o given m)
answered-other o given m p other = record { row = refl; answers = get_or-set_other m.answers o p _ _ other }

-- another row becomes Ready
pub made_ready-other : (o : ℕ) (row : Row) (m : Moment) (p : ℕ) → p ≢ o → IsSameAt p m (made_ready o row m)
made_ready-other o row m p other = record { row = get_or-set_other m.rows o p _ idle_row other; answers = refl }

-- another row becomes Ready, and its process is answered
readied-other : (o : ℕ) (row : Row) (given : Answered) (m : Moment) (p : ℕ) → p ≢ o → IsSameAt p m (answered o given (made_ready o row m))
readied-other o row given m p other = record { row = get_or-set_other m.rows o p _ idle_row other; answers = get_or-set_other m.answers o p _ _ other }

-- another row leaves
left_row-other : (o : ℕ) (row : Row) (s : Status) (m : Moment) (p : ℕ) → p ≢ o → IsSameAt p m (left_row o row s m)
left_row-other o row (status.Ending how) m p other = record { row = get_or-set_other m.rows o p _ idle_row other; answers = refl }
left_row-other o row others m p other = IsSameAt-refl p m

-- another row's wait is over
wait_done-other : (o : ℕ) (row : Row) (s : Status) (m : Moment) (p : ℕ) → p ≢ o → IsSameAt p m (wait_done o row s m)
wait_done-other o row status.Idle m p other = IsSameAt-refl p m
wait_done-other o row (status.Start t) m p other = made_ready-other o (record row { start = t }) m p other
wait_done-other o row (status.StartOn x) m p other = made_ready-other o (record row { start = m.clock }) m p other
wait_done-other o row status.Ready m p other = IsSameAt-refl p m
wait_done-other o row (status.Time t) m p other = readied-other o row Done m p other
wait_done-other o row (status.Event x) m p other = readied-other o row Done m p other
wait_done-other o row status.Dependents m p other = readied-other o row Done m p other
wait_done-other o row (status.Gap t) m p other = made_ready-other o (record row { start = t }) m p other
wait_done-other o row (status.Ending how) m p other = IsSameAt-refl p m

-- another row makes a change by itself
pub change_made-other : (o : ℕ) (row : Row) (change : Change) (m : Moment) (p : ℕ) → p ≢ o → IsSameAt p m (change_made o row change m)
change_made-other o row Cancels m p other = with_row-other o _ m p other
change_made-other o row Drops m p other = with_row-other o _ m p other
change_made-other o row Leaves m p other = left_row-other o row row.status m p other
change_made-other o row Readies m p other = wait_done-other o row row.status m p other

-- a row is Ready and outside a block, and a cycle of it has begun
pub record IsGoing (row : Row) : Type 0 where
  pub ready : is_ready row ≡ true
  pub outside : row.inside ≡ false
  pub begun : row.begun ≡ true

-- a process goes on with these answers
pub record GoesOn (p : ℕ) (given : List Answered) (m : Moment) : Type 0 where
  pub going : IsGoing (row_of m p)
  pub answers : answers_of m p ≡ given

-- a Ready row is none that has ended
is_ready-no_end : (s : Status) → is_ready_status s ≡ true → is_ending s ≡ false
is_ready-no_end (status.Ending how) e = cc
is_ready-no_end other e = refl

-- a Ready row waits for nothing
is_ready-no_wait : (tables : Tables) (m : Moment) (p : ℕ) (s : Status) → is_ready_status s ≡ true → wait_over tables m p s ≡ false
is_ready-no_wait tables m p status.Idle e = cc
is_ready-no_wait tables m p (status.Start t) e = cc
is_ready-no_wait tables m p (status.StartOn x) e = cc
is_ready-no_wait tables m p status.Ready e = refl
is_ready-no_wait tables m p (status.Time t) e = cc
is_ready-no_wait tables m p (status.Event x) e = cc
is_ready-no_wait tables m p status.Dependents e = cc
is_ready-no_wait tables m p (status.Gap t) e = cc
is_ready-no_wait tables m p (status.Ending how) e = cc

-- a row that goes on can do nothing by itself but be cancelled, and goes on
going-changed : (tables : Tables) (m : Moment) (p : ℕ) (answers : List Answered) (change : Change) → p < length m.rows → can_make tables m p (row_of m p) change ≡ true → GoesOn p answers m → GoesOn p answers (change_made p (row_of m p) change m)
going-changed tables m p answers Cancels exists can on = record {
  going = subst IsGoing (sym (get_or-set_same m.rows p (record (row_of m p) { cancelled = true }) idle_row exists)) (record { ready = on.going.ready; outside = on.going.outside; begun = on.going.begun });
  answers = on.answers;
}
going-changed tables m p answers Drops exists can on =
    let outer = and_parts (row_of m p).cancelled (not (row_of m p).begun && is_before_cycle (row_of m p).status) can in
    let inner = and_parts (not (row_of m p).begun) (is_before_cycle (row_of m p).status) outer.1 in
    let fresh : not (row_of m p).begun ≡ false = ap not on.going.begun in
    absurd (let yes = inner.0 in cc)
going-changed tables m p answers Leaves exists can on =
    let ends = and_parts (is_ending (row_of m p).status) _ can in
    let no = is_ready-no_end (row_of m p).status on.going.ready in
    absurd (let yes = ends.0 in cc)
going-changed tables m p answers Readies exists can on = absurd (let no = is_ready-no_wait tables m p (row_of m p).status on.going.ready in cc)

-- a process goes on where another's row and answers change
GoesOn-same : (p : ℕ) (answers : List Answered) (old new : Moment) → IsSameAt p old new → GoesOn p answers old → GoesOn p answers new
GoesOn-same p answers old new same on = record { going = subst IsGoing (sym same.row) on.going; answers = same.answers ∙ on.answers }

-- a process that goes on does so after settling
pub settle-goes_on : (tables : Tables) (m : Moment) (p : ℕ) (answers : List Answered) → GoesOn p answers m → GoesOn p answers (settle tables m)
settle-goes_on tables m p answers on =
    settle-keeps (GoesOn p answers) tables
    (λ old next e here.
    let found = next_change-finds tables old next e in
    let can = first_change-can tables old next.0 (row_of old next.0) next.1 found.1 in
    ⊎_elim
    (λ (same : p ≡ next.0). subst (λ o. GoesOn p answers (change_made o (row_of old o) next.1 old)) same
    (going-changed tables old p answers next.1 (subst (λ o. o < length old.rows) (sym same) found.0) (subst (λ o. can_make tables old o (row_of old o) next.1 ≡ true) (sym same) can) here))
    (λ (other : p ≡ next.0 → ⊥). GoesOn-same p answers old _ (change_made-other next.0 (row_of old next.0) next.1 old p other) here)
    (cases_eq p next.0))
    m on
