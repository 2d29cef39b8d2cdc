-- Which rows are inside UPDATE blocks, after rows have settled and after a block is done.
use Rattle.std.proofs.Common.{◌≡◌, ◌≢◌, ℕ, ◌<◌, true, false, not, ◌&&◌, inl, inr, List, length, slice_set, Option, Some, None, IsSome, refl, sym, ◌∙◌, ap, subst}
use Rattle.std.proofs.lemmas.Bool.{and_parts, cases_eq, cond_both, true≢false}
use Rattle.std.proofs.lemmas.List.{get_or-set_same, get_or-set_other}
use Rattle.hal_values.specs.declared.tables.Tables.{Tables}
use Rattle.hal_values.specs.declared.value.Value.{Value}
use Rattle.hal_values.specs.Answers.{Block}
use Rattle.hal_values.specs.Loads.{Meaning}
use Rattle.exec_model.specs.declared.change.Change.{Change}
use Rattle.exec_model.specs.declared.change.Change.TheVariants.{Cancels, Drops, Leaves, Readies}
use Rattle.exec_model.specs.declared.event.Event.TheVariants as event
use Rattle.exec_model.specs.declared.row.Row.{Row}
use Rattle.exec_model.specs.declared.status.Status.{Status}
use Rattle.exec_model.specs.declared.status.Status.TheVariants as status
use Rattle.exec_model.specs.Moments.{Moment, row_of, answered, with_row}
use Rattle.exec_model.specs.Rows.{idle_row, row_in, is_ready, is_ready_status, is_ending, is_before_cycle}
use Rattle.exec_model.specs.Settling.{can_make, wait_over, left_row, wait_done, change_made, settle}
use Rattle.exec_model.specs.Steps.{block_done, block_of, event_done, stepped, written}
use Rattle.exec_model.proofs.Settled.{first_change-can, next_change-finds, settle-keeps}
use Rattle.exec_model.proofs.SoundSettling.{change_made-other}

-- a row with the same mark is put in the place of one
inside-set : (m : Moment) (p : ℕ) (row : Row) (o : ℕ) → p < length m.rows → row.inside ≡ (row_of m p).inside → (row_in (slice_set m.rows p row) o).inside ≡ (row_of m o).inside
inside-set m p row o exists same = elim (cases_eq o p) [
  | inl e ↦ subst (λ k. (row_in (slice_set m.rows p row) k).inside ≡ (row_of m k).inside) (sym e) (ap (λ (r : Row). r.inside) (get_or-set_same m.rows p row idle_row exists) ∙ same)
  | inr other ↦ ap (λ (r : Row). r.inside) (get_or-set_other m.rows p o row idle_row other)
]

left_row-inside : (p : ℕ) (s : Status) (m : Moment) (o : ℕ) → p < length m.rows → (row_of (left_row p (row_of m p) s m) o).inside ≡ (row_of m o).inside
left_row-inside p (status.Ending how) m o exists = inside-set m p _ o exists refl
left_row-inside p other m o exists = refl

wait_done-inside : (p : ℕ) (s : Status) (m : Moment) (o : ℕ) → p < length m.rows → (row_of (wait_done p (row_of m p) s m) o).inside ≡ (row_of m o).inside
wait_done-inside p status.Idle m o exists = refl
wait_done-inside p (status.Start t) m o exists = inside-set m p _ o exists refl
wait_done-inside p (status.StartOn x) m o exists = inside-set m p _ o exists refl
wait_done-inside p status.Ready m o exists = refl
wait_done-inside p (status.Time t) m o exists = inside-set m p _ o exists refl
wait_done-inside p (status.Event x) m o exists = inside-set m p _ o exists refl
wait_done-inside p status.Dependents m o exists = inside-set m p _ o exists refl
wait_done-inside p (status.Gap t) m o exists = inside-set m p _ o exists refl
wait_done-inside p (status.Ending how) m o exists = refl

change_made-inside : (p : ℕ) (change : Change) (m : Moment) (o : ℕ) → p < length m.rows → (row_of (change_made p (row_of m p) change m) o).inside ≡ (row_of m o).inside
change_made-inside p Cancels m o exists = inside-set m p _ o exists refl
change_made-inside p Drops m o exists = inside-set m p _ o exists refl
change_made-inside p Leaves m o exists = left_row-inside p (row_of m p).status m o exists
change_made-inside p Readies m o exists = wait_done-inside p (row_of m p).status m o exists

-- settling moves no row into a block or out of one
pub settle-inside : (tables : Tables) (m : Moment) (o : ℕ) → (row_of (settle tables m) o).inside ≡ (row_of m o).inside
settle-inside tables m o =
    settle-keeps (λ new. (row_of new o).inside ≡ (row_of m o).inside) tables (λ old next e here. change_made-inside next.0 next.1 old o (next_change-finds tables old next e).0 ∙ here) m refl

-- a row is inside an UPDATE block, Ready, in a cycle, and has this priority and this stamp
pub record IsOpen (row : Row) (priority stamp : ℕ) : Type 0 where
  pub ready : is_ready row ≡ true
  pub inside : row.inside ≡ true
  pub begun : row.begun ≡ true
  pub priority_is : row.priority ≡ priority
  pub stamp_is : row.stamp ≡ stamp

ready_is : (s : Status) → is_ready_status s ≡ true → s ≡ status.Ready
ready_is status.Idle e = cc
ready_is (status.Start t) e = cc
ready_is (status.StartOn x) e = cc
ready_is status.Ready e = refl
ready_is (status.Time t) e = cc
ready_is (status.Event x) e = cc
ready_is status.Dependents e = cc
ready_is (status.Gap t) e = cc
ready_is (status.Ending how) e = cc

-- such a row can do nothing by itself but be cancelled
open-changed : (tables : Tables) (m : Moment) (p priority stamp : ℕ) (change : Change) → p < length m.rows → can_make tables m p (row_of m p) change ≡ true → IsOpen (row_of m p) priority stamp
    → IsOpen (row_of (change_made p (row_of m p) change m) p) priority stamp
open-changed tables m p priority stamp Cancels exists can open_ =
    subst (λ row. IsOpen row priority stamp) (sym (get_or-set_same m.rows p (record (row_of m p) { cancelled = true }) idle_row exists))
    (record { ready = open_.ready; inside = open_.inside; begun = open_.begun; priority_is = open_.priority_is; stamp_is = open_.stamp_is })
open-changed tables m p priority stamp Drops exists can open_ =
    let outer = and_parts (row_of m p).cancelled (not (row_of m p).begun && is_before_cycle (row_of m p).status) can in
    let inner = and_parts (not (row_of m p).begun) (is_before_cycle (row_of m p).status) outer.1 in
    absurd (true≢false (sym inner.0 ∙ ap not open_.begun))
open-changed tables m p priority stamp Leaves exists can open_ =
    let ends = and_parts (is_ending (row_of m p).status) _ can in
    absurd (true≢false (sym ends.0 ∙ ap is_ending (ready_is (row_of m p).status open_.ready)))
open-changed tables m p priority stamp Readies exists can open_ = absurd (true≢false (sym can ∙ ap (wait_over tables m p) (ready_is (row_of m p).status open_.ready)))

-- and stays so where rows settle
pub settle-open : (tables : Tables) (m : Moment) (p priority stamp : ℕ) → IsOpen (row_of m p) priority stamp → IsOpen (row_of (settle tables m) p) priority stamp
settle-open tables m p priority stamp open_ =
    settle-keeps (λ new. IsOpen (row_of new p) priority stamp) tables
    (λ old next e here.
    let found = next_change-finds tables old next e in
    let can = first_change-can tables old next.0 (row_of old next.0) next.1 found.1 in
    elim (cases_eq p next.0) [
      | inl same ↦
          subst (λ o. IsOpen (row_of (change_made o (row_of old o) next.1 old) p) priority stamp) same
          (open-changed tables old p priority stamp next.1 (subst (λ o. o < length old.rows) (sym same) found.0) (subst (λ o. can_make tables old o (row_of old o) next.1 ≡ true) (sym same) can) here)
      | inr other ↦ subst (λ row. IsOpen row priority stamp) (sym (change_made-other next.0 (row_of old next.0) next.1 old p other).row) here
    ])
    m open_

-- a block that is done changes no other row
block_done-other : (p turns : ℕ) (found : Option (List (ℕ × Value))) (m : Moment) (o : ℕ) → o ≢ p → row_of (block_done p turns found m) o ≡ row_of m o
block_done-other p turns None m o other = refl
block_done-other p turns (Some writes) m o other =
    cond_both (row_of m p).doomed _ (with_row p (record (row_of m p) { inside = false }) (answered p (Block m.store turns) (record m { store = written m.store writes })))
    (λ (new : Moment). row_of new o ≡ row_of m o) (λ doomed. get_or-set_other m.rows p o _ idle_row other) (λ stays. get_or-set_other m.rows p o _ idle_row other)

-- its own row is inside it no more
block_done-inside : (p turns : ℕ) (found : Option (List (ℕ × Value))) (m : Moment) → p < length m.rows → IsSome found → (row_of (block_done p turns found m) p).inside ≡ false
block_done-inside p turns None m exists some = absurd (cc)
block_done-inside p turns (Some writes) m exists some =
    cond_both (row_of m p).doomed _ (with_row p (record (row_of m p) { inside = false }) (answered p (Block m.store turns) (record m { store = written m.store writes })))
    (λ (new : Moment). (row_of new p).inside ≡ false) (λ doomed. ap (λ (r : Row). r.inside) (get_or-set_same m.rows p _ idle_row exists)) (λ stays. ap (λ (r : Row). r.inside) (get_or-set_same m.rows p _ idle_row exists))

-- after the step of a block another row is inside one as before
pub block-inside : (q : Meaning) (m : Moment) (p turns o : ℕ) → o ≢ p → (row_of (stepped q m (event.Block p turns)) o).inside ≡ (row_of m o).inside
block-inside q m p turns o other =
    settle-inside q.tables (event_done q m (event.Block p turns)) o ∙ ap (λ (r : Row). r.inside) (block_done-other p turns (block_of q m p turns) m o other)

-- and goes on so
pub block-open : (q : Meaning) (m : Moment) (p turns o priority stamp : ℕ) → o ≢ p → IsOpen (row_of m o) priority stamp → IsOpen (row_of (stepped q m (event.Block p turns)) o) priority stamp
block-open q m p turns o priority stamp other open_ =
    settle-open q.tables (event_done q m (event.Block p turns)) o priority stamp
    (subst (λ row. IsOpen row priority stamp) (sym (block_done-other p turns (block_of q m p turns) m o other)) open_)

-- and its own row is inside it no more
pub block-left : (q : Meaning) (m : Moment) (p turns : ℕ) → p < length m.rows → IsSome (block_of q m p turns) → (row_of (stepped q m (event.Block p turns)) p).inside ≡ false
block-left q m p turns exists ends =
    settle-inside q.tables (event_done q m (event.Block p turns)) p ∙ block_done-inside p turns (block_of q m p turns) m exists ends
