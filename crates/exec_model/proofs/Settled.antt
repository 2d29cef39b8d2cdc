-- What settling leaves: each change takes one from what the rows may still do, so changes end.
use Rattle.std.proofs.Common.{◌≡◌, ℕ, zero, suc, ◌+◌, ◌*◌, ◌<◌, ◌≤◌, Bool, true, false, cond, List, [], ◌∷◌, length, set, Option, Some, None, sym, refl, ap, subst, ◌∙◌, arith}
use Rattle.std.proofs.lemmas.Bool.{and_parts, cond_both, not-true}
use Rattle.std.proofs.lemmas.List.{length-set}
use Rattle.std.proofs.lemmas.Option.{same_Some}
use Rattle.std.proofs.lemmas.List.Sums.{sum_by-set, sum_by-cons}
use Rattle.hal_values.specs.declared.tables.Tables.{Tables}
use Rattle.exec_model.specs.declared.change.Change.{Change}
use Rattle.exec_model.specs.declared.change.Change.TheVariants.{Cancels, Drops, Leaves, Readies}
use Rattle.exec_model.specs.declared.row.Row.{Row}
use Rattle.exec_model.specs.declared.status.How.TheVariants.{Cancelled}
use Rattle.exec_model.specs.declared.status.Status.{Status}
use Rattle.exec_model.specs.declared.status.Status.TheVariants as status
use Rattle.exec_model.specs.Moments.{Moment, row_of}
use Rattle.exec_model.specs.Ranks.{status_changes_left, changes_left, rank}
use Rattle.exec_model.specs.Rows.{idle_row, row_in, is_active, is_before_cycle, is_ending}
use Rattle.exec_model.specs.Settling.{wait_over, can_make, first_change, left_row, wait_done, change_made, lowest_change, next_change, settled_in, changes_of_row, settle}

-- the first of four changes that can be made can be made
first_of-can : (can : Change → Bool) (change : Change)
    → cond (can Cancels) (Some Cancels) (cond (can Drops) (Some Drops) (cond (can Leaves) (Some Leaves) (cond (can Readies) (Some Readies) None))) ≡ Some change
    → can change ≡ true
first_of-can can change =
    cond_both (can Cancels) _ _ (λ o. o ≡ Some change → can change ≡ true) (λ yes e. cc) (λ no.
    cond_both (can Drops) _ _ (λ o. o ≡ Some change → can change ≡ true) (λ yes e. cc) (λ no'.
    cond_both (can Leaves) _ _ (λ o. o ≡ Some change → can change ≡ true) (λ yes e. cc) (λ no''.
    cond_both (can Readies) _ _ (λ o. o ≡ Some change → can change ≡ true) (λ yes e. cc) (λ no''' e. cc))))

-- the first change that a row can make can be made
pub first_change-can : (tables : Tables) (m : Moment) (p : ℕ) (row : Row) (change : Change) → first_change tables m p row ≡ Some change → can_make tables m p row change ≡ true
first_change-can tables m p row change =
    cond_both (is_active row) _ None (λ o. o ≡ Some change → can_make tables m p row change ≡ true) (λ yes. first_of-can (can_make tables m p row) change) (λ no e. cc)

-- p is the number of one of these rows, counted from k on, and the row makes this change first
abbrev Finds : Tables → Moment → ℕ → List Row → ℕ × Change → Type 0
Finds tables m k rows next = (i : ℕ) × (next.0 ≡ k + i) × (i < length rows) × (first_change tables m next.0 (row_in rows i) ≡ Some next.1)

-- what is found among the later rows is found among all
Finds-later : (tables : Tables) (m : Moment) (k : ℕ) (row : Row) (rows : List Row) (next : ℕ × Change) → Finds tables m (k + 1) rows next → Finds tables m k (row ∷ rows) next
Finds-later tables m k row rows next there = (suc there.0, omega (arith, there.1), omega (arith, there.2), there.3)

-- a change of the first row is found
Finds-here : (tables : Tables) (m : Moment) (k : ℕ) (row : Row) (rows : List Row) (change : Change) (next : ℕ × Change) → first_change tables m k row ≡ Some change → Some (k, change) ≡ Some next → Finds tables m k (row ∷ rows) next
Finds-here tables m k row rows change next first e =
    let same : ◌≡◌ {A = ℕ × Change} (k, change) next = same_Some _ _ e in
    let place : next.0 ≡ k = sym (ap (λ (n : ℕ × Change). n.0) same) in
    (zero, omega (arith, place), omega arith, subst (λ (n : ℕ × Change). first_change tables m n.0 row ≡ Some n.1) same first)

-- the same, by what the first row does
Finds-from : (tables : Tables) (m : Moment) (k : ℕ) (row : Row) (rows : List Row) (next : ℕ × Change) (rest : Option (ℕ × Change)) (o : Option Change)
    → (rest ≡ Some next → Finds tables m (k + 1) rows next) → first_change tables m k row ≡ o → (elim o as (λ _. Option (ℕ × Change)) [ None ↦ rest | Some change ↦ Some (k, change) ]) ≡ Some next → Finds tables m k (row ∷ rows) next
Finds-from tables m k row rows next rest None later first e = Finds-later tables m k row rows next (later e)
Finds-from tables m k row rows next rest (Some change) later first e = Finds-here tables m k row rows change next first e

-- the lowest row that can change is one of these, and makes its first change
lowest_change-finds : (tables : Tables) (m : Moment) (k : ℕ) (rows : List Row) (next : ℕ × Change) → lowest_change tables m k rows ≡ Some next → Finds tables m k rows next
lowest_change-finds tables m k [] next e = cc
lowest_change-finds tables m k (row ∷ rows) next e =
    Finds-from tables m k row rows next (lowest_change tables m (k + 1) rows) (first_change tables m k row) (λ later. lowest_change-finds tables m (k + 1) rows next later) refl e

-- the row of the next change exists, and makes that change first
pub next_change-finds : (tables : Tables) (m : Moment) (next : ℕ × Change) → next_change tables m ≡ Some next → (next.0 < length m.rows) × (first_change tables m next.0 (row_of m next.0) ≡ Some next.1)
next_change-finds tables m next e =
    let there : Finds tables m 0 m.rows next = lowest_change-finds tables m 0 m.rows next e in
    let same : next.0 ≡ there.0 = omega (arith, there.1) in
    (omega (arith, there.2), subst (λ i. first_change tables m next.0 (row_in m.rows i) ≡ Some next.1) (sym same) there.3)

-- the rows become these, where one is replaced by one that may make fewer changes
abbrev pub Lowers : ℕ → Row → List Row → List Row → Type 0
Lowers p row old new = (made : Row) × (new ≡ set old p made) × (changes_left made < changes_left row)

-- a row that is cancelled may make one change less
cancelled-fewer : (row : Row) → row.cancelled ≡ false → changes_left (record row { cancelled = true }) < changes_left row
cancelled-fewer row e = rw e (omega arith)

-- a row that is dropped may make fewer changes
dropped-fewer : (s : Status) → is_before_cycle s ≡ true → status_changes_left (status.Ending Cancelled) < status_changes_left s
dropped-fewer status.Idle e = cc
dropped-fewer (status.Start t) e = omega arith
dropped-fewer (status.StartOn x) e = omega arith
dropped-fewer status.Ready e = omega arith
dropped-fewer (status.Time t) e = cc
dropped-fewer (status.Event x) e = cc
dropped-fewer status.Dependents e = cc
dropped-fewer (status.Gap t) e = omega arith
dropped-fewer (status.Ending how) e = cc

-- a row with fewer changes of status left, and the same mark, may make fewer changes
status-fewer : (row : Row) (s : Status) → status_changes_left s < status_changes_left row.status → changes_left (record row { status = s }) < changes_left row
status-fewer row s less = omega (arith, less)

-- a row that ends its time leaves with fewer changes left
left_row-lowers : (p : ℕ) (row : Row) (s : Status) (m : Moment) → row.status ≡ s → is_ending s ≡ true → Lowers p row m.rows (left_row p row s m).rows
left_row-lowers p row (status.Ending how) m same e = (record row { status = status.Idle }, refl, status-fewer row status.Idle (rw same (omega arith)))
left_row-lowers p row status.Idle m same e = cc
left_row-lowers p row (status.Start t) m same e = cc
left_row-lowers p row (status.StartOn x) m same e = cc
left_row-lowers p row status.Ready m same e = cc
left_row-lowers p row (status.Time t) m same e = cc
left_row-lowers p row (status.Event x) m same e = cc
left_row-lowers p row status.Dependents m same e = cc
left_row-lowers p row (status.Gap t) m same e = cc

-- a row that becomes Ready, with whatever start and stamp, may make fewer changes
made_ready-fewer : (row : Row) (start stamp : ℕ) → 2 < status_changes_left row.status → changes_left (record row { start = start; status = status.Ready; stamp = stamp }) < changes_left row
made_ready-fewer row start stamp more = omega (arith, more)

-- a row whose wait is over becomes Ready with fewer changes left
wait_done-lowers : (tables : Tables) (m : Moment) (p : ℕ) (row : Row) (s : Status) → row.status ≡ s → wait_over tables m p s ≡ true → Lowers p row m.rows (wait_done p row s m).rows
wait_done-lowers tables m p row status.Idle same e = cc
wait_done-lowers tables m p row (status.Start t) same e = (record row { start = t; status = status.Ready; stamp = m.stamp }, refl, made_ready-fewer row t m.stamp (rw same (omega arith)))
wait_done-lowers tables m p row (status.StartOn x) same e = (record row { start = m.clock; status = status.Ready; stamp = m.stamp }, refl, made_ready-fewer row m.clock m.stamp (rw same (omega arith)))
wait_done-lowers tables m p row status.Ready same e = cc
wait_done-lowers tables m p row (status.Time t) same e = (record row { status = status.Ready; stamp = m.stamp }, refl, made_ready-fewer row row.start m.stamp (rw same (omega arith)))
wait_done-lowers tables m p row (status.Event x) same e = (record row { status = status.Ready; stamp = m.stamp }, refl, made_ready-fewer row row.start m.stamp (rw same (omega arith)))
wait_done-lowers tables m p row status.Dependents same e = (record row { status = status.Ready; stamp = m.stamp }, refl, made_ready-fewer row row.start m.stamp (rw same (omega arith)))
wait_done-lowers tables m p row (status.Gap t) same e = (record row { start = t; status = status.Ready; stamp = m.stamp }, refl, made_ready-fewer row t m.stamp (rw same (omega arith)))
wait_done-lowers tables m p row (status.Ending how) same e = cc

-- a change that can be made leaves fewer
pub change_made-lowers : (tables : Tables) (m : Moment) (p : ℕ) (row : Row) (change : Change) → can_make tables m p row change ≡ true → Lowers p row m.rows (change_made p row change m).rows
change_made-lowers tables m p row Cancels e = (record row { cancelled = true }, refl, cancelled-fewer row (not-true row.cancelled (and_parts _ _ e).1))
change_made-lowers tables m p row Drops e =
    (record row { status = status.Ending Cancelled }, refl, status-fewer row (status.Ending Cancelled) (dropped-fewer row.status (and_parts _ _ (and_parts _ _ e).1).1))
change_made-lowers tables m p row Leaves e = left_row-lowers p row row.status m refl (and_parts _ _ e).0
change_made-lowers tables m p row Readies e = wait_done-lowers tables m p row row.status refl e

-- the next change lowers its row
pub next_change-lowers : (tables : Tables) (m : Moment) (next : ℕ × Change) → next_change tables m ≡ Some next
    → Lowers next.0 (row_of m next.0) m.rows (change_made next.0 (row_of m next.0) next.1 m).rows
next_change-lowers tables m next e = change_made-lowers tables m next.0 (row_of m next.0) next.1 (first_change-can tables m next.0 (row_of m next.0) next.1 (next_change-finds tables m next e).1)

-- rows of which one may make fewer changes may make fewer together
Lowers-rank : (p : ℕ) (old new : List Row) → p < length old → Lowers p (row_in old p) old new → rank new < rank old
Lowers-rank p old new within lower =
    let whole : rank (set old p lower.0) + changes_left (row_in old p) ≡ rank old + changes_left lower.0 = sum_by-set changes_left old p lower.0 idle_row within in
    rw lower.1 (omega (arith, whole, lower.2))

-- the next change leaves fewer to be made
pub rank-change_made : (tables : Tables) (m : Moment) (next : ℕ × Change) → next_change tables m ≡ Some next → rank (change_made next.0 (row_of m next.0) next.1 m).rows < rank m.rows
rank-change_made tables m next e =
    Lowers-rank next.0 m.rows (change_made next.0 (row_of m next.0) next.1 m).rows (next_change-finds tables m next e).0 (next_change-lowers tables m next e)

-- leaving keeps the number of rows
length-left_row : (p : ℕ) (row : Row) (s : Status) (m : Moment) → length (left_row p row s m).rows ≡ length m.rows
length-left_row p row (status.Ending how) m = length-set m.rows p _
length-left_row p row other m = refl

-- becoming Ready keeps the number of rows
length-wait_done : (p : ℕ) (row : Row) (s : Status) (m : Moment) → length (wait_done p row s m).rows ≡ length m.rows
length-wait_done p row status.Idle m = refl
length-wait_done p row status.Ready m = refl
length-wait_done p row (status.Ending how) m = refl
length-wait_done p row other m = length-set m.rows p _

-- a change keeps the number of rows
pub length-change_made : (p : ℕ) (row : Row) (change : Change) (m : Moment) → length (change_made p row change m).rows ≡ length m.rows
length-change_made p row Cancels m = length-set m.rows p _
length-change_made p row Drops m = length-set m.rows p _
length-change_made p row Leaves m = length-left_row p row row.status m
length-change_made p row Readies m = length-wait_done p row row.status m

-- a row may make so many changes at most
changes_left-most : (row : Row) → changes_left row ≤ changes_of_row
changes_left-most row = add_most row.cancelled row.status where
  add_most : (b : Bool) (s : Status) → cond b 0 1 + status_changes_left s ≤ 4
  add_most true status.Idle = omega arith
  add_most true (status.Start t) = omega arith
  add_most true (status.StartOn x) = omega arith
  add_most true status.Ready = omega arith
  add_most true (status.Time t) = omega arith
  add_most true (status.Event x) = omega arith
  add_most true status.Dependents = omega arith
  add_most true (status.Gap t) = omega arith
  add_most true (status.Ending how) = omega arith
  add_most false status.Idle = omega arith
  add_most false (status.Start t) = omega arith
  add_most false (status.StartOn x) = omega arith
  add_most false status.Ready = omega arith
  add_most false (status.Time t) = omega arith
  add_most false (status.Event x) = omega arith
  add_most false status.Dependents = omega arith
  add_most false (status.Gap t) = omega arith
  add_most false (status.Ending how) = omega arith

-- rows may make so many changes together at most
pub rank-most : (rows : List Row) → rank rows ≤ changes_of_row * length rows
rank-most [] = omega arith
rank-most (row ∷ rows) = omega (arith, sum_by-cons changes_left row rows, changes_left-most row, rank-most rows)

-- what one step makes of the next change: None leaves the moment, Some is made and so many follow
abbrev Next : Tables → Moment → ℕ → Option (ℕ × Change) → Moment
Next tables m count o = elim o as (λ _. Moment) [ None ↦ m | Some next ↦ settled_in count tables (change_made next.0 (row_of m next.0) next.1 m) ]

-- where no row can change, the moment stays
settled_in-none : (count : ℕ) (tables : Tables) (m : Moment) → next_change tables m ≡ None → settled_in count tables m ≡ m
settled_in-none zero tables m e = refl
settled_in-none (suc count) tables m e = ap (Next tables m count) e

-- where one can, one more step makes its change
settled_in-some : (count : ℕ) (tables : Tables) (m : Moment) (next : ℕ × Change) → next_change tables m ≡ Some next
    → settled_in (suc count) tables m ≡ settled_in count tables (change_made next.0 (row_of m next.0) next.1 m)
settled_in-some count tables m next e = ap (Next tables m count) e

-- what is kept by each change that comes next is kept by any number of them
settled_in-keeps : (P : Moment → Type 0) (tables : Tables) → ((m : Moment) (next : ℕ × Change) → next_change tables m ≡ Some next → P m → P (change_made next.0 (row_of m next.0) next.1 m))
    → (count : ℕ) (m : Moment) → P m → P (settled_in count tables m)
settled_in-keeps P tables keeps zero m here = here
settled_in-keeps P tables keeps (suc count) m here =
    go (next_change tables m) refl (λ next e. settled_in-keeps P tables keeps count (change_made next.0 (row_of m next.0) next.1 m) (keeps m next e here)) where
      go : (o : Option (ℕ × Change)) → next_change tables m ≡ o
          → ((next : ℕ × Change) → next_change tables m ≡ Some next → P (settled_in count tables (change_made next.0 (row_of m next.0) next.1 m))) → P (settled_in (suc count) tables m)
      go None e later = subst P (sym (settled_in-none (suc count) tables m e)) here
      go (Some next) e later = subst P (sym (settled_in-some count tables m next e)) (later next e)

-- what is kept by each change that comes next is kept by settling
pub settle-keeps : (P : Moment → Type 0) (tables : Tables) → ((m : Moment) (next : ℕ × Change) → next_change tables m ≡ Some next → P m → P (change_made next.0 (row_of m next.0) next.1 m))
    → (m : Moment) → P m → P (settle tables m)
settle-keeps P tables keeps m here = settled_in-keeps P tables keeps (changes_of_row * length m.rows) m here

-- settling keeps the number of rows
pub length-settle : (tables : Tables) (m : Moment) → length (settle tables m).rows ≡ length m.rows
length-settle tables m =
    settle-keeps (λ new. length new.rows ≡ length m.rows) tables (λ old next e same. length-change_made next.0 (row_of old next.0) next.1 old ∙ same) m refl

-- where no row may make a change, none can
rank-none : (tables : Tables) (m : Moment) → rank m.rows ≤ 0 → next_change tables m ≡ None
rank-none tables m few = go (next_change tables m) refl where
  go : (o : Option (ℕ × Change)) → next_change tables m ≡ o → next_change tables m ≡ None
  go None e = e
  go (Some next) e = absurd (omega (arith, rank-change_made tables m next e, few))

-- after as many changes as the rows may make, none can be made
settled_in-rests : (count : ℕ) (tables : Tables) (m : Moment) → rank m.rows ≤ count → next_change tables (settled_in count tables m) ≡ None
settled_in-rests zero tables m few = rank-none tables m few
settled_in-rests (suc count) tables m few =
    go (next_change tables m) refl (λ next e. settled_in-rests count tables (change_made next.0 (row_of m next.0) next.1 m) (omega (arith, rank-change_made tables m next e, few))) where
      go : (o : Option (ℕ × Change)) → next_change tables m ≡ o
          → ((next : ℕ × Change) → next_change tables m ≡ Some next → next_change tables (settled_in count tables (change_made next.0 (row_of m next.0) next.1 m)) ≡ None)
          → next_change tables (settled_in (suc count) tables m) ≡ None
      go None e later = ap (next_change tables) (settled_in-none (suc count) tables m e) ∙ e
      go (Some next) e later = ap (next_change tables) (settled_in-some count tables m next e) ∙ later next e

-- numbers of changes that are enough give one moment
pub settled_in-enough : (a b : ℕ) (tables : Tables) (m : Moment) → rank m.rows ≤ a → rank m.rows ≤ b → settled_in a tables m ≡ settled_in b tables m
settled_in-enough zero b tables m enough also = sym (settled_in-none b tables m (rank-none tables m enough))
settled_in-enough (suc a) zero tables m enough also = settled_in-none (suc a) tables m (rank-none tables m also)
settled_in-enough (suc a) (suc b) tables m enough also =
    go (next_change tables m) refl (λ next e. settled_in-enough a b tables (change_made next.0 (row_of m next.0) next.1 m)
    (omega (arith, rank-change_made tables m next e, enough)) (omega (arith, rank-change_made tables m next e, also))) where
      go : (o : Option (ℕ × Change)) → next_change tables m ≡ o
          → ((next : ℕ × Change) → next_change tables m ≡ Some next
          → settled_in a tables (change_made next.0 (row_of m next.0) next.1 m) ≡ settled_in b tables (change_made next.0 (row_of m next.0) next.1 m))
          → settled_in (suc a) tables m ≡ settled_in (suc b) tables m
      go None e later = settled_in-none (suc a) tables m e ∙ sym (settled_in-none (suc b) tables m e)
      go (Some next) e later = settled_in-some a tables m next e ∙ later next e ∙ sym (settled_in-some b tables m next e)

-- where no row can change, settling leaves the moment
pub settle-none : (tables : Tables) (m : Moment) → next_change tables m ≡ None → settle tables m ≡ m
settle-none tables m e = settled_in-none (changes_of_row * length m.rows) tables m e

-- settling makes the next change, and settles then
pub settle-some : (tables : Tables) (m : Moment) (next : ℕ × Change) → next_change tables m ≡ Some next → settle tables m ≡ settle tables (change_made next.0 (row_of m next.0) next.1 m)
settle-some tables m next e =
    let new : Moment = change_made next.0 (row_of m next.0) next.1 m in
    let most : rank m.rows ≤ changes_of_row * length m.rows = rank-most m.rows in
    let most' : rank new.rows ≤ changes_of_row * length new.rows = rank-most new.rows in
    let less : rank new.rows < rank m.rows = rank-change_made tables m next e in
    settled_in-enough (changes_of_row * length m.rows) (suc (changes_of_row * length m.rows)) tables m most (omega (arith, most))
    ∙ settled_in-some (changes_of_row * length m.rows) tables m next e
    ∙ settled_in-enough (changes_of_row * length m.rows) (changes_of_row * length new.rows) tables new (omega (arith, most, less)) most'

-- after settling no row can change
pub settle-rests : (tables : Tables) (m : Moment) → next_change tables (settle tables m) ≡ None
settle-rests tables m = settled_in-rests (changes_of_row * length m.rows) tables m (rank-most m.rows)
