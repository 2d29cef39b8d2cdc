-- With one lane the open UPDATE blocks are done in the order of the Ready rows.
use Rattle.std.proofs.Common.{◌≡◌, ◌≢◌, ℕ, ◌+◌, ◌<◌, ◌≤◌, inl, inr, true, false, List, [], ◌∷◌, ◌++◌, length, refl, sym, ◌∙◌, ap, subst, append_assoc, append-nil, length-append, arith}
use Rattle.std.proofs.lemmas.Bool.{cases_eq, cases_Bool, true≢false}
use Rattle.hal_values.specs.Loads.{Meaning, IsLoad, IsUpdate}
use Rattle.hal_values.specs.Requests.{HasProcess}
use Rattle.exec_model.specs.declared.event.Event.{Event}
use Rattle.exec_model.specs.declared.event.Event.TheVariants as event
use Rattle.exec_model.specs.declared.row.Row.{Row}
use Rattle.exec_model.specs.Moments.{Moment, row_of}
use Rattle.exec_model.specs.Order.{goes_before, first, IsInFirst}
use Rattle.exec_model.specs.Rows.{row_in, is_ready}
use Rattle.exec_model.specs.Runs.{IsOfProcess, IsQuiet, Completes, open_blocks}
use Rattle.exec_model.specs.Sound.{IsSound}
use Rattle.exec_model.specs.Steps.{CanBlock, IsAllowed, IsStep, stepped}
use Rattle.exec_model.proofs.OneLane.{first-alone, inside-exists, inside-ready}
use Rattle.exec_model.proofs.OneRun.{IsQuiet-unready}
use Rattle.exec_model.proofs.Ordering.{first-ahead, first-few, first-finds, first-sorted, goes_before-irreflexive, goes_before-transitive}
use Rattle.exec_model.proofs.SoundEvents.{stepped-sound}
use Rattle.script_run.specs.Running.{IsClosed, RunsBlocks}
use Rattle.script_run.proofs.OpenRows.{IsOpen, block-inside, block-left, block-open}
use Rattle.script_run.proofs.Sorting.{GoesFirst-Has, Has, Has-at, Has-filter, Has-filtered, IsSorted, IsSorted-filter, IsSorted-from, length-filtered, place_of-few}

-- a process whose row is inside a block has begun a cycle
inside-begun : (q : Meaning) (m : Moment) (p : ℕ) → IsSound q m → (row_of m p).inside ≡ true → (row_of m p).begun ≡ true
inside-begun q m p sound inside = elim (cases_Bool (row_of m p).begun) [
  | inl begun ↦ begun
  | inr fresh ↦ absurd (subst IsUpdate (sound.begins p exists fresh) (sound.blocks p exists inside).1)
]
  where
    exists : HasProcess q.tables p
    exists = omega (arith, inside-exists m.rows p inside, sound.rows)

-- of the processes that were inside a block these are left, in order
pub record AreOpen (old new : Moment) (left : List ℕ) : Type 0 where
  pub all : (o : ℕ) → (row_of new o).inside ≡ true → Has left o
  pub open_ : (o : ℕ) → Has left o → IsOpen (row_of new o) (row_of old o).priority (row_of old o).stamp
  pub before : (o : ℕ) → Has left o → (row_of old o).inside ≡ true
  pub sorted : IsSorted old.rows left

AreOpen-start : (q : Meaning) (m : Moment) → IsSound q m → AreOpen m m (open_blocks m.rows)
AreOpen-start q m sound = record {
  all = λ o inside.
      let ready : is_ready (row_of m o) ≡ true = inside-ready q m o sound inside in
      Has-filter (λ p. (row_in m.rows p).inside) (first (length m.rows) m.rows) o inside
      (Has-at (first (length m.rows) m.rows) _ o (first-finds (length m.rows) m.rows o (record { ready = ready; early = place_of-few m.rows o ready })));
  open_ = λ o there.
      let inside : (row_of m o).inside ≡ true = Has-filtered (λ p. (row_in m.rows p).inside) (first (length m.rows) m.rows) o there in
      record { ready = inside-ready q m o sound inside; inside = inside; begun = inside-begun q m o sound inside; priority_is = refl; stamp_is = refl };
  before = λ o there. Has-filtered (λ p. (row_in m.rows p).inside) (first (length m.rows) m.rows) o there;
  sorted = IsSorted-filter m.rows (λ p. (row_in m.rows p).inside) (first (length m.rows) m.rows) (IsSorted-from m.rows (first (length m.rows) m.rows) (first-sorted (length m.rows) m.rows));
}

-- rows with the same marks, priorities and stamps have the same order
goes_before-same : (p o : ℕ) (a b c d : Row) → c.inside ≡ a.inside → d.inside ≡ b.inside → c.priority ≡ a.priority → d.priority ≡ b.priority → c.stamp ≡ a.stamp → d.stamp ≡ b.stamp → goes_before p c o d ≡ goes_before p a o b
goes_before-same p o a b c d i j k l m n = rw (i, j, k, l, m, n) refl

-- the first of those that are left goes before the others still
first-before : (old new : Moment) (p : ℕ) (left : List ℕ) (o : ℕ) → AreOpen old new (p ∷ left) → Has left o → goes_before p (row_of new p) o (row_of new o) ≡ true
first-before old new p left o opens there =
    let one = opens.open_ p (inl refl) in
    let other = opens.open_ o (inr there) in
    goes_before-same p o (row_of old p) (row_of old o) (row_of new p) (row_of new o) (one.inside ∙ sym (opens.before p (inl refl))) (other.inside ∙ sym (opens.before o (inr there)))
    one.priority_is other.priority_is one.stamp_is other.stamp_is
    ∙ GoesFirst-Has old.rows p left o opens.sorted.0 there

-- so it is none of the others
first-apart : (old new : Moment) (p : ℕ) (left : List ℕ) → AreOpen old new (p ∷ left) → Has left p → ⊥
first-apart old new p left opens there = true≢false (sym (first-before old new p left p opens there) ∙ goes_before-irreflexive p (row_of new p))

-- a process before which none goes is the first of those that are left
first-left : (old new : Moment) (p : ℕ) (left : List ℕ) (o : ℕ) → AreOpen old new (p ∷ left) → IsInFirst 1 new.rows o → Has (p ∷ left) o → o ≡ p
first-left old new p left o opens early (inl same) = same
first-left old new p left o opens early (inr there) = elim (cases_eq p o) [
  | inl same ↦ sym same
  | inr other ↦
      let ahead : goes_before o (row_of new o) p (row_of new p) ≡ true = first-ahead new.rows o (omega (arith, early.early)) p (opens.open_ p (inl refl)).ready other in
      let around : goes_before p (row_of new p) p (row_of new p) ≡ true = goes_before-transitive p o p (row_of new p) (row_of new o) (row_of new p) (first-before old new p left o opens there) ahead in
      absurd (true≢false (sym around ∙ goes_before-irreflexive p (row_of new p)))
]

-- with one lane the event of a process that may come is that its block is done
first-blocks : (q : Meaning) (old new : Moment) (p : ℕ) (left : List ℕ) (happens : Event) → IsSound q new → AreOpen old new (p ∷ left) → IsOfProcess happens → IsAllowed q 1 new happens
    → (turns : ℕ) × (happens ≡ event.Block p turns)
first-blocks q old new p left (event.Act o) sound opens kind can = absurd (true≢false (sym (opens.open_ p (inl refl)).inside ∙ first-alone q new o p sound can.early can.outside))
first-blocks q old new p left (event.Open o) sound opens kind can = absurd (true≢false (sym (opens.open_ p (inl refl)).inside ∙ first-alone q new o p sound can.early can.outside))
first-blocks q old new p left (event.Block o turns) sound opens kind can = (turns, ap (λ k. event.Block k turns) (first-left old new p left o opens can.early (opens.all o can.inside)))
first-blocks q old new p left (event.Tick time) sound opens kind can = absurd kind
first-blocks q old new p left (event.Preempt o) sound opens kind can = absurd kind

still_left : (p o : ℕ) (left : List ℕ) → o ≢ p → Has (p ∷ left) o → Has left o
still_left p o left other (inl same) = absurd (other same)
still_left p o left other (inr there) = there

-- then the others are left
AreOpen-step : (q : Meaning) (old new : Moment) (p turns : ℕ) (left : List ℕ) → AreOpen old new (p ∷ left) → CanBlock q 1 new p turns → AreOpen old (stepped q new (event.Block p turns)) left
AreOpen-step q old new p turns left opens can = record {
  all = λ o inside. elim (cases_eq o p) [
    | inl same ↦ absurd (true≢false (sym (subst (λ k. (row_of (stepped q new (event.Block p turns)) k).inside ≡ true) same inside) ∙ block-left q new p turns (inside-exists new.rows p can.inside) can.ends))
    | inr other ↦ still_left p o left other (opens.all o (sym (block-inside q new p turns o other) ∙ inside))
  ];
  open_ = λ o there. block-open q new p turns o (row_of old o).priority (row_of old o).stamp (λ same. first-apart old new p left opens (subst (Has left) same there)) (opens.open_ o (inr there));
  before = λ o there. opens.before o (inr there);
  sorted = opens.sorted.1;
}

-- one more block is done
Completes-push : (q : Meaning) (old middle new : Moment) (done : List ℕ) (events : List Event) (p turns : ℕ) → Completes q 1 old done events middle → IsStep q 1 middle (event.Block p turns) new
    → Completes q 1 old (done ++ p ∷ []) (events ++ event.Block p turns ∷ []) new
Completes-push q old middle new [] events p turns makes step =
    (turns, [], new, (ap (λ es. es ++ event.Block p turns ∷ []) makes.0), subst (λ m. IsStep q 1 m (event.Block p turns) new) makes.1 step, (refl, refl))
Completes-push q old middle new (o ∷ done) events p turns (after, others, next, is, here, later) step =
    (after, others ++ event.Block p turns ∷ [], next, (ap (λ es. es ++ event.Block p turns ∷ []) is), here, Completes-push q next middle new done others p turns later step)

-- how far the open blocks are done
pub record IsCompleting (q : Meaning) (old : Moment) (before now : List Event) (made : ℕ) (new : Moment) : Type 0 where
  pub done : List ℕ
  pub left : List ℕ
  pub events : List Event
  pub journal : now ≡ before ++ events
  pub whole : open_blocks old.rows ≡ done ++ left
  pub count : length done ≡ made
  pub makes : Completes q 1 old done events new
  pub sound : IsSound q new
  pub opens : AreOpen old new left

pub IsCompleting-start : (q : Meaning) (old : Moment) (before : List Event) → IsSound q old → IsCompleting q old before before 0 old
IsCompleting-start q old before sound = record {
  done = [];
  left = open_blocks old.rows;
  events = [];
  journal = sym (append-nil before);
  whole = refl;
  count = refl;
  makes = (refl, refl);
  sound = sound;
  opens = AreOpen-start q old sound;
}

-- nothing is left where no process is inside a block
none_left : (old new : Moment) (left : List ℕ) → AreOpen old new left → IsClosed new.rows → left ≡ []
none_left old new [] opens closed = refl
none_left old new (p ∷ left) opens closed = absurd (true≢false (sym (opens.open_ p (inl refl)).inside ∙ closed p))

-- and no process is inside a block where nothing is left
closed_where_none : (old new : Moment) → AreOpen old new [] → IsClosed new.rows
closed_where_none old new opens p = elim (cases_Bool (row_of new p).inside) [
  | inl inside ↦ absurd (opens.all p inside)
  | inr outside ↦ outside
]

block_more : (q : Meaning) (old middle new : Moment) (before now later : List Event) (made p turns : ℕ) (left : List ℕ) (run : IsCompleting q old before now made middle) → IsLoad q → run.left ≡ p ∷ left
    → IsAllowed q 1 middle (event.Block p turns) → new ≡ stepped q middle (event.Block p turns) → later ≡ now ++ event.Block p turns ∷ [] → IsCompleting q old before later (made + 1) new
block_more q old middle new before now later made p turns left run load is can done written =
    let opens : AreOpen old middle (p ∷ left) = subst (AreOpen old middle) is run.opens in
    record {
      done = run.done ++ p ∷ [];
      left = left;
      events = run.events ++ event.Block p turns ∷ [];
      journal = written ∙ (ap (λ j. j ++ event.Block p turns ∷ []) run.journal ∙ append_assoc before run.events (event.Block p turns ∷ []));
      whole = run.whole ∙ (ap (λ ps. run.done ++ ps) is ∙ sym (append_assoc run.done (p ∷ []) left));
      count = omega (arith, length-append run.done (p ∷ []), run.count);
      makes = Completes-push q old middle new run.done run.events p turns run.makes (record { allowed = can; done = done });
      sound = subst (IsSound q) (sym done) (stepped-sound q 1 middle (event.Block p turns) load run.sound can tt);
      opens = subst (λ m. AreOpen old m left) (sym done) (AreOpen-step q old middle p turns left opens can);
    }

event_more : (q : Meaning) (old middle new : Moment) (before now later : List Event) (made : ℕ) (happens : Event) (left : List ℕ) (run : IsCompleting q old before now made middle) → IsLoad q → run.left ≡ left
    → (IsClosed middle.rows → ⊥) → IsOfProcess happens → IsAllowed q 1 middle happens → new ≡ stepped q middle happens → later ≡ now ++ happens ∷ [] → IsCompleting q old before later (made + 1) new
event_more q old middle new before now later made happens [] run load is some kind can done written = absurd (some (closed_where_none old middle (subst (AreOpen old middle) is run.opens)))
event_more q old middle new before now later made happens (p ∷ left) run load is some kind can done written =
    let found = first-blocks q old middle p left happens run.sound (subst (AreOpen old middle) is run.opens) kind can in
    block_more q old middle new before now later made p found.0 left run load is (subst (IsAllowed q 1 middle) found.1 can) (done ∙ ap (stepped q middle) found.1) (written ∙ ap (λ e. now ++ e ∷ []) found.1)

-- the next event, with the load, the lanes, the moment and the journal as they are before and after a look at it
pub IsCompleting-seen : {A : Type 0} (f : A → Meaning) (load seen looked : A) (seen_lanes : ℕ) (old middle looked_middle new : Moment) (before now looked_now later : List Event) (made : ℕ) (happens : Event)
    → seen ≡ load → looked ≡ seen → seen_lanes ≡ 1 → looked_middle ≡ middle → looked_now ≡ now → IsLoad (f load)
    → IsCompleting (f load) old before now made middle → (IsClosed middle.rows → ⊥) → IsOfProcess happens → IsAllowed (f seen) seen_lanes middle happens
    → new ≡ stepped (f looked) looked_middle happens → later ≡ looked_now ++ happens ∷ [] → IsCompleting (f load) old before later (made + 1) new
IsCompleting-seen f load seen looked seen_lanes old middle looked_middle new before now looked_now later made happens same_load same_looked one_lane same_middle same_now right run some kind can done written =
    event_more (f load) old middle new before now later made happens run.left run right refl some kind
    (subst (λ l. IsAllowed (f l) 1 middle happens) same_load (subst (λ n. IsAllowed (f seen) n middle happens) one_lane can))
    (done ∙ (ap (λ m. stepped (f looked) m happens) same_middle ∙ ap (λ l. stepped (f l) middle happens) (same_looked ∙ same_load)))
    (written ∙ ap (λ j. j ++ happens ∷ []) same_now)

blocks_done : (q : Meaning) (old : Moment) (before now : List Event) (made : ℕ) (new : Moment) (run : IsCompleting q old before now made new) → run.left ≡ [] → RunsBlocks q old before now new
blocks_done q old before now made new run none =
    let all : open_blocks old.rows ≡ run.done = run.whole ∙ (ap (λ ps. run.done ++ ps) none ∙ append-nil run.done) in
    (run.events, run.journal, subst (λ ps. Completes q 1 old ps run.events new) (sym all) run.makes)

-- all are done where no process is inside a block
pub RunsBlocks-closed : (q : Meaning) (old : Moment) (before now : List Event) (made : ℕ) (new : Moment) → IsCompleting q old before now made new → IsClosed new.rows → RunsBlocks q old before now new
RunsBlocks-closed q old before now made new run closed = blocks_done q old before now made new run (none_left old new run.left run.opens closed)

none_more : (left : List ℕ) → length left ≤ 0 → left ≡ []
none_more [] few = refl
none_more (p ∷ left) few = absurd (omega arith)

-- and where as many events have come as there are rows
pub RunsBlocks-all : (q : Meaning) (old : Moment) (before now : List Event) (made : ℕ) (new : Moment) → length old.rows ≤ made → IsCompleting q old before now made new → RunsBlocks q old before now new
RunsBlocks-all q old before now made new enough run =
    let few : length (open_blocks old.rows) ≤ length (first (length old.rows) old.rows) = length-filtered (λ p. (row_in old.rows p).inside) (first (length old.rows) old.rows) in
    blocks_done q old before now made new run
    (none_more run.left (omega (arith, enough, few, first-few (length old.rows) old.rows, ap {B = ℕ} length run.whole, length-append run.done run.left, run.count)))

-- where no row is Ready, no process is inside a block
pub closed_where_quiet : (q : Meaning) (m : Moment) → IsSound q m → IsQuiet m → IsClosed m.rows
closed_where_quiet q m sound quiet p = elim (cases_Bool (row_of m p).inside) [
  | inl inside ↦ absurd (IsQuiet-unready m p quiet (inside-ready q m p sound inside))
  | inr outside ↦ outside
]

-- no mark up to a number, and there are no rows behind it
pub IsClosed-from : (rows : List Row) (n : ℕ) → length rows ≤ n → ((p : ℕ) → p < n → (row_in rows p).inside ≡ false) → IsClosed rows
IsClosed-from rows n all none p = elim (cases_Bool (row_in rows p).inside) [
  | inl inside ↦ none p (omega (arith, inside-exists rows p inside))
  | inr outside ↦ outside
]
