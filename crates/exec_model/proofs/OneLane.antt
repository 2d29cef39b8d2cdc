-- The first Ready row: at a sound moment it may always have its event; and with one lane no other event of a process may come.
use Rattle.std.proofs.Common.{◌≡◌, ℕ, ◌<◌, ◌≤◌, ◌⊎◌, inl, inr, true, false, List, length, Option, Some, None, IsSome, refl, sym, ◌∙◌, ap, subst, arith}
use Rattle.std.proofs.lemmas.Bool.{cases_lt, cases_Bool, true≢false}
use Rattle.std.proofs.lemmas.List.{get_or_past}
use Rattle.hal_values.specs.declared.request.Request.{Request}
use Rattle.hal_values.specs.declared.request.Request.TheVariants as request
use Rattle.hal_values.specs.declared.tables.Tables.{Tables}
use Rattle.hal_values.specs.declared.value.Value.{Value}
use Rattle.hal_values.specs.Loads.{Meaning, IsLoad, IsUpdate}
use Rattle.hal_values.specs.Requests.{HasProcess, IsInOrder}
use Rattle.exec_model.specs.declared.event.Event.{Event}
use Rattle.exec_model.specs.declared.event.Event.TheVariants as event
use Rattle.exec_model.specs.declared.row.Row.{Row}
use Rattle.exec_model.specs.Moments.{Moment, row_of, answers_of}
use Rattle.exec_model.specs.Order.{goes_before, IsInFirst}
use Rattle.exec_model.specs.Rows.{row_in, idle_row, is_ready}
use Rattle.exec_model.specs.Runs.{IsOfProcess}
use Rattle.exec_model.specs.Sound.{IsSound}
use Rattle.exec_model.specs.Steps.{request_of, block_of, IsFree, IsActed, CanAct, CanOpen, CanBlock, IsAllowed}
use Rattle.exec_model.proofs.Ordering.{ready-exists, place-first, first-one, first-wider, first-ahead}

-- a process with a Ready row exists
pub ready-has_process : (q : Meaning) (m : Moment) (p : ℕ) → IsSound q m → is_ready (row_of m p) ≡ true → HasProcess q.tables p
ready-has_process q m p sound ready = omega (arith, ready-exists m.rows p ready, sound.rows)

-- a process with a row that is inside an UPDATE block has a row
pub inside-exists : (rows : List Row) (p : ℕ) → (row_in rows p).inside ≡ true → p < length rows
inside-exists rows p inside = elim (cases_lt p (length rows)) [
  | inl there ↦ there
  | inr past ↦ absurd (true≢false (sym inside ∙ ap (λ (row : Row). row.inside) (get_or_past rows p idle_row past)))
]

-- a row that is inside an UPDATE block is Ready
pub inside-ready : (q : Meaning) (m : Moment) (p : ℕ) → IsSound q m → (row_of m p).inside ≡ true → is_ready (row_of m p) ≡ true
inside-ready q m p sound inside = (sound.blocks p (omega (arith, inside-exists m.rows p inside, sound.rows)) inside).0

-- a row outside UPDATE blocks doesn't go before one inside
goes_before-outside : (p o : ℕ) (a b : Row) → a.inside ≡ false → b.inside ≡ true → goes_before p a o b ≡ false
goes_before-outside p o a b outside inside = rw (outside, inside) refl

-- where the first Ready row isn't inside an UPDATE block, no row is
pub first-alone : (q : Meaning) (m : Moment) (o p : ℕ) → IsSound q m → IsInFirst 1 m.rows o → (row_of m o).inside ≡ false → (row_of m p).inside ≡ false
first-alone q m o p sound early outside = elim (cases_Bool (row_of m p).inside) [
  | inl inside ↦ absurd (true≢false (
      sym (first-ahead m.rows o (omega (arith, early.early)) p (inside-ready q m p sound inside) (λ e. true≢false (sym inside ∙ (ap (λ i. (row_of m i).inside) e ∙ outside))))
      ∙ goes_before-outside o p (row_of m o) (row_of m p) outside inside))
  | inr outside' ↦ outside'
]

-- so the groups that its request touches are free
pub first-free : (q : Meaning) (m : Moment) (o : ℕ) → IsSound q m → IsInFirst 1 m.rows o → (row_of m o).inside ≡ false → IsFree q m o
first-free q m o sound early outside p holder = true≢false (sym holder.inside ∙ first-alone q m o p sound early outside)

-- a request in order is Update, or one that an event Act answers
pub asked-ways : (tables : Tables) (asked : Request) → IsInOrder tables asked → IsUpdate asked ⊎ IsActed asked
asked-ways tables request.Begin ok = inr tt
asked-ways tables (request.Read spot) ok = inr tt
asked-ways tables (request.Write cell v) ok = inr tt
asked-ways tables request.Pass ok = inr tt
asked-ways tables (request.Update groups) ok = inl tt
asked-ways tables (request.Schedule plan) ok = inr tt
asked-ways tables (request.Cancel process) ok = inr tt
asked-ways tables (request.Terminate process) ok = inr tt
asked-ways tables (request.Wait pause) ok = inr tt
asked-ways tables (request.Signal e) ok = inr tt
asked-ways tables (request.Set e) ok = inr tt
asked-ways tables (request.Reset e) ok = inr tt
asked-ways tables (request.Priority process priority) ok = inr tt
asked-ways tables (request.Print channel line) ok = inr tt
asked-ways tables (request.Input channel kind) ok = inr tt
asked-ways tables request.Now ok = inr tt
asked-ways tables (request.Stop e) ok = inr tt
asked-ways tables request.Finish ok = inr tt
asked-ways tables (request.Look cell) ok = absurd ok
asked-ways tables (request.Close turns) ok = absurd ok

-- Update isn't answered by an event Act
pub asked-one_way : (asked : Request) → IsActed asked → IsUpdate asked → ⊥
asked-one_way (request.Update groups) acted update = acted
asked-one_way asked acted update = update

-- a request in order that isn't Update is answered by an event Act
pub IsActed-from : (tables : Tables) (asked : Request) → IsInOrder tables asked → (IsUpdate asked → ⊥) → IsActed asked
IsActed-from tables asked ok other = elim (asked-ways tables asked ok) [ inl update ↦ absurd (other update) | inr acted ↦ acted ]

-- the first Ready row that is outside UPDATE blocks may be answered where it asks no Update
pub first-acts : (q : Meaning) (lanes : ℕ) (m : Moment) (o : ℕ) → IsSound q m → 1 ≤ lanes → IsInFirst 1 m.rows o → (row_of m o).inside ≡ false → IsActed (request_of q m o) → CanAct q lanes m o
first-acts q lanes m o sound some early outside asks = record { early = first-wider 1 lanes m.rows o early some; outside = outside; asks = asks; free = first-free q m o sound early outside }

-- and its UPDATE block may begin where it asks for one
pub first-opens : (q : Meaning) (lanes : ℕ) (m : Moment) (o : ℕ) → IsSound q m → 1 ≤ lanes → IsInFirst 1 m.rows o → (row_of m o).inside ≡ false → IsUpdate (request_of q m o) → CanOpen q lanes m o
first-opens q lanes m o sound some early outside asks = record { early = first-wider 1 lanes m.rows o early some; outside = outside; asks = asks; free = first-free q m o sound early outside }

-- where the first Ready row is inside an UPDATE block, that may be done after some number of turns
pub first-blocks : (q : Meaning) (lanes : ℕ) (m : Moment) (o : ℕ) → IsLoad q → IsSound q m → 1 ≤ lanes → IsInFirst 1 m.rows o → (row_of m o).inside ≡ true → (turns : ℕ) × CanBlock q lanes m o turns
first-blocks q lanes m o load sound some early inside = (ends.0, record { early = first-wider 1 lanes m.rows o early some; inside = inside; ends = ends.1 })
  where
    exists : HasProcess q.tables o
    exists = ready-has_process q m o sound early.ready

    ends : (turns : ℕ) × IsSome (block_of q m o turns)
    ends = load.ends o (answers_of m o) m.store exists (sound.fit o exists) sound.store (sound.blocks o exists inside).1

-- what the process asks is in order
pub request-in_order : (q : Meaning) (m : Moment) (p : ℕ) → IsLoad q → IsSound q m → HasProcess q.tables p → IsInOrder q.tables (request_of q m p)
request-in_order q m p load sound exists = load.in_order p (answers_of m p) exists (sound.fit p exists)

-- the first Ready row may have an event
pub first-event : (q : Meaning) (lanes : ℕ) (m : Moment) (o : ℕ) → IsLoad q → IsSound q m → 1 ≤ lanes → IsInFirst 1 m.rows o → (e : Event) × IsOfProcess e × IsAllowed q lanes m e
first-event q lanes m o load sound some early = elim (cases_Bool (row_of m o).inside) [
  | inl inside ↦ let blocks = first-blocks q lanes m o load sound some early inside in (event.Block o blocks.0, tt, blocks.1)
  | inr outside ↦ elim (asked-ways q.tables (request_of q m o) (request-in_order q m o load sound (ready-has_process q m o sound early.ready))) [
    | inl update ↦ (event.Open o, tt, first-opens q lanes m o sound some early outside update)
    | inr acted ↦ (event.Act o, tt, first-acts q lanes m o sound some early outside acted)
  ]
]

-- where a row is Ready, an event of a process may come
pub some_event : (q : Meaning) (lanes : ℕ) (m : Moment) → IsLoad q → IsSound q m → 1 ≤ lanes → (p : ℕ) → is_ready (row_of m p) ≡ true → (e : Event) × IsOfProcess e × IsAllowed q lanes m e
some_event q lanes m load sound some p ready = let early = place-first m.rows p ready in first-event q lanes m early.0 load sound some early.1

-- an UPDATE block of a sound moment ends after one number of turns
pub one_block : (q : Meaning) (m : Moment) (p turns other : ℕ) → IsLoad q → IsSound q m → HasProcess q.tables p → IsSome (block_of q m p turns) → IsSome (block_of q m p other) → turns ≡ other
one_block q m p turns other load sound exists one two = go (block_of q m p turns) (block_of q m p other) refl refl one two
  where
    go : (a b : Option (List (ℕ × Value))) → block_of q m p turns ≡ a → block_of q m p other ≡ b → IsSome a → IsSome b → turns ≡ other
    go None b e f one two = absurd (true≢false (sym one))
    go (Some writes) None e f one two = absurd (true≢false (sym two))
    go (Some writes) (Some others) e f one two = load.one_end p (answers_of m p) m.store turns other writes others exists (sound.fit p exists) sound.store e f

-- with one lane at most one event of a process may come
pub one_event : (q : Meaning) (m : Moment) → IsLoad q → IsSound q m → (e f : Event) → IsOfProcess e → IsOfProcess f → IsAllowed q 1 m e → IsAllowed q 1 m f → e ≡ f
one_event q m load sound (event.Act p) (event.Act o) a b one two = ap event.Act (first-one m.rows p o one.early two.early)
one_event q m load sound (event.Act p) (event.Open o) a b one two =
    absurd (asked-one_way (request_of q m p) one.asks (subst (λ i. IsUpdate (request_of q m i)) (sym (first-one m.rows p o one.early two.early)) two.asks))
one_event q m load sound (event.Act p) (event.Block o turns) a b one two =
    absurd (true≢false (sym two.inside ∙ (ap (λ i. (row_of m i).inside) (sym (first-one m.rows p o one.early two.early)) ∙ one.outside)))
one_event q m load sound (event.Open p) (event.Act o) a b one two =
    absurd (asked-one_way (request_of q m o) two.asks (subst (λ i. IsUpdate (request_of q m i)) (first-one m.rows p o one.early two.early) one.asks))
one_event q m load sound (event.Open p) (event.Open o) a b one two = ap event.Open (first-one m.rows p o one.early two.early)
one_event q m load sound (event.Open p) (event.Block o turns) a b one two =
    absurd (true≢false (sym two.inside ∙ (ap (λ i. (row_of m i).inside) (sym (first-one m.rows p o one.early two.early)) ∙ one.outside)))
one_event q m load sound (event.Block p turns) (event.Act o) a b one two =
    absurd (true≢false (sym one.inside ∙ (ap (λ i. (row_of m i).inside) (first-one m.rows p o one.early two.early) ∙ two.outside)))
one_event q m load sound (event.Block p turns) (event.Open o) a b one two =
    absurd (true≢false (sym one.inside ∙ (ap (λ i. (row_of m i).inside) (first-one m.rows p o one.early two.early) ∙ two.outside)))
one_event q m load sound (event.Block p turns) (event.Block o other) a b one two = let same = first-one m.rows p o one.early two.early in
    ap (λ i. event.Block i turns) same
    ∙ ap (event.Block o) (one_block q m o turns other load sound (ready-has_process q m o sound two.early.ready) (subst (λ i. IsSome (block_of q m i turns)) same one.ends) two.ends)
one_event q m load sound (event.Tick time) f a b one two = absurd a
one_event q m load sound (event.Preempt p) f a b one two = absurd a
one_event q m load sound e (event.Tick time) a b one two = absurd b
one_event q m load sound e (event.Preempt p) a b one two = absurd b
