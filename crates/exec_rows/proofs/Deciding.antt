-- Runs that are found by computation.
use Rattle.std.specs.List.{list_any}
use Rattle.std.proofs.Common.{◌≡◌, ◌≢◌, ℕ, zero, suc, ◌<◌, ◌≤◌, ◌==◌, nat_lt, Bool, true, false, not, ◌&&◌, ◌||◌, ◌⊎◌, List, [], ◌∷◌, ◌++◌, length, slice_get, Option, Some, None, IsSome, bit_and, inl, inr, refl, sym, ap, ap₂, subst, unwrap_or, append_assoc, eq-eqb, ◌∙◌, arith, eqb-true, ltb-true, ltb-false, eq-or-lt_of_le, le_of_suc-le-suc, true≢false}
use Rattle.std.specs.Cmp.Derive.{both_true}
use Rattle.std.proofs.lemmas.Bool.{and_parts, not-true, not-false, false≢true}
use Rattle.std.proofs.lemmas.List.{get_or_past}
use Rattle.hal_values.specs.declared.request.Request.{Request}
use Rattle.hal_values.specs.declared.request.Request.TheVariants as request
use Rattle.hal_values.specs.Loads.{Meaning, IsUpdate}
use Rattle.hal_values.specs.Tables.{process_count}
use Rattle.exec_model.specs.declared.event.Event.{Event}
use Rattle.exec_model.specs.declared.event.Event.TheVariants as event
use Rattle.exec_model.specs.declared.row.Row.{Row}
use Rattle.exec_model.specs.declared.script.ScriptLine.{ScriptLine}
use Rattle.exec_model.specs.declared.script.ScriptLine.TheVariants as line
use Rattle.exec_model.specs.Moments.{Moment, row_of}
use Rattle.exec_model.specs.Opening.{opening}
use Rattle.exec_model.specs.Order.{IsInFirst, place_of}
use Rattle.exec_model.specs.Report.{report}
use Rattle.exec_model.specs.Rows.{row_in, is_ready, idle_row}
use Rattle.exec_model.specs.Runs.{IsOfProcess, IsQuiet, AreOfProcesses, MakesLine, MakesLines, Completes, open_blocks, IsRunTo, moment_after, after}
use Rattle.exec_rows.specs.declared.scripted.Scripted.{Scripted}
use Rattle.exec_rows.specs.Checked.{scripted-checked}
use Rattle.exec_rows.specs.Checks.{checks, scripted}
use Rattle.exec_rows.specs.Scripting.{as_scripted}
use Rattle.exec_model.specs.Steps.{request_of, block_groups, touched_groups, IsHolder, IsFree, IsActed, block_of, IsAllowed, stepped, IsStep, Steps}

-- where one of two is true, this one is or that one
both : (a b : Bool) → (a || b) ≡ true → (a ≡ true) ⊎ (b ≡ true)
both true b e = inl refl
both false b e = inr e

-- the process is another, inside an UPDATE block that has one of the groups
abbrev pub holds : Meaning → Moment → ℕ → ℕ → ℕ → Bool
holds q m p groups o = (row_of m o).inside && not (bit_and (block_groups (request_of q m o)) groups == 0)

-- none of the first so many processes but p holds the groups
abbrev pub none_holds : Meaning → Moment → ℕ → ℕ → ℕ → Bool
none_holds q m p groups zero = true
none_holds q m p groups (suc o) = (o == p || not (holds q m p groups o)) && none_holds q m p groups o

-- no process that has a row holds what p's request touches
abbrev pub is_free : Meaning → Moment → ℕ → Bool
is_free q m p = none_holds q m p (touched_groups q.tables (request_of q m p)) (length m.rows)

-- the request is answered by an event Act
abbrev pub is_acted : Request → Bool
is_acted (request.Update groups) = false
is_acted (request.Look cell) = false
is_acted (request.Close turns) = false
is_acted asked = true

-- the request is an UPDATE block
abbrev pub is_update : Request → Bool
is_update (request.Update groups) = true
is_update asked = false

-- p is among the first Ready ones
abbrev pub is_early : ℕ → List Row → ℕ → Bool
is_early lanes rows p = is_ready (row_in rows p) && nat_lt (place_of rows p) lanes

-- there is something
abbrev pub is_found : {A : Type 0} → Option A → Bool
is_found None = false
is_found (Some v) = true

-- the event may come
abbrev pub allows : Meaning → ℕ → Moment → Event → Bool
allows q lanes m (event.Act p) = is_early lanes m.rows p && (not (row_of m p).inside && (is_acted (request_of q m p) && is_free q m p))
allows q lanes m (event.Open p) = is_early lanes m.rows p && (not (row_of m p).inside && (is_update (request_of q m p) && is_free q m p))
allows q lanes m (event.Block p turns) = is_early lanes m.rows p && ((row_of m p).inside && is_found (block_of q m p turns))
allows q lanes m (event.Tick time) = true
allows q lanes m (event.Preempt p) = nat_lt p (process_count q.tables)

-- events are steps, and what is asked of the moment after them holds
abbrev pub makes_steps : Meaning → ℕ → Moment → List Event → (Moment → Bool) → Bool
makes_steps q lanes m [] then_ = then_ m
makes_steps q lanes m (happens ∷ events) then_ = elim (allows q lanes m happens) [ true ↦ makes_steps q lanes (stepped q m happens) events then_ | false ↦ false ]

-- the event is one of a process
abbrev pub is_of_process : Event → Bool
is_of_process (event.Act p) = true
is_of_process (event.Open p) = true
is_of_process (event.Block p turns) = true
is_of_process (event.Tick time) = false
is_of_process (event.Preempt p) = false

-- each event is one of a process
abbrev pub are_of_processes : List Event → Bool
are_of_processes [] = true
are_of_processes (happens ∷ events) = is_of_process happens && are_of_processes events

-- so many events were made, or fewer, and no row is Ready
abbrev pub used_up : ℕ → ℕ → Moment → Bool
used_up made count m = made == count || (nat_lt made count && not (list_any is_ready m.rows))

-- two names are the same
abbrev pub same_name : List ℕ → List ℕ → Bool
same_name [] [] = true
same_name [] (b ∷ bs) = false
same_name (a ∷ as_) [] = false
same_name (a ∷ as_) (b ∷ bs) = a == b && same_name as_ bs

-- this is the first place of the name
abbrev pub is_place_of : List (List ℕ) → List ℕ → ℕ → Bool
is_place_of [] name p = false
is_place_of (first ∷ names) name zero = same_name first name
is_place_of (first ∷ names) name (suc p) = not (same_name first name) && is_place_of names name p

-- the events are those of the line, and what is asked of the moment after them holds
abbrev pub makes_line : Meaning → ℕ → Moment → ScriptLine → List Event → (Moment → Bool) → Bool
makes_line q lanes m (line.Run count) events then_ = are_of_processes events && makes_steps q lanes m events (λ new. used_up (length events) count new && then_ new)
makes_line q lanes m (line.Tick time) (event.Tick t ∷ []) then_ = t == time && then_ (stepped q m (event.Tick t))
makes_line q lanes m (line.Tick time) events then_ = false
makes_line q lanes m (line.Preempt name) (event.Preempt p ∷ []) then_ = (nat_lt p (process_count q.tables) && is_place_of q.tables.processes name p) && then_ (stepped q m (event.Preempt p))
makes_line q lanes m (line.Preempt name) events then_ = false
makes_line q lanes m (line.Input channel given) [] then_ = then_ m
makes_line q lanes m (line.Input channel given) events then_ = false

-- the events are those of the lines, given line by line
abbrev pub makes_lines : Meaning → ℕ → Moment → List ScriptLine → List (List Event) → (Moment → Bool) → Bool
makes_lines q lanes m [] [] then_ = then_ m
makes_lines q lanes m [] (front ∷ fronts) then_ = false
makes_lines q lanes m (first ∷ lines) [] then_ = false
makes_lines q lanes m (first ∷ lines) (front ∷ fronts) then_ = makes_line q lanes m first front (λ middle. makes_lines q lanes middle lines fronts then_)

-- the open blocks of the processes are done
abbrev pub completes : Meaning → ℕ → Moment → List ℕ → List Event → (Moment → Bool) → Bool
completes q lanes m [] [] then_ = then_ m
completes q lanes m (p ∷ processes) (event.Block o turns ∷ events) then_ = (o == p && allows q lanes m (event.Block o turns)) && completes q lanes (stepped q m (event.Block o turns)) processes events then_
completes q lanes m processes events then_ = false

-- all events of the lines, and those after them
abbrev pub joined : List (List Event) → List Event → List Event
joined [] rest = rest
joined (front ∷ fronts) rest = front ++ joined fronts rest

-- the journal, given line by line, is a run that ends with this report
abbrev pub runs_to : Meaning → List ScriptLine → ℕ → List (List Event) → List Event → List ℕ → Bool
runs_to q script lanes fronts rest text =
    makes_lines q lanes (opening q.tables script) script fronts (λ middle. completes q lanes middle (open_blocks middle.rows) rest (λ end_. same_name (report q end_) text))

-- what does not hold is no holder
not_holds : (q : Meaning) (m : Moment) (p groups o : ℕ) → not (holds q m p groups o) ≡ true → IsHolder q m p groups o → ⊥
not_holds q m p groups o e holder = apart (row_of m o).inside (bit_and (block_groups (request_of q m o)) groups) e holder.inside holder.shares where
  apart : (inside : Bool) (shared : ℕ) → not (inside && not (shared == 0)) ≡ true → inside ≡ true → shared ≢ 0 → ⊥
  apart false shared e is some = false≢true is
  apart true shared e is some = some (eqb-true shared 0 (not-false (shared == 0) (not-true _ e)))

-- a process for which this holds is no holder
no_holder : (q : Meaning) (m : Moment) (p groups o : ℕ) → (o == p || not (holds q m p groups o)) ≡ true → IsHolder q m p groups o → ⊥
no_holder q m p groups o e holder = elim (both (o == p) (not (holds q m p groups o)) e) [
  | inl same ↦ holder.other (eqb-true o p same)
  | inr free ↦ not_holds q m p groups o free holder
]

-- where none of the first so many holds, none of them is a holder
none_holds-free : (q : Meaning) (m : Moment) (p groups count : ℕ) → none_holds q m p groups count ≡ true → (o : ℕ) → o < count → IsHolder q m p groups o → ⊥
none_holds-free q m p groups zero e o below holder = omega (arith, below)
none_holds-free q m p groups (suc count) e o below holder = elim (eq-or-lt_of_le (le_of_suc-le-suc below)) [
  | inl same ↦ no_holder q m p groups o (subst (λ n. (n == p || not (holds q m p groups n)) ≡ true) (sym same) (and_parts _ _ e).0) holder
  | inr less ↦ none_holds-free q m p groups count (and_parts _ _ e).1 o less holder
]

-- a process without a row is no holder
no_row : (q : Meaning) (m : Moment) (p groups o : ℕ) → length m.rows ≤ o → IsHolder q m p groups o → ⊥
no_row q m p groups o past holder = true≢false (sym holder.inside ∙ ap (λ (row : Row). row.inside) (get_or_past m.rows o idle_row past))

-- a found freedom is one
is_free-free : (q : Meaning) (m : Moment) (p : ℕ) → is_free q m p ≡ true → IsFree q m p
is_free-free q m p e o holder = split (nat_lt o (length m.rows)) refl where
  split : (b : Bool) → nat_lt o (length m.rows) ≡ b → ⊥
  split true is = none_holds-free q m p (touched_groups q.tables (request_of q m p)) (length m.rows) e o (ltb-true o (length m.rows) is) holder
  split false is = no_row q m p (touched_groups q.tables (request_of q m p)) o (ltb-false o (length m.rows) is) holder

-- a request that is found to be answered by Act is
is_acted-acted : (asked : Request) → is_acted asked ≡ true → IsActed asked
is_acted-acted (request.Update groups) e = absurd (true≢false (sym e))
is_acted-acted (request.Look cell) e = absurd (true≢false (sym e))
is_acted-acted (request.Close turns) e = absurd (true≢false (sym e))
is_acted-acted asked e = tt

-- a request that is found to be an UPDATE block is one
is_update-update : (asked : Request) → is_update asked ≡ true → IsUpdate asked
is_update-update (request.Update groups) e = tt
is_update-update asked e = absurd (true≢false (sym e))

-- a process that is found among the first is one of them
is_early-early : (lanes : ℕ) (rows : List Row) (p : ℕ) → is_early lanes rows p ≡ true → IsInFirst lanes rows p
is_early-early lanes rows p e = let parts = and_parts (is_ready (row_in rows p)) _ e in record { ready = parts.0; early = ltb-true (place_of rows p) lanes parts.1 }

-- what is found is there
is_found-some : {A : Type 0} (v : Option A) → is_found v ≡ true → IsSome v
is_found-some None e = absurd (true≢false (sym e))
is_found-some (Some v) e = refl

-- an event that is allowed by computation is allowed
allows-allowed : (q : Meaning) (lanes : ℕ) (m : Moment) (happens : Event) → allows q lanes m happens ≡ true → IsAllowed q lanes m happens
allows-allowed q lanes m (event.Act p) e =
    let a = and_parts (is_early lanes m.rows p) _ e in
    let b = and_parts (not (row_of m p).inside) _ a.1 in
    let c = and_parts (is_acted (request_of q m p)) _ b.1 in
    record { early = is_early-early lanes m.rows p a.0; outside = not-true _ b.0; asks = is_acted-acted (request_of q m p) c.0; free = is_free-free q m p c.1 }
allows-allowed q lanes m (event.Open p) e =
    let a = and_parts (is_early lanes m.rows p) _ e in
    let b = and_parts (not (row_of m p).inside) _ a.1 in
    let c = and_parts (is_update (request_of q m p)) _ b.1 in
    record { early = is_early-early lanes m.rows p a.0; outside = not-true _ b.0; asks = is_update-update (request_of q m p) c.0; free = is_free-free q m p c.1 }
allows-allowed q lanes m (event.Block p turns) e =
    let a = and_parts (is_early lanes m.rows p) _ e in
    let b = and_parts (row_of m p).inside _ a.1 in
    record { early = is_early-early lanes m.rows p a.0; inside = b.0; ends = is_found-some (block_of q m p turns) b.1 }
allows-allowed q lanes m (event.Tick time) e = tt
allows-allowed q lanes m (event.Preempt p) e = ltb-true p (process_count q.tables) e

-- steps go on from an event that is allowed
makes_steps-one : (q : Meaning) (lanes : ℕ) (m : Moment) (happens : Event) (events : List Event) (then_ : Moment → Bool) (a : Bool) → allows q lanes m happens ≡ a
    → (makes_steps q lanes (stepped q m happens) events then_ ≡ true
    → Steps q lanes (stepped q m happens) events (moment_after q (stepped q m happens) events) × (then_ (moment_after q (stepped q m happens) events) ≡ true))
    → (elim a as (λ b. Bool) [ true ↦ makes_steps q lanes (stepped q m happens) events then_ | false ↦ false ]) ≡ true
    → Steps q lanes m (happens ∷ events) (moment_after q m (happens ∷ events)) × (then_ (moment_after q m (happens ∷ events)) ≡ true)
makes_steps-one q lanes m happens events then_ false is rest e = absurd (true≢false (sym e))
makes_steps-one q lanes m happens events then_ true is rest e =
    ((stepped q m happens, record { allowed = allows-allowed q lanes m happens is; done = refl }, (rest e).0), (rest e).1)

-- what is asked of the moment after steps holds of it
pub makes_steps-steps : (q : Meaning) (lanes : ℕ) (m : Moment) (events : List Event) (then_ : Moment → Bool) → makes_steps q lanes m events then_ ≡ true
    → Steps q lanes m events (moment_after q m events) × (then_ (moment_after q m events) ≡ true)
makes_steps-steps q lanes m [] then_ e = (refl, e)
makes_steps-steps q lanes m (happens ∷ events) then_ e =
    makes_steps-one q lanes m happens events then_ (allows q lanes m happens) refl (makes_steps-steps q lanes (stepped q m happens) events then_) e

-- events that are found to be of processes are
are_of_processes-are : (events : List Event) → are_of_processes events ≡ true → AreOfProcesses events
are_of_processes-are [] e = tt
are_of_processes-are (happens ∷ events) e = let parts = and_parts (is_of_process happens) _ e in (is_of_process-is happens parts.0, are_of_processes-are events parts.1) where
  is_of_process-is : (happens : Event) → is_of_process happens ≡ true → IsOfProcess happens
  is_of_process-is (event.Act p) e = tt
  is_of_process-is (event.Open p) e = tt
  is_of_process-is (event.Block p turns) e = tt
  is_of_process-is (event.Tick time) e = absurd (true≢false (sym e))
  is_of_process-is (event.Preempt p) e = absurd (true≢false (sym e))

used_up-used : (made count : ℕ) (m : Moment) → used_up made count m ≡ true → (made ≡ count) ⊎ ((made < count) × IsQuiet m)
used_up-used made count m e = elim (both (made == count) _ e) [
  | inl all ↦ inl (eqb-true made count all)
  | inr fewer ↦ let parts = and_parts (nat_lt made count) _ fewer in inr (ltb-true made count parts.0, not-true _ parts.1)
]

-- names that are the same by computation are equal
same_name-equal : (a b : List ℕ) → same_name a b ≡ true → a ≡ b
same_name-equal [] [] e = refl
same_name-equal [] (b ∷ bs) e = absurd (true≢false (sym e))
same_name-equal (a ∷ as_) [] e = absurd (true≢false (sym e))
same_name-equal (a ∷ as_) (b ∷ bs) e = let parts = and_parts (a == b) _ e in ap₂ (λ x y. x ∷ y) (eqb-true a b parts.0) (same_name-equal as_ bs parts.1)

-- a name is the same as itself
same_name-self : (a : List ℕ) → same_name a a ≡ true
same_name-self [] = refl
same_name-self (a ∷ as_) = both_true (eq-eqb a a refl) (same_name-self as_)

-- the place that is found has the name
is_place_of-named : (names : List (List ℕ)) (name : List ℕ) (p : ℕ) → is_place_of names name p ≡ true → slice_get names p ≡ Some name
is_place_of-named [] name p e = absurd (true≢false (sym e))
is_place_of-named (first ∷ names) name zero e = ap Some (same_name-equal first name e)
is_place_of-named (first ∷ names) name (suc p) e = is_place_of-named names name p (and_parts (not (same_name first name)) _ e).1

-- no place before the one that is found has the name
is_place_of-lowest : (names : List (List ℕ)) (name : List ℕ) (p : ℕ) → is_place_of names name p ≡ true → (o : ℕ) → o < p → slice_get names o ≢ Some name
is_place_of-lowest [] name p e o below is = true≢false (sym e)
is_place_of-lowest (first ∷ names) name zero e o below is = omega (arith, below)
is_place_of-lowest (first ∷ names) name (suc p) e zero below is =
    true≢false (sym (subst (λ n. same_name n name ≡ true) (sym (some_same is)) (same_name-self name)) ∙ not-true _ (and_parts (not (same_name first name)) _ e).0) where
      some_same : {a b : List ℕ} → Some a ≡ Some b → a ≡ b
      some_same {a} {b} e = ap (λ v. unwrap_or v a) e
is_place_of-lowest (first ∷ names) name (suc p) e (suc o) below is = is_place_of-lowest names name p (and_parts (not (same_name first name)) _ e).1 o (le_of_suc-le-suc below) is

-- the events of a line lead to a moment of which what is asked holds
makes_line-line : (q : Meaning) (lanes : ℕ) (m : Moment) (first : ScriptLine) (events : List Event) (then_ : Moment → Bool) → makes_line q lanes m first events then_ ≡ true
    → MakesLine q lanes m first events (moment_after q m events) × (then_ (moment_after q m events) ≡ true)
makes_line-line q lanes m (line.Run count) events then_ e =
    let a = and_parts (are_of_processes events) _ e in
    let b = makes_steps-steps q lanes m events (λ new. used_up (length events) count new && then_ new) a.1 in
    let c = and_parts (used_up (length events) count (moment_after q m events)) _ b.1 in
    (record { steps = b.0; kind = are_of_processes-are events a.0; used_up = used_up-used (length events) count (moment_after q m events) c.0 }, c.1)
makes_line-line q lanes m (line.Tick time) [] then_ e = absurd (true≢false (sym e))
makes_line-line q lanes m (line.Tick time) (event.Tick t ∷ []) then_ e =
    let parts = and_parts (t == time) _ e in
    ((ap (λ x. event.Tick x ∷ []) (eqb-true t time parts.0), (stepped q m (event.Tick t), record { allowed = tt; done = refl }, refl)), parts.1)
makes_line-line q lanes m (line.Tick time) events then_ e = absurd (true≢false (sym e))
makes_line-line q lanes m (line.Preempt name) (event.Preempt p ∷ []) then_ e =
    let a = and_parts (nat_lt p (process_count q.tables) && is_place_of q.tables.processes name p) _ e in
    let b = and_parts (nat_lt p (process_count q.tables)) _ a.0 in (
      inl (
        p,
        record { named = is_place_of-named q.tables.processes name p b.1; lowest = is_place_of-lowest q.tables.processes name p b.1 },
        refl,
        (stepped q m (event.Preempt p), record { allowed = ltb-true p (process_count q.tables) b.0; done = refl }, refl),
      ),
      a.1,
    )
makes_line-line q lanes m (line.Preempt name) events then_ e = absurd (true≢false (sym e))
makes_line-line q lanes m (line.Input channel given) [] then_ e = ((refl, refl), e)
makes_line-line q lanes m (line.Input channel given) events then_ e = absurd (true≢false (sym e))

-- the moment after events and others is that after the others, from the moment after the first
pub moment_after-append : (q : Meaning) (m : Moment) (events others : List Event) → moment_after q m (events ++ others) ≡ moment_after q (moment_after q m events) others
moment_after-append q m [] others = refl
moment_after-append q m (happens ∷ events) others = moment_after-append q (stepped q m happens) events others

-- the events of lines lead to a moment of which what is asked holds
makes_lines-lines : (q : Meaning) (lanes : ℕ) (m : Moment) (lines : List ScriptLine) (fronts : List (List Event)) (then_ : Moment → Bool) → makes_lines q lanes m lines fronts then_ ≡ true
    → (new : Moment) × MakesLines q lanes m lines (joined fronts []) new × (new ≡ moment_after q m (joined fronts [])) × (then_ new ≡ true)
makes_lines-lines q lanes m [] [] then_ e = (m, (refl, refl), refl, e)
makes_lines-lines q lanes m [] (front ∷ fronts) then_ e = absurd (true≢false (sym e))
makes_lines-lines q lanes m (first ∷ lines) [] then_ e = absurd (true≢false (sym e))
makes_lines-lines q lanes m (first ∷ lines) (front ∷ fronts) then_ e =
    let a = makes_line-line q lanes m first front (λ middle. makes_lines q lanes middle lines fronts then_) e in
    let b = makes_lines-lines q lanes (moment_after q m front) lines fronts then_ a.1 in
    (b.0, (front, joined fronts [], moment_after q m front, refl, a.0, b.1), b.2 ∙ sym (moment_after-append q m front (joined fronts [])), b.3)

-- the blocks that are done lead to a moment of which what is asked holds
completes-completes : (q : Meaning) (lanes : ℕ) (m : Moment) (processes : List ℕ) (events : List Event) (then_ : Moment → Bool) → completes q lanes m processes events then_ ≡ true
    → Completes q lanes m processes events (moment_after q m events) × (then_ (moment_after q m events) ≡ true)
completes-completes q lanes m [] [] then_ e = ((refl, refl), e)
completes-completes q lanes m [] (happens ∷ events) then_ e = absurd (true≢false (sym e))
completes-completes q lanes m (p ∷ processes) (event.Block o turns ∷ events) then_ e =
    let a = and_parts (o == p && allows q lanes m (event.Block o turns)) _ e in
    let b = and_parts (o == p) _ a.0 in
    let c = completes-completes q lanes (stepped q m (event.Block o turns)) processes events then_ a.1 in
    let same = eqb-true o p b.0 in (
      (
        turns,
        events,
        stepped q m (event.Block o turns),
        ap (λ x. event.Block x turns ∷ events) same,
        subst (λ x. IsStep q lanes m (event.Block x turns) (stepped q m (event.Block o turns))) same (record { allowed = allows-allowed q lanes m (event.Block o turns) b.1; done = refl }),
        c.0,
      ),
      c.1,
    )
completes-completes q lanes m processes events then_ e = absurd (true≢false (sym e))

-- the events after those of the lines stand at the end
joined-append : (fronts : List (List Event)) (rest : List Event) → joined fronts rest ≡ joined fronts [] ++ rest
joined-append [] rest = refl
joined-append (front ∷ fronts) rest = ap (λ x. front ++ x) (joined-append fronts rest) ∙ sym (append_assoc front (joined fronts []) rest)

-- a run over the journal that is given line by line
joined_run : (q : Meaning) (script : List ScriptLine) (lanes : ℕ) (fronts : List (List Event)) (rest : List Event) (text : List ℕ) → runs_to q script lanes fronts rest text ≡ true
    → IsRunTo q script lanes (joined fronts rest) (after q script (joined fronts rest)) × (report q (after q script (joined fronts rest)) ≡ text)
joined_run q script lanes fronts rest text e =
    let a = makes_lines-lines q lanes (opening q.tables script) script fronts (λ middle. completes q lanes middle (open_blocks middle.rows) rest (λ end_. same_name (report q end_) text)) e in
    let b = completes-completes q lanes a.0 (open_blocks a.0.rows) rest (λ end_. same_name (report q end_) text) a.3 in
    let end_ : moment_after q a.0 rest ≡ after q script (joined fronts rest)
    = ap (λ m. moment_after q m rest) a.2 ∙ sym (moment_after-append q (opening q.tables script) (joined fronts []) rest) ∙ ap (λ j. moment_after q (opening q.tables script) j) (sym (joined-append fronts rest)) in (
      subst (λ m. IsRunTo q script lanes (joined fronts rest) m) end_ (record { front = joined fronts []; rest = rest; middle = a.0; whole = joined-append fronts rest; lines = a.1; blocks = b.0 }),
      subst (λ m. report q m ≡ text) end_ (same_name-equal _ _ b.1),
    )

-- a run that is found by computation is one, with the report
pub runs_to-run : (q : Meaning) (script : List ScriptLine) (lanes : ℕ) (fronts : List (List Event)) (rest journal : List Event) (text : List ℕ) → joined fronts rest ≡ journal
    → runs_to q script lanes fronts rest text ≡ true → IsRunTo q script lanes journal (after q script journal) × (report q (after q script journal) ≡ text)
runs_to-run q script lanes fronts rest journal text same e =
    subst (λ j. IsRunTo q script lanes j (after q script j) × (report q (after q script j) ≡ text)) same (joined_run q script lanes fronts rest text e)

-- a run of a scripted load that checks is found by computation of what stands in it
pub scripted-run : (load : Scripted) (script : List ScriptLine) (lanes : ℕ) (fronts : List (List Event)) (rest journal : List Event) (text : List ℕ) → checks load ≡ true → joined fronts rest ≡ journal
    → runs_to (as_scripted load) script lanes fronts rest text ≡ true → IsRunTo (scripted load) script lanes journal (after (scripted load) script journal) × (report (scripted load) (after (scripted load) script journal) ≡ text)
scripted-run load script lanes fronts rest journal text right same e =
    subst (λ q. IsRunTo q script lanes journal (after q script journal) × (report q (after q script journal) ≡ text)) (sym (scripted-checked load right)) (runs_to-run (as_scripted load) script lanes fronts rest journal text same e)
