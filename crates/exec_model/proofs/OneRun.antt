-- With one lane a load has at most one run under a script.
use Rattle.std.proofs.Common.{◌≡◌, ℕ, ◌<◌, ◌≤◌, ◌⊎◌, inl, inr, true, List, [], ◌∷◌, ◌++◌, length, refl, sym, ◌∙◌, ap, ap₂, subst, arith}
use Rattle.std.proofs.lemmas.Bool.{cases_order, true≢false}
use Rattle.std.proofs.lemmas.List.Folds.{list_any_at}
use Rattle.hal_values.specs.declared.tables.Tables.{Tables}
use Rattle.hal_values.specs.Loads.{Meaning, IsLoad}
use Rattle.exec_model.specs.declared.event.Event.{Event}
use Rattle.exec_model.specs.declared.event.Event.TheVariants as event
use Rattle.exec_model.specs.declared.script.ScriptLine.{ScriptLine}
use Rattle.exec_model.specs.declared.script.ScriptLine.TheVariants as line
use Rattle.exec_model.specs.Moments.{Moment, row_of}
use Rattle.exec_model.specs.Opening.{opening}
use Rattle.exec_model.specs.Rows.{idle_row, is_ready}
use Rattle.exec_model.specs.Runs.{IsOfProcess, AreOfProcesses, IsQuiet, IsLowestNamed, MakesLine, MakesLines, Reaches, Completes, open_blocks, IsRunTo}
use Rattle.exec_model.specs.Scripts.{IsScript}
use Rattle.exec_model.specs.Sound.{IsSound}
use Rattle.exec_model.specs.Steps.{IsAllowed, stepped, Steps}
use Rattle.exec_model.proofs.Agreement.{IsStep-sound, LeadsToSound, LeadsToSound-rest, LeadsToSound-opening, IsRunTo-middle}
use Rattle.exec_model.proofs.OneLane.{ready-has_process, one_block, one_event, some_event}
use Rattle.exec_model.proofs.Ordering.{ready-exists}
use Rattle.exec_model.proofs.SoundRuns.{after_reaches-sound}

-- where no row is Ready, no process's row is
pub IsQuiet-unready : (m : Moment) (p : ℕ) → IsQuiet m → is_ready (row_of m p) ≡ true → ⊥
IsQuiet-unready m p quiet ready = true≢false (sym (list_any_at is_ready m.rows p idle_row (ready-exists m.rows p ready) ready) ∙ quiet)

-- where no row is Ready, no event of a process may come
pub IsQuiet-none : (q : Meaning) (lanes : ℕ) (m : Moment) (e : Event) → IsQuiet m → IsOfProcess e → IsAllowed q lanes m e → ⊥
IsQuiet-none q lanes m (event.Act p) quiet kind can = IsQuiet-unready m p quiet can.early.ready
IsQuiet-none q lanes m (event.Open p) quiet kind can = IsQuiet-unready m p quiet can.early.ready
IsQuiet-none q lanes m (event.Block p turns) quiet kind can = IsQuiet-unready m p quiet can.early.ready
IsQuiet-none q lanes m (event.Tick time) quiet kind can = kind
IsQuiet-none q lanes m (event.Preempt p) quiet kind can = kind

-- the events are no fewer than others, or no row is Ready after them
abbrev EndsLate : List Event → List Event → Moment → Type 0
EndsLate events others new = (length others ≤ length events) ⊎ IsQuiet new

-- the same after the first event
EndsLate-rest : (e f : Event) (events others : List Event) (new : Moment) → EndsLate (e ∷ events) (f ∷ others) new → EndsLate events others new
EndsLate-rest e f events others new (inl longer) = inl (omega arith)
EndsLate-rest e f events others new (inr quiet) = inr quiet

-- where no event is made, and no fewer than others, then no others are
EndsLate-nil : (q : Meaning) (lanes : ℕ) (old new : Moment) (f : Event) (others : List Event) → EndsLate [] (f ∷ others) new → new ≡ old → IsOfProcess f → IsAllowed q lanes old f → ⊥
EndsLate-nil q lanes old new f others (inl longer) same kind can = absurd (omega arith)
EndsLate-nil q lanes old new f others (inr quiet) same kind can = IsQuiet-none q lanes old f (subst IsQuiet same quiet) kind can

-- with one lane the steps by events of processes are the same, where neither end early
one_steps : (q : Meaning) (old : Moment) (events others : List Event) (new end_ : Moment) → IsLoad q → IsSound q old → AreOfProcesses events → AreOfProcesses others
    → Steps q 1 old events new → Steps q 1 old others end_ → EndsLate events others new → EndsLate others events end_ → (events ≡ others) × (new ≡ end_)
one_steps q old [] [] new end_ load sound a b one two late late' = (refl, one ∙ sym two)
one_steps q old [] (f ∷ others) new end_ load sound a b one two late late' = absurd (EndsLate-nil q 1 old new f others late one b.0 two.1.allowed)
one_steps q old (e ∷ events) [] new end_ load sound a b one two late late' = absurd (EndsLate-nil q 1 old end_ e events late' two a.0 one.1.allowed)
one_steps q old (e ∷ events) (f ∷ others) new end_ load sound a b one two late late' =
    let rest : (events ≡ others) × (new ≡ end_) = one_steps q one.0 events others new end_ load (IsStep-sound q 1 old one.0 e load sound a.0 one.1) a.1 b.1 one.2 (subst (λ m. Steps q 1 m others end_) middle two.2)
    (EndsLate-rest e f events others new late) (EndsLate-rest f e others events end_ late') in
    (ap₂ (λ x xs. x ∷ xs) same rest.0, rest.1)
  where
    same : e ≡ f
    same = one_event q old load sound e f a.0 b.0 one.1.allowed two.1.allowed

    middle : two.0 ≡ one.0
    middle = two.1.done ∙ (ap (stepped q old) (sym same) ∙ sym one.1.done)

-- events that use up a count are no fewer than others that are within it, or no row is Ready after them
used_up-late : (count : ℕ) (events others : List Event) (new end_ : Moment) → (length events ≡ count) ⊎ ((length events < count) × IsQuiet new) → (length others ≡ count) ⊎ ((length others < count) × IsQuiet end_)
    → EndsLate events others new
used_up-late count events others new end_ (inl whole) (inl whole') = inl (omega arith)
used_up-late count events others new end_ (inl whole) (inr part) = inl (omega (arith, part.0))
used_up-late count events others new end_ (inr part) b = inr part.1

-- a single event leads to the moment after it
one_step-is : (q : Meaning) (lanes : ℕ) (old new : Moment) (events : List Event) (e : Event) → events ≡ e ∷ [] → Steps q lanes old events new → new ≡ stepped q old e
one_step-is q lanes old new events e same steps = go (subst (λ es. Steps q lanes old es new) same steps)
  where
    go : Steps q lanes old (e ∷ []) new → new ≡ stepped q old e
    go steps = steps.2 ∙ steps.1.done

-- one process is the lowest of a name
IsLowestNamed-one : (tables : Tables) (name : List ℕ) (p o : ℕ) → IsLowestNamed tables name p → IsLowestNamed tables name o → p ≡ o
IsLowestNamed-one tables name p o one two = elim (cases_order p o) [
  | inl same ↦ same
  | inr other ↦ elim other [ inl below ↦ absurd (two.lowest p below one.named) | inr above ↦ absurd (one.lowest o above two.named) ]
]

-- with one lane the events of a script line are the same
MakesLine-one : (q : Meaning) (old : Moment) (l : ScriptLine) (events others : List Event) (new end_ : Moment) → IsLoad q → IsSound q old
    → MakesLine q 1 old l events new → MakesLine q 1 old l others end_ → (events ≡ others) × (new ≡ end_)
MakesLine-one q old (line.Run count) events others new end_ load sound one two =
    one_steps q old events others new end_ load sound one.kind two.kind one.steps two.steps
    (used_up-late count events others new end_ one.used_up two.used_up) (used_up-late count others events end_ new two.used_up one.used_up)
MakesLine-one q old (line.Tick time) events others new end_ load sound one two =
    (one.0 ∙ sym two.0, one_step-is q 1 old new events (event.Tick time) one.0 one.1 ∙ sym (one_step-is q 1 old end_ others (event.Tick time) two.0 two.1))
MakesLine-one q old (line.Preempt name) events others new end_ load sound (inl one) (inl two) = let same = IsLowestNamed-one q.tables name one.0 two.0 one.1 two.1 in (
  one.2 ∙ (ap (λ p. event.Preempt p ∷ []) same ∙ sym two.2),
  one_step-is q 1 old new events (event.Preempt one.0) one.2 one.3 ∙ (ap (λ p. stepped q old (event.Preempt p)) same ∙ sym (one_step-is q 1 old end_ others (event.Preempt two.0) two.2 two.3)),
)
MakesLine-one q old (line.Preempt name) events others new end_ load sound (inl one) (inr two) = absurd (two.0 one.0 one.1.named)
MakesLine-one q old (line.Preempt name) events others new end_ load sound (inr one) (inl two) = absurd (one.0 two.0 two.1.named)
MakesLine-one q old (line.Preempt name) events others new end_ load sound (inr one) (inr two) = (one.1 ∙ sym two.1, one.2 ∙ sym two.2)
MakesLine-one q old (line.Input channel given) events others new end_ load sound one two = (one.0 ∙ sym two.0, one.1 ∙ sym two.1)

-- with one lane the events of script lines are the same
pub MakesLines-one : (q : Meaning) (old : Moment) (lines : List ScriptLine) (events others : List Event) (new end_ : Moment) → IsLoad q → LeadsToSound q 1 old lines
    → MakesLines q 1 old lines events new → MakesLines q 1 old lines others end_ → (events ≡ others) × (new ≡ end_)
MakesLines-one q old [] events others new end_ load leads one two = (one.0 ∙ sym two.0, one.1 ∙ sym two.1)
MakesLines-one q old (l ∷ lines) events others new end_ load leads one two =
    let rest : (one.1 ≡ two.1) × (new ≡ end_) = MakesLines-one q one.2 lines one.1 two.1 new end_ load (LeadsToSound-rest q 1 old one.2 l lines one.0 leads one.4) one.5
    (subst (λ m. MakesLines q 1 m lines two.1 end_) (sym head.1) two.5) in
    (one.3 ∙ (ap₂ (λ xs ys. xs ++ ys) head.0 rest.0 ∙ sym two.3), rest.1)
  where
    head : (one.0 ≡ two.0) × (one.2 ≡ two.2)
    head = MakesLine-one q old l one.0 two.0 one.2 two.2 load (leads 0 [] old (refl, refl)) one.4 two.4

-- open blocks are done in one way
Completes-one : (q : Meaning) (lanes : ℕ) (old : Moment) (processes : List ℕ) (events others : List Event) (new end_ : Moment) → IsLoad q → IsSound q old
    → Completes q lanes old processes events new → Completes q lanes old processes others end_ → (events ≡ others) × (new ≡ end_)
Completes-one q lanes old [] events others new end_ load sound one two = (one.0 ∙ sym two.0, one.1 ∙ sym two.1)
Completes-one q lanes old (p ∷ processes) events others new end_ load sound one two =
    let rest : (one.1 ≡ two.1) × (new ≡ end_) = Completes-one q lanes one.2 processes one.1 two.1 new end_ load (IsStep-sound q lanes old one.2 (event.Block p one.0) load sound tt one.4) one.5
    (subst (λ m. Completes q lanes m processes two.1 end_) middle two.5) in
    (one.3 ∙ (ap₂ (λ turns es. event.Block p turns ∷ es) same rest.0 ∙ sym two.3), rest.1)
  where
    same : one.0 ≡ two.0
    same = one_block q old p one.0 two.0 load sound (ready-has_process q old p sound one.4.allowed.early.ready) one.4.allowed.ends two.4.allowed.ends

    middle : two.2 ≡ one.2
    middle = two.4.done ∙ (ap (λ turns. stepped q old (event.Block p turns)) (sym same) ∙ sym one.4.done)

-- with one lane a load has one run under a script, and it leads to one moment
pub one_run : (q : Meaning) → IsLoad q → (script : List ScriptLine) (journal other : List Event) (end_ other_end : Moment) → IsScript script
    → IsRunTo q script 1 journal end_ → IsRunTo q script 1 other other_end → (journal ≡ other) × (end_ ≡ other_end)
one_run q load script journal other end_ other_end limits one two = (one.whole ∙ (ap₂ (λ xs ys. xs ++ ys) lines.0 blocks.0 ∙ sym two.whole), blocks.1)
  where
    lines : (one.front ≡ two.front) × (one.middle ≡ two.middle)
    lines = MakesLines-one q (opening q.tables script) script one.front two.front one.middle two.middle load (LeadsToSound-opening q script 1 load limits) one.lines two.lines

    blocks : (one.rest ≡ two.rest) × (end_ ≡ other_end)
    blocks = Completes-one q 1 one.middle (open_blocks one.middle.rows) one.rest two.rest end_ other_end load (IsRunTo-middle q script 1 journal end_ load limits one) one.blocks
        (subst (λ (m : Moment). Completes q 1 m (open_blocks m.rows) two.rest other_end) (sym lines.1) two.blocks)

-- with one lane at most one event of a process may come at a moment that a journal reaches
pub Reaches-one_event : (q : Meaning) → IsLoad q → (script : List ScriptLine) (lines : ℕ) (journal : List Event) (m : Moment) → IsScript script → Reaches q script 1 lines journal m
    → (e f : Event) → IsOfProcess e → IsOfProcess f → IsAllowed q 1 m e → IsAllowed q 1 m f → e ≡ f
Reaches-one_event q load script lines journal m limits reaches = one_event q m load (after_reaches-sound q script 1 lines journal m load limits reaches)

-- where a process is Ready at a moment that a journal reaches, an event of a process may come
pub Reaches-some_event : (q : Meaning) → IsLoad q → (script : List ScriptLine) (lanes lines : ℕ) (journal : List Event) (m : Moment) → IsScript script → 1 ≤ lanes → Reaches q script lanes lines journal m
    → (p : ℕ) → is_ready (row_of m p) ≡ true → (e : Event) × IsOfProcess e × IsAllowed q lanes m e
Reaches-some_event q load script lanes lines journal m limits some reaches p ready = some_event q lanes m load (after_reaches-sound q script lanes lines journal m load limits reaches) some p ready
