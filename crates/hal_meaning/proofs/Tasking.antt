-- What is said of tasks, and of a process.
use Rattle.std.specs.Prelude.{ℕ, zero, suc, ◌+◌, ◌≤◌, ◌<◌, ◌≡◌, ◌++◌, length, List, [], ◌∷◌, Bool, true, false, Option, Some, None}
use Rattle.std.proofs.Common.{refl, sym, ap, subst, inl, inr, arith}
use Rattle.std.proofs.lemmas.List.Elements.{All-nil}
use Rattle.hal_values.specs.declared.environment.Entry.{Entry}
use Rattle.hal_values.specs.declared.request.Request.{Request}
use Rattle.hal_values.specs.declared.request.Request.TheVariants as request
use Rattle.hal_values.specs.declared.tables.Tables.{Tables}
use Rattle.hal_values.specs.Answers.{Answered, error}
use Rattle.hal_values.specs.Answers as answered
use Rattle.hal_values.specs.Loads.{IsWritten}
use Rattle.hal_values.specs.Tables.{process_count}
use Rattle.hal_states.specs.Spots.{Kept}
use Rattle.hal_states.specs.Modes.{Mode, asking}
use Rattle.hal_meaning.specs.Marks.{Handling, handling_in}
use Rattle.hal_meaning.specs.States.{State, state, Evaluated, Gives, Asks, Caught, Restarts, Lost, bind, Flow, Normal, Leaves, Repeats, Returned}
use Rattle.hal_meaning.specs.Access.{Here, request_made}
use Rattle.hal_meaning.specs.Statements.{statements, grouped}
use Rattle.hal_meaning.specs.Tasks.{Task, Meaning, Tested, Stepping, Listing, Entering, Resuming, Cycling}
use Rattle.hal_meaning.specs.Runs.{in_function, ended, to_end, handled, restarted, finished, finished_behind, cycle, task, more_tasks, no_tasks, tasks}
use Rattle.hal_meaning.proofs.Going.{weight, turns_in, spare, pushed, IsRight, Turned, Turned-through, Goes, Fine, Goes-more}
use Rattle.hal_meaning.proofs.Accessing.{Goes-request, Goes-raise}
use Rattle.hal_meaning.proofs.Able.{here_of, IsIn, Able, Ready, Runs, Fit, seq, begun as task_begun, same}
use Rattle.hal_meaning.proofs.Expressing.{Runs-mapped}
use Rattle.hal_meaning.proofs.Stating.{Runs-behind, Runs-settled, Runs-guard, Runs-begins, Runs-next_listed, Runs-next, Runs-turn_if, Runs-grouped, Runs-statement, Runs-statements}

Runs-ended : (h : Here) (limit : ℕ) (a : Answered) (function : Bool) (flow : Flow) (st : State) → Fit h limit st → Runs h limit a (ended h function flow st) (ended h function flow (pushed a st))
Runs-ended h limit a true Normal st fit = Runs-mapped h limit a _ _ (λ ignored. Returned None) (Goes-raise h h.set.turns limit a (error 1 7) st fit)
Runs-ended h limit a true (Leaves label) st fit = (fit, refl)
Runs-ended h limit a true (Repeats label) st fit = (fit, refl)
Runs-ended h limit a true (Returned v) st fit = (fit, refl)
Runs-ended h limit a false Normal st fit = (fit, refl)
Runs-ended h limit a false (Leaves label) st fit = (fit, refl)
Runs-ended h limit a false (Repeats label) st fit = (fit, refl)
Runs-ended h limit a false (Returned v) st fit = (fit, refl)

-- Finish, and the next cycle, from a state spelled out
few_finished : (groups : Option ℕ) (m gained w limit : ℕ) → turns_in groups m + suc (gained + w) ≤ limit → suc w ≤ limit
few_finished groups m gained w limit few = omega arith

few_restarted : (groups : Option ℕ) (m w limit : ℕ) → turns_in groups m + suc (0 + w) ≤ limit → suc w ≤ limit
few_restarted groups m w limit few = omega arith

few_zero : (w limit : ℕ) → suc w ≤ limit → suc (0 + w) ≤ limit
few_zero w limit few = omega arith

module _ (n : ℕ) (a : Answered) (rec after : Meaning) where
  pub Runs-end : (h : Here) (limit : ℕ) → Ready h limit n a rec after → (done other : Evaluated Flow) → Runs h limit a done other → Runs h limit a (to_end rec h done) (to_end after h other)
  Runs-end h limit ready done other is =
      Runs-settled n a rec after h limit ready _ _ (seq h limit a done other _ _ is (λ flow later known. Runs-ended h limit a (in_function h) flow later known))

  Runs-handled : (h : Here) (limit : ℕ) → Ready h limit n a rec after → (found : Option Handling) (st : State) → Fit h limit st → Runs h limit a (handled rec h found st) (handled after h found (pushed a st))
  Runs-handled h limit ready None st fit = (fit, refl)
  Runs-handled h limit ready (Some found) st fit =
      seq h limit a _ _ _ _ (Runs-statement n a rec after h limit ready found.mark found.handler st fit)
      (λ flow later known. Runs-behind h limit a flow (λ begun. statements rec h found.rest_mark found.rest begun) (λ begun. statements after h found.rest_mark found.rest begun) later known
      (Runs-statements n a rec after h limit ready found.rest_mark found.rest later known))

  -- a cycle that is begun
  Runs-cycling : (h : Here) (limit : ℕ) → Ready h limit n a rec after → (k : Kept) (left : List Answered) → suc (weight h.set.turns left) ≤ limit
      → Runs h limit a (rec (Cycling h) (state k [] asking left)) (after (Cycling h) (state k [] asking (left ++ (a ∷ []))))
  Runs-cycling h limit ready k left few =
      task_begun h limit n a rec after (Cycling h) (state k [] asking left) ready (same h limit n a rec after ready) (All-nil (IsWritten h.set.tables), few_zero (weight h.set.turns left) limit few)

  Turned-finish : (h : Here) (limit : ℕ) → Ready h limit n a rec after → (k : Kept) (e : List Entry) (m : Mode)
      → Turned a request.Finish k (bind (request_made request.Finish (state k e m (a ∷ []))) (λ done later. after (Cycling h) (state later.kept [] asking later.left)))
  Turned-finish h limit ready k e m = of_answer a ready
    where
      of_answer : (one : Answered) → Ready h limit n one rec after → Turned one request.Finish k (bind (request_made request.Finish (state k e m (one ∷ []))) (λ done later. after (Cycling h) (state later.kept [] asking later.left)))
      of_answer answered.Killed is = inl refl
      of_answer answered.Done is = λ finish. is.able.begins h k
      of_answer answered.Begun is = tt
      of_answer (answered.Told v) is = tt
      of_answer (answered.Wrong error_) is = tt
      of_answer (answered.Block snapshot made) is = tt

  Runs-finished_from : (h : Here) (limit : ℕ) → Ready h limit n a rec after → (k : Kept) (e : List Entry) (m : Mode) (left : List Answered) → Fit h limit (state k e m left)
      → Runs h limit a (finished rec h (state k e m left)) (finished after h (state k e m (left ++ (a ∷ []))))
  Runs-finished_from h limit ready k e m [] fit = ((tt, fit.0), Turned-finish h limit ready k e m)
  Runs-finished_from h limit ready k e m (answered.Killed ∷ left) fit = (few_restarted m.groups m.turns (weight h.set.turns left) limit fit.1, refl)
  Runs-finished_from h limit ready k e m (answered.Begun ∷ left) fit = Runs-cycling h limit ready k left (few_finished m.groups m.turns 0 (weight h.set.turns left) limit fit.1)
  Runs-finished_from h limit ready k e m (answered.Told v ∷ left) fit = Runs-cycling h limit ready k left (few_finished m.groups m.turns 0 (weight h.set.turns left) limit fit.1)
  Runs-finished_from h limit ready k e m (answered.Done ∷ left) fit = Runs-cycling h limit ready k left (few_finished m.groups m.turns 0 (weight h.set.turns left) limit fit.1)
  Runs-finished_from h limit ready k e m (answered.Wrong error_ ∷ left) fit = Runs-cycling h limit ready k left (few_finished m.groups m.turns 0 (weight h.set.turns left) limit fit.1)
  Runs-finished_from h limit ready k e m (answered.Block snapshot made ∷ left) fit = Runs-cycling h limit ready k left (few_finished m.groups m.turns h.set.turns (weight h.set.turns left) limit fit.1)

  Runs-finished : (h : Here) (limit : ℕ) → Ready h limit n a rec after → (st : State) → Fit h limit st → Runs h limit a (finished rec h st) (finished after h (pushed a st))
  Runs-finished h limit ready st fit = Runs-finished_from h limit ready st.kept st.entries st.mode st.left fit

  Runs-finished_behind : (h : Here) (limit : ℕ) → Ready h limit n a rec after → (done other : Evaluated Flow) → Runs h limit a done other → Runs h limit a (finished_behind rec h done) (finished_behind after h other)
  Runs-finished_behind h limit ready (Gives flow st) other is = subst (λ one. Runs h limit a (finished rec h st) (finished_behind after h one)) (sym is.1) (Runs-finished h limit ready st is.0)
  Runs-finished_behind h limit ready (Asks r k m) other is = (is.0, Turned-through a r k other (finished_behind after h) refl refl is.1)
  Runs-finished_behind h limit ready (Caught level place st) other is = subst (λ one. Runs h limit a (finished rec h st) (finished_behind after h one)) (sym is.1) (Runs-finished h limit ready st is.0)
  Runs-finished_behind h limit ready (Restarts k left) other is = (is.0, ap (finished_behind after h) is.1)
  Runs-finished_behind h limit ready Lost other is = absurd is

  Runs-cycle : (h : Here) (limit : ℕ) → Ready h limit n a rec after → (st : State) → Fit h limit st → Runs h limit a (cycle rec h st) (cycle after h (pushed a st))
  Runs-cycle h limit ready st fit =
      seq h limit a _ _ _ _ (Goes-request h.set.tables h.set.turns limit a request.Begin st (λ is. cc) tt fit)
      (λ done later known. Runs-finished_behind h limit ready _ _ (Runs-end h limit ready _ _ (Runs-statements n a rec after h limit ready 0 h.body later known)))

  Turned-restarted : (h : Here) (limit : ℕ) → Ready h limit n a rec after → (r : Request) (k : Kept) (other : Evaluated Flow) → Turned a r k other → Turned a r k (restarted after h other)
  Turned-restarted h limit ready r k other is = of_answer a ready is
    where
      of_answer : (one : Answered) → Ready h limit n one rec after → Turned one r k other → Turned one r k (restarted after h other)
      of_answer answered.Killed able (inl at) = inr (subst (λ x. restarted after h x ≡ Asks request.Begin k asking) (sym at) (able.able.begins h k))
      of_answer answered.Killed able (inr at) = inr (ap (restarted after h) at)
      of_answer answered.Done able at = λ finish. ap (restarted after h) (at finish)
      of_answer answered.Begun able at = tt
      of_answer (answered.Told v) able at = tt
      of_answer (answered.Wrong error_) able at = tt
      of_answer (answered.Block snapshot made) able at = tt

  Runs-restarted : (h : Here) (limit : ℕ) → Ready h limit n a rec after → (done other : Evaluated Flow) → Runs h limit a done other → Runs h limit a (restarted rec h done) (restarted after h other)
  Runs-restarted h limit ready (Gives flow st) other is = (is.0, ap (restarted after h) is.1)
  Runs-restarted h limit ready (Asks r k m) other is = (is.0, Turned-restarted h limit ready r k other is.1)
  Runs-restarted h limit ready (Caught level place st) other is = (is.0, ap (restarted after h) is.1)
  Runs-restarted h limit ready (Restarts k left) other is =
      subst (λ one. Runs h limit a (rec (Cycling h) (state k [] asking left)) (restarted after h one)) (sym is.1) (Runs-cycling h limit ready k left is.0)
  Runs-restarted h limit ready Lost other is = absurd is

  lower : (h : Here) (low limit : ℕ) → Ready h limit n a rec after → low ≤ limit → Ready h low n a rec after
  lower h low limit ready less = record { able = ready.able; few = omega (arith, ready.few); process = ready.process; stated = ready.stated }

  -- a task
  Runs-task : (one : Task) (limit : ℕ) → Ready (here_of one) limit n a rec after → (st : State) → Fit (here_of one) limit st → Runs (here_of one) limit a (task rec one st) (task after one (pushed a st))
  Runs-task (Tested h loop g) limit ready st fit =
      seq h limit a _ _ _ _ (Runs-guard n a rec after h limit ready g st fit)
      (λ held later known. Runs-turn_if h limit a loop.labels (λ begun. grouped rec h (suc loop.mark) loop.group begun) (λ begun. grouped after h (suc loop.mark) loop.group begun)
      (rec (Tested h loop g)) (after (Tested h loop g)) held later
      (λ low less begun begun_fit. Runs-grouped n a rec after h low (lower h low limit ready less) (suc loop.mark) loop.group begun begun_fit)
      (λ last is. task_begun h limit n a rec after (Tested h loop g) last ready (same h limit n a rec after ready) is) known)
  Runs-task (Stepping h k loop name g) limit ready st fit =
      seq h limit a _ _ _ _ (Runs-next h limit a name k st fit)
      (λ begins st1 fit1. seq h limit a _ _ _ _ (Runs-begins n a rec after h limit ready false g begins st1 fit1)
      (λ held st2 fit2. Runs-turn_if h limit a loop.labels (λ begun. grouped rec h (suc loop.mark) loop.group begun) (λ begun. grouped after h (suc loop.mark) loop.group begun)
      (rec (Stepping h k loop name g)) (after (Stepping h k loop name g)) held st2
      (λ low less begun begun_fit. Runs-grouped n a rec after h low (lower h low limit ready less) (suc loop.mark) loop.group begun begun_fit)
      (λ last is. task_begun h limit n a rec after (Stepping h k loop name g) last ready (same h limit n a rec after ready) is) fit2))
  Runs-task (Listing h k loop name g values) limit ready st fit =
      seq h limit a _ _ _ _ (Runs-next_listed n a rec after h limit ready name k 1 values g st fit)
      (λ held st1 fit1. Runs-turn_if h limit a loop.labels (λ begun. grouped rec h (suc loop.mark) loop.group begun) (λ begun. grouped after h (suc loop.mark) loop.group begun)
      (rec (Listing h k loop name g values)) (after (Listing h k loop name g values)) held st1
      (λ low less begun begun_fit. Runs-grouped n a rec after h low (lower h low limit ready less) (suc loop.mark) loop.group begun begun_fit)
      (λ last is. task_begun h limit n a rec after (Listing h k loop name g values) last ready (same h limit n a rec after ready) is) fit1)
  Runs-task (Entering h) limit ready st fit = Runs-end h limit ready _ _ (Runs-statements n a rec after h limit ready 0 h.body st fit)
  Runs-task (Resuming h place) limit ready st fit = Runs-end h limit ready _ _ (Runs-handled h limit ready (handling_in place h.first h.body) st fit)
  Runs-task (Cycling h) limit ready st fit = Runs-restarted h limit ready _ _ (Runs-cycle h limit ready st fit)

-- one task more may begin
few_before : (w m : ℕ) → suc w ≤ suc m → w ≤ m
few_before w m few = omega arith

Goes-task : (tables : Tables) (turns m : ℕ) (a : Answered) (rec after : Meaning) (one : Task) (st : State) → Able tables turns m a rec after → IsIn tables turns (here_of one) → IsRight tables st.mode → spare turns st ≤ m
    → Goes tables turns (spare turns st) a (Fine tables turns (spare turns st)) (task rec one st) (task after one (pushed a st))
Goes-task tables turns m a rec after one st able is right few =
    subst (λ t. Goes t turns (spare turns st) a (Fine t turns (spare turns st)) (task rec one st) (task after one (pushed a st))) is.same_tables
    (subst (λ u. Goes (here_of one).set.tables u (spare u st) a (Fine (here_of one).set.tables u (spare u st)) (task rec one st) (task after one (pushed a st))) is.same_turns
    (Runs-task m a rec after one (spare (here_of one).set.turns st)
    (record {
      able = subst (λ u. Able (here_of one).set.tables u m a rec after) (sym is.same_turns) (subst (λ t. Able t turns m a rec after) (sym is.same_tables) able);
      few = subst (λ u. spare u st ≤ m) (sym is.same_turns) few;
      process = subst (λ t. (here_of one).process < process_count t) (sym is.same_tables) is.process;
      stated = subst (λ t. length (here_of one).set.stated ≤ length t.expressions) (sym is.same_tables) is.stated;
    }) st (subst (λ t. IsRight t st.mode) (sym is.same_tables) right, omega arith)))

pub Able-task : (tables : Tables) (turns m : ℕ) (a : Answered) (rec after : Meaning) → Able tables turns m a rec after → Able tables turns (suc m) a (task rec) (task after)
Able-task tables turns m a rec after able = record {
  all = λ one st limit is right few less.
      Goes-more tables turns (spare turns st) limit a (task rec one st) (task after one (pushed a st)) less (Goes-task tables turns m a rec after one st able is right (few_before (spare turns st) m few));
  begins = λ h k. refl;
}

pub Able-more : (tables : Tables) (turns count m : ℕ) (a : Answered) (rec after : Meaning) → Able tables turns m a rec after → Able tables turns (count + m) a (more_tasks count rec) (more_tasks count after)
Able-more tables turns zero m a rec after able = subst (λ k. Able tables turns k a rec after) (omega arith) able
Able-more tables turns (suc count) m a rec after able =
    subst (λ k. Able tables turns k a (task (more_tasks count rec)) (task (more_tasks count after))) (omega arith)
    (Able-task tables turns (count + m) a (more_tasks count rec) (more_tasks count after) (Able-more tables turns count m a rec after able))

no_more : (tables : Tables) (turns : ℕ) (a : Answered) → Able tables turns 0 a no_tasks (tasks turns (a ∷ []))
no_more tables turns a = record { all = λ one st limit is right few less. absurd (omega (arith, few)); begins = begins_with a }
  where
    begins_with : (one : Answered) (h : Here) (k : Kept) → tasks turns (one ∷ []) (Cycling h) (state k [] asking []) ≡ Asks request.Begin k asking
    begins_with answered.Begun h k = refl
    begins_with (answered.Told v) h k = refl
    begins_with answered.Done h k = refl
    begins_with (answered.Wrong e) h k = refl
    begins_with (answered.Block snapshot made) h k = refl
    begins_with answered.Killed h k = refl

more_by : (tables : Tables) (turns m : ℕ) (a : Answered) (rec after : Meaning) → Able tables turns m a rec after → Able tables turns (suc (0 + m)) a (task rec) (task after)
more_by tables turns m a rec after able = subst (λ k. Able tables turns k a (task rec) (task after)) (omega arith) (Able-task tables turns m a rec after able)

-- as many tasks may begin as answers give
pub Able-tasks : (tables : Tables) (turns : ℕ) (a : Answered) (left : List Answered) → Able tables turns (weight turns left) a (tasks turns left) (tasks turns (left ++ (a ∷ [])))
Able-tasks tables turns a [] = no_more tables turns a
Able-tasks tables turns a (answered.Begun ∷ left) = more_by tables turns (weight turns left) a _ _ (Able-tasks tables turns a left)
Able-tasks tables turns a (answered.Told v ∷ left) = more_by tables turns (weight turns left) a _ _ (Able-tasks tables turns a left)
Able-tasks tables turns a (answered.Done ∷ left) = more_by tables turns (weight turns left) a _ _ (Able-tasks tables turns a left)
Able-tasks tables turns a (answered.Wrong e ∷ left) = more_by tables turns (weight turns left) a _ _ (Able-tasks tables turns a left)
Able-tasks tables turns a (answered.Block snapshot made ∷ left) =
    Able-task tables turns (turns + weight turns left) a _ _ (Able-more tables turns turns (weight turns left) a _ _ (Able-tasks tables turns a left))
Able-tasks tables turns a (answered.Killed ∷ left) = more_by tables turns (weight turns left) a _ _ (Able-tasks tables turns a left)

-- a process, from its first Begin on
pub Goes-process : (h : Here) (a : Answered) (k : Kept) (answers : List Answered) → h.process < process_count h.set.tables → length h.set.stated ≤ length h.set.tables.expressions
    → Goes h.set.tables h.set.turns (weight h.set.turns answers) a (Fine h.set.tables h.set.turns (weight h.set.turns answers))
    (task (tasks h.set.turns answers) (Cycling h) (state k [] asking answers)) (task (tasks h.set.turns (answers ++ (a ∷ []))) (Cycling h) (state k [] asking (answers ++ (a ∷ []))))
Goes-process h a k answers process stated =
    (Able-task h.set.tables h.set.turns (weight h.set.turns answers) a _ _ (Able-tasks h.set.tables h.set.turns a answers)).all (Cycling h) (state k [] asking answers) (weight h.set.turns answers)
    (record { same_tables = refl; same_turns = refl; process = process; stated = stated }) (All-nil (IsWritten h.set.tables)) (omega arith) (omega arith)
