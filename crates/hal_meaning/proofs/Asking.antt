-- A process always asks.
use Rattle.std.specs.Prelude.{ℕ, zero, suc, ◌+◌, ◌≤◌, ◌<◌, length, List, [], ◌∷◌, Option}
use Rattle.std.proofs.Common.{subst, arith}
use Rattle.std.proofs.lemmas.List.Elements.{All-nil}
use Rattle.hal_values.specs.declared.environment.Entry.{Entry}
use Rattle.hal_values.specs.Answers.{Answered}
use Rattle.hal_values.specs.Answers as answered
use Rattle.hal_values.specs.Loads.{IsWritten}
use Rattle.hal_values.specs.Tables.{process_count}
use Rattle.hal_states.specs.Spots.{Kept}
use Rattle.hal_states.specs.Modes.{Mode, asking}
use Rattle.hal_meaning.specs.States.{state, Evaluated, Gives, Asks, Caught, Restarts, Lost, Flow}
use Rattle.hal_meaning.specs.Access.{Here}
use Rattle.hal_meaning.specs.Statements.{statements}
use Rattle.hal_meaning.specs.Tasks.{Meaning, Cycling}
use Rattle.hal_meaning.specs.Runs.{to_end, restarted, finished, finished_behind, cycle, task, more_tasks, no_tasks, tasks}
use Rattle.hal_meaning.proofs.Going.{weight, turns_in, IsRight}
use Rattle.hal_meaning.proofs.Able.{Able, Ready, Runs}
use Rattle.hal_meaning.proofs.Stating.{Runs-statements}
use Rattle.hal_meaning.proofs.Tasking.{Runs-end, Able-more, Able-tasks}

-- a request is asked
abbrev pub IsAsked : Evaluated Flow → Type 0
IsAsked (Gives flow st) = ⊥
IsAsked (Asks r k m) = Unit {0}
IsAsked (Caught level place st) = ⊥
IsAsked (Restarts k left) = ⊥
IsAsked Lost = ⊥

-- a request is asked, or a new cycle begins with so many tasks
abbrev IsOver : ℕ → ℕ → Evaluated Flow → Type 0
IsOver turns limit (Gives flow st) = ⊥
IsOver turns limit (Asks r k m) = Unit {0}
IsOver turns limit (Caught level place st) = ⊥
IsOver turns limit (Restarts k left) = suc (weight turns left) ≤ limit
IsOver turns limit Lost = ⊥

asked_over : (turns limit : ℕ) (r : Evaluated Flow) → IsAsked r → IsOver turns limit r
asked_over turns limit (Gives flow st) is = is
asked_over turns limit (Asks r k m) is = is
asked_over turns limit (Caught level place st) is = is
asked_over turns limit (Restarts k left) is = absurd is
asked_over turns limit Lost is = is

-- cycles ask, where so many tasks may begin
abbrev pub Cycles : Here → ℕ → Meaning → Type 0
Cycles h n rec = (k : Kept) (left : List Answered) → suc (weight h.set.turns left) ≤ n → IsAsked (rec (Cycling h) (state k [] asking left))

few_killed : (groups : Option ℕ) (m w limit : ℕ) → turns_in groups m + suc (0 + w) ≤ limit → suc w ≤ limit
few_killed groups m w limit few = omega arith

few_cycle : (groups : Option ℕ) (m gained w limit n : ℕ) → turns_in groups m + suc (gained + w) ≤ limit → limit ≤ n → suc w ≤ n
few_cycle groups m gained w limit n few less = omega arith

few_begun : (groups : Option ℕ) (m gained w limit : ℕ) → turns_in groups m + suc (gained + w) ≤ limit → turns_in groups m + w ≤ limit
few_begun groups m gained w limit few = omega arith

module _ (h : Here) (limit n : ℕ) (a : Answered) (rec after : Meaning) (ready : Ready h limit n a rec after) (cycles : Cycles h n rec) where
  finished_from : (k : Kept) (e : List Entry) (m : Mode) (left : List Answered) → turns_in m.groups m.turns + weight h.set.turns left ≤ limit → IsOver h.set.turns limit (finished rec h (state k e m left))
  finished_from k e m [] few = tt
  finished_from k e m (answered.Killed ∷ left) few = few_killed m.groups m.turns (weight h.set.turns left) limit few
  finished_from k e m (answered.Begun ∷ left) few = asked_over h.set.turns limit _ (cycles k left (few_cycle m.groups m.turns 0 (weight h.set.turns left) limit n few ready.few))
  finished_from k e m (answered.Told v ∷ left) few = asked_over h.set.turns limit _ (cycles k left (few_cycle m.groups m.turns 0 (weight h.set.turns left) limit n few ready.few))
  finished_from k e m (answered.Done ∷ left) few = asked_over h.set.turns limit _ (cycles k left (few_cycle m.groups m.turns 0 (weight h.set.turns left) limit n few ready.few))
  finished_from k e m (answered.Wrong error_ ∷ left) few = asked_over h.set.turns limit _ (cycles k left (few_cycle m.groups m.turns 0 (weight h.set.turns left) limit n few ready.few))
  finished_from k e m (answered.Block snapshot made ∷ left) few = asked_over h.set.turns limit _ (cycles k left (few_cycle m.groups m.turns h.set.turns (weight h.set.turns left) limit n few ready.few))

  behind : (done other : Evaluated Flow) → Runs h limit a done other → IsOver h.set.turns limit (finished_behind rec h done)
  behind (Gives flow st) other is = finished_from st.kept st.entries st.mode st.left is.0.1
  behind (Asks r k m) other is = tt
  behind (Caught level place st) other is = finished_from st.kept st.entries st.mode st.left is.0.1
  behind (Restarts k left) other is = is.0
  behind Lost other is = absurd is

  body : (k : Kept) (e : List Entry) (m : Mode) (left : List Answered) → IsRight h.set.tables m → turns_in m.groups m.turns + weight h.set.turns left ≤ limit
      → IsOver h.set.turns limit (finished_behind rec h (to_end rec h (statements rec h 0 h.body (state k e m left))))
  body k e m left right few = behind _ _ (Runs-end n a rec after h limit ready _ _ (Runs-statements n a rec after h limit ready 0 h.body (state k e m left) (right, few)))

  cycle_from : (k : Kept) (e : List Entry) (m : Mode) (left : List Answered) → IsRight h.set.tables m → turns_in m.groups m.turns + weight h.set.turns left ≤ limit → IsOver h.set.turns limit (cycle rec h (state k e m left))
  cycle_from k e m [] right few = tt
  cycle_from k e m (answered.Killed ∷ left) right few = few_killed m.groups m.turns (weight h.set.turns left) limit few
  cycle_from k e m (answered.Begun ∷ left) right few = body k e m left right (few_begun m.groups m.turns 0 (weight h.set.turns left) limit few)
  cycle_from k e m (answered.Told v ∷ left) right few = body k e m left right (few_begun m.groups m.turns 0 (weight h.set.turns left) limit few)
  cycle_from k e m (answered.Done ∷ left) right few = body k e m left right (few_begun m.groups m.turns 0 (weight h.set.turns left) limit few)
  cycle_from k e m (answered.Wrong error_ ∷ left) right few = body k e m left right (few_begun m.groups m.turns 0 (weight h.set.turns left) limit few)
  cycle_from k e m (answered.Block snapshot made ∷ left) right few = body k e m left right (few_begun m.groups m.turns h.set.turns (weight h.set.turns left) limit few)

  over : (done : Evaluated Flow) → IsOver h.set.turns limit done → IsAsked (restarted rec h done)
  over (Gives flow st) is = absurd is
  over (Asks r k m) is = tt
  over (Caught level place st) is = absurd is
  over (Restarts k left) is = cycles k left (omega (arith, is, ready.few))
  over Lost is = absurd is

-- one task more
ready_with : (h : Here) (m limit : ℕ) (a : Answered) (rec after : Meaning) → Able h.set.tables h.set.turns m a rec after → h.process < process_count h.set.tables → length h.set.stated ≤ length h.set.tables.expressions → limit ≤ m
    → Ready h limit m a rec after
ready_with h m limit a rec after able process stated few = record { able = able; few = few; process = process; stated = stated }

few_first : (w m : ℕ) → suc w ≤ suc m → 0 + w ≤ w
few_first w m few = omega arith

few_less : (w m : ℕ) → suc w ≤ suc m → w ≤ m
few_less w m few = omega arith

module _ (h : Here) (process : h.process < process_count h.set.tables) (stated : length h.set.stated ≤ length h.set.tables.expressions) (a : Answered) where
  Cycles-task : (m : ℕ) (rec after : Meaning) → Able h.set.tables h.set.turns m a rec after → Cycles h m rec → Cycles h (suc m) (task rec)
  Cycles-task m rec after able cycles k left few =
      over h (weight h.set.turns left) m a rec after (ready_with h m (weight h.set.turns left) a rec after able process stated (few_less (weight h.set.turns left) m few)) cycles _
      (cycle_from h (weight h.set.turns left) m a rec after (ready_with h m (weight h.set.turns left) a rec after able process stated (few_less (weight h.set.turns left) m few)) cycles k [] asking left
      (All-nil (IsWritten h.set.tables)) (few_first (weight h.set.turns left) m few))

  Cycles-more : (count m : ℕ) (rec after : Meaning) → Able h.set.tables h.set.turns m a rec after → Cycles h m rec → Cycles h (count + m) (more_tasks count rec)
  Cycles-more zero m rec after able cycles = subst (λ k. Cycles h k rec) (omega arith) cycles
  Cycles-more (suc count) m rec after able cycles =
      subst (λ k. Cycles h k (task (more_tasks count rec))) (omega arith)
      (Cycles-task (count + m) (more_tasks count rec) (more_tasks count after) (Able-more h.set.tables h.set.turns count m a rec after able) (Cycles-more count m rec after able cycles))

  no_cycles : Cycles h 0 no_tasks
  no_cycles k left few = absurd (omega (arith, few))

  one_by : (m : ℕ) (rec after : Meaning) → Able h.set.tables h.set.turns m a rec after → Cycles h m rec → Cycles h (suc (0 + m)) (task rec)
  one_by m rec after able cycles = subst (λ k. Cycles h k (task rec)) (omega arith) (Cycles-task m rec after able cycles)

  Cycles-tasks : (left : List Answered) → Cycles h (weight h.set.turns left) (tasks h.set.turns left)
  Cycles-tasks [] = no_cycles
  Cycles-tasks (answered.Begun ∷ left) = one_by (weight h.set.turns left) _ _ (Able-tasks h.set.tables h.set.turns a left) (Cycles-tasks left)
  Cycles-tasks (answered.Told v ∷ left) = one_by (weight h.set.turns left) _ _ (Able-tasks h.set.tables h.set.turns a left) (Cycles-tasks left)
  Cycles-tasks (answered.Done ∷ left) = one_by (weight h.set.turns left) _ _ (Able-tasks h.set.tables h.set.turns a left) (Cycles-tasks left)
  Cycles-tasks (answered.Wrong e ∷ left) = one_by (weight h.set.turns left) _ _ (Able-tasks h.set.tables h.set.turns a left) (Cycles-tasks left)
  Cycles-tasks (answered.Block snapshot made ∷ left) =
      Cycles-task (h.set.turns + weight h.set.turns left) _ _ (Able-more h.set.tables h.set.turns h.set.turns (weight h.set.turns left) a _ _ (Able-tasks h.set.tables h.set.turns a left))
      (Cycles-more h.set.turns (weight h.set.turns left) _ _ (Able-tasks h.set.tables h.set.turns a left) (Cycles-tasks left))
  Cycles-tasks (answered.Killed ∷ left) = one_by (weight h.set.turns left) _ _ (Able-tasks h.set.tables h.set.turns a left) (Cycles-tasks left)

  -- a process asks, whatever it was answered
  pub process_asks : (k : Kept) (answers : List Answered) → IsAsked (task (tasks h.set.turns answers) (Cycling h) (state k [] asking answers))
  process_asks k answers = Cycles-task (weight h.set.turns answers) _ _ (Able-tasks h.set.tables h.set.turns a answers) (Cycles-tasks answers) k answers (omega arith)
