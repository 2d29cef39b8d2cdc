-- A set is a load.
use Rattle.std.specs.Prelude.{ℕ, ◌-◌, ◌≤◌, ◌<◌, ◌≡◌, ◌++◌, ◌==◌, length, List, [], ◌∷◌, Option, Some, None, All}
use Rattle.std.proofs.Common.{refl, sym, ap, subst, ◌∙◌, inl, inr}
use Rattle.std.proofs.lemmas.Bool.{eq-eqb}
use Rattle.std.proofs.lemmas.List.Elements.{All-nil}
use Rattle.hal_values.specs.declared.request.Request.{Request}
use Rattle.hal_values.specs.declared.request.Request.TheVariants as request
use Rattle.hal_values.specs.Answers.{Answered}
use Rattle.hal_values.specs.Answers as answered
use Rattle.hal_values.specs.Loads.{IsLoad, IsWritten, turn_limit}
use Rattle.hal_values.specs.Requests.{IsInOrder}
use Rattle.hal_values.specs.Tables.{IsTables, process_count}
use Rattle.hal_states.specs.Spots.{Kept}
use Rattle.hal_states.specs.Modes.{asking}
use Rattle.hal_meaning.specs.Bodies.{Body}
use Rattle.hal_meaning.specs.Places.{Place}
use Rattle.hal_meaning.specs.Sets.{Set}
use Rattle.hal_meaning.specs.States.{Evaluated, Gives, Asks, Caught, Restarts, Lost, Flow}
use Rattle.hal_meaning.specs.Runs.{first_kept, here_in, process_body, places_of_process, course_of, asked, asked_mode, next, block_mode}
use Rattle.hal_states.specs.Telling.{is_update}
use Rattle.hal_meaning.specs.SetLoad.{load_of}
use Rattle.hal_states.proofs.Telling.{few_made, is_same, writes_at, made_at, update_of, some_at}
use Rattle.hal_meaning.proofs.Going.{weight, IsRight, Turned, Goes, Fine}
use Rattle.hal_meaning.proofs.Tasking.{Goes-process}
use Rattle.hal_meaning.proofs.Asking.{IsAsked, process_asks}

-- what is taken of a set: its tables are right, and its UPDATE blocks have no more turns than the limit
pub record Keeps (s : Set) : Type 0 where
  pub tables : IsTables s.tables
  pub turns : s.turns ≤ turn_limit
  pub stated : length s.stated ≤ length s.tables.expressions

-- what is said of a course, and of the same with an answer more
abbrev Courses : Set → ℕ → Answered → Evaluated Flow → Evaluated Flow → Type 0
Courses s limit a one other = IsAsked one × Goes s.tables s.turns limit a (Fine s.tables s.turns limit) one other

killed_then : (r : Request) (k : Kept) (other : Evaluated Flow) → Turned answered.Killed r k other → asked other ≡ request.Begin
killed_then r k other (inl is) = ap asked is
killed_then r k other (inr is) = ap asked is

-- Begin is asked after Killed
after_killed : (s : Set) (limit : ℕ) (one other : Evaluated Flow) → Courses s limit answered.Killed one other → asked other ≡ request.Begin
after_killed s limit (Gives flow st) other is = absurd is.0
after_killed s limit (Asks r k m) other is = killed_then r k other is.1.1
after_killed s limit (Caught level place st) other is = absurd is.0
after_killed s limit (Restarts k left) other is = absurd is.0
after_killed s limit Lost other is = absurd is.0

-- and after a finished cycle
after_finish : (s : Set) (limit : ℕ) (one other : Evaluated Flow) → Courses s limit answered.Done one other → asked one ≡ request.Finish → asked other ≡ request.Begin
after_finish s limit (Gives flow st) other is finish = absurd is.0
after_finish s limit (Asks r k m) other is finish = ap asked (is.1.1 finish)
after_finish s limit (Caught level place st) other is finish = absurd is.0
after_finish s limit (Restarts k left) other is finish = absurd is.0
after_finish s limit Lost other is finish = absurd is.0

order_of : (s : Set) (limit : ℕ) (a : Answered) (one other : Evaluated Flow) → Courses s limit a one other → IsInOrder s.tables (asked one)
order_of s limit a (Gives flow st) other is = absurd is.0
order_of s limit a (Asks r k m) other is = is.1.0.0
order_of s limit a (Caught level place st) other is = absurd is.0
order_of s limit a (Restarts k left) other is = absurd is.0
order_of s limit a Lost other is = absurd is.0

right_of : (s : Set) (limit : ℕ) (a : Answered) (one other : Evaluated Flow) → Courses s limit a one other → IsRight s.tables (asked_mode one)
right_of s limit a (Gives flow st) other is = absurd is.0
right_of s limit a (Asks r k m) other is = is.1.0.1
right_of s limit a (Caught level place st) other is = absurd is.0
right_of s limit a (Restarts k left) other is = absurd is.0
right_of s limit a Lost other is = absurd is.0

module _ (s : Set) (keeps : Keeps s) (p : ℕ) (exists : p < process_count s.tables) where
  courses_of : (places : List Place) (b : Body) (a : Answered) (answers : List Answered) → Courses s (weight s.turns answers) a (course_of s p places b answers) (course_of s p places b (answers ++ (a ∷ [])))
  courses_of places b a answers =
      (process_asks (here_in s p places b) exists keeps.stated a (first_kept places) answers, Goes-process (here_in s p places b) a (first_kept places) answers exists keeps.stated)

  begins_at : (places : List Place) (found : Option Body) → asked (elim found [ None ↦ Asks request.Begin (first_kept []) asking | Some b ↦ course_of s p places b [] ]) ≡ request.Begin
  begins_at places None = refl
  begins_at places (Some b) = refl

  restarts_at : (places : List Place) (answers : List Answered) (found : Option Body)
      → asked (elim found [ None ↦ Asks request.Begin (first_kept []) asking | Some b ↦ course_of s p places b (answers ++ (answered.Killed ∷ [])) ]) ≡ request.Begin
  restarts_at places answers None = refl
  restarts_at places answers (Some b) = after_killed s (weight s.turns answers) (course_of s p places b answers) _ (courses_of places b answered.Killed answers)

  cycles_at : (places : List Place) (answers : List Answered) (found : Option Body)
      → asked (elim found [ None ↦ Asks request.Begin (first_kept []) asking | Some b ↦ course_of s p places b answers ]) ≡ request.Finish
      → asked (elim found [ None ↦ Asks request.Begin (first_kept []) asking | Some b ↦ course_of s p places b (answers ++ (answered.Done ∷ [])) ]) ≡ request.Begin
  cycles_at places answers None finish = refl
  cycles_at places answers (Some b) finish = after_finish s (weight s.turns answers) (course_of s p places b answers) _ (courses_of places b answered.Done answers) finish

  order_at : (places : List Place) (answers : List Answered) (found : Option Body)
      → IsInOrder s.tables (asked (elim found [ None ↦ Asks request.Begin (first_kept []) asking | Some b ↦ course_of s p places b answers ]))
  order_at places answers None = tt
  order_at places answers (Some b) = order_of s (weight s.turns answers) answered.Killed (course_of s p places b answers) _ (courses_of places b answered.Killed answers)

  right_at : (places : List Place) (answers : List Answered) (found : Option Body)
      → IsRight s.tables (asked_mode (elim found [ None ↦ Asks request.Begin (first_kept []) asking | Some b ↦ course_of s p places b answers ]))
  right_at places answers None = right_of s 0 answered.Begun (Asks request.Begin (first_kept []) asking) (Asks request.Begin (first_kept []) asking) (tt, ((tt, nothing_written), tt))
    where
      nothing_written : IsRight s.tables asking
      nothing_written = All-nil (IsWritten s.tables)
  right_at places answers (Some b) = right_of s (weight s.turns answers) answered.Killed (course_of s p places b answers) _ (courses_of places b answered.Killed answers)

-- a set is a load
pub set_is_load : (s : Set) → Keeps s → IsLoad (load_of s)
set_is_load s keeps = record {
  right = keeps.tables;
  begins = λ p exists. begins_at s keeps p exists (places_of_process s p) (process_body s p);
  restarts = λ p answers exists fit. restarts_at s keeps p exists (places_of_process s p) answers (process_body s p);
  cycles = λ p answers exists fit finish. cycles_at s keeps p exists (places_of_process s p) answers (process_body s p) finish;
  in_order = λ p answers exists fit. order_at s keeps p exists (places_of_process s p) answers (process_body s p);
  writes_right = λ p answers snapshot turns writes exists fit full e.
      subst (All (IsWritten s.tables)) (writes_at (is_update (next s p answers)) ((s.turns - (block_mode s p answers snapshot).turns) == turns) (block_mode s p answers snapshot) writes (is_same _ writes e))
      (right_at s keeps p exists (places_of_process s p) (answers ++ (answered.Block snapshot 0 ∷ [])) (process_body s p));
  few_turns = λ p answers snapshot turns writes exists fit full e.
      subst (λ n. n ≤ turn_limit) (made_at (is_update (next s p answers)) (s.turns - (block_mode s p answers snapshot).turns) turns (block_mode s p answers snapshot) writes (is_same _ writes e))
      (few_made s.turns (block_mode s p answers snapshot).turns keeps.turns);
  one_end = λ p answers snapshot turns other writes others exists fit full e f.
      sym (made_at (is_update (next s p answers)) (s.turns - (block_mode s p answers snapshot).turns) turns (block_mode s p answers snapshot) writes (is_same _ writes e))
      ∙ made_at (is_update (next s p answers)) (s.turns - (block_mode s p answers snapshot).turns) other (block_mode s p answers snapshot) others (is_same _ others f);
  ends = λ p answers snapshot exists fit full asks. (
    s.turns - (block_mode s p answers snapshot).turns,
    some_at (is_update (next s p answers)) ((s.turns - (block_mode s p answers snapshot).turns) == (s.turns - (block_mode s p answers snapshot).turns)) (block_mode s p answers snapshot) (update_of (next s p answers) asks) (eq-eqb _ _ refl),
  );
}
