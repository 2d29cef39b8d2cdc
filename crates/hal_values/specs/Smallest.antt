-- The smallest load: its one process asks Begin, Pass and Finish, and then begins again. It shows that what is said of
-- every load can be met.
use Rattle.std.specs.Prelude.{◌≡◌, ℕ, List, [], ◌∷◌, ◌++◌, Option, Some, None, codes}
use Rattle.std.proofs.Common.{refl, ap, subst, ◌∙◌}
use Rattle.std.proofs.lemmas.Bool.{leb-true, ltb-true}
use Rattle.std.proofs.lemmas.List.Elements.{All-nil}
use Rattle.hal_values.specs.declared.request.Request.{Request}
use Rattle.hal_values.specs.declared.request.Request.TheVariants as request
use Rattle.hal_values.specs.declared.tables.Tables.{Tables}
use Rattle.hal_values.specs.declared.value.Value.{Value}
use Rattle.hal_values.specs.Answers.{Answered, Done, Killed}
use Rattle.hal_values.specs.Requests.{IsInOrder}
use Rattle.hal_values.specs.Loads.{Meaning, IsLoad, IsUpdate}

-- what the process asks for next
pub data Point : Type 0 where
  AtBegin : Point
  AtPass : Point
  AtFinish : Point

-- where a process goes on that isn't killed
abbrev pub following : Point → Point
following AtBegin = AtPass
following AtPass = AtFinish
following AtFinish = AtBegin

-- where it goes on after this answer
abbrev pub point_then : Answered → Point → Point
point_then Killed point = AtBegin
point_then given point = following point

-- where it goes on after these answers
abbrev pub point_after : List Answered → Point → Point
point_after [] point = point
point_after (given ∷ later) point = point_after later (point_then given point)

-- what the process asks there
abbrev pub asked_at : Point → Request
asked_at AtBegin = request.Begin
asked_at AtPass = request.Pass
asked_at AtFinish = request.Finish

-- one process, and nothing else
abbrev pub smallest_tables : Tables
smallest_tables = record { cells = []; processes = codes "P" ∷ []; first = 0; events = []; expressions = []; names = [] }

-- the request after these answers
abbrev pub smallest_next : ℕ → List Answered → Request
smallest_next p answers = asked_at (point_after answers AtBegin)

-- no UPDATE block is asked for
abbrev pub smallest_block : ℕ → List Answered → List Value → ℕ → Option (List (ℕ × Value))
smallest_block p answers snapshot turns = None

-- no own values are reported
abbrev pub smallest_own : ℕ → List Answered → List Value
smallest_own p answers = []

-- the four together
abbrev pub smallest : Meaning
smallest = record { tables = smallest_tables; next = smallest_next; block = smallest_block; own = smallest_own }

point_after-killed : (answers : List Answered) (point : Point) → point_after (answers ++ Killed ∷ []) point ≡ AtBegin
point_after-killed [] point = refl
point_after-killed (given ∷ later) point = point_after-killed later (point_then given point)

-- after one more answer
point_after-push : (answers : List Answered) (given : Answered) (point : Point) → point_after (answers ++ given ∷ []) point ≡ point_then given (point_after answers point)
point_after-push [] given point = refl
point_after-push (first ∷ later) given point = point_after-push later given (point_then first point)

-- a point at which Finish is asked is followed by one at which Begin is
begins_after : (point : Point) → asked_at point ≡ request.Finish → asked_at (point_then Done point) ≡ request.Begin
begins_after AtBegin e = cc
begins_after AtPass e = cc
begins_after AtFinish e = refl

asked_in_order : (point : Point) → IsInOrder smallest_tables (asked_at point)
asked_in_order AtBegin = tt
asked_in_order AtPass = tt
asked_in_order AtFinish = tt

asks_no_update : {A : Type 0} (point : Point) → IsUpdate (asked_at point) → A
asks_no_update AtBegin asks = absurd asks
asks_no_update AtPass asks = absurd asks
asks_no_update AtFinish asks = absurd asks

-- there is nothing
abbrev IsNothing : {A : Type 0} → Option A → Type 0
IsNothing None = Unit {0}
IsNothing (Some writes) = ⊥

no_writes : {A : Type 0} (writes : A) → None ≡ Some writes → ⊥
no_writes writes e = subst IsNothing e tt

-- what is said of every load holds of the smallest
pub smallest_is_load : IsLoad smallest
smallest_is_load = record {
  right = record { few_cells = leb-true 0 _ refl; few_processes = leb-true 1 _ refl; few_events = leb-true 0 _ refl; cells = All-nil _; expressions = All-nil _; first = ltb-true 0 1 refl };
  begins = λ p exists. refl;
  restarts = λ p answers exists fit. ap asked_at (point_after-killed answers AtBegin);
  cycles = λ p answers exists fit e. ap asked_at (point_after-push answers Done AtBegin) ∙ begins_after (point_after answers AtBegin) e;
  in_order = λ p answers exists fit. asked_in_order (point_after answers AtBegin);
  writes_right = λ p answers snapshot turns writes exists fit full e. absurd (no_writes writes e);
  few_turns = λ p answers snapshot turns writes exists fit full e. absurd (no_writes writes e);
  one_end = λ p answers snapshot turns other writes others exists fit full e f. absurd (no_writes writes e);
  ends = λ p answers snapshot exists fit full asks. asks_no_update (point_after answers AtBegin) asks;
}
