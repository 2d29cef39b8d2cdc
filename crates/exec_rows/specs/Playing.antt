-- What the processes of a scripted load keep.
use Rattle.std.specs.Prelude.{ℕ, List, [], map, Option, None}
use Rattle.hal_values.specs.Answers.{Answered, Begun, Told, Done, Wrong, Block, Killed}
use Rattle.exec_model.specs.Processes.{Look}
use Rattle.exec_rows.specs.declared.kept.Kept.{Kept}
use Rattle.exec_rows.specs.declared.kept.Kept.TheVariants as kept

-- an answer that is kept, as the definitions see it
abbrev pub kept_answer : Kept → Answered
kept_answer kept.Begun = Begun
kept_answer (kept.Value v) = Told v
kept_answer kept.Done = Done
kept_answer (kept.Wrong e) = Wrong e
kept_answer (kept.Block snapshot turns) = Block snapshot turns
kept_answer kept.Killed = Killed

-- what is kept of a process: its answers, its room for further ones, and its last look
pub record Held : Type 0 where
  pub answers : List Answered
  pub room : ℕ
  pub look : Option Look

-- nothing is kept
abbrev pub nothing_held : Held
nothing_held = record { answers = []; room = 0; look = None }

-- the answers of each process
abbrev pub all_answers : List Held → List (List Answered)
all_answers desks = map (λ (desk : Held). desk.answers) desks

-- the room of each process
abbrev pub all_rooms : List Held → List ℕ
all_rooms desks = map (λ (desk : Held). desk.room) desks

-- the last look of each process
abbrev pub all_looks : List Held → List (Option Look)
all_looks desks = map (λ (desk : Held). desk.look) desks
