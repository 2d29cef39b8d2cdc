-- Where steps of the machine lead.
use Rattle.std.specs.Prelude.{◌≡◌, ℕ, zero, suc, List, ◌∷◌, Some, None, slice_get}
use Rattle.std.proofs.Common.{ap, subst, ◌∙◌}
use Rattle.hal_values.specs.declared.request.Request.{Request}
use Rattle.hal_values.specs.Answers.{Answered}
use Rattle.hal_code.specs.declared.instr.Instr.{Instr}
use Rattle.hal_code.specs.Cores.{Setting, Core, Wait, Step, Waits, Moves, Counts}
use Rattle.hal_code.specs.Raising.{stuck}
use Rattle.hal_code.specs.Machine.{act, stepped, after_answer}
use Rattle.hal_code.specs.Courses.{Asked}
use Rattle.hal_code.specs.Executions.{execution, Comes}

-- what comes of the second step comes of the first one
pub record Leads (s : Setting) (step : Step) (left : List Answered) (to : Step) (rest : List Answered) : Type 0 where
  pub go : (one : Asked) → Comes s to rest one → Comes s step left one

pub stays : (s : Setting) (step : Step) (left : List Answered) → Leads s step left step left
stays s step left = record { go = λ one is. is }

pub through : (s : Setting) (a b c : Step) (k l m : List Answered) → Leads s a k b l → Leads s b l c m → Leads s a k c m
through s a b c k l m first second = record { go = λ one is. first.go one (second.go one is) }

-- the next instruction
pub moved : (s : Setting) (c : Core) (left : List Answered) → Leads s (Moves c) left (stepped s c) left
moved s c left = record { go = λ one is. record { moves = suc is.moves; is = is.is } }

-- an answer
pub heard : (s : Setting) (r : Request) (w : Wait) (c : Core) (a : Answered) (left : List Answered) → Leads s (Waits r w c) (a ∷ left) (after_answer s w a c) left
heard s r w c a left = record { go = λ one is. record { moves = suc is.moves; is = is.is } }

counts_as : (s : Setting) (c : Core) (left : List Answered) (one : Asked) (moves : ℕ) → execution s (Moves c) left moves ≡ Some one → Comes s (Counts c) left one
counts_as s c left one zero e = absurd (cc)
counts_as s c left one (suc moves) e = record { moves = suc moves; is = e }

-- a turn that is counted is a move
pub counted : (s : Setting) (c : Core) (left : List Answered) → Leads s (Counts c) left (Moves c) left
counted s c left = record { go = λ one is. counts_as s c left one is.moves is.is }

-- an instruction that leads there
pub acts_to : (s : Setting) (i : Instr) (c : Core) (left : List Answered) (to : Step) → slice_get s.image.code c.at ≡ Some i → act s i c ≡ to → Leads s (Moves c) left to left
acts_to s i c left to has is =
    subst (λ step. Leads s (Moves c) left step left) (ap (λ o. elim o [ None ↦ stuck c | Some found ↦ act s found c ]) has ∙ is) (moved s c left)
