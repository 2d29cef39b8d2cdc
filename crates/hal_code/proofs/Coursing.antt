-- What a process of an image asks after any answers is in order.
use Rattle.std.specs.Prelude.{ℕ, zero, suc, ◌<◌, ◌≡◌, ◌++◌, List, [], ◌∷◌}
use Rattle.std.proofs.Common.{refl, ap, subst, sym, ◌∙◌}
use Rattle.hal_values.specs.declared.request.Request.TheVariants as request
use Rattle.hal_values.specs.Answers.{Answered, error}
use Rattle.hal_values.specs.Answers as answered
use Rattle.hal_values.specs.Tables.{process_count}
use Rattle.hal_states.specs.Spots.{kept}
use Rattle.hal_code.specs.Cores.{Setting, Core, Wait, Renews, Step, Waits, Moves, Counts}
use Rattle.hal_code.specs.Machine.{stepped, begun, after_answer}
use Rattle.hal_code.specs.Courses.{rank, Asked, lost, moving, counting, settled, asked_after, course, next}
use Rattle.hal_code.proofs.Orderly.{Writes, Good, Sound}
use Rattle.hal_code.proofs.Acting.{Anywhere, Sound-stepped, Sound-begun, Sound-answer}

module _ (s : Setting) (own : s.process < process_count s.tables) where
  -- what is asked is in order
  abbrev pub IsGood : Asked → Type 0
  IsGood one = Good s.tables one.request one.wait one.core.mode

  lost_good : (c : Core) → Writes s.tables c.mode → IsGood (lost c)
  lost_good c writes = record { order = tt; wait = tt; renews = λ is. absurd (cc); writes = writes }

  moving_good : (counted : Core → Asked) → ((c : Core) → Writes s.tables c.mode → IsGood (counted c)) → (moves : ℕ) (step : Step) → Sound s.tables Anywhere step → IsGood (moving s counted moves step)
  moving_good counted each moves (Waits r w c) sound = sound.is
  moving_good counted each moves (Counts c) sound = each c sound.is
  moving_good counted each zero (Moves c) sound = lost_good c sound.is.0
  moving_good counted each (suc moves) (Moves c) sound = moving_good counted each moves (stepped s c) (Sound-stepped s own c sound.is.0)

  counting_good : (turns : ℕ) (c : Core) → Writes s.tables c.mode → IsGood (counting s turns c)
  counting_good zero c writes = lost_good c writes
  counting_good (suc turns) c writes = moving_good (counting s turns) (counting_good turns) (rank s c) (stepped s c) (Sound-stepped s own c writes)

  settled_good : (step : Step) → Sound s.tables Anywhere step → IsGood (settled s step)
  settled_good (Waits r w c) sound = sound.is
  settled_good (Moves c) sound = counting_good (suc c.mode.turns) c sound.is.0
  settled_good (Counts c) sound = counting_good (suc c.mode.turns) c sound.is

  after_good : (one : Asked) (answers : List Answered) → IsGood one → IsGood (asked_after s one answers)
  after_good one [] good = good
  after_good one (a ∷ answers) good = after_good (settled s (after_answer s one.wait a one.core)) answers (settled_good (after_answer s one.wait a one.core) (Sound-answer s own one.wait a one.core good.wait good.writes))

  pub course_good : (answers : List Answered) → IsGood (course s answers)
  course_good answers = after_good (settled s (begun s (kept s.firsts (error 0 0)))) answers (settled_good (begun s (kept s.firsts (error 0 0))) (Sound-begun s own (kept s.firsts (error 0 0))))

  -- one answer more
  one_more : (one : Asked) (answers : List Answered) (a : Answered)
      → asked_after s one (answers ++ (a ∷ [])) ≡ settled s (after_answer s (asked_after s one answers).wait a (asked_after s one answers).core)
  one_more one [] a = refl
  one_more one (b ∷ answers) a = one_more (settled s (after_answer s one.wait b one.core)) answers a

  course_more : (answers : List Answered) (a : Answered) → course s (answers ++ (a ∷ [])) ≡ settled s (after_answer s (course s answers).wait a (course s answers).core)
  course_more answers a = one_more (settled s (begun s (kept s.firsts (error 0 0)))) answers a

  -- Begin is asked after Killed
  pub restarts : (answers : List Answered) → next s (answers ++ (answered.Killed ∷ [])) ≡ request.Begin
  restarts answers = ap (λ (one : Asked). one.request) (course_more answers answered.Killed)

  renewed : (w : Wait) (c : Core) → w ≡ Renews → (settled s (after_answer s w answered.Done c)).request ≡ request.Begin
  renewed w c is = subst (λ one. (settled s (after_answer s one answered.Done c)).request ≡ request.Begin) (sym is) refl

  -- and after a finished cycle
  pub cycles : (answers : List Answered) → next s answers ≡ request.Finish → next s (answers ++ (answered.Done ∷ [])) ≡ request.Begin
  cycles answers finish =
      ap (λ (one : Asked). one.request) (course_more answers answered.Done) ∙ renewed (course s answers).wait (course s answers).core ((course_good answers).renews finish)
