-- A process of a right image holds right values after all fitting answers.
use Rattle.std.specs.Prelude.{ℕ, zero, suc, ◌<◌, ◌≡◌, List, [], ◌∷◌, ◌++◌, length, Some, None}
use Rattle.std.proofs.Common.{refl, sym, subst, arith}
use Rattle.std.proofs.lemmas.List.{append_assoc, append-nil}
use Rattle.hal_values.specs.Answers.{Answered, Ends, Fits, error}
use Rattle.hal_values.specs.Fitting.{FitAll-push}
use Rattle.hal_values.specs.Loads as loads
use Rattle.hal_states.specs.Spots.{kept}
use Rattle.hal_code.specs.declared.image.ImageParts.{ImageParts}
use Rattle.hal_code.specs.declared.instr.Instr.{Instr}
use Rattle.hal_code.specs.Cores.{Setting, Core, Step, Waits, Moves, Counts}
use Rattle.hal_code.specs.Courses.{setting_of, rank, Asked, moving, counting, settled, asked_after, course, next, load_of}
use Rattle.hal_code.specs.Machine.{act, stepped, begun, after_answer}
use Rattle.hal_code.specs.Raising.{stuck}
use Rattle.hal_code.specs.Right.{IsRight}
use Rattle.hal_code.proofs.RightTables.{right_tables}
use Rattle.hal_sound_code.specs.Lying.{sorts_of}
use Rattle.hal_sound_code.specs.Typed.{IsTyped, IsAwaited}
use Rattle.hal_sound_code.proofs.Answering.{Fitting, Fitting-answer}
use Rattle.hal_sound_code.proofs.Coursing.{Typed-stepped}
use Rattle.hal_sound_code.proofs.Fitting.{right_awaits}
use Rattle.hal_sound_code.proofs.Grounds.{Ground, ground_of, Typed-begun}
use Rattle.hal_sound_code.proofs.Points.{Faces, faces}
use Rattle.hal_sound_code.proofs.Rights.{Whole, whole}
use Rattle.hal_sound_code.proofs.Stepping.{Typed}
use Rattle.hal_right_values.specs.Ranges.{IsInRangeAt, AreInRange}
use Rattle.hal_right_values.specs.Holding.{Holding, HoldsAwaiting}
use Rattle.hal_right_values.proofs.Acting.{fine, Right-act}
use Rattle.hal_right_values.proofs.Answering.{Right-begun, Right-answer}
use Rattle.hal_right_values.proofs.Copying.{low_at}
use Rattle.hal_right_values.proofs.Errors.{small}
use Rattle.hal_right_values.proofs.Grounds.{known_of}
use Rattle.hal_right_values.proofs.Steps.{Known, Right}

-- the instruction that is next, where control stands at one that is right
pub Right-stepped : (s : Setting) → Known s → Whole s.image → s.process < length s.image.processes → (c : Core) → IsTyped s c → IsInRangeAt s.image c.at → Holding c → Right (stepped s c)
Right-stepped s known all exists c typed ranged h = facing (faces s all typed.number typed.inside c.at (sorts_of c.stack) typed.stands)
  where
    facing : (i : Instr) × Faces s typed.number typed.inside c.at (sorts_of c.stack) i → Right (stepped s c)
    facing there =
        subst (λ o. Right (elim o [ None ↦ stuck c | Some i ↦ act s i c ])) (sym there.1.in_code)
        (Right-act s known c h there.0 (fine s.image there.1.block typed.number there.0 there.1.operands (ranged there.0 there.1.in_code)) (low_at s all exists c typed there.0 there.1))

pub Right-first : (s : Setting) → Known s → Right (begun s (kept s.firsts (error 0 0)))
Right-first s known = Right-begun s known (kept s.firsts (error 0 0)) known.firsts (small 0 0 (omega arith) (omega arith))

module _ (turns : ℕ) (image : ImageParts) (p : ℕ) (right : IsRight image) (ranged : AreInRange image) (exists : p < length image.processes) where
  abbrev s : Setting
  s = setting_of turns image p

  ground : Ground s
  ground = ground_of turns image p right exists

  steps : (c : Core) → IsTyped s c → Holding c → Right (stepped s c)
  steps c typed h = Right-stepped s (known_of turns image p right) (whole image right) exists c typed (ranged c.at) h

  moving_holds : (most : ℕ) (counted : Core → Asked) → ((d : Core) → IsTyped s d → Holding d → HoldsAwaiting (counted d)) → (moves : ℕ) (step : Step) → Typed s most step → Right step → HoldsAwaiting (moving s counted moves step)
  moving_holds most counted each moves (Waits r w d) typed holds = holds.is
  moving_holds most counted each moves (Counts d) typed holds = each d typed.is.0 holds.is
  moving_holds most counted each zero (Moves d) typed holds = (holds.is, tt)
  moving_holds most counted each (suc moves) (Moves d) typed holds = moving_holds most counted each moves (stepped s d) (Typed-stepped s ground most d typed.is) (steps d typed.is.typed holds.is)

  counting_holds : (more : ℕ) (c : Core) → IsTyped s c → Holding c → HoldsAwaiting (counting s more c)
  counting_holds zero c typed h = (h, tt)
  counting_holds (suc more) c typed h =
      moving_holds c.mode.turns (counting s more) (counting_holds more) (rank s c) (stepped s c) (Typed-stepped s ground c.mode.turns c (record { typed = typed; few = omega arith })) (steps c typed h)

  settled_holds : (step : Step) → Fitting s step → Right step → HoldsAwaiting (settled s step)
  settled_holds (Waits r w c) fits holds = holds.is
  settled_holds (Moves c) fits holds = counting_holds (suc c.mode.turns) c fits.1.is.typed holds.is
  settled_holds (Counts c) fits holds = counting_holds (suc c.mode.turns) c fits.1.is.0 holds.is

  -- one answer more
  one_more : (one : Asked) (answers : List Answered) (a : Answered) → asked_after s one (answers ++ (a ∷ [])) ≡ settled s (after_answer s (asked_after s one answers).wait a (asked_after s one answers).core)
  one_more one [] a = refl
  one_more one (b ∷ answers) a = one_more (settled s (after_answer s one.wait b one.core)) answers a

  next_holds : (before : List Answered) (a : Answered) (ends : Ends) → IsAwaited s (course s before) → HoldsAwaiting (course s before) → Fits s.tables ends (next s before) a → HoldsAwaiting (course s (before ++ (a ∷ [])))
  next_holds before a ends awaits holds fits =
      subst HoldsAwaiting (sym (one_more (settled s (begun s (kept s.firsts (error 0 0)))) before a))
      (settled_holds (after_answer s (course s before).wait a (course s before).core) (Fitting-answer s ground s.tables ends (course s before).request (course s before).core (course s before).wait a awaits fits)
      (Right-answer s (known_of turns image p right) s.tables (right_tables image right).cells ends (course s before).request (course s before).core holds.0 (course s before).wait a holds.1 fits))

  first_holds : HoldsAwaiting (course s [])
  first_holds = settled_holds (begun s (kept s.firsts (error 0 0))) (0, Typed-begun s ground 0 (kept s.firsts (error 0 0)) ground.firsts) (Right-first s (known_of turns image p right))

  -- after all fitting answers
  after_holds : (before answers : List Answered) → loads.FitAll (load_of turns image) p before → HoldsAwaiting (course s before) → loads.FitAfter (load_of turns image) p before answers → HoldsAwaiting (course s (before ++ answers))
  after_holds before [] fit holds later = subst (λ all. HoldsAwaiting (course s all)) (sym (append-nil before)) holds
  after_holds before (a ∷ answers) fit holds later =
      subst (λ all. HoldsAwaiting (course s all)) (append_assoc before (a ∷ []) answers)
      (after_holds (before ++ (a ∷ [])) answers (FitAll-push (load_of turns image) p before a fit later.0) (next_holds before a ((load_of turns image).block p before) (right_awaits turns image p before right exists fit) holds later.0) later.1)

  pub course_holds : (answers : List Answered) → loads.FitAll (load_of turns image) p answers → HoldsAwaiting (course s answers)
  course_holds answers fit = after_holds [] answers tt first_holds fit
