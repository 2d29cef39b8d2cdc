-- A process of a right image always asks in order, and never runs out of moves.
use Rattle.std.specs.Prelude.{ℕ, zero, suc, ◌<◌, ◌≤◌, ◌≡◌, List, [], ◌∷◌, ◌++◌, Some, None}
use Rattle.std.proofs.Common.{refl, sym, subst, arith}
use Rattle.std.proofs.lemmas.List.{append_assoc, append-nil}
use Rattle.hal_values.specs.Answers.{Answered, Ends, Fits, error}
use Rattle.hal_values.specs.Loads as loads
use Rattle.hal_values.specs.Tables.{process_count}
use Rattle.hal_states.specs.Spots.{kept}
use Rattle.hal_code.specs.declared.instr.Instr.{Instr}
use Rattle.hal_code.specs.Cores.{Setting, Core, Step, Waits, Moves, Counts}
use Rattle.hal_code.specs.Courses.{rank, Asked, moving, counting, settled, asked_after, course, next}
use Rattle.hal_code.specs.Forward.{IsForward}
use Rattle.hal_code.specs.Machine.{act, stepped, begun, after_answer}
use Rattle.hal_code.specs.Raising.{stuck}
use Rattle.hal_code.proofs.Orderly.{Writes, Sound}
use Rattle.hal_code.proofs.Acting.{Anywhere, Sound-stepped, Sound-begun, Sound-answer}
use Rattle.hal_code.proofs.Coursing.{course_good}
use Rattle.hal_code.proofs.Falling.{moves_lower}
use Rattle.hal_sound_code.specs.Lying.{sorts_of}
use Rattle.hal_sound_code.specs.Typed.{IsTyped, IsAwaited}
use Rattle.hal_sound_code.proofs.Acting.{Typed-act}
use Rattle.hal_sound_code.proofs.Answering.{Fitting, Fitting-answer}
use Rattle.hal_sound_code.proofs.Grounds.{Ground, Typed-begun}
use Rattle.hal_sound_code.proofs.Points.{Faces, faces}
use Rattle.hal_sound_code.proofs.Stepping.{Well, Typed}

-- the instruction that is next
pub Typed-stepped : (s : Setting) → Ground s → (most : ℕ) (c : Core) → Well s most c → Typed s most (stepped s c)
Typed-stepped s ground most c well = facing (faces s ground.whole well.typed.number well.typed.inside c.at (sorts_of c.stack) well.typed.stands)
  where
    facing : (i : Instr) × Faces s well.typed.number well.typed.inside c.at (sorts_of c.stack) i → Typed s most (stepped s c)
    facing known = subst (λ o. Typed s most (elim o [ None ↦ stuck c | Some i ↦ act s i c ])) (sym known.1.in_code) (Typed-act s ground most c well known.0 known.1)

module _ (s : Setting) (ground : Ground s) (forward : IsForward s.image.code) (own : s.process < process_count s.tables) where
  -- moves end before they are used up
  moving_awaits : (most : ℕ) (counted : Core → Asked) → ((d : Core) → IsTyped s d → Writes s.tables d.mode → d.mode.turns < most → IsAwaited s (counted d)) → (moves : ℕ) (c : Core) (step : Step) → stepped s c ≡ step → Writes s.tables c.mode
      → Typed s most step → Sound s.tables Anywhere step → rank s c ≤ moves → IsAwaited s (moving s counted moves step)
  moving_awaits most counted each moves c (Waits r w d) is writes typed sound low = typed.is
  moving_awaits most counted each moves c (Counts d) is writes typed sound low = each d typed.is.0 sound.is typed.is.1
  moving_awaits most counted each zero c (Moves d) is writes typed sound low = absurd (none (rank s d) (rank s c) (moves_lower s forward own c d writes is) low)
    where
      none : (a b : ℕ) → a < b → b ≤ 0 → ⊥
      none a b less most_is = omega (arith, less, most_is)
  moving_awaits most counted each (suc moves) c (Moves d) is writes typed sound low =
      moving_awaits most counted each moves d (stepped s d) refl sound.is.0 (Typed-stepped s ground most d typed.is) (Sound-stepped s own d sound.is.0) (lower (rank s d) (rank s c) (moves_lower s forward own c d writes is) low)
    where
      lower : (a b : ℕ) → a < b → b ≤ suc moves → a ≤ moves
      lower a b less most_is = omega (arith, less, most_is)

  -- and so do turns
  counting_awaits : (turns : ℕ) (c : Core) → IsTyped s c → Writes s.tables c.mode → c.mode.turns < turns → IsAwaited s (counting s turns c)
  counting_awaits zero c typed writes few = absurd (omega (arith, few))
  counting_awaits (suc turns) c typed writes few =
      moving_awaits c.mode.turns (counting s turns) (λ d fits wrote fewer. counting_awaits turns d fits wrote (less d.mode.turns c.mode.turns fewer few)) (rank s c) c (stepped s c) refl writes
      (Typed-stepped s ground c.mode.turns c (record { typed = typed; few = omega arith })) (Sound-stepped s own c writes) (omega arith)
    where
      less : (a b : ℕ) → a < b → b < suc turns → a < turns
      less a b one two = omega (arith, one, two)

  settled_awaits : (step : Step) → Fitting s step → Sound s.tables Anywhere step → IsAwaited s (settled s step)
  settled_awaits (Waits r w c) fits sound = fits.1.is
  settled_awaits (Moves c) fits sound = counting_awaits (suc c.mode.turns) c fits.1.is.typed sound.is.0 (omega arith)
  settled_awaits (Counts c) fits sound = counting_awaits (suc c.mode.turns) c fits.1.is.0 sound.is (omega arith)

  -- one answer more
  one_more : (one : Asked) (answers : List Answered) (a : Answered) → asked_after s one (answers ++ (a ∷ [])) ≡ settled s (after_answer s (asked_after s one answers).wait a (asked_after s one answers).core)
  one_more one [] a = refl
  one_more one (b ∷ answers) a = one_more (settled s (after_answer s one.wait b one.core)) answers a

  next_awaits : (before : List Answered) (a : Answered) (ends : Ends) → IsAwaited s (course s before) → Fits s.tables ends (next s before) a → IsAwaited s (course s (before ++ (a ∷ [])))
  next_awaits before a ends awaits fits =
      subst (IsAwaited s) (sym (one_more (settled s (begun s (kept s.firsts (error 0 0)))) before a))
      (settled_awaits (after_answer s (course s before).wait a (course s before).core) (Fitting-answer s ground s.tables ends (course s before).request (course s before).core (course s before).wait a awaits fits)
      (Sound-answer s own (course s before).wait a (course s before).core (course_good s own before).wait (course_good s own before).writes))

  first_awaits : IsAwaited s (course s [])
  first_awaits = settled_awaits (begun s (kept s.firsts (error 0 0))) (0, Typed-begun s ground 0 (kept s.firsts (error 0 0)) ground.firsts) (Sound-begun s own (kept s.firsts (error 0 0)))

  -- after all fitting answers
  module _ (q : loads.Meaning) (tables : q.tables ≡ s.tables) (p : ℕ) (asks : (answers : List Answered) → q.next p answers ≡ next s answers) where
    after_awaits : (before answers : List Answered) → IsAwaited s (course s before) → loads.FitAfter q p before answers → IsAwaited s (course s (before ++ answers))
    after_awaits before [] awaits fit = subst (λ all. IsAwaited s (course s all)) (sym (append-nil before)) awaits
    after_awaits before (a ∷ answers) awaits fit =
        subst (λ all. IsAwaited s (course s all)) (append_assoc before (a ∷ []) answers)
        (after_awaits (before ++ (a ∷ [])) answers (next_awaits before a (q.block p before) awaits (subst (λ r. Fits s.tables (q.block p before) r a) (asks before) (subst (λ t. Fits t (q.block p before) (q.next p before) a) tables fit.0))) fit.1)

    pub course_awaits : (answers : List Answered) → loads.FitAll q p answers → IsAwaited s (course s answers)
    course_awaits answers fit = after_awaits [] answers first_awaits fit
