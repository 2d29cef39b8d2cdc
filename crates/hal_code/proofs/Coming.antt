-- What comes of the steps of code whose jumps go on is what the machine asks.
use Rattle.std.specs.Prelude.{ℕ, zero, suc, ◌≤◌, ◌<◌, ◌≡◌, List, [], ◌∷◌, Some}
use Rattle.std.proofs.Common.{refl, sym, ap, subst, ◌∙◌, arith}
use Rattle.hal_values.specs.Answers.{Answered}
use Rattle.hal_values.specs.Tables.{process_count}
use Rattle.hal_states.specs.Spots.{Kept}
use Rattle.hal_code.specs.Cores.{Setting, Core, Step, Waits, Moves, Counts}
use Rattle.hal_code.specs.Machine.{stepped, begun, after_answer}
use Rattle.hal_code.specs.Courses.{rank, Asked, moving, counting, settled, asked_after}
use Rattle.hal_code.specs.Executions.{execution, Comes}
use Rattle.hal_code.specs.Forward.{IsForward}
use Rattle.hal_code.proofs.Orderly.{Writes, Sound}
use Rattle.hal_code.proofs.Acting.{Anywhere, Sound-stepped, Sound-begun, Sound-answer}
use Rattle.hal_code.proofs.Falling.{moves_lower}
use Rattle.hal_code.proofs.Turning.{Turns, Turns-stepped}

module _ (s : Setting) (forward : IsForward s.image.code) (own : s.process < process_count s.tables) where
  -- more moves than the rank make no difference
  same_moves : (f : Core → Asked) (n m : ℕ) (c : Core) (step : Step) → stepped s c ≡ step → Writes s.tables c.mode → rank s c ≤ n → rank s c ≤ m → moving s f n step ≡ moving s f m step
  same_moves f n m c (Waits r w after) e writes low other = refl
  same_moves f n m c (Counts after) e writes low other = refl
  same_moves f zero m c (Moves after) e writes low other = absurd (omega (arith, moves_lower s forward own c after writes e, low))
  same_moves f (suc n) zero c (Moves after) e writes low other = absurd (omega (arith, moves_lower s forward own c after writes e, other))
  same_moves f (suc n) (suc m) c (Moves after) e writes low other =
      same_moves f n m after (stepped s after) refl (written (Sound-stepped s own c writes)) (fewer n low) (fewer m other)
    where
      written : Sound s.tables Anywhere (stepped s c) → Writes s.tables after.mode
      written sound = (subst (λ step. Sound s.tables Anywhere step) e sound).is.0

      fewer : (k : ℕ) → rank s c ≤ suc k → rank s after ≤ k
      fewer k few = omega (arith, moves_lower s forward own c after writes e, few)

  moved_on : (c after : Core) (n : ℕ) → rank s c ≡ n → stepped s c ≡ Moves after → Writes s.tables c.mode → after.mode.turns ≡ c.mode.turns → moving s (counting s c.mode.turns) n (Moves after) ≡ settled s (Moves after)
  moved_on c after zero is e writes same = absurd (omega (arith, moves_lower s forward own c after writes e, is))
  moved_on c after (suc n) is e writes same =
      same_moves (counting s c.mode.turns) n (rank s after) after (stepped s after) refl (subst (λ step. Sound s.tables Anywhere step) e (Sound-stepped s own c writes)).is.0 (fewer (moves_lower s forward own c after writes e)) (omega arith)
      ∙ ap (λ k. moving s (counting s k) (rank s after) (stepped s after)) (sym same)
    where
      fewer : rank s after < rank s c → rank s after ≤ n
      fewer lower = omega (arith, lower, is)

  -- a step that counts or moves is followed by what the machine asks from there on
  settled_on : (c : Core) (step : Step) → stepped s c ≡ step → Writes s.tables c.mode → Turns c.mode.turns step → moving s (counting s c.mode.turns) (rank s c) step ≡ settled s step
  settled_on c (Waits r w after) e writes turns = refl
  settled_on c (Counts after) e writes turns = ap (λ n. counting s n after) (sym turns.is)
  settled_on c (Moves after) e writes turns = moved_on c after (rank s c) refl e writes turns.is

  settled_moves : (c : Core) → Writes s.tables c.mode → settled s (Moves c) ≡ settled s (stepped s c)
  settled_moves c writes = settled_on c (stepped s c) refl writes (Turns-stepped s c)

  answered_next : (one other : Asked) (left : List Answered) (last : Asked) → one ≡ other → asked_after s other left ≡ last → asked_after s one left ≡ last
  answered_next one other left last same is = ap (λ x. asked_after s x left) same ∙ is

  -- what comes of a step and of answers is what is asked after them
  comes : (moves : ℕ) (step : Step) (left : List Answered) (last : Asked) → Sound s.tables Anywhere step → execution s step left moves ≡ Some last → asked_after s (settled s step) left ≡ last
  comes moves (Waits r w c) [] last sound e = cc
  comes zero (Waits r w c) (a ∷ left) last sound e = absurd (cc)
  comes (suc moves) (Waits r w c) (a ∷ left) last sound e = comes moves (after_answer s w a c) left last (Sound-answer s own w a c sound.is.wait sound.is.writes) e
  comes zero (Moves c) left last sound e = absurd (cc)
  comes (suc moves) (Moves c) left last sound e =
      answered_next (settled s (Moves c)) (settled s (stepped s c)) left last (settled_moves c sound.is.0) (comes moves (stepped s c) left last (Sound-stepped s own c sound.is.0) e)
  comes zero (Counts c) left last sound e = absurd (cc)
  comes (suc moves) (Counts c) left last sound e =
      answered_next (settled s (Counts c)) (settled s (stepped s c)) left last (settled_moves c sound.is) (comes moves (stepped s c) left last (Sound-stepped s own c sound.is) e)

  -- from the beginning of a process on
  pub comes_is_asked : (kept : Kept) (answers : List Answered) (last : Asked) → Comes s (begun s kept) answers last → asked_after s (settled s (begun s kept)) answers ≡ last
  comes_is_asked kept answers last is = comes is.moves (begun s kept) answers last (Sound-begun s own kept) is.is
