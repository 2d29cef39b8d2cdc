-- In code whose jumps go on, each move lowers the rank.
use Rattle.std.specs.Prelude.{ℕ, suc, ◌+◌, ◌*◌, ◌-◌, ◌<◌, ◌≤◌, ◌≡◌, length, List, [], ◌∷◌, Option, Some, None, slice_get}
use Rattle.std.proofs.Common.{refl, sym, subst, inl, inr, arith}
use Rattle.std.proofs.lemmas.Option.{slice_get_within}
use Rattle.hal_values.specs.Tables.{process_count}
use Rattle.hal_code.specs.declared.instr.Instr.{Instr}
use Rattle.hal_code.specs.declared.instr.Instr.TheVariants as instr
use Rattle.hal_code.specs.Cores.{Setting, Core, Frame, Return, Step, Moves}
use Rattle.hal_code.specs.Raising.{stuck}
use Rattle.hal_code.specs.Machine.{act, stepped}
use Rattle.hal_code.specs.Courses.{height_in, height, height_of_frames, rank}
use Rattle.hal_code.specs.Forward.{LeadsOn, IsForward, GoesOn}
use Rattle.hal_code.proofs.Orderly.{Writes, Landing, IsSound, Sound, sticks}
use Rattle.hal_code.proofs.Acting.{way_of, Returns, Closes, Lands, Sound-act}

-- an instruction is at most so high
low_in : (s : Setting) → IsForward s.image.code → (at : ℕ) (o : Option Instr) → slice_get s.image.code at ≡ o → height_in (length s.image.code) at o ≤ 2 * (length s.image.code - at)
low_in s forward at None e = omega arith
low_in s forward at (Some (instr.Turn target)) e = below (length s.image.code) (forward at (instr.Turn target) e) (slice_get_within s.image.code at (instr.Turn target) e)
  where
    below : (size : ℕ) → at < target → at < size → 2 * (size - target) + 1 ≤ 2 * (size - at)
    below size on within = omega (arith, on, within)
low_in s forward at (Some other) e = omega arith

low : (s : Setting) → IsForward s.image.code → (at : ℕ) → height s at ≤ 2 * (length s.image.code - at)
low s forward at = low_in s forward at (slice_get s.image.code at) refl

-- it is lower than an instruction of this height with these frames
abbrev Lower : Setting → ℕ → List Frame → Landing
Lower s h frames at after = height s at + height_of_frames s after < h + height_of_frames s frames

module _ (s : Setting) (forward : IsForward s.image.code) where
  -- further on
  further : (at target : ℕ) (frames : List Frame) → at < target → at < length s.image.code → Lower s (2 * (length s.image.code - at)) frames target frames
  further at target frames on within = below (length s.image.code) (height s target) (height_of_frames s frames) (low s forward target) on within
    where
      below : (size h rest : ℕ) → h ≤ 2 * (size - target) → at < target → at < size → h + rest < 2 * (size - at) + rest
      below size h rest is over in_code = omega (arith, is, over, in_code)

  -- back to a TURN that leads over
  over_turn : (at target over : ℕ) (frames : List Frame) → slice_get s.image.code target ≡ Some (instr.Turn over) → at < over → at < length s.image.code → Lower s (2 * (length s.image.code - at)) frames target frames
  over_turn at target over frames e on within =
      subst (λ o. height_in (length s.image.code) target o + height_of_frames s frames < 2 * (length s.image.code - at) + height_of_frames s frames) (sym e) (below (length s.image.code) (height_of_frames s frames) on within)
    where
      below : (size rest : ℕ) → at < over → at < size → (2 * (size - over) + 1) + rest < 2 * (size - at) + rest
      below size rest past in_code = omega (arith, past, in_code)

  jumped : (at target : ℕ) (frames : List Frame) → LeadsOn s.image.code at target → at < length s.image.code → Lower s (2 * (length s.image.code - at)) frames target frames
  jumped at target frames (inl on) within = further at target frames on within
  jumped at target frames (inr turn) within = over_turn at target turn.0 frames turn.1 turn.2 within

  -- where turns are used up, behind a TURN
  spent : (target : ℕ) (frames : List Frame) → Lower s (2 * (length s.image.code - target) + 1) frames target frames
  spent target frames = below (height s target) (2 * (length s.image.code - target)) (height_of_frames s frames) (low s forward target)
    where
      below : (h high rest : ℕ) → h ≤ high → h + rest < (high + 1) + rest
      below h high rest is = omega (arith, is)

  -- behind the call that entered the block
  back_to : (h : ℕ) (f : Frame) (fs : List Frame) (o : Option Return) (back : Return) → o ≡ Some back
      → height s back.at + height_of_frames s fs < h + elim o [ None ↦ height_of_frames s fs | Some one ↦ suc (height s one.at) + height_of_frames s fs ]
  back_to h f fs o back e =
      subst (λ one. height s back.at + height_of_frames s fs < h + elim one [ None ↦ height_of_frames s fs | Some two ↦ suc (height s two.at) + height_of_frames s fs ]) (sym e) (below (height s back.at) (height_of_frames s fs))
    where
      below : (a rest : ℕ) → a + rest < h + (suc a + rest)
      below a rest = omega arith

  returned : (h : ℕ) (frames : List Frame) → Returns (Lower s h frames) frames
  returned h [] = tt
  returned h (f ∷ fs) = λ back e. back_to h f fs f.back back e

  -- with a frame less
  fewer_in : (at : ℕ) (fs : List Frame) (o : Option Return) → at < length s.image.code
      → height s (suc at) + height_of_frames s fs < 2 * (length s.image.code - at) + elim o [ None ↦ height_of_frames s fs | Some one ↦ suc (height s one.at) + height_of_frames s fs ]
  fewer_in at fs None within = further at (suc at) fs (omega arith) within
  fewer_in at fs (Some one) within = below (height s (suc at)) (2 * (length s.image.code - at)) (height_of_frames s fs) (height s one.at) (further at (suc at) fs (omega arith) within)
    where
      below : (a b rest more : ℕ) → a + rest < b + rest → a + rest < b + (suc more + rest)
      below a b rest more is = omega (arith, is)

  closed : (at : ℕ) (frames : List Frame) → at < length s.image.code → Closes (Lower s (2 * (length s.image.code - at)) frames) (suc at) frames
  closed at [] within = tt
  closed at (f ∷ fs) within = fewer_in at fs f.back within

  onward : (at : ℕ) (frames : List Frame) → at < length s.image.code → Lower s (2 * (length s.image.code - at)) frames (suc at) frames
  onward at frames within = further at (suc at) frames (omega arith) within

  -- wherever an instruction goes on, it is lower
  lands : (c : Core) (i : Instr) → GoesOn s.image.code c.at i → c.at < length s.image.code → Lands (Lower s (height_in (length s.image.code) c.at (Some i)) c.frames) c (way_of i)
  lands c (instr.Jump target) on within = jumped c.at target c.frames on within
  lands c (instr.JumpNot target) on within = (onward c.at c.frames within, jumped c.at target c.frames on within)
  lands c (instr.Turn target) on within = spent target c.frames
  lands c instr.Return on within = returned (2 * (length s.image.code - c.at)) c.frames
  lands c instr.Close on within = closed c.at c.frames within
  lands c other on within = onward c.at c.frames within

  sound_at : s.process < process_count s.tables → (c : Core) (o : Option Instr) → slice_get s.image.code c.at ≡ o → Writes s.tables c.mode
      → Sound s.tables (Lower s (height_in (length s.image.code) c.at o) c.frames) (elim o [ None ↦ stuck c | Some i ↦ act s i c ])
  sound_at own c None e writes = sticks (Lower s (height_in (length s.image.code) c.at None) c.frames) s.tables c writes
  sound_at own c (Some i) e writes =
      Sound-act (Lower s (height_in (length s.image.code) c.at (Some i)) c.frames) s own i c writes (lands c i (forward c.at i e) (slice_get_within s.image.code c.at i e))

  lowered : (c after : Core) (step : Step) → step ≡ Moves after → IsSound s.tables (Lower s (height s c.at) c.frames) step → rank s after < rank s c
  lowered c after step e is = (subst (IsSound s.tables (Lower s (height s c.at) c.frames)) e is).1

  -- each move lowers the rank
  pub moves_lower : s.process < process_count s.tables → (c after : Core) → Writes s.tables c.mode → stepped s c ≡ Moves after → rank s after < rank s c
  moves_lower own c after writes e = lowered c after (stepped s c) e (sound_at own c (slice_get s.image.code c.at) refl writes).is
