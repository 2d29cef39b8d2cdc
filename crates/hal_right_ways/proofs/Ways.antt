-- All instructions of a right image's process find what they take, from one request to the next.
use Rattle.std.specs.Prelude.{◌≡◌, ℕ, suc, ◌+◌, ◌<◌, ◌≤◌, ◌^◌, length, List, Option, Some, None, slice_get}
use Rattle.std.proofs.Common.{refl, sym, subst, arith}
use Rattle.std.proofs.lemmas.List.{length-map}
use Rattle.hal_values.specs.declared.request.Request.{Request}
use Rattle.hal_values.specs.Answers.{Answered}
use Rattle.hal_values.specs.Loads.{FitAll, FitsNext}
use Rattle.hal_values.specs.Tables.{process_count}
use Rattle.hal_states.specs.Spots.{Nowhere}
use Rattle.hal_code.specs.declared.image.ImageParts.{ImageParts}
use Rattle.hal_code.specs.declared.instr.Instr.{Instr}
use Rattle.hal_code.specs.declared.row.Process.{Process}
use Rattle.hal_code.specs.Cores.{Setting, Core, Wait, Then, Pushes, Tried, Takes, Copies, Opens, Renews, Halts, Step, Waits, Moves, Counts}
use Rattle.hal_code.specs.Courses.{setting_of, course, load_of}
use Rattle.hal_code.specs.Machine.{stepped, after_answer}
use Rattle.hal_code.specs.Right.{IsRight}
use Rattle.hal_code.proofs.Orderly.{Writes, Sound, Good}
use Rattle.hal_code.proofs.Acting.{Anywhere, Sound-stepped, Sound-answer}
use Rattle.hal_code.proofs.Coursing.{course_good}
use Rattle.hal_code.proofs.Falling.{moves_lower}
use Rattle.hal_code.proofs.Forwards.{right_is_forward}
use Rattle.hal_code.proofs.RightTables.{right_tables}
use Rattle.hal_sound_code.specs.Typed.{IsTyped, IsTypedStep, IsReady, IsAwaited}
use Rattle.hal_sound_code.proofs.Answering.{Fitting, Fitting-answer}
use Rattle.hal_sound_code.proofs.Coursing.{Typed-stepped}
use Rattle.hal_sound_code.proofs.Fitting.{step_of, right_awaits}
use Rattle.hal_sound_code.proofs.Frames.{frames_are_few}
use Rattle.hal_sound_code.proofs.Grounds.{Ground, ground_of}
use Rattle.hal_sound_code.proofs.Rights.{whole}
use Rattle.hal_sound_code.proofs.Sparing.{entries_have_room}
use Rattle.hal_right_values.specs.Finding.{Fits, HaveCells}
use Rattle.hal_right_values.specs.Holding.{Holding, HoldingStep, HoldsAfter, HoldsAwaiting}
use Rattle.hal_right_values.specs.Ranges.{AreInRange}
use Rattle.hal_right_values.proofs.Answering.{Right-answer}
use Rattle.hal_right_values.proofs.Bounds.{shape_few}
use Rattle.hal_right_values.proofs.Coursing.{Right-stepped, course_holds}
use Rattle.hal_right_values.proofs.Fitting.{finds}
use Rattle.hal_right_values.proofs.Grounds.{known_of}
use Rattle.hal_right_values.proofs.Rooms.{copies_fit}
use Rattle.hal_runner.specs.Ways.{FoundFits, StepFits, AnswerFits, ShapesFit, WayFits, Keeps}
use Rattle.hal_runner.proofs.Sound.{way_fits}

pub shapes_fit : (image : ImageParts) → IsRight image → ShapesFit image
shapes_fit image right shape = few (shape_few image (whole image right) shape)
  where
    few : {n : ℕ} → n ≤ 1048576 → n < 2 ^ 64
    few low = omega (arith, low)

module _ (turns : ℕ) (image : ImageParts) (p : ℕ) (right : IsRight image) (ranged : AreInRange image) (exists : p < length image.processes) where
  abbrev s : Setting
  s = setting_of turns image p

  own : s.process < process_count s.tables
  own = subst (λ n. p < n) (sym (length-map image.processes (λ (q : Process). q.name))) exists

  ground : Ground s
  ground = ground_of turns image p right exists

  -- where a core fits its image, holds right values and wrote such, its next instruction finds what it takes, and the next core is such a one too
  abbrev Fine : Core → Type 0
  Fine c = IsTyped s c × Holding c × Writes s.tables c.mode

  kept : (step : Step) → IsTypedStep s step → HoldingStep step → Sound s.tables Anywhere step → Keeps Fine step
  kept (Waits r w c) typed holds sound = tt
  kept (Moves c) typed holds sound = (typed, holds, sound.is.0)
  kept (Counts c) typed holds sound = (typed, holds, sound.is)

  keeps : (c : Core) → Fine c → Keeps Fine (stepped s c)
  keeps c fine =
      kept (stepped s c) (step_of s c.mode.turns (stepped s c) (Typed-stepped s ground c.mode.turns c (record { typed = fine.0; few = omega arith })))
      (Right-stepped s (known_of turns image p right) (whole image right) exists c fine.0 (ranged c.at) fine.1).is (Sound-stepped s own c fine.2)

  found_fits : (c : Core) (o : Option Instr) → ((i : Instr) → o ≡ Some i → Fits s i c) → FoundFits s o c
  found_fits c None each = tt
  found_fits c (Some i) each = each i refl

  step_fits : HaveCells image → (c : Core) → Fine c → StepFits s c
  step_fits have c fine = record {
    finds = found_fits c (slice_get s.image.code c.at) (λ i e. finds s (whole image right) exists c fine.0 have ground.firsts fine.1 i e);
    blocks = frames_are_few s c fine.0;
    entries = entries_have_room s (whole image right) c fine.0;
    lowers = λ after e. moves_lower s (right_is_forward image right) own c after fine.2 e;
  }

  -- an answer
  wait_fits : (r : Request) (w : Wait) (c : Core) → IsReady s r w c → HoldsAfter r w → AnswerFits w
  wait_fits r (Then rest) c ready holds = tt
  wait_fits r (Pushes k) c ready holds = tt
  wait_fits r Tried c ready holds = tt
  wait_fits r (Takes target) c ready holds = tt
  wait_fits r (Copies k ks from place) c ready holds = (below (length ks) (copies_fit s (whole image right) Nowhere place k ks tt ready.1).1, holds.2)
    where
      below : (n : ℕ) → place + suc n < 2 ^ 32 → suc place < 2 ^ 32
      below n low = omega (arith, low)
  wait_fits r (Opens groups) c ready holds = tt
  wait_fits r Renews c ready holds = tt
  wait_fits r (Halts e) c ready holds = tt

  module _ (answers : List Answered) (fit : FitAll (load_of turns image) p answers) where
    abbrev r : Request
    r = (course s answers).request

    abbrev w : Wait
    w = (course s answers).wait

    abbrev c : Core
    c = (course s answers).core

    awaits : IsAwaited s (course s answers)
    awaits = right_awaits turns image p answers right exists fit

    holds : HoldsAwaiting (course s answers)
    holds = course_holds turns image p right ranged exists answers fit

    good : Good s.tables r w c.mode
    good = course_good s own answers

    pub answer_fits : AnswerFits w
    answer_fits = wait_fits r w c awaits.ready holds.1

    answered_kept : (a : Answered) → FitsNext (load_of turns image) p answers a → Keeps Fine (after_answer s w a c)
    answered_kept a fits = with_typed (Fitting-answer s ground s.tables ((load_of turns image).block p answers) r c w a awaits fits)
      where
        with_typed : Fitting s (after_answer s w a c) → Keeps Fine (after_answer s w a c)
        with_typed typed =
            kept (after_answer s w a c) (step_of s typed.0 (after_answer s w a c) typed.1)
            (Right-answer s (known_of turns image p right) s.tables (right_tables image right).cells ((load_of turns image).block p answers) r c holds.0 w a holds.1 fits).is (Sound-answer s own w a c good.wait good.writes)

    pub answered_way : HaveCells image → (a : Answered) → FitsNext (load_of turns image) p answers a → WayFits s (after_answer s w a c)
    answered_way have a fits = way_fits s Fine (step_fits have) keeps (after_answer s w a c) (answered_kept a fits)
