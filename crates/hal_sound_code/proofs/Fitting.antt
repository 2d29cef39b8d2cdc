-- The processes of a right image, from step to step.
use Rattle.std.specs.Prelude.{ℕ, ◌<◌, List, length}
use Rattle.std.proofs.Common.{refl, sym, subst}
use Rattle.std.proofs.lemmas.List.{length-map}
use Rattle.hal_values.specs.Answers.{Answered}
use Rattle.hal_values.specs.Loads.{FitAll}
use Rattle.hal_code.specs.declared.image.ImageParts.{ImageParts}
use Rattle.hal_code.specs.declared.row.Process.{Process}
use Rattle.hal_code.specs.Cores.{Setting, Step, Waits, Moves, Counts}
use Rattle.hal_code.specs.Courses.{setting_of, course, load_of}
use Rattle.hal_code.specs.Right.{IsRight}
use Rattle.hal_code.proofs.Forwards.{right_is_forward}
use Rattle.hal_sound_code.specs.Typed.{IsTypedStep, IsAwaited}
use Rattle.hal_sound_code.proofs.Coursing.{course_awaits}
use Rattle.hal_sound_code.proofs.Grounds.{ground_of}
use Rattle.hal_sound_code.proofs.Stepping.{Typed}

pub step_of : (s : Setting) (most : ℕ) (step : Step) → Typed s most step → IsTypedStep s step
step_of s most (Waits r w c) typed = typed.is
step_of s most (Moves c) typed = typed.is.typed
step_of s most (Counts c) typed = typed.is.0

pub right_awaits : (turns : ℕ) (image : ImageParts) (p : ℕ) (answers : List Answered) → IsRight image → p < length image.processes → FitAll (load_of turns image) p answers → IsAwaited (setting_of turns image p) (course (setting_of turns image p) answers)
right_awaits turns image p answers right exists fit =
    course_awaits (setting_of turns image p) (ground_of turns image p right exists) (right_is_forward image right) (subst (λ n. p < n) (sym (length-map image.processes (λ (q : Process). q.name))) exists) (load_of turns image) refl p (λ before. refl) answers fit
