use Rattle.std.proofs.Common.{arith}
use Rattle.hal_values.specs.Answers.{error}
use Rattle.hal_states.specs.Spots.{kept}
use Rattle.hal_code.specs.Courses.{setting_of}
use Rattle.hal_code.specs.Images.{tables_of}
use Rattle.hal_code.specs.Machine.{begun, stepped, after_answer}
use Rattle.hal_sound_code.proofs.Answering.{Fitting-answer}
use Rattle.hal_sound_code.proofs.Coursing.{Typed-stepped}
use Rattle.hal_sound_code.proofs.Fitting.{step_of}
use Rattle.hal_sound_code.proofs.Grounds.{ground_of, Typed-begun}
use Rattle.hal_sound_code.proofs.laws.each_step_of_a_right_image_fits.Goals as goal

pub returns-clause-begins : goal.returns-clause-begins
returns-clause-begins c = λ turns image p right exists.
    step_of (setting_of turns image p) 0 (begun (setting_of turns image p) (kept (setting_of turns image p).firsts (error 0 0)))
    (Typed-begun (setting_of turns image p) (ground_of turns image p right exists) 0 (kept (setting_of turns image p).firsts (error 0 0)) (ground_of turns image p right exists).firsts)

pub returns-clause-steps : goal.returns-clause-steps
returns-clause-steps c = λ turns image p one right exists typed.
    step_of (setting_of turns image p) one.mode.turns (stepped (setting_of turns image p) one) (Typed-stepped (setting_of turns image p) (ground_of turns image p right exists) one.mode.turns one (record { typed = typed; few = omega arith }))

pub returns-clause-answers : goal.returns-clause-answers
returns-clause-answers c = λ turns image p ends r w one a right exists waits fits.
    step_of (setting_of turns image p) (Fitting-answer (setting_of turns image p) (ground_of turns image p right exists) (tables_of image) ends r one w a waits fits).0 (after_answer (setting_of turns image p) w a one)
    (Fitting-answer (setting_of turns image p) (ground_of turns image p right exists) (tables_of image) ends r one w a waits fits).1
