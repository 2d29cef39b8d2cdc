-- No process looks at the number of turns that an answer tells.
use Rattle.std.specs.Prelude.{◌≡◌, ℕ, List, [], ◌∷◌, ◌++◌}
use Rattle.std.proofs.Common.{refl, ap}
use Rattle.hal_values.specs.declared.value.Value.{Value}
use Rattle.hal_values.specs.Answers.{Answered, Begun, Told, Done, Wrong, Block, Killed, error}
use Rattle.hal_states.specs.Spots.{kept}
use Rattle.hal_code.specs.Cores.{Setting, Core, Wait, Then, Pushes, Tried, Takes, Copies, Opens, Renews, Halts, Step}
use Rattle.hal_code.specs.Courses.{Asked, settled, asked_after, course}
use Rattle.hal_code.specs.Machine.{begun, after_answer}
use Rattle.hal_right_ways.specs.Timed.{timed}

-- an answer that begins an UPDATE block
begins_alike : (s : Setting) (w : Wait) (snapshot : List Value) (turns others : ℕ) (c : Core) → after_answer s w (Block snapshot turns) c ≡ after_answer s w (Block snapshot others) c
begins_alike s (Then rest) snapshot turns others c = refl
begins_alike s (Pushes kind) snapshot turns others c = refl
begins_alike s Tried snapshot turns others c = refl
begins_alike s (Takes target) snapshot turns others c = refl
begins_alike s (Copies kind kinds from place) snapshot turns others c = refl
begins_alike s (Opens groups) snapshot turns others c = refl
begins_alike s Renews snapshot turns others c = refl
begins_alike s (Halts e) snapshot turns others c = refl

pub timed_alike : (s : Setting) (w : Wait) (turns : ℕ) (a : Answered) (c : Core) → after_answer s w (timed turns a) c ≡ after_answer s w a c
timed_alike s w turns Begun c = refl
timed_alike s w turns (Told v) c = refl
timed_alike s w turns Done c = refl
timed_alike s w turns (Wrong e) c = refl
timed_alike s w turns (Block snapshot others) c = begins_alike s w snapshot turns others c
timed_alike s w turns Killed c = refl

last_alike : (s : Setting) (one : Asked) (answers : List Answered) (turns : ℕ) (a : Answered) → asked_after s one (answers ++ (timed turns a ∷ [])) ≡ asked_after s one (answers ++ (a ∷ []))
last_alike s one [] turns a = ap (λ (step : Step). settled s step) (timed_alike s one.wait turns a one.core)
last_alike s one (b ∷ answers) turns a = last_alike s (settled s (after_answer s one.wait b one.core)) answers turns a

pub course_alike : (s : Setting) (answers : List Answered) (turns : ℕ) (a : Answered) → course s (answers ++ (timed turns a ∷ [])) ≡ course s (answers ++ (a ∷ []))
course_alike s answers turns a = last_alike s (settled s (begun s (kept s.firsts (error 0 0)))) answers turns a
