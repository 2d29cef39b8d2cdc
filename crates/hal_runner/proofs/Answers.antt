-- What a process asks after one answer more.
use Rattle.std.specs.Prelude.{◌≡◌, List, [], ◌∷◌, ◌++◌}
use Rattle.std.proofs.Common.{refl, sym, ap, ◌∙◌}
use Rattle.hal_values.specs.Answers.{Answered, error}
use Rattle.hal_states.specs.Spots.{kept}
use Rattle.hal_code.specs.Cores.{Setting}
use Rattle.hal_code.specs.Courses.{Asked, settled, asked_after, course}
use Rattle.hal_code.specs.Machine.{begun, after_answer}

after_more : (s : Setting) (one : Asked) (answers : List Answered) (a : Answered) → asked_after s one (answers ++ (a ∷ [])) ≡ settled s (after_answer s (asked_after s one answers).wait a (asked_after s one answers).core)
after_more s one [] a = refl
after_more s one (b ∷ answers) a = after_more s (settled s (after_answer s one.wait b one.core)) answers a

pub one_more : (s : Setting) (here next : Asked) (answers : List Answered) (a : Answered) → here ≡ course s answers → next ≡ settled s (after_answer s here.wait a here.core) → next ≡ course s (answers ++ (a ∷ []))
one_more s here next answers a at goes = goes ∙ ap (λ (one : Asked). settled s (after_answer s one.wait a one.core)) at ∙ sym_more
  where
    sym_more : settled s (after_answer s (course s answers).wait a (course s answers).core) ≡ course s (answers ++ (a ∷ []))
    sym_more = sym (after_more s (settled s (begun s (kept s.firsts (error 0 0)))) answers a)
