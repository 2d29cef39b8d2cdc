-- The answers that lead to a sound moment fit, one after another.
use Rattle.std.proofs.Common.{◌≡◌, ℕ, ◌<◌, ◌++◌, List, [], ◌∷◌, length, Option, Some, None, get_or-set_same, get_or-set_other, length-set, append_assoc, append-nil, inl, inr, ap, sym, ◌∙◌, subst, refl, arith}
use Rattle.std.proofs.lemmas.Bool.{cases_eq, cases_lt}
use Rattle.std.proofs.lemmas.List.{set_past}
use Rattle.hal_values.specs.declared.value.Value.{Value}
use Rattle.hal_values.specs.Answers.{Answered, Block}
use Rattle.hal_values.specs.Loads.{Meaning, FitsNext, FitAfter, FitAll}
use Rattle.hal_values.specs.Requests.{HasProcess}
use Rattle.hal_values.specs.Tables.{process_count}
use Rattle.exec_model.specs.declared.told.Told.{Told}
use Rattle.exec_model.specs.Drafts.{told_all, reply_answer, closed_first}
use Rattle.exec_model.specs.Moments.{answers_in, pushed_answer}
use Rattle.exec_model.specs.Telling.{FitTold, FitClosed}

-- an answer among fitting ones fits what is asked after those before it
FitAfter-among : (q : Meaning) (p : ℕ) (before front : List Answered) (given : Answered) (later : List Answered) → FitAfter q p before (front ++ given ∷ later) → FitsNext q p (before ++ front) given
FitAfter-among q p before [] given later fit = subst (λ answers. FitsNext q p answers given) (sym (append-nil before)) fit.0
FitAfter-among q p before (first ∷ front) given later fit =
    subst (λ answers. FitsNext q p answers given) (append_assoc before (first ∷ []) front) (FitAfter-among q p (before ++ first ∷ []) front given later fit.1)

-- the same, from the beginning
pub FitAll-among : (q : Meaning) (p : ℕ) (front : List Answered) (given : Answered) (later : List Answered) → FitAll q p (front ++ given ∷ later) → FitsNext q p front given
FitAll-among q p front given later fit = FitAfter-among q p [] front given later fit

-- a process has its old answers, and maybe one more
pushed-goes_on : (answers : List (List Answered)) (o p : ℕ) (given : Answered) → (more : List Answered) × (answers_in (pushed_answer answers o given) p ≡ answers_in answers p ++ more)
pushed-goes_on answers o p given = elim (cases_eq p o) [
  | inr other ↦ ([], get_or-set_other answers o p (answers_in answers o ++ given ∷ []) [] other ∙ sym (append-nil (answers_in answers p)))
  | inl same ↦ subst (λ k. (more : List Answered) × (answers_in (pushed_answer answers o given) k ≡ answers_in answers k ++ more)) (sym same) (elim (cases_lt o (length answers)) [
    | inl lt ↦ (given ∷ [], get_or-set_same answers o (answers_in answers o ++ given ∷ []) [] lt)
    | inr past ↦ ([], ap (λ xs. answers_in xs o) (set_past answers o (answers_in answers o ++ given ∷ []) past) ∙ sym (append-nil (answers_in answers o)))
  ])
]

-- a process has its old answers, and those that it was told
told_all-goes_on : (answers : List (List Answered)) (told : List Told) (p : ℕ) → (more : List Answered) × (answers_in (told_all answers told) p ≡ answers_in answers p ++ more)
told_all-goes_on answers [] p = ([], sym (append-nil (answers_in answers p)))
told_all-goes_on answers (given ∷ others) p =
    let first = pushed-goes_on answers given.process p (reply_answer given.reply) in
    let rest = told_all-goes_on (pushed_answer answers given.process (reply_answer given.reply)) others p in
    (first.0 ++ rest.0, rest.1 ∙ ap (λ xs. xs ++ rest.0) first.1 ∙ append_assoc (answers_in answers p) first.0 rest.0)

-- where all answers of a process that exists fit in the end, one that is told now fits
fits_now : (q : Meaning) (answers : List (List Answered)) (told : List Told) (p : ℕ) (given : Answered) → length answers ≡ process_count q.tables → HasProcess q.tables p
    → FitAll q p (answers_in (told_all (pushed_answer answers p given) told) p) → FitsNext q p (answers_in answers p) given
fits_now q answers told p given long exists fit =
    let lt : p < length answers = omega (arith, long, exists) in
    let here : answers_in (pushed_answer answers p given) p ≡ answers_in answers p ++ given ∷ [] = get_or-set_same answers p (answers_in answers p ++ given ∷ []) [] lt in
    let rest = told_all-goes_on (pushed_answer answers p given) told p in
    FitAll-among q p (answers_in answers p) given rest.0
    (subst (FitAll q p) (rest.1 ∙ ap (λ xs. xs ++ rest.0) here ∙ append_assoc (answers_in answers p) (given ∷ []) rest.0) fit)

-- each answer fits, where all fit in the end
pub FitTold-from : (q : Meaning) (answers : List (List Answered)) (told : List Told) → length answers ≡ process_count q.tables → ((p : ℕ) → HasProcess q.tables p → FitAll q p (answers_in (told_all answers told) p)) → FitTold q answers told
FitTold-from q answers [] long fit = tt
FitTold-from q answers (given ∷ others) long fit = (
  λ exists. fits_now q answers others given.process (reply_answer given.reply) long exists (fit given.process exists),
  FitTold-from q (pushed_answer answers given.process (reply_answer given.reply)) others
      (length-set answers given.process (answers_in answers given.process ++ reply_answer given.reply ∷ []) ∙ long) fit,
)

-- so does the answer to the UPDATE block that is done
pub FitClosed-from : (q : Meaning) (store : List Value) (answers : List (List Answered)) (closes : Option (ℕ × ℕ)) (told : List Told) → length answers ≡ process_count q.tables
    → ((p : ℕ) → HasProcess q.tables p → FitAll q p (answers_in (told_all (closed_first store closes answers) told) p)) → FitClosed q store answers closes
FitClosed-from q store answers None told long fit = tt
FitClosed-from q store answers (Some done) told long fit = λ exists. fits_now q answers told done.0 (Block store done.1) long exists (fit done.0 exists)

-- the lists of answers stay as many
pub length-closed_first : (store : List Value) (answers : List (List Answered)) (closes : Option (ℕ × ℕ)) → length (closed_first store closes answers) ≡ length answers
length-closed_first store answers None = refl
length-closed_first store answers (Some done) = length-set answers done.0 (answers_in answers done.0 ++ Block store done.1 ∷ [])
