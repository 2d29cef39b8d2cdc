-- What follows for lists of fitting answers.
use Rattle.std.specs.Prelude.{◌≡◌, ℕ, List, [], ◌∷◌, ◌++◌, IsSome}
use Rattle.std.proofs.Common.{sym, subst, refl, inl, inr}
use Rattle.std.proofs.lemmas.List.{append-nil}
use Rattle.std.proofs.Math.Seq.{append_snoc}
use Rattle.hal_values.specs.declared.request.Request.{Request}
use Rattle.hal_values.specs.declared.request.Request.TheVariants as request
use Rattle.hal_values.specs.declared.tables.Tables.{Tables}
use Rattle.hal_values.specs.declared.value.Value.{Value}
use Rattle.hal_values.specs.Answers.{Answered, Killed, Ends, Fits, FitsAlive}
use Rattle.hal_values.specs.Requests.{HasProcess}
use Rattle.hal_values.specs.Loads.{Meaning, FitsNext, FitAfter, FitAll, Agree}
use Rattle.hal_values.specs.Tables.{IsSnapshot}

-- one more answer that fits, after answers that fit
pub FitAfter-push : (q : Meaning) (p : ℕ) (before later : List Answered) (given : Answered) → FitAfter q p before later → FitsNext q p (before ++ later) given → FitAfter q p before (later ++ given ∷ [])
FitAfter-push q p before [] given fit next = (subst (λ answers. FitsNext q p answers given) (append-nil before) next, tt)
FitAfter-push q p before (first ∷ later) given fit next =
    (fit.0, FitAfter-push q p (before ++ first ∷ []) later given fit.1 (subst (λ answers. FitsNext q p answers given) (sym (append_snoc before first later)) next))

-- the same, from the beginning
pub FitAll-push : (q : Meaning) (p : ℕ) (answers : List Answered) (given : Answered) → FitAll q p answers → FitsNext q p answers given → FitAll q p (answers ++ given ∷ [])
FitAll-push q p answers given fit next = FitAfter-push q p [] answers given fit next

-- a list of answers that fits may end in Killed
pub FitAll-killed : (q : Meaning) (p : ℕ) (answers : List Answered) → FitAll q p answers → FitAll q p (answers ++ Killed ∷ [])
FitAll-killed q p answers fit = FitAll-push q p answers Killed fit (inl refl)

-- an answer that fits also fits where UPDATE blocks end in the same way
FitsAlive-same : (tables : Tables) (ends other : Ends) (asked : Request) (given : Answered) → ((snapshot : List Value) (turns : ℕ) → IsSnapshot tables.cells snapshot → ends snapshot turns ≡ other snapshot turns)
    → FitsAlive tables ends asked given → FitsAlive tables other asked given
FitsAlive-same tables ends other (request.Update groups) given same fit =
    (fit.0, fit.1, fit.2, fit.3, subst IsSome (same fit.0 fit.1 fit.3) fit.4)
FitsAlive-same tables ends other asked given same fit = fit

-- the same of all answers
Fits-same : (tables : Tables) (ends other : Ends) (asked : Request) (given : Answered) → ((snapshot : List Value) (turns : ℕ) → IsSnapshot tables.cells snapshot → ends snapshot turns ≡ other snapshot turns)
    → Fits tables ends asked given → Fits tables other asked given
Fits-same tables ends other asked given same (inl killed) = inl killed
Fits-same tables ends other asked given same (inr fit) = inr (FitsAlive-same tables ends other asked given same fit)

-- an answer that fits also fits the equal request over equal tables
Fits-equal : (tables tables' : Tables) (ends : Ends) (asked asked' : Request) (given : Answered) → tables ≡ tables' → asked ≡ asked' → Fits tables ends asked given → Fits tables' ends asked' given
Fits-equal tables tables' ends asked asked' given t e fit = subst (λ x. Fits x ends asked' given) t (subst (λ x. Fits tables ends x given) e fit)

-- later answers that fit a load fit each load that agrees with it
FitAfter-agree : (a b : Meaning) (p : ℕ) (before later : List Answered) → Agree a b → HasProcess a.tables p → FitAll a p before → FitAfter a p before later → FitAfter b p before later
FitAfter-agree a b p before [] agree exists done fit = tt
FitAfter-agree a b p before (given ∷ later) agree exists done fit = (
  Fits-equal a.tables b.tables (b.block p before) (a.next p before) (b.next p before) given agree.tables (agree.next p before exists done)
      (Fits-same a.tables (a.block p before) (b.block p before) (a.next p before) given (λ snapshot turns full. agree.block p before snapshot turns exists done full) fit.0),
  FitAfter-agree a b p (before ++ given ∷ []) later agree exists (FitAll-push a p before given done fit.0) fit.1,
)

-- the answers that fit a load fit each load that agrees with it
pub FitAll-agree : (a b : Meaning) (p : ℕ) (answers : List Answered) → Agree a b → HasProcess a.tables p → FitAll a p answers → FitAll b p answers
FitAll-agree a b p answers agree exists fit = FitAfter-agree a b p [] answers agree exists tt fit
