-- The first ones of some answers that fit.
use Rattle.std.specs.Prelude.{ℕ, List, [], ◌∷◌, ◌++◌}
use Rattle.std.proofs.Common.{sym, subst}
use Rattle.std.proofs.lemmas.List.{append-nil, append_assoc}
use Rattle.hal_values.specs.Answers.{Answered}
use Rattle.hal_values.specs.Loads.{Meaning, FitsNext, FitAfter, FitAll}

front_after : (q : Meaning) (p : ℕ) (before one other : List Answered) → FitAfter q p before (one ++ other) → FitAfter q p before one
front_after q p before [] other fit = tt
front_after q p before (a ∷ one) other fit = (fit.0, front_after q p (before ++ (a ∷ [])) one other fit.1)

pub front_fits : (q : Meaning) (p : ℕ) (one other : List Answered) → FitAll q p (one ++ other) → FitAll q p one
front_fits q p one other fit = front_after q p [] one other fit

next_after : (q : Meaning) (p : ℕ) (before one : List Answered) (a : Answered) (other : List Answered) → FitAfter q p before (one ++ (a ∷ other)) → FitsNext q p (before ++ one) a
next_after q p before [] a other fit = subst (λ (all : List Answered). FitsNext q p all a) (sym (append-nil before)) fit.0
next_after q p before (b ∷ one) a other fit =
    subst (λ (all : List Answered). FitsNext q p all a) (append_assoc before (b ∷ []) one) (next_after q p (before ++ (b ∷ [])) one a other fit.1)

pub next_fits : (q : Meaning) (p : ℕ) (one : List Answered) (a : Answered) (other : List Answered) → FitAll q p (one ++ (a ∷ other)) → FitsNext q p one a
next_fits q p one a other fit = next_after q p [] one a other fit
