-- The report, from its parts.
use Rattle.std.proofs.Common.{◌≡◌, ℕ, List, [], ◌∷◌, ◌++◌, ◌∙◌, ap, ap₂, refl, append_assoc, flat_map, codes}
use Rattle.hal_values.specs.Answers.{Answered}
use Rattle.hal_values.specs.declared.tables.ReportBase.{ReportBase}
use Rattle.hal_values.specs.declared.tables.ReportBase.TheVariants as base
use Rattle.hal_values.specs.declared.tables.Tables.{Tables}
use Rattle.hal_values.specs.declared.value.Value.{Value}
use Rattle.exec_model.specs.declared.state.State.{State}
use Rattle.exec_model.specs.Moments.{moment_of}
use Rattle.hal_values.specs.ReportElements.{Element}
use Rattle.exec_model.specs.Report.{live_line, value_text, base_value, owns_after, value_lines}

regrouped : (a b c d : List ℕ) → ((([] ++ a) ++ b) ++ c) ++ d ≡ a ++ (b ++ (c ++ d))
regrouped a b c d = simp append_assoc

-- four parts, put one after another
pub four_parts : (a b c d a' b' c' d' empty first second third fourth : List ℕ)
    → empty ≡ [] → first ≡ empty ++ a → second ≡ first ++ b → third ≡ second ++ c → fourth ≡ third ++ d → a ≡ a' → b ≡ b' → c ≡ c' → d ≡ d' → fourth ≡ a' ++ (b' ++ (c' ++ d'))
four_parts a b c d a' b' c' d' empty first second third fourth e f g h i p q r s =
    let whole : fourth ≡ ((([] ++ a') ++ b') ++ c') ++ d' = cc in
    whole ∙ regrouped a' b' c' d'

-- the answers don't matter to the lines of live processes
pub live_lines-same : (tables : Tables) (state : State) (one other : List (List Answered)) (processes : List ℕ)
    → flat_map (live_line tables (moment_of state one)) processes ≡ flat_map (live_line tables (moment_of state other)) processes
live_lines-same tables state one other [] = refl
live_lines-same tables state one other (p ∷ processes) = ap (λ r. live_line tables (moment_of state one) p ++ r) (live_lines-same tables state one other processes)

base_value-same : (tables : Tables) (state : State) (one other : List (List Answered)) (owns : List (List Value)) (from : ReportBase) (number : ℕ)
    → base_value tables (moment_of state one) owns from number ≡ base_value tables (moment_of state other) owns from number
base_value-same tables state one other owns base.Shared number = refl
base_value-same tables state one other owns (base.Own p) number = refl
base_value-same tables state one other owns base.Event number = refl

-- nor to those of values
pub value_lines-same : (tables : Tables) (state : State) (one other : List (List Answered)) (owns : List (List Value)) (elements : List Element)
    → value_lines tables (moment_of state one) owns elements ≡ value_lines tables (moment_of state other) owns elements
value_lines-same tables state one other owns [] = refl
value_lines-same tables state one other owns (shown ∷ elements) =
    ap₂ (λ (v : Value) (r : List ℕ). shown.label ++ (codes " = " ++ (value_text v ++ (codes "\n" ++ r)))) (base_value-same tables state one other owns shown.base shown.number)
    (value_lines-same tables state one other (owns_after owns shown.base) elements)
