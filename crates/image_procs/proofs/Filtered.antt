-- Own values that are found element by element.
use Rattle.std.specs.Prelude.{◌≡◌, ℕ, zero, suc, ◌≤◌, length, drop, List, [], ◌∷◌, ◌++◌, filter_map, option_to_list, Option, Some, None}
use Rattle.std.proofs.Common.{refl, sym, ap, ◌∙◌, arith}
use Rattle.std.proofs.lemmas.List.{append-nil, append_assoc}
use Rattle.hal_values.specs.declared.value.Value.{Value}
use Rattle.hal_values.specs.ReportElements.{Element}
use Rattle.hal_states.specs.Spots.{Held}
use Rattle.image_procs.specs.Owning.{own_shown, with_owns}

with_one : (p : ℕ) (places : List Held) (e : Element) (es : List Element) (o : Option Value) → own_shown p places e ≡ o
    → option_to_list o ++ filter_map (own_shown p places) es ≡ filter_map (own_shown p places) (e ∷ es)
with_one p places e es None is = rw is refl
with_one p places e es (Some v) is = rw is refl

owns_added : (p : ℕ) (places : List Held) (values : List Value) (es : List Element) → with_owns p places values es ≡ values ++ filter_map (own_shown p places) es
owns_added p places values [] = sym (append-nil values)
owns_added p places values (e ∷ es) =
    owns_added p places (values ++ option_to_list (own_shown p places e)) es
    ∙ append_assoc values (option_to_list (own_shown p places e)) (filter_map (own_shown p places) es)
    ∙ ap (λ (found : List Value). values ++ found) (with_one p places e es (own_shown p places e) refl)

pub all_owns : (p : ℕ) (places : List Held) (es : List Element) → with_owns p places [] es ≡ filter_map (own_shown p places) es
all_owns p places es = owns_added p places [] es

none_behind : (es : List Element) (index : ℕ) → length es ≤ index → drop index es ≡ []
none_behind [] zero past = refl
none_behind [] (suc index) past = refl
none_behind (e ∷ es) zero past = absurd (omega (arith, past))
none_behind (e ∷ es) (suc index) past = none_behind es index (omega (arith, past))

pub owns_whole : (p : ℕ) (places : List Held) (values : List Value) (es : List Element) (index : ℕ) → length es ≤ index → with_owns p places values (drop index es) ≡ with_owns p places [] es
    → values ≡ filter_map (own_shown p places) es
owns_whole p places values es index past same = sym (ap (λ (left : List Element). with_owns p places values left) (none_behind es index past)) ∙ same ∙ all_owns p places es
