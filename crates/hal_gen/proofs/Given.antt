-- Which units give back a text.
use Rattle.std.specs.Prelude.{ℕ, ◌==◌, Bool, true, false, List, [], ◌∷◌, Option, Some, find, cond, if◌then◌else◌}
use Rattle.std.proofs.Common.{◌≡◌, refl}
use Rattle.hal_meaning.specs.Bodies.{Body}
use Rattle.hal_gen.specs.Leaves.{gives_text, text_result, as_result}
use Rattle.hal_gen.specs.Returning.{given_by}

first_or_later : (b : Bool) (one : Body) (later : Bool) (found : Option Body) → text_result later ≡ as_result found
    → text_result (if b then gives_text one.head else later) ≡ as_result (cond b (Some one) found)
first_or_later true one later found same = refl
first_or_later false one later found same = same

pub unit_given : (unit : ℕ) (bodies : List Body) → text_result (given_by unit bodies) ≡ as_result (find (λ (b : Body). b.number == unit) bodies)
unfolding given_by
unit_given unit [] = refl
unit_given unit (b ∷ bs) = first_or_later (b.number == unit) b (given_by unit bs) (find (λ (one : Body). one.number == unit) bs) (unit_given unit bs)
