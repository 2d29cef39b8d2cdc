-- The bodies of units, as the program finds them.
use Rattle.std.specs.Prelude.{ℕ, ◌==◌, List, [], ◌∷◌, find, Some}
use Rattle.std.proofs.Common.{◌≡◌, refl, ap, cond}
use Rattle.hal_meaning.specs.Bodies.{Body}
use Rattle.hal_gen_expr.specs.Bodies.{found_in}

pub body_found : (unit : ℕ) (bodies : List Body) → found_in unit bodies ≡ find (λ (b : Body). b.number == unit) bodies
unfolding found_in
body_found unit [] = refl
body_found unit (b ∷ bs) = ap (λ later. cond (b.number == unit) (Some b) later) (body_found unit bs)
