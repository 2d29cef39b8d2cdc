-- Which units give back a text.
use Rattle.std.specs.Prelude.{ℕ, ◌==◌, Bool, false, List, [], ◌∷◌, if◌then◌else◌}
use Rattle.hal_meaning.specs.Bodies.{Body}
use Rattle.hal_gen.specs.Leaves.{gives_text}

-- of these bodies' units the one with this number
unfoldable pub given_by : ℕ → List Body → Bool
given_by unit [] = false
given_by unit (b ∷ bs) = if b.number == unit then gives_text b.head else given_by unit bs
