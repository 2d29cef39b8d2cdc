-- Bodies of a set, as the program finds them.
use Rattle.std.specs.Prelude.{ℕ, ◌==◌, List, [], ◌∷◌, Option, Some, None, if◌then◌else◌}
use Rattle.std.specs.Borrow.{Bor}
use Rattle.hal_storage.specs.declared.sets.body.Body as rust-body
use Rattle.hal_storage.specs.sets.SeenBodies.{seen_body}
use Rattle.hal_meaning.specs.Bodies.{Body}

-- a body that is lent
abbrev pub lent_body : Bor rust-body.Body → Body
lent_body b = seen_body b.now

-- the first of these bodies whose unit has this number
unfoldable pub found_in : ℕ → List Body → Option Body
found_in unit [] = None
found_in unit (b ∷ bs) = if b.number == unit then Some b else found_in unit bs
