-- The tables of the code as lists of texts.
use Rattle.std.specs.Prelude.{ℕ, List}
use Rattle.std.specs.Borrow.{Bor}

-- an entry of a table: a text, and what the table says of it
abbrev pub entry : {X : Type 0} → Bor (List ℕ) × X → List ℕ × X
entry pair = (pair.0.now, pair.1)
