-- The exits of a block, without and with where the statements of ON ERROR stand.
use Rattle.std.specs.Prelude.{ℕ}
use Rattle.hal_agreement.specs.PlacedStatements.{Leaving, Exits, of_block}

-- an error alone leads to a statement of ON ERROR, so code doesn't go by where one stands
abbrev pub of_body : Leaving → Exits
of_body leaving = of_block leaving (λ mark. 0)

abbrev pub with_handlers : (ℕ → ℕ) → Exits → Exits
with_handlers handler exits = record { groups = exits.groups; leaving = exits.leaving; handler = handler }
