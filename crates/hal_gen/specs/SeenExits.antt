-- What the exits of the program are.
use Rattle.std.specs.Prelude.{map}
use Rattle.hal_tree.specs.SeenLeaves.{seen_name}
use Rattle.hal_agreement.specs.PlacedStatements.{Opened, opened, Leaving, ToFinish, ByReturn, ByResult, NoReturn, Exits}
use Rattle.hal_gen.specs.declared.exits.Opened as rust-opened
use Rattle.hal_gen.specs.declared.exits.Leaving as rust-leaving
use Rattle.hal_gen.specs.declared.exits.Leaving.TheVariants as rust
use Rattle.hal_gen.specs.declared.exits.Exits as rust-exits

abbrev pub seen_opened : rust-opened.Opened → Opened
seen_opened g = opened (map seen_name g.labels.now) g.exit g.again

abbrev pub seen_leaving : rust-leaving.Leaving → Leaving
seen_leaving (rust.ToFinish at) = ToFinish at
seen_leaving rust.ByReturn = ByReturn
seen_leaving rust.ByResult = ByResult
seen_leaving rust.NoReturn = NoReturn

-- an error alone leads to a statement of ON ERROR, so code doesn't go by where one stands
abbrev pub seen_exits : rust-exits.Exits → Exits
seen_exits e = record { groups = map seen_opened e.groups.items; leaving = seen_leaving e.leaving; handler = λ mark. 0 }
