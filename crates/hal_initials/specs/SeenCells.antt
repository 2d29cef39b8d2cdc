-- The parts of cells, as the program has them.
use Rattle.std.specs.Prelude.{List, map}
use Rattle.std.specs.Borrow.{Bor}
use Rattle.hal_grammar.specs.Declarations as plain
use Rattle.hal_tree.specs.declared.declaration.Part as tree
use Rattle.hal_tree.specs.SeenDeclarations.{seen_part}

abbrev pub seen_there : Bor tree.Part → plain.Part
seen_there part = seen_part part.now

abbrev pub seen_cells : List (Bor tree.Part) → List plain.Part
seen_cells cells = map seen_there cells
