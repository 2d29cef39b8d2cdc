-- The units of files, as the program's trees list what stands in a unit: those so far, and more behind them.
use Rattle.std.specs.Prelude.{List, [], ◌∷◌, ◌++◌}
use Rattle.hal_grammar.specs.Units.{Block, File}
use Rattle.hal_tree.specs.Rows.{Member, OfStatement, OfBlock}
use Rattle.hal_meaning.specs.Bodies.{units_from}

-- the units of a statement or a unit, and of several
unfoldable pub with_member : List Block → Member → List Block
with_member d (OfStatement statement) = d
with_member d (OfBlock block) = d ++ units_from block

unfoldable pub with_members : List Block → List Member → List Block
with_members d [] = d
with_members d (x ∷ xs) = with_members (with_member d x) xs

-- those of files
unfoldable pub with_files : List Block → List File → List Block
with_files d [] = d
with_files d (f ∷ fs) = with_files (d ++ units_from f.block) fs
