-- The units of files that words spell stand in units that may hold them.
use Rattle.std.proofs.Common.{List, [], ◌∷◌, Option}
use Rattle.hal_grammar.specs.Leaves.{Naming}
use Rattle.hal_grammar.specs.Units.{Block, Elements, File}
use Rattle.hal_grammar.specs.Words.{Words}
use Rattle.hal_grammar.specs.SpellsFiles.{SpellsBlock, block, SpellsElements, closed, statement_first, block_first, SpellsFile, block_alone, preface_first}
use Rattle.hal_right_images.specs.rows.Nested.{IsNested, AreNested, AllNested}
use Rattle.hal_right_images.specs.spelled.Words.{AreAllSpelled}

mutual
  block_nested : {x : Block} {b a : Words} → SpellsBlock x b a → IsNested x
  block_nested (block x xs ys k) = (k, elements_nested ys)

  -- the elements of a unit
  elements_nested : {es : Elements} {c : Option Naming} {b a : Words} → SpellsElements es c b a → AreNested es
  elements_nested (closed x) = tt
  elements_nested (statement_first x xs) = elements_nested xs
  elements_nested (block_first x k xs) = (k, block_nested x, elements_nested xs)

-- the unit of a file
file_nested : {x : File} {b a : Words} → SpellsFile x b a → IsNested x.block
file_nested (block_alone x) = block_nested x
file_nested (preface_first x xs) = file_nested xs

-- and those of all
pub files_nested : (files : List File) → AreAllSpelled files → AllNested files
files_nested [] are = tt
files_nested (x ∷ xs) are = (file_nested are.0.spelled, files_nested xs are.1)
