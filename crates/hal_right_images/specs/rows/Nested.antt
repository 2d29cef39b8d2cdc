-- Which units stand in units, as the grammar wants.
use Rattle.std.specs.Prelude.{◌≡◌, ◌≢◌, true, List, [], ◌∷◌}
use Rattle.hal_grammar.specs.Units.{Head, Block, BlockOf, Elements, NoElements, StatementFirst, BlockFirst, File, stands_inside, holds_elements}

abbrev pub head_of : Block → Head
head_of (BlockOf name head declarations inside close) = head

-- a COMPOOL holds no elements, and among those of a unit is no PROGRAM and no COMPOOL; so it is of all units in it
abbrev mutual
  pub IsNested : Block → Type 0
  IsNested (BlockOf name head declarations inside close) = (inside ≢ NoElements → holds_elements head ≡ true) × AreNested inside

  pub AreNested : Elements → Type 0
  AreNested NoElements = Unit {0}
  AreNested (StatementFirst statement others) = AreNested others
  AreNested (BlockFirst block others) = (stands_inside (head_of block) ≡ true) × IsNested block × AreNested others

-- and of the units of these files
abbrev pub AllNested : List File → Type 0
AllNested [] = Unit {0}
AllNested (file ∷ files) = IsNested file.block × AllNested files
