-- What each block of a linked image is, by the outline of its process.
use Rattle.std.specs.Prelude.{◌≡◌, ◌⊎◌, ℕ, ◌+◌, List, Option, Some, slice_get}
use Rattle.hal_meaning.specs.Runs.{places_of_process}
use Rattle.hal_meaning.specs.Sets.{Set, body_at}
use Rattle.hal_code.specs.declared.image.ImageParts.{ImageParts}
use Rattle.hal_code.specs.declared.row.Block.{Block}
use Rattle.hal_code.specs.declared.row.View.{View}
use Rattle.hal_gen_expr.specs.Numbering.{block_number}
use Rattle.hal_link.specs.LinkedBlocks.{IsOfProcess, IsOfUnit}
use Rattle.hal_link.specs.Outlines.{Outline, own_block, block_of, outlines_of, numbering_of}
use Rattle.hal_link.specs.Shapes.{shapes_of}
use Rattle.hal_link.specs.UnitCode.{clears_from}

-- the number of the block of each unit that a process calls
abbrev pub numbers : Set → List View → Outline → ℕ → Option ℕ
numbers s views o = block_number (numbering_of (shapes_of s) views o)

-- the block with this number and row is the own one of an outline's process
pub record KnownProcess (s : Set) (views : List View) (image : ImageParts) (o : Outline) (number : ℕ) (row : Block) : Type 0 where
  pub numbered : number ≡ own_block o
  pub its : row.process ≡ o.process
  pub linked : IsOfProcess s image number row
  pub found : body_at s o.unit ≡ Some linked.body
  pub block : linked.block ≡ numbers s views o

-- it is that of a unit among those that the process calls, and clears the places of the unit's AUTOMATIC data
pub record KnownUnit (s : Set) (views : List View) (image : ImageParts) (o : Outline) (number : ℕ) (row : Block) : Type 0 where
  pub place : ℕ
  pub unit : ℕ
  pub named : slice_get o.called place ≡ Some unit
  pub numbered : number ≡ o.first + place
  pub its : row.process ≡ o.process
  pub linked : IsOfUnit s image number row
  pub found : body_at s unit ≡ Some linked.body
  pub block : linked.block ≡ numbers s views o
  pub clears : linked.code.clears ≡ clears_from s linked.body.number 0 (places_of_process s row.process)

-- it is one or the other, of the process that its row names
pub record IsKnown (s : Set) (views : List View) (image : ImageParts) (number : ℕ) (row : Block) : Type 0 where
  pub outline : Outline
  pub there : slice_get (outlines_of s) row.process ≡ Some outline
  pub is : KnownProcess s views image outline number row ⊎ KnownUnit s views image outline number row

-- a process has a block of its own, with the number that the outlines give
pub record HasOwnBlock (s : Set) (image : ImageParts) (process : ℕ) : Type 0 where
  pub row : Block
  pub there : slice_get image.blocks (block_of (outlines_of s) process) ≡ Some row
  pub its : row.process ≡ process
