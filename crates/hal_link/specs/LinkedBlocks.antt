-- What the blocks of a linked image are: each is that of a process, or that of a unit which a process calls.
use Rattle.std.specs.Prelude.{◌≡◌, ◌<◌, ◌⊎◌, ℕ, suc, ◌+◌, length, true, false, Option, Some, slice_get}
use Rattle.hal_meaning.specs.Bodies.{Body}
use Rattle.hal_meaning.specs.Calls.{is_function}
use Rattle.hal_meaning.specs.Runs.{process_body, places_of_process}
use Rattle.hal_meaning.specs.Sets.{Set}
use Rattle.hal_code.specs.declared.image.ImageParts.{ImageParts}
use Rattle.hal_code.specs.declared.instr.Instr.TheVariants as instr
use Rattle.hal_code.specs.declared.row.Block.{Block}
use Rattle.hal_code.specs.Blocks.{is_of_process}
use Rattle.hal_agreement.specs.PlacedBlocks.{ProcessAt, UnitAt, UnitsAt}
use Rattle.hal_link.specs.Linking.{process_site}
use Rattle.hal_link.specs.UnitCode.{end_code}

-- the units that may be called from a block stand there, in blocks of the same process
pub record CallsUnits (s : Set) (image : ImageParts) (block : ℕ → Option ℕ) (process : ℕ) : Type 0 where
  pub units : UnitsAt (record { image = image; block = block }) s (places_of_process s process)
  pub owned : (unit callee : ℕ) (row : Block) → block unit ≡ Some callee → slice_get image.blocks callee ≡ Some row → row.process ≡ process

-- the block with this number and row is that of a process: from BEGIN over its statements to FINISH
pub record IsOfProcess (s : Set) (image : ImageParts) (number : ℕ) (row : Block) : Type 0 where
  pub there : row.process < length s.tables.processes
  pub body : Body
  pub found : process_body s row.process ≡ Some body
  pub owned : is_of_process image number ≡ true
  pub block : ℕ → Option ℕ
  pub calls : CallsUnits s image block row.process
  pub before : (unit callee : ℕ) → block unit ≡ Some callee → callee < number
  pub begins : slice_get image.code row.first ≡ Some instr.Begin
  pub spot : ℕ → ℕ
  pub code : ProcessAt (record { image = image; block = block }) row.first (process_site s row.process body) 0 body.statements spot
  pub ends : row.end ≡ suc code.finish

-- it is that of a unit which its process calls: from CLEAR of its AUTOMATIC data to its last RETURN
pub record IsOfUnit (s : Set) (image : ImageParts) (number : ℕ) (row : Block) : Type 0 where
  pub there : row.process < length s.tables.processes
  pub body : Body
  pub owned : is_of_process image number ≡ false
  pub block : ℕ → Option ℕ
  pub calls : CallsUnits s image block row.process
  pub code : UnitAt (record { image = image; block = block }) s (places_of_process s row.process) body row
  pub ends : row.end ≡ code.finish + length (end_code (is_function body.head) body.head)

abbrev pub IsLinkedBlock : Set → ImageParts → ℕ → Block → Type 0
IsLinkedBlock s image number row = IsOfProcess s image number row ⊎ IsOfUnit s image number row
