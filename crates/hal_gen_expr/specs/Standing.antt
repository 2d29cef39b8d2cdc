-- Where code stands in an image.
use Rattle.std.specs.Prelude.{◌≡◌, ℕ, List, ◌++◌, length, Some, slice_get}
use Rattle.hal_code.specs.declared.instr.Instr.{Instr}
use Rattle.hal_code.specs.declared.row.Block.{Block}
use Rattle.hal_agreement.specs.Codes.{Code}
use Rattle.hal_gen_expr.specs.Numbering.{Numbering, block_number}

-- code begins with these instructions
pub record Begins (before all : List Instr) : Type 0 where
  pub more : List Instr
  pub is : all ≡ before ++ more

-- an image has the shapes, views and blocks by these numbers
pub record IsNumbered (code : Code) (n : Numbering) : Type 0 where
  pub shapes : code.image.shapes ≡ n.shapes
  pub views : code.image.views ≡ n.views
  pub blocks : (unit number : ℕ) → block_number n unit ≡ Some number → (code.block unit ≡ Some number) × (row : Block) × (slice_get code.image.blocks number ≡ Some row)

-- what a phrase is to have stands there, from the end of the code before it to the end of the code behind it, and the image begins so
pub record Placed (code : Code) (before after : List Instr) (At : ℕ → ℕ → Type 0) : Type 0 where
  pub at : At (length before) (length after)
  pub begins : Begins before code.image.code
