-- What is noted of the instructions of a block, and when they are right by these notes.
use Rattle.std.specs.Prelude.{ℕ, suc, ◌+◌, ◌-◌, ◌==◌, nat_le, nat_lt, length, Bool, true, false, not, ◌&&◌, ◌||◌, List, [], ◌∷◌, Option, Some, None, slice_get, if◌then◌else◌}
use Rattle.hal_code.specs.declared.choice.Choice.TheVariants as choice
use Rattle.hal_code.specs.declared.image.ImageParts.{ImageParts}
use Rattle.hal_code.specs.declared.instr.Instr.{Instr}
use Rattle.hal_code.specs.declared.instr.Instr.TheVariants as instr
use Rattle.hal_code.specs.declared.operand.Response.TheVariants as response
use Rattle.hal_code.specs.declared.row.Block.{Block}
use Rattle.hal_code.specs.Effects.{Sorts}
use Rattle.hal_code.specs.Flow.{sorts_next, part_next, same_part, is_inside, is_turn_over}
use Rattle.hal_code.specs.Operands.{operands_right, holds_of}
use Rattle.hal_code.specs.Right.{stack_right, stands_right, frames_right, is_last}
use Rattle.hal_verify.specs.declared.note.Note.{Note}

abbrev pub note_of : ImageParts → Block → ℕ → Option ℕ → Instr → Sorts → Note
note_of image block b part i stack = record { fits = operands_right image block b i && stack_right image block i stack; depth = length stack; part = part }

-- those of the instructions from the n-th one on
abbrev pub notes : ImageParts → Block → ℕ → ℕ → List Instr → Option ℕ → Sorts → List Note
notes image block b n [] part stack = []
notes image block b n (i ∷ is) part stack = note_of image block b part i stack ∷ notes image block b (suc n) is (part_next n i part) (sorts_next image block b i stack)

-- a block with its notes
pub record Noted : Type 0 where
  pub block : Block
  pub code : List Instr
  pub notes : List Note
  pub outward : List Bool
  pub of_process : Bool

-- a statement begins at an instruction that may be there, in this UPDATE block or outside of all
abbrev pub begins_in : Option ℕ → Option Note → Bool
begins_in part None = false
begins_in part (Some note) = (note.depth == 0) && same_part part note.part

abbrev pub entry_noted : Noted → Option ℕ → ℕ → Bool
entry_noted w part target = (nat_le w.block.first target && nat_lt target w.block.end) && begins_in part (slice_get w.notes (target - w.block.first))

abbrev pub leads_noted : Noted → ℕ → ℕ → Bool
leads_noted w at target = nat_lt at target || holds_of (is_turn_over at) (slice_get w.code (target - w.block.first))

abbrev pub jump_noted : Noted → ℕ → ℕ → Option ℕ → ℕ → Bool
jump_noted w at depth part target = (depth == 0) && (entry_noted w part target && leads_noted w at target)

abbrev pub jumps_noted : Noted → ℕ → Note → Instr → Bool
jumps_noted w at note (instr.Jump target) = jump_noted w at note.depth note.part target
jumps_noted w at note (instr.JumpNot target) = jump_noted w at (note.depth - 1) note.part target
jumps_noted w at note (instr.Turn target) = (note.depth == 0) && (entry_noted w note.part target && nat_lt at target)
jumps_noted w at note (instr.Input channel kind target) = jump_noted w at note.depth note.part target
jumps_noted w at note (instr.On group number (choice.Known response.Statement) change event target) = entry_noted w note.part target
jumps_noted w at note other = true

abbrev pub ends_noted : Noted → ℕ → Note → Instr → Bool
ends_noted w n note i = if suc n == length w.code then is_last i && not (is_inside (part_next n i note.part)) else true

abbrev pub instr_noted : Noted → ℕ → Note → Instr → Bool
instr_noted w n note i =
    (note.fits && (jumps_noted w (w.block.first + n) note i && stands_right w.outward (is_inside note.part) i))
    && (frames_right w.of_process (n == 0) i && ends_noted w n note i)

-- the first instruction that isn't right, from the n-th one on
abbrev pub first_noted : Noted → ℕ → List Instr → Option ℕ
first_noted w n [] = None
first_noted w n (i ∷ is) = elim (slice_get w.notes n) [ None ↦ None | Some note ↦ if instr_noted w n note i then first_noted w (suc n) is else Some (w.block.first + n) ]
