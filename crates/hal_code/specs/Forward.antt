-- Code whose jumps go on: forward, or back to a TURN whose own target is behind the jump.
use Rattle.std.specs.Prelude.{◌≡◌, ℕ, ◌<◌, ◌⊎◌, List, Some, slice_get}
use Rattle.hal_code.specs.declared.instr.Instr.{Instr}
use Rattle.hal_code.specs.declared.instr.Instr.TheVariants as instr

-- a jump from an instruction to a target goes on
abbrev pub LeadsOn : List Instr → ℕ → ℕ → Type 0
LeadsOn code at target = (at < target) ⊎ ((over : ℕ) × (slice_get code target ≡ Some (instr.Turn over)) × (at < over))

-- an instruction there goes on
abbrev pub GoesOn : List Instr → ℕ → Instr → Type 0
GoesOn code at (instr.Jump target) = LeadsOn code at target
GoesOn code at (instr.JumpNot target) = LeadsOn code at target
GoesOn code at (instr.Turn target) = at < target
GoesOn code at other = Unit {0}

-- each instruction of the code goes on
abbrev pub IsForward : List Instr → Type 0
IsForward code = (at : ℕ) (i : Instr) → slice_get code at ≡ Some i → GoesOn code at i
