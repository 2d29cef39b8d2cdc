-- What stands in code keeps the ranges of its types.
use Rattle.std.specs.Prelude.{◌≡◌, ℕ, ◌≤◌, Some, slice_get}
use Rattle.hal_values.specs.declared.environment.ErrNo.{ErrNo}
use Rattle.hal_values.specs.declared.value.Value.TheVariants as value
use Rattle.hal_values.specs.Answers.{error}
use Rattle.hal_code.specs.declared.image.ImageParts.{ImageParts}
use Rattle.hal_code.specs.declared.instr.Instr.{Instr}
use Rattle.hal_code.specs.declared.instr.Instr.TheVariants as instr
use Rattle.hal_sound_values.specs.Right.{IsRight}

-- the group and the number of an error are bytes
abbrev pub IsOfBytes : ErrNo → Type 0
IsOfBytes e = (e.group ≤ 255) × (e.number ≤ 255)

-- an integer that an instruction has is one of 32 bits, a text has at most 255 bytes, and an error's group and number are bytes
abbrev pub IsInRange : Instr → Type 0
IsInRange (instr.Int n) = IsRight (value.Int n)
IsInRange (instr.Text text) = IsRight (value.Text text)
IsInRange (instr.Raise group number) = IsOfBytes (error group number)
IsInRange other = Unit {0}

-- so is the instruction there
abbrev pub IsInRangeAt : ImageParts → ℕ → Type 0
IsInRangeAt image at = (i : Instr) → slice_get image.code at ≡ Some i → IsInRange i

-- and each one of the code
abbrev pub AreInRange : ImageParts → Type 0
AreInRange image = (at : ℕ) → IsInRangeAt image at
