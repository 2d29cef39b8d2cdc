-- Code that grows: the code so far with more behind it, or the place of the first phrase that has no code yet.
use Rattle.std.specs.Prelude.{ℕ, List, length, ◌++◌, Option, Some, None, Result, Ok, Err}
use Rattle.hal_base.specs.declared.refusal.Place.{Place}
use Rattle.hal_code.specs.declared.instr.Instr.{Instr}

abbrev pub Emitted : Type 0
Emitted = Result (List Instr) Place

-- what is emitted behind it
abbrev pub onwards : Emitted → (List Instr → Emitted) → Emitted
onwards (Ok code) next = next code
onwards (Err place) next = Err place

-- instructions behind the code so far, where the phrase at this place has any
abbrev pub emit : List Instr → Place → Option (List Instr) → Emitted
emit before place None = Err place
emit before place (Some is) = Ok (before ++ is)

-- how long it is; what isn't there has no length
abbrev pub length_of : Emitted → ℕ
length_of (Ok code) = length code
length_of (Err place) = 0
