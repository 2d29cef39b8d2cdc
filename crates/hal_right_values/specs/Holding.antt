-- What a process holds: right values, wherever it holds any.
use Rattle.std.specs.Prelude.{◌≡◌, ℕ, suc, length, List, [], ◌∷◌, Option, Some, None}
use Rattle.hal_values.specs.declared.request.Request.{Request}
use Rattle.hal_values.specs.declared.request.Request.TheVariants as request
use Rattle.hal_values.specs.declared.value.Kind.{Kind}
use Rattle.hal_values.specs.declared.value.Value.{Value}
use Rattle.hal_values.specs.Kinds.{IsKind}
use Rattle.hal_states.specs.Spots.{Held, Holds, Refers}
use Rattle.hal_code.specs.Cores.{Operand, Val, At, Area, Return, Frame, Core, Rest, Goes, Puts, Asks, Tries, Plans, Wait, Then, Pushes, Tried, Takes, Copies, Opens, Renews, Halts, Step, Waits, Moves, Counts}
use Rattle.hal_code.specs.Courses.{Asked}
use Rattle.hal_sound_values.specs.Right.{IsRight}
use Rattle.hal_right_values.specs.Ranges.{IsOfBytes}
use Rattle.hal_right_values.specs.Finding.{CopiesFit}

-- a value on the stack is right, and the address of a cell is that of one of a kind that a declaration can have
abbrev pub IsRightOperand : Operand → Type 0
IsRightOperand (Val v) = IsRight v
IsRightOperand (At at kind) = IsKind kind
IsRightOperand (Area at shape) = Unit {0}

abbrev pub AreRightOperands : List Operand → Type 0
AreRightOperands [] = Unit {0}
AreRightOperands (one ∷ stack) = IsRightOperand one × AreRightOperands stack

-- so are the operands of a block that called, and the zero value of the result that it wants
abbrev pub IsRightResult : Option Value → Type 0
IsRightResult None = Unit {0}
IsRightResult (Some v) = IsRight v

abbrev pub IsRightBack : Option Return → Type 0
IsRightBack None = Unit {0}
IsRightBack (Some back) = AreRightOperands back.stack × IsRightResult back.result

abbrev pub AreRightFrames : List Frame → Type 0
AreRightFrames [] = Unit {0}
AreRightFrames (f ∷ fs) = IsRightBack f.back × AreRightFrames fs

-- what own places hold
abbrev pub IsRightHeld : Held → Type 0
IsRightHeld (Holds v) = IsRight v
IsRightHeld (Refers at) = Unit {0}

abbrev pub AreRightHeld : List Held → Type 0
AreRightHeld [] = Unit {0}
AreRightHeld (held ∷ more) = IsRightHeld held × AreRightHeld more

-- what an UPDATE block sees of the shared cells, and what it wrote
abbrev pub AreRight : List Value → Type 0
AreRight [] = Unit {0}
AreRight (v ∷ values) = IsRight v × AreRight values

abbrev pub AreRightWrites : List (ℕ × Value) → Type 0
AreRightWrites [] = Unit {0}
AreRightWrites (written ∷ writes) = IsRight written.1 × AreRightWrites writes

-- all that a process holds is right, and the group and the number of its last error are bytes
pub record Holding (c : Core) : Type 0 where
  pub operands : AreRightOperands c.stack
  pub frames : AreRightFrames c.frames
  pub places : AreRightHeld c.kept.places
  pub last : IsOfBytes c.kept.last
  pub store : AreRight c.mode.store
  pub writes : AreRightWrites c.mode.writes

-- a value that is still to be put is right
abbrev pub IsRightRest : Rest → Type 0
IsRightRest Goes = Unit {0}
IsRightRest (Puts at v) = IsRight v
IsRightRest (Asks r) = Unit {0}
IsRightRest (Tries r) = Unit {0}
IsRightRest (Plans plan again) = Unit {0}

abbrev pub AreKinds : List Kind → Type 0
AreKinds [] = Unit {0}
AreKinds (k ∷ kinds) = IsKind k × AreKinds kinds

-- what is done with an answer leads to right values: what is told, read or copied is of a kind that a declaration can have; and the numbers of the cells and places
-- that are still copied are small
abbrev pub HoldsAfter : Request → Wait → Type 0
HoldsAfter r (Then rest) = IsRightRest rest
HoldsAfter r (Pushes kind) = IsKind kind
HoldsAfter r Tried = Unit {0}
HoldsAfter r (Takes target) = (channel : ℕ) × (kind : Kind) × (r ≡ request.Input channel kind) × IsKind kind
HoldsAfter r (Copies kind kinds from place) = IsKind kind × AreKinds kinds × CopiesFit (length kinds) from (suc place)
HoldsAfter r (Opens groups) = r ≡ request.Update groups
HoldsAfter r Renews = Unit {0}
HoldsAfter r (Halts e) = Unit {0}

-- a process waits with right values
abbrev pub HoldsAwaiting : Asked → Type 0
HoldsAwaiting one = Holding one.core × HoldsAfter one.request one.wait

-- a step leads to right values
abbrev pub HoldingStep : Step → Type 0
HoldingStep (Waits r w c) = Holding c × HoldsAfter r w
HoldingStep (Moves c) = Holding c
HoldingStep (Counts c) = Holding c
