-- Where the code stands by which groups keep what they go by in own places, read it and compare it.
use Rattle.std.specs.Prelude.{ℕ, suc, List, pos}
use Rattle.hal_operations.specs.declared.operation.Op1.TheVariants as op1
use Rattle.hal_operations.specs.declared.operation.Op2.TheVariants as op2
use Rattle.hal_values.specs.declared.value.Kind.TheVariants as kind
use Rattle.hal_states.specs.Spots.{Own, Held}
use Rattle.hal_code.specs.declared.choice.Choice.TheVariants as choice
use Rattle.hal_code.specs.declared.instr.Instr.TheVariants as instr
use Rattle.hal_agreement.specs.Codes.{Code}
use Rattle.hal_agreement.specs.PlacedExpressions.{Has, One, two, AddressAt}

-- an own place gets the value on the stack: CELL and KEEP
abbrev pub KeepsAt : Code → ℕ → ℕ → ℕ → Type 0
KeepsAt code place from to = ((held : List Held) → AddressAt code held kind.Double (Own place) from) × One code (suc from) instr.Keep to

-- what it holds: CELL and FETCH
abbrev pub HoldsAt : Code → ℕ → ℕ → ℕ → Type 0
HoldsAt code place from to = ((held : List Held) → AddressAt code held kind.Double (Own place) from) × One code (suc from) instr.Fetch to

-- whether it holds this number: control goes on where it does, and else to a target
abbrev pub CaseAt : Code → ℕ → ℕ → ℕ → ℕ → ℕ → Type 0
CaseAt code place number from target to =
    (middle : ℕ) × HoldsAt code place from middle × Has code middle (instr.Int (pos number)) × Has code (suc middle) (two op2.Equal) × One code (suc (suc middle)) (instr.JumpNot target) to

-- whether it holds less than 0
abbrev pub NegativeAt : Code → ℕ → ℕ → ℕ → ℕ → Type 0
NegativeAt code place from target to =
    (middle : ℕ) × HoldsAt code place from middle × Has code middle (instr.Int (pos 0)) × Has code (suc middle) (two op2.Less) × One code (suc (suc middle)) (instr.JumpNot target) to

-- whether the first one holds less than the second one
abbrev pub LessAt : Code → ℕ → ℕ → ℕ → ℕ → ℕ → Type 0
LessAt code first second from target to =
    (middle : ℕ) × (last : ℕ) × HoldsAt code first from middle × HoldsAt code second middle last × Has code last (two op2.Less) × One code (suc last) (instr.JumpNot target) to

-- whether the value that is kept in the third of these places is past the end in the first one, by the sign of the step in the second one: control goes to a target
-- where it is, and else on
abbrev pub BoundsAt : Code → ℕ → ℕ → ℕ → ℕ → Type 0
BoundsAt code place from exit to =
    (down : ℕ) × (below : ℕ) × (above : ℕ) × NegativeAt code (suc place) from (suc below) down × LessAt code (suc (suc place)) place down to below × Has code below (instr.Jump exit)
    × LessAt code place (suc (suc place)) (suc below) to above × One code above (instr.Jump exit) to

-- behind the value of a DO FOR's variable: the next one is kept, and whether it isn't past the end, by which control goes on or to a target
abbrev pub NextAt : Code → ℕ → ℕ → ℕ → ℕ → Type 0
NextAt code place from exit to =
    (step : ℕ) × (last : ℕ) × (begins : ℕ) × (value : ℕ) × HoldsAt code (suc place) from step × HoldsAt code place step last × Has code last instr.Next
    × Has code (suc last) (instr.Op1 (choice.Known op1.Integer)) × KeepsAt code (suc (suc (suc place))) (suc (suc last)) begins × KeepsAt code (suc (suc place)) begins value
    × CaseAt code (suc (suc (suc place))) 1 value exit to
