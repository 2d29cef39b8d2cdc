-- The own places of groups, by the numbers of their views, and the code that keeps something there or compares it, behind the code so far.
use Rattle.std.specs.Prelude.{ℕ, ◌+◌, Bool, true, false, List, [], ◌∷◌, ◌++◌, length, pos, Option, slice_get}
use Rattle.std.specs.Option.{option_map, option_and_then}
use Rattle.hal_base.specs.declared.refusal.Place.{Place}
use Rattle.hal_operations.specs.declared.operation.Op1.TheVariants as op1
use Rattle.hal_operations.specs.declared.operation.Op2.TheVariants as op2
use Rattle.hal_code.specs.declared.choice.Choice.TheVariants as choice
use Rattle.hal_code.specs.declared.instr.Instr.{Instr}
use Rattle.hal_code.specs.declared.instr.Instr.TheVariants as instr
use Rattle.hal_agreement.specs.PlacedExpressions.{two}
use Rattle.hal_agreement.specs.Sites.{Site}
use Rattle.hal_gen_expr.specs.Emitting.{Emitted, emit}
use Rattle.hal_gen_expr.specs.Leaves.{place_view}
use Rattle.hal_gen_expr.specs.Numbering.{Numbering, below}
use Rattle.hal_gen.specs.declared.kept.Cells.{Cells}

-- the own place of the group of this mark before which so many of its places lie
abbrev pub cell_of : Numbering → Site → ℕ → ℕ → Option ℕ
cell_of n site m before = option_and_then (λ k. place_view n site k before) (slice_get site.marks m)

-- it gets the value on the stack
abbrev pub keeping : List Instr → ℕ → List Instr
keeping before cell = before ++ (instr.Cell cell ∷ instr.Keep ∷ [])

-- the test whether it holds this number, behind which control goes to a target where it doesn't
abbrev pub case_tests : ℕ → ℕ → ℕ → List Instr
case_tests cell target number = instr.Cell cell ∷ instr.Fetch ∷ instr.Int (pos number) ∷ two op2.Equal ∷ instr.JumpNot target ∷ []

-- the same where the code for this number, of so many instructions, stands before the target, with a jump behind it
abbrev pub case_code : List Instr → Place → ℕ → ℕ → ℕ → Emitted
case_code before place cell number size = emit before place (option_map (case_tests cell (length before + (size + 6))) (below 2147483648 number))

-- those of a DO FOR: of its end, its step, the value that its variable gets, and whether a turn begins; its TEMPORARY variable stands before them
abbrev pub cells : ℕ → ℕ → ℕ → ℕ → Cells
cells last step value begins = record { last = last; step = step; value = value; begins = begins }

abbrev pub cells_at : Numbering → Site → ℕ → ℕ → ℕ → ℕ → ℕ → Option Cells
cells_at n site m a b c d =
    option_and_then (λ last. option_and_then (λ step. option_and_then (λ value. option_map (λ begins. cells last step value begins) (cell_of n site m d)) (cell_of n site m c)) (cell_of n site m b)) (cell_of n site m a)

abbrev pub cells_of : Numbering → Site → Bool → ℕ → Option Cells
cells_of n site false m = cells_at n site m 0 1 2 3
cells_of n site true m = cells_at n site m 1 2 3 4

-- what a cell holds comes on the stack
abbrev pub holding : List Instr → ℕ → List Instr
holding before cell = before ++ (instr.Cell cell ∷ instr.Fetch ∷ [])

-- whether it holds this number; whether it holds less than 0, or than another one: else control goes to a target
abbrev pub testing : List Instr → ℕ → ℕ → ℕ → List Instr
testing before cell target number = before ++ case_tests cell target number

abbrev pub negative_tests : ℕ → ℕ → List Instr
negative_tests cell target = instr.Cell cell ∷ instr.Fetch ∷ instr.Int (pos 0) ∷ two op2.Less ∷ instr.JumpNot target ∷ []

abbrev pub lesser_tests : ℕ → ℕ → ℕ → List Instr
lesser_tests one other target = instr.Cell one ∷ instr.Fetch ∷ instr.Cell other ∷ instr.Fetch ∷ two op2.Less ∷ instr.JumpNot target ∷ []

-- the bounds of a DO FOR with TO are kept, and the first value comes back on the stack
abbrev pub bounds_keeping : List Instr → Cells → List Instr
bounds_keeping before c = holding (keeping (keeping (keeping before c.step) c.last) c.value) c.value

-- control goes to the end where the value is past it, by the sign of the step
abbrev pub bounding : List Instr → Cells → ℕ → List Instr
bounding before c exit =
    ((((before ++ negative_tests c.step (length before + 12)) ++ lesser_tests c.value c.last (length before + 19)) ++ (instr.Jump exit ∷ [])) ++ lesser_tests c.last c.value (length before + 19)) ++ (instr.Jump exit ∷ [])

-- NEXT, and whether a value is left
abbrev pub nexting : List Instr → List Instr
nexting before = before ++ (instr.Next ∷ instr.Op1 (choice.Known op1.Integer) ∷ [])

abbrev pub counting : List Instr → Cells → ℕ → List Instr
counting before c exit = testing (keeping (keeping (nexting (holding (holding before c.step) c.last)) c.begins) c.value) c.begins exit 1
