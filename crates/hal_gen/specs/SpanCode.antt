-- The code by which a DO FOR gives its variable one value after another, behind the code so far.
use Rattle.std.specs.Prelude.{ℕ, suc, ◌+◌, List, [], ◌∷◌, ◌++◌, length, pos, Option, Some, None, Ok, Err}
use Rattle.std.specs.Option.{option_map}
use Rattle.hal_base.specs.declared.refusal.Place.{Place}
use Rattle.hal_grammar.specs.Expressions.{Expression, Expressions, NoExpressions, MoreExpressions}
use Rattle.hal_grammar.specs.Statements.{Span, Stepped, Listed}
use Rattle.hal_code.specs.declared.instr.Instr.{Instr}
use Rattle.hal_code.specs.declared.instr.Instr.TheVariants as instr
use Rattle.hal_agreement.specs.Sites.{Site}
use Rattle.hal_storage.specs.referents.Referents.{Referent, DataOf}
use Rattle.hal_gen_expr.specs.Emitting.{Emitted, onwards, emit}
use Rattle.hal_gen_expr.specs.ExpressionCode.{emit_one, expression_code}
use Rattle.hal_gen_expr.specs.Leaves.{element_of}
use Rattle.hal_gen_expr.specs.Numbering.{Numbering, below}
use Rattle.hal_gen_expr.specs.Referents.{referent}
use Rattle.hal_gen.specs.declared.kept.Cells.{Cells}
use Rattle.hal_gen.specs.KeptCode.{case_code, holding, bounds_keeping, bounding, counting}
use Rattle.hal_gen.specs.Sizes.{value_size, next_values_size}

-- CELL of the variable
abbrev pub variable_of : Numbering → Site → Referent → Option Instr
variable_of n site (DataOf k stored shape) = element_of n site [] k stored shape
variable_of n site other = None

-- it gets the value on the stack, and its value comes on the stack
abbrev pub store_code : Numbering → Site → List Instr → Place → List ℕ → Emitted
store_code n site before place name = emit before place (option_map (λ i. i ∷ instr.Keep ∷ []) (variable_of n site (referent site name)))

abbrev pub fetch_code : Numbering → Site → List Instr → Place → List ℕ → Emitted
fetch_code n site before place name = emit before place (option_map (λ i. i ∷ instr.Fetch ∷ []) (variable_of n site (referent site name)))

-- TO: the bounds, the first value, and the test for the end
abbrev pub step_code : Numbering → Site → List Instr → Place → Option Expression → Emitted
step_code n site before place None = emit_one before place (instr.Int (pos 1))
step_code n site before place (Some tree) = expression_code n site before tree

abbrev pub begun_code : Numbering → Site → List Instr → Place → List ℕ → Cells → ℕ → Expression → Expression → Option Expression → Emitted
begun_code n site before place name c exit first last step =
    onwards (expression_code n site before first)
    (λ one. onwards (expression_code n site one last)
    (λ two. onwards (step_code n site two place step)
    (λ three. onwards (store_code n site (bounds_keeping three c) place name) (λ stored. Ok (bounding stored c exit)))))

-- and the next value
abbrev pub counted_code : Numbering → Site → List Instr → Place → List ℕ → Cells → ℕ → Emitted
counted_code n site before place name c exit =
    onwards (fetch_code n site before place name) (λ fetched. store_code n site (holding (counting fetched c exit) c.value) place name)

-- a list: a value of it, behind which the cell holds how many were stored
abbrev pub counted_in : ℕ → ℕ → List Instr
counted_in cell number = instr.Int (pos number) ∷ instr.Cell cell ∷ instr.Keep ∷ []

abbrev pub value_code : Numbering → Site → List Instr → Place → List ℕ → ℕ → ℕ → Expression → Emitted
value_code n site before place name cell k tree =
    onwards (expression_code n site before tree)
    (λ valued. onwards (store_code n site valued place name) (λ stored. emit stored place (option_map (counted_in cell) (below 2147483648 k))))

-- and the values behind so many, from which control goes to the test for it
abbrev pub next_values_code : Numbering → Site → List Instr → Place → List ℕ → ℕ → ℕ → ℕ → ℕ → Expressions → Emitted
next_values_code n site before place name cell k exit test NoExpressions = emit_one before place (instr.Jump exit)
next_values_code n site before place name cell k exit test (MoreExpressions tree others) =
    onwards (case_code before place cell k (value_size n site tree))
    (λ tested. onwards (value_code n site tested place name cell (suc k) tree) (λ stored. next_values_code n site (stored ++ (instr.Jump test ∷ [])) place name cell (suc k) exit test others))

-- what stands before the first test, and behind a turn
abbrev pub begin_code : Numbering → Site → List Instr → Place → List ℕ → Cells → ℕ → Span → Emitted
begin_code n site before place name c exit (Stepped first last step) = begun_code n site before place name c exit first last step
begin_code n site before place name c exit (Listed NoExpressions) = Err place
begin_code n site before place name c exit (Listed (MoreExpressions first others)) = value_code n site before place name c.last 1 first

abbrev pub again_code : Numbering → Site → List Instr → Place → List ℕ → Cells → ℕ → Span → Emitted
again_code n site before place name c exit (Stepped first last step) = counted_code n site before place name c exit
again_code n site before place name c exit (Listed NoExpressions) = Err place
again_code n site before place name c exit (Listed (MoreExpressions first others)) = next_values_code n site before place name c.last 1 exit (length before + next_values_size n site others) others
