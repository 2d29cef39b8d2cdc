-- The code of a unit that is called: CLEAR of its AUTOMATIC data, its statements, and its end.
use Rattle.std.specs.Prelude.{ℕ, suc, ◌+◌, Bool, true, false, List, [], ◌∷◌, ◌++◌, map, Ok, if◌then◌else◌}
use Rattle.hal_grammar.specs.Declarations as declarations
use Rattle.hal_grammar.specs.Declarations.{BooleanKind, BitKind, CharacterKind}
use Rattle.hal_grammar.specs.Statements.{Statements}
use Rattle.hal_grammar.specs.Units.{Head, Function, Returns, NoKind, HasKind}
use Rattle.hal_meaning.specs.Calls.{is_function, zero_of, is_automatic_in}
use Rattle.hal_meaning.specs.Places.{Place}
use Rattle.hal_meaning.specs.Sets.{Set}
use Rattle.hal_code.specs.declared.choice.Choice.TheVariants as choice
use Rattle.hal_code.specs.declared.instr.Instr.{Instr}
use Rattle.hal_code.specs.declared.instr.Instr.TheVariants as instr
use Rattle.hal_code.specs.declared.row.Block.{Block}
use Rattle.hal_code.specs.declared.row.ResultKind.{ResultKind}
use Rattle.hal_code.specs.declared.row.ResultKind.TheVariants as result
use Rattle.hal_agreement.specs.PlacedBlocks.{leaving_by}
use Rattle.hal_agreement.specs.PlacedExpressions.{pushes}
use Rattle.hal_agreement.specs.PlacedStatements.{Exits}
use Rattle.hal_agreement.specs.Sites.{Site}
use Rattle.hal_gen_expr.specs.Emitting.{Emitted, onwards}
use Rattle.hal_gen_expr.specs.Numbering.{Numbering}
use Rattle.hal_gen.specs.BlockExits.{of_body}
use Rattle.hal_gen.specs.StatementCode.{block_code}

-- the places of AUTOMATIC data of a unit, from the one with this number on, each cleared on its own
abbrev pub clears_from : Set → ℕ → ℕ → List Place → List (ℕ × ℕ)
clears_from s unit i [] = []
clears_from s unit i (place ∷ places) = if is_automatic_in s unit place then (i, 1) ∷ clears_from s unit (suc i) places else clears_from s unit (suc i) places

abbrev pub clears_of : Site → List (ℕ × ℕ)
clears_of site = clears_from site.set site.unit 0 site.places

abbrev pub clear_of : ℕ × ℕ → Instr
clear_of one = instr.Clear one.0 one.1

-- the code so far, and CLEAR of those of the unit
abbrev pub cleared_code : Site → List Instr → List Instr
cleared_code site before = before ++ map clear_of (clears_of site)

-- the end of a unit: a PROCEDURE goes back; a FUNCTION raises 1:7 and goes back with its zero value
abbrev pub end_code : Bool → Head → List Instr
end_code false head = instr.Return ∷ []
end_code true head = instr.Raise 1 7 ∷ pushes (zero_of head) ∷ instr.Return ∷ []

-- how RETURN leaves the unit
abbrev pub to_caller : Head → Exits
to_caller head = of_body (leaving_by (is_function head))

-- its statements, behind the code so far, and its end
abbrev pub body_code : Numbering → Site → List Instr → Head → Statements → Emitted
body_code n site before head body = onwards (block_code n site before (to_caller head) 0 body) (λ middle. Ok (middle ++ end_code (is_function head) head))

-- the whole unit: first its AUTOMATIC data have their first values again
abbrev pub unit_code : Numbering → Site → List Instr → Head → Statements → Emitted
unit_code n site before head body = body_code n site (cleared_code site before) head body

-- the kind of what it gives back
abbrev pub kind_of_type : declarations.Kind → ResultKind
kind_of_type (BooleanKind place) = result.Bits
kind_of_type (BitKind place size) = result.Bits
kind_of_type (CharacterKind place size) = result.Text
kind_of_type other = result.Integer

abbrev pub kind_of_returns : Returns → ResultKind
kind_of_returns NoKind = result.Integer
kind_of_returns (HasKind kind precision) = kind_of_type kind

abbrev pub kind_of_result : Head → ResultKind
kind_of_result (Function place inputs returns mode) = kind_of_returns returns
kind_of_result other = result.Nothing

-- its block: from one instruction to another, in the process that calls it
abbrev pub unit_block : ℕ → Head → ℕ → ℕ → Block
unit_block p head first end = record { process = p; first = first; end = end; result = choice.Known (kind_of_result head) }

-- CLEAR of AUTOMATIC places from the one with this number on, as the program adds it
abbrev pub clear_if : Bool → ℕ → List Instr
clear_if true i = instr.Clear i 1 ∷ []
clear_if false i = []

unfoldable pub clears_behind : Set → ℕ → ℕ → List Instr → List Place → List Instr
clears_behind s unit i code [] = code
clears_behind s unit i code (place ∷ places) = clears_behind s unit (i + 1) (code ++ clear_if (is_automatic_in s unit place) i) places
