-- Where the code of units stands: of processes from BEGIN to FINISH, of PROCEDUREs and FUNCTIONs to their RETURN.
use Rattle.std.specs.Prelude.{◌≡◌, ℕ, suc, List, [], ◌∷◌, map, Bool, true, false, Some, None, slice_get}
use Rattle.hal_grammar.specs.Statements.{Statements}
use Rattle.hal_grammar.specs.Units.{Head}
use Rattle.hal_states.specs.Spots.{Held}
use Rattle.hal_meaning.specs.Bodies.{Body}
use Rattle.hal_meaning.specs.Calls.{begun, zero_of, is_function}
use Rattle.hal_meaning.specs.Places.{Place}
use Rattle.hal_meaning.specs.Runs.{held_first}
use Rattle.hal_meaning.specs.Sets.{Set, body_at}
use Rattle.hal_code.specs.declared.instr.Instr.TheVariants as instr
use Rattle.hal_code.specs.declared.row.Block.{Block}
use Rattle.hal_code.specs.Addressing.{cleared}
use Rattle.hal_code.specs.Controlling as machine
use Rattle.hal_agreement.specs.Codes.{Code}
use Rattle.hal_agreement.specs.Sites.{Site}
use Rattle.hal_agreement.specs.PlacedExpressions.{Has, pushes}
use Rattle.hal_agreement.specs.PlacedStatements.{Leaving, ToFinish, ByReturn, ByResult, of_block, LeadsOut, StatementsAt}

-- a process whose block begins with this instruction and has these statements, before which the next mark has this number; its statements of ON ERROR
-- stand there
pub record ProcessAt (code : Code) (begin : ℕ) (site : Site) (first : ℕ) (body : Statements) (spot : ℕ → ℕ) : Type 0 where
  pub finish : ℕ
  pub statements : StatementsAt code site (of_block (ToFinish finish) spot) first body (suc begin) finish
  pub leads_out : LeadsOut spot first body finish
  pub last : Has code finish instr.Finish

-- CLEAR instructions, each of so many places from one on
abbrev pub ClearsAt : Code → List (ℕ × ℕ) → ℕ → ℕ → Type 0
ClearsAt code [] from to = from ≡ to
ClearsAt code (one ∷ others) from to = Has code from (instr.Clear one.0 one.1) × ClearsAt code others (suc from) to

-- what own places hold behind them
abbrev pub cleared_by : List Held → List (ℕ × ℕ) → List Held → List Held
cleared_by firsts [] held = held
cleared_by firsts (one ∷ others) held = cleared_by firsts others (cleared firsts one.0 one.1 held)

abbrev pub leaving_by : Bool → Leaving
leaving_by true = ByResult
leaving_by false = ByReturn

-- the end of a unit that is called: a PROCEDURE goes back; a FUNCTION raises 1:7 and goes back with its zero value
abbrev pub EndAt : Code → Bool → Head → Block → ℕ → Type 0
EndAt code false head row at = Has code at instr.Return × (machine.zero_of row.result ≡ None)
EndAt code true head row at =
    Has code at (instr.Raise 1 7) × Has code (suc at) (pushes (zero_of head)) × Has code (suc (suc at)) instr.Return × (machine.zero_of row.result ≡ Some (zero_of head))

abbrev pub unit_site : Set → List Place → Body → Site
unit_site s places b = record { set = s; places = places; unit = b.number; block = b.number; marks = b.marks }

-- a unit that is called: its AUTOMATIC data have their first values again, and then come its statements
pub record UnitAt (code : Code) (s : Set) (places : List Place) (b : Body) (row : Block) : Type 0 where
  pub found : body_at s b.number ≡ Some b
  pub clears : List (ℕ × ℕ)
  pub start : ℕ
  pub begins : ClearsAt code clears row.first start
  pub cleared : (held : List Held) → cleared_by (map held_first places) clears held ≡ begun s b.number places held
  pub handler : ℕ → ℕ
  pub finish : ℕ
  pub statements : StatementsAt code (unit_site s places b) (of_block (leaving_by (is_function b.head)) handler) 0 b.statements start finish
  pub leads_out : LeadsOut handler 0 b.statements finish
  pub ends : EndAt code (is_function b.head) b.head row finish

-- all units that are called
abbrev pub UnitsAt : Code → Set → List Place → Type 0
UnitsAt code s places = (unit number : ℕ) (b : Body) (row : Block) → code.block unit ≡ Some number → body_at s unit ≡ Some b → slice_get code.image.blocks number ≡ Some row → UnitAt code s places b row
