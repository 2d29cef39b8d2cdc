-- Where the machine goes on once a statement is done, and what is known of the tasks that are begun in statements.
use Rattle.std.specs.Prelude.{◌≡◌, ℕ, suc, List, [], ◌∷◌, Option, Some, None}
use Rattle.hal_grammar.specs.Expressions.{Expressions}
use Rattle.hal_grammar.specs.Statements.{Guard}
use Rattle.hal_values.specs.declared.environment.Entry.{Entry}
use Rattle.hal_values.specs.declared.value.Value.{Value}
use Rattle.hal_meaning.specs.Bodies.{Body}
use Rattle.hal_meaning.specs.Calls.{begun, entering, is_function}
use Rattle.hal_meaning.specs.Marks.{handling_in}
use Rattle.hal_meaning.specs.States.{State, with_places, Flow, Normal, Leaves, Repeats, Returned}
use Rattle.hal_meaning.specs.Access.{Here}
use Rattle.hal_meaning.specs.Runs.{in_function, ended}
use Rattle.hal_meaning.specs.Tasks.{Looping, Meaning, Tested, Stepping, Listing, Entering, Resuming}
use Rattle.hal_code.specs.declared.instr.Instr.TheVariants as instr
use Rattle.hal_code.specs.declared.row.Block.{Block}
use Rattle.hal_code.specs.Cores.{Val, Step, Moves}
use Rattle.hal_agreement.specs.Codes.{Code}
use Rattle.hal_agreement.specs.Sites.{site_of}
use Rattle.hal_agreement.specs.PlacedExpressions.{Has}
use Rattle.hal_agreement.specs.PlacedStatements.{opened, exit_of, again_of, Leaving, ByResult, Exits, within_group, of_block, TestAt, SteppingAt, ListingAt, ReturnAt, GroupAt}
use Rattle.hal_agreement.specs.PlacedBlocks.{UnitAt, leaving_by}
use Rattle.hal_agreement.proofs.Handling.{HandledAt}
use Rattle.hal_agreement.proofs.Reaching.{Nest, behind, setting, core_at, Arrives, Reaches, OnStep}
use Rattle.hal_agreement.proofs.Raising.{Standing}

-- control goes on there, if somewhere
abbrev pub going_to : Nest → State → Option ℕ → Option Step
going_to n st None = None
going_to n st (Some at) = Some (Moves (core_at at [] [] n st))

-- where RETURN with a value or without one leads
abbrev pub Out : Type 0
Out = Option Value → State → Option Step

-- where the machine goes on once a statement is done
abbrev pub flow_to : Exits → Out → Nest → ℕ → Flow → State → Option Step
flow_to exits out n to Normal st = Some (Moves (core_at to [] [] n st))
flow_to exits out n to (Leaves label) st = going_to n st (exit_of exits.groups label)
flow_to exits out n to (Repeats label) st = going_to n st (again_of exits.groups label)
flow_to exits out n to (Returned v) st = out v st

-- where statements of ON ERROR stand, as the machine's entries have it and as the exits do
abbrev pub Marks : Nest → Exits → Type 0
Marks n exits = (m : ℕ) → n.spot 0 m ≡ exits.handler m

-- RETURN leads there
pub record Leads_out (code : Code) (begin : ℕ) (h : Here) (n : Nest) (leaving : Leaving) (out : Out) : Type 0 where
  pub without : (from to : ℕ) (st : State) → ReturnAt code leaving from to → Arrives (setting code begin h) (Moves (core_at from [] [] n st)) st.left (out None st) st.left
  pub with_value : (v : Value) (from : ℕ) (st : State) → leaving ≡ ByResult → Has code from instr.Return → Arrives (setting code begin h) (Moves (core_at from (Val v ∷ []) [] n st)) st.left (out (Some v) st) st.left

-- what the machine does at the end of a block, whose statements end there
abbrev pub Ends : Code → ℕ → Here → Nest → Exits → Out → ℕ → (Flow → State → Option Step) → Type 0
Ends code begin h n exits out finish fine =
    (flow : Flow) (st : State) → OnStep (flow_to exits out n finish flow st) (λ to. Reaches (setting code begin h) n fine to st.left (ended h (in_function h) flow st))

-- a block: its statements of ON ERROR stand there, RETURN leads out, and its end is this
pub record Ending (code : Code) (begin : ℕ) (h : Here) (n : Nest) (leaving : Leaving) (out : Out) (finish : ℕ) (fine : Flow → State → Option Step) : Type 0 where
  pub each : (place : ℕ) → HandledAt code (site_of h) (of_block leaving (n.spot 0)) (handling_in place h.first h.body) (n.spot 0 place) finish
  pub returns : Leads_out code begin h n leaving out
  pub ends : Ends code begin h n (of_block leaving (n.spot 0)) out finish fine

-- what is known of the tasks that are begun in statements
pub record Sound (code : Code) (begin : ℕ) (rec : Meaning) : Type 0 where
  pub loops : (h : Here) (n : Nest) (exits : Exits) (out : Out) (loop : Looping) (g : Guard) (turn again to : ℕ) → Standing code h n → Marks n exits → Leads_out code begin h n exits.leaving out → Has code turn (instr.Turn to)
      → GroupAt code (site_of h) (within_group (opened loop.labels to (Some again)) exits) (suc loop.mark) loop.group (suc turn) again
      → TestAt code (site_of h) g again turn to → (st : State)
      → Reaches (setting code begin h) n (flow_to exits out n to) (Moves (core_at again [] [] n st)) st.left (rec (Tested h loop g) st)
  pub steps : (h : Here) (n : Nest) (exits : Exits) (out : Out) (loop : Looping) (name : List ℕ) (place : ℕ) (g : Option Guard) (turn again to : ℕ) → Standing code h n → Marks n exits → Leads_out code begin h n exits.leaving out
      → Has code turn (instr.Turn to) → GroupAt code (site_of h) (within_group (opened loop.labels to (Some again)) exits) (suc loop.mark) loop.group (suc turn) again
      → SteppingAt code (site_of h) name place g again turn to → (st : State)
      → Reaches (setting code begin h) n (flow_to exits out n to) (Moves (core_at again [] [] n st)) st.left (rec (Stepping h place loop name g) st)
  pub lists : (h : Here) (n : Nest) (exits : Exits) (out : Out) (loop : Looping) (name : List ℕ) (place : ℕ) (values : Expressions) (g : Option Guard) (turn again to : ℕ) → Standing code h n → Marks n exits
      → Leads_out code begin h n exits.leaving out → Has code turn (instr.Turn to) → GroupAt code (site_of h) (within_group (opened loop.labels to (Some again)) exits) (suc loop.mark) loop.group (suc turn) again
      → ListingAt code (site_of h) name place values g again turn to → (st : State)
      → Reaches (setting code begin h) n (flow_to exits out n to) (Moves (core_at again [] [] n st)) st.left (rec (Listing h place loop name g values) st)
  pub resumes : (h : Here) (n : Nest) (leaving : Leaving) (out : Out) (finish : ℕ) (fine : Flow → State → Option Step) → Standing code h n → Ending code begin h n leaving out finish fine → (place : ℕ) (st : State)
      → Reaches (setting code begin h) (behind n) fine (Moves (core_at (n.spot 0 place) [] [] n st)) st.left (rec (Resuming h place) st)
  pub enters : (h : Here) (entries : List Entry) (b : Body) (n : Nest) (row : Block) (at : UnitAt code h.set h.places b row) (out : Out) (fine : Flow → State → Option Step) → Standing code (entering h entries b) n
      → Marks n (of_block (leaving_by (is_function b.head)) at.handler) → Ending code begin (entering h entries b) n (leaving_by (is_function b.head)) out at.finish fine → (st : State)
      → Reaches (setting code begin h) (behind n) fine (Moves (core_at row.first [] [] n st)) st.left (rec (Entering (entering h entries b)) (with_places (begun h.set b.number h.places st.kept.places) st))
