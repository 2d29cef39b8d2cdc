-- Calls: a unit is entered, and control goes back with its result.
use Rattle.std.specs.Prelude.{◌≡◌, ℕ, zero, suc, ◌==◌, ◌≤◌, length, find, pos, Bool, true, false, List, [], ◌∷◌, Option, Some, None, if◌then◌else◌}
use Rattle.std.proofs.Common.{refl, sym, ap, subst, ◌∙◌, arith}
use Rattle.std.proofs.lemmas.Bool.{eqb-true}
use Rattle.hal_grammar.specs.Leaves.{Naming}
use Rattle.hal_grammar.specs.Units.{Head, Program, Compool, Task, Procedure, Function}
use Rattle.hal_values.specs.declared.value.Value.{Value}
use Rattle.hal_values.specs.declared.value.Value.TheVariants as value
use Rattle.hal_values.specs.Answers.{Answered, error}
use Rattle.hal_values.specs.Searching.{entered}
use Rattle.hal_states.specs.Spots.{Spot, Own, Held, Kept}
use Rattle.hal_states.specs.Modes.{Mode}
use Rattle.hal_meaning.specs.Bodies.{Body}
use Rattle.hal_meaning.specs.Calls.{Parameter, Passed, Plain, Whole, parameter_named, stored_parameter, begun, entering, zero_of, is_function, result_of, bound, stored_parameters, inputs_of, outputs_of, left_with, run_call, made_call, call}
use Rattle.hal_meaning.specs.Elements.{kinds_of}
use Rattle.hal_meaning.specs.Expressions.{inputs_at, outputs_at}
use Rattle.hal_meaning.specs.ReportNames.{first_place}
use Rattle.hal_meaning.specs.Sets.{Set, body_at}
use Rattle.hal_meaning.specs.Variables.{kind_of_first, is_whole}
use Rattle.hal_meaning.specs.Marks.{handling_in}
use Rattle.hal_meaning.specs.States.{State, state, with_entries, with_places, Evaluated, Gives, Asks, Caught, Restarts, Lost, bind, Flow, Normal, Leaves, Repeats, Returned}
use Rattle.hal_meaning.specs.Access as tree
use Rattle.hal_meaning.specs.Access.{Here, raise, turn}
use Rattle.hal_meaning.specs.Runs.{ended}
use Rattle.hal_meaning.specs.Tasks.{Meaning, Entering}
use Rattle.hal_code.specs.declared.instr.Instr.TheVariants as instr
use Rattle.hal_code.specs.declared.row.Block.{Block}
use Rattle.hal_code.specs.Cores.{Operand, Val, At, Area, Core, core, Setting, Goes, going, Step, Moves}
use Rattle.hal_code.specs.Raising.{stuck, turned, raised}
use Rattle.hal_code.specs.Controlling as controlling
use Rattle.hal_code.specs.Images as machine
use Rattle.hal_code.specs.Addressing.{copied}
use Rattle.hal_code.specs.Controlling.{with_result, calling}
use Rattle.hal_agreement.specs.Codes.{Code}
use Rattle.hal_agreement.specs.Sites.{site_of}
use Rattle.hal_agreement.specs.PlacedExpressions.{Has, One, pushes, AddressAt, BoundAt, EitherAt, ParameterAt, ParametersAt, CallAt}
use Rattle.hal_agreement.specs.PlacedStatements.{of_block}
use Rattle.hal_agreement.specs.PlacedBlocks.{leaving_by, EndAt, UnitAt}
use Rattle.hal_agreement.proofs.Handling.{HandledAt, each_handled}
use Rattle.hal_agreement.proofs.Knowing.{Out, flow_to, Leads_out, Ending, Sound}
use Rattle.hal_agreement.proofs.Leading.{Leads, stays, through, acts_to}
use Rattle.hal_agreement.proofs.Reaching.{Nest, nest, behind, coded_entries, setting, core_at, Holds, Reaches, OnStep, before, bind_reaches, bind_on, acts}
use Rattle.hal_agreement.proofs.Searching.{above, coded_above}
use Rattle.hal_agreement.proofs.Raising.{Standing, store_reaches, raised_reaches, turned_at}
use Rattle.hal_agreement.proofs.Viewing.{address_reaches}
use Rattle.hal_agreement.proofs.Copying.{copied_reaches}

-- the result that a call wants, and the operands with it
abbrev wanted_by : Bool → Head → Option Value
wanted_by false head = None
wanted_by true head = Some (zero_of head)

abbrev pushed_result : Option Value → Value → List Operand → List Operand
pushed_result None v stack = stack
pushed_result (Some zero_value) v stack = Val v ∷ stack

-- the same call where this result is wanted
abbrev called_with : Option Value → Setting → Block → Core → Step
called_with wanted s row c = turned (raised s (error 1 8) (going (suc c.at) (with_result wanted c.stack) c)) (core row.first [] [] [] (calling wanted c ∷ c.frames) c.kept c.mode)

-- whether the end of a unit is that of a FUNCTION
abbrev function_of : Option Body → Bool
function_of o = elim o [ None ↦ false | Some x ↦ is_function x.head ]

-- the names of the parameters of a unit
abbrev inputs_by : Option Body → List Naming
inputs_by o = elim o [ None ↦ [] | Some b ↦ inputs_of b.head ]

abbrev outputs_by : Option Body → List Naming
outputs_by o = elim o [ None ↦ [] | Some b ↦ outputs_of b.head ]

-- a FUNCTION has no ASSIGN parameters
none_assigned : (head : Head) → is_function head ≡ true → outputs_of head ≡ []
none_assigned (Function place inputs returns mode) is = refl
none_assigned (Procedure place inputs outputs mode) is = absurd (cc)
none_assigned (Program place) is = refl
none_assigned (Compool place) is = refl
none_assigned (Task place) is = refl

-- the unit that is found has the number that was looked for
number_among : (k : ℕ) (bodies : List Body) (b : Body) → find (λ (one : Body). one.number == k) bodies ≡ Some b → b.number ≡ k
number_among k [] b is = absurd (cc)
number_among k (one ∷ others) b is = by (one.number == k) refl is (λ later. number_among k others b later)
  where
    by : (same : Bool) → (one.number == k) ≡ same → (if same then Some one else find (λ (other : Body). other.number == k) others) ≡ Some b
        → (find (λ (other : Body). other.number == k) others ≡ Some b → b.number ≡ k) → b.number ≡ k
    by true same found later = ap (λ o. elim o [ None ↦ k | Some x ↦ x.number ]) (sym found) ∙ eqb-true one.number k same
    by false same found later = later found

number_same : (s : Set) (unit : ℕ) (b : Body) → body_at s unit ≡ Some b → b.number ≡ unit
number_same s unit b is = number_among unit s.bodies b is

-- the end of a unit says which result it has
result_same : (code : Code) (function : Bool) (head : Head) (row : Block) (at : ℕ) → EndAt code function head row at → controlling.zero_of row.result ≡ wanted_by function head
result_same code false head row at here = here.1
result_same code true head row at here = here.3

module _ (code : Code) (begin : ℕ) (rec : Meaning) (sound : Sound code begin rec) (h : Here) (n : Nest) (standing : Standing code h n) where
  module _ (b : Body) (function : Bool) (from : ℕ) (stack : List Operand) (line : List ℕ) (st : State) (handler : ℕ → ℕ) where
    -- the blocks once the unit is entered
    abbrev inner : Nest
    inner = nest (calling (wanted_by function b.head) (core_at from stack line n st) ∷ n.frames) (above handler n.spot) 0

    stands_inside : Standing code (entering h st.entries b) inner
    stands_inside = record {
      units = standing.units;
      process = standing.process;
      entered = λ es. ap (λ rest. entered (coded_entries handler es) false ∷ rest) (standing.entered st.entries ∙ sym (coded_above handler n.spot 0 (tree.all_entered h st.entries)));
      unleft = refl;
    }

    -- control is back, with this value
    abbrev goes_back : Value → State → Step
    goes_back v after = Moves (core_at (suc from) (pushed_result (wanted_by function b.head) v stack) line n (with_entries st.entries after))

    abbrev fine : Flow → State → Option Step
    fine flow after = Some (goes_back (result_of b.head flow) after)

    fewer : (level size : ℕ) → suc level ≤ suc size → level ≤ size
    fewer level size few = omega (arith, few)

    -- a unit is left
    left_holds : (step : Step) (left : List Answered) (r : Evaluated Flow) → Holds (setting code begin h) (behind inner) fine step left r
        → Holds (setting code begin h) n (λ flow after. Some (Moves (core_at (suc from) (pushed_result (wanted_by function b.head) (result_of b.head flow) stack) line n after))) step left (left_with st.entries r)
    left_holds step left (Gives flow after) is = is
    left_holds step left (Asks r k m) is = is
    left_holds step left (Caught zero place after) is = absurd (omega (arith, is.0.deep))
    left_holds step left (Caught (suc level) place after) is = (record { deep = omega (arith, standing.unleft); few = fewer level (length n.frames) is.0.few; turns = is.0.turns }, is.1)
    left_holds step left (Restarts k rest) is = is
    left_holds step left Lost is = tt

  -- where RETURN leads
  abbrev out_by : Bool → ℕ → List Operand → List ℕ → State → Out
  out_by false from stack line st v after = Some (Moves (core_at (suc from) stack line n (with_entries st.entries after)))
  out_by true from stack line st None after = None
  out_by true from stack line st (Some v) after = Some (Moves (core_at (suc from) (Val v ∷ stack) line n (with_entries st.entries after)))

  returns_by : (function : Bool) (b : Body) (from : ℕ) (stack : List Operand) (line : List ℕ) (st : State) (handler : ℕ → ℕ)
      → Leads_out code begin (entering h st.entries b) (inner b function from stack line st handler) (leaving_by function) (out_by function from stack line st)
  returns_by false b from stack line st handler = record {
    without = λ at to after one. acts_to (setting code begin h) instr.Return (core_at at [] [] (inner b false from stack line st handler) after) after.left _ one.0 refl;
    with_value = λ v at after same has. absurd (cc);
  }
  returns_by true b from stack line st handler = record {
    without = λ at to after one. absurd one;
    with_value = λ v at after same has. acts_to (setting code begin h) instr.Return (core_at at (Val v ∷ []) [] (inner b true from stack line st handler) after) after.left _ has refl;
  }

  zero_leads : (v : Value) (b : Body) (at from : ℕ) (stack : List Operand) (line : List ℕ) (st : State) (handler : ℕ → ℕ) (after : State) → Has code at (pushes v) → Has code (suc at) instr.Return
      → Leads (setting code begin h) (Moves (core_at at [] [] (inner b true from stack line st handler) after)) after.left (Moves (core_at (suc from) (Val v ∷ stack) line n (with_entries st.entries after))) after.left
  zero_leads (value.Int a) b at from stack line st handler after pushed returns =
      through (setting code begin h) _ _ _ after.left after.left after.left
      (acts_to (setting code begin h) (instr.Int a) (core_at at [] [] (inner b true from stack line st handler) after) after.left (Moves (core_at (suc at) (Val (value.Int a) ∷ []) [] (inner b true from stack line st handler) after)) pushed refl)
      (acts_to (setting code begin h) instr.Return (core_at (suc at) (Val (value.Int a) ∷ []) [] (inner b true from stack line st handler) after) after.left _ returns refl)
  zero_leads (value.Bits len word) b at from stack line st handler after pushed returns =
      through (setting code begin h) _ _ _ after.left after.left after.left
      (acts_to (setting code begin h) (instr.Bits len word) (core_at at [] [] (inner b true from stack line st handler) after) after.left
      (Moves (core_at (suc at) (Val (value.Bits len word) ∷ []) [] (inner b true from stack line st handler) after)) pushed refl)
      (acts_to (setting code begin h) instr.Return (core_at (suc at) (Val (value.Bits len word) ∷ []) [] (inner b true from stack line st handler) after) after.left _ returns refl)
  zero_leads (value.Text text) b at from stack line st handler after pushed returns =
      through (setting code begin h) _ _ _ after.left after.left after.left
      (acts_to (setting code begin h) (instr.Text text) (core_at at [] [] (inner b true from stack line st handler) after) after.left
      (Moves (core_at (suc at) (Val (value.Text text) ∷ []) [] (inner b true from stack line st handler) after)) pushed refl)
      (acts_to (setting code begin h) instr.Return (core_at (suc at) (Val (value.Text text) ∷ []) [] (inner b true from stack line st handler) after) after.left _ returns refl)

  -- the end of a unit
  ends_by : (function : Bool) (b : Body) (row : Block) (from finish : ℕ) (stack : List Operand) (line : List ℕ) (st : State) (handler : ℕ → ℕ) → EndAt code function b.head row finish → (flow : Flow) (after : State)
      → OnStep (flow_to (of_block (leaving_by function) handler) (out_by function from stack line st) (inner b function from stack line st handler) finish flow after)
      (λ to. Reaches (setting code begin h) (inner b function from stack line st handler) (fine b function from stack line st handler) to after.left (ended (entering h st.entries b) function flow after))
  ends_by false b row from finish stack line st handler here Normal after =
      record { holds = acts_to (setting code begin h) instr.Return (core_at finish [] [] (inner b false from stack line st handler) after) after.left _ here.0 refl }
  ends_by false b row from finish stack line st handler here (Leaves label) after = tt
  ends_by false b row from finish stack line st handler here (Repeats label) after = tt
  ends_by false b row from finish stack line st handler here (Returned v) after = record { holds = stays (setting code begin h) _ after.left }
  ends_by true b row from finish stack line st handler here Normal after =
      acts (setting code begin h) (inner b true from stack line st handler) (fine b true from stack line st handler) (core_at finish [] [] (inner b true from stack line st handler) after) after.left (instr.Raise 1 7) _ here.0
      (raised_reaches code begin (entering h st.entries b) (inner b true from stack line st handler) (stands_inside b true from stack line st handler) (fine b true from stack line st handler) (error 1 7) Goes (suc finish) [] [] after
      (λ ignored later. Gives (Returned None) later)
      (λ later. record { holds = zero_leads (zero_of b.head) b (suc finish) from stack line st handler later here.1 here.2 }))
  ends_by true b row from finish stack line st handler here (Leaves label) after = tt
  ends_by true b row from finish stack line st handler here (Repeats label) after = tt
  ends_by true b row from finish stack line st handler here (Returned None) after = tt
  ends_by true b row from finish stack line st handler here (Returned (Some v)) after = record { holds = stays (setting code begin h) _ after.left }

  -- the unit as a block
  ending_by : (function : Bool) (b : Body) (row : Block) (from : ℕ) (stack : List Operand) (line : List ℕ) (st : State) (at : UnitAt code h.set h.places b row) → is_function b.head ≡ function
      → Ending code begin (entering h st.entries b) (inner b function from stack line st at.handler) (leaving_by function) (out_by function from stack line st) at.finish (fine b function from stack line st at.handler)
  ending_by function b row from stack line st at same = record {
    each = subst (λ f. (place : ℕ) → HandledAt code (site_of (entering h st.entries b)) (of_block (leaving_by f) at.handler) (handling_in place 0 b.statements) (at.handler place) at.finish) same
        (each_handled code (site_of (entering h st.entries b)) (of_block (leaving_by (is_function b.head)) at.handler) at.finish 0 b.statements at.start at.statements at.leads_out);
    returns = returns_by function b from stack line st at.handler;
    ends = λ flow after. subst (λ f. OnStep (flow_to (of_block (leaving_by function) at.handler) (out_by function from stack line st) (inner b function from stack line st at.handler) at.finish flow after)
        (λ to. Reaches (setting code begin h) (inner b function from stack line st at.handler) (fine b function from stack line st at.handler) to after.left (ended (entering h st.entries b) f flow after)))
        (sym (ap function_of at.found ∙ same))
        (ends_by function b row from at.finish stack line st at.handler (subst (λ f. EndAt code f b.head row at.finish) same at.ends) flow after);
  }

  entered_reaches : (function : Bool) (b : Body) (row : Block) (from : ℕ) (stack : List Operand) (line : List ℕ) (st : State) (at : UnitAt code h.set h.places b row) → is_function b.head ≡ function → (k : Kept) (m : Mode) (rest : List Answered)
      → Reaches (setting code begin h) (behind (inner b function from stack line st at.handler)) (fine b function from stack line st at.handler) (Moves (core row.first [] [] [] (calling (wanted_by function b.head) (core_at from stack line n st) ∷ n.frames) k m)) rest
      (rec (Entering (entering h st.entries b)) (with_places (begun h.set b.number h.places k.places) (state k [] m rest)))
  entered_reaches function b row from stack line st at same k m rest =
      sound.enters h st.entries b (inner b function from stack line st at.handler) row at (out_by function from stack line st) (fine b function from stack line st at.handler) (stands_inside b function from stack line st at.handler) (λ place. refl)
      (subst (λ f. Ending code begin (entering h st.entries b) (inner b function from stack line st at.handler) (leaving_by f) (out_by function from stack line st) at.finish (fine b function from stack line st at.handler)) (sym same)
      (ending_by function b row from stack line st at same)) (state k [] m rest)

  -- the call isn't made
  abbrev unmade : Bool → Body → ℕ → List Operand → List ℕ → Bool → State → Option Step
  unmade function b from stack line true after = None
  unmade function b from stack line false after = Some (Moves (core_at (suc from) (with_result (wanted_by function b.head) stack) line n after))

  spent_reaches : (function : Bool) (b : Body) (from : ℕ) (stack : List Operand) (line : List ℕ) (made : Bool) (after : State)
      → OnStep (unmade function b from stack line made after)
      (λ x. Reaches (setting code begin h) n (λ v later. Some (Moves (core_at (suc from) (pushed_result (wanted_by function b.head) v stack) line n later))) x after.left (run_call rec h b made after))
  spent_reaches function b from stack line true after = tt
  spent_reaches true b from stack line false after = record { holds = stays (setting code begin h) _ after.left }
  spent_reaches false b from stack line false after = record { holds = stays (setting code begin h) _ after.left }

  -- the call, where its turn began or didn't
  run_reaches : (function : Bool) (b : Body) (row : Block) (from : ℕ) (stack : List Operand) (line : List ℕ) (st : State) (at : UnitAt code h.set h.places b row) → is_function b.head ≡ function
      → Reaches (setting code begin h) n (λ v after. Some (Moves (core_at (suc from) (pushed_result (wanted_by function b.head) v stack) line n after))) (called_with (wanted_by function b.head) (setting code begin h) row (core_at from stack line n st)) st.left
      (bind (turn h st) (λ made begins. run_call rec h b made begins))
  run_reaches function b row from stack line st at same =
      turned_at code begin h n _ _ row.first [] [] [] (calling (wanted_by function b.head) (core_at from stack line n st) ∷ n.frames) st (λ made begins. run_call rec h b made begins)
      (λ k m rest. bind_reaches (setting code begin h) n (λ flow after. Moves (core_at (suc from) (pushed_result (wanted_by function b.head) (result_of b.head flow) stack) line n after)) _ _ rest
      (left_with st.entries (rec (Entering (entering h st.entries b)) (with_places (begun h.set b.number h.places k.places) (with_entries [] (state k st.entries m rest))))) (λ flow after. Gives (result_of b.head flow) after)
      (record { holds = left_holds b function from stack line st at.handler _ rest _ (entered_reaches function b row from stack line st at same k m rest).holds })
      (λ flow after. record { holds = stays (setting code begin h) _ after.left }))
      (λ spent. bind_on (setting code begin h) n (λ made after. unmade function b from stack line made after) _ _ st.left (bind (raise h (error 1 8) st) (λ ignored after. Gives false after)) (λ made begins. run_call rec h b made begins)
      (raised_reaches code begin h n standing (λ made after. unmade function b from stack line made after) (error 1 8) Goes (suc from) (with_result (wanted_by function b.head) stack) line st (λ ignored after. Gives false after)
      (λ after. record { holds = stays (setting code begin h) _ after.left }))
      (λ made after. spent_reaches function b from stack line made after))

  -- something is done, and control goes on there
  abbrev Done : ℕ → List Operand → List ℕ → Step → List Answered → Evaluated (Unit {0}) → Type 0
  Done to stack line step left r = Reaches (setting code begin h) n (λ (done : Unit {0}) after. Some (Moves (core_at to stack line n after))) step left r

  -- an operand is an argument for a parameter
  abbrev pub IsArgument : Parameter → Passed → Operand → Type 0
  IsArgument p (Plain v) o = (is_whole p.shape ≡ false) × (o ≡ Val v)
  IsArgument p (Whole from) o = (is_whole p.shape ≡ true) × (shape : ℕ) × (machine.kinds_of code.image shape ≡ kinds_of p.shape) × (o ≡ Area from shape)

  -- arguments for the parameters of a unit lie above these operands, the last one on top
  abbrev pub AreArguments : ℕ → List Naming → List Passed → List Operand → List Operand → Type 0
  AreArguments unit [] [] under over = under ≡ over
  AreArguments unit (name ∷ names) (p ∷ ps) under over = (o : Operand) × IsArgument (parameter_named h.set unit name) p o × AreArguments unit names ps (o ∷ under) over
  AreArguments unit names ps under over = ⊥

  -- and so do the addresses of ASSIGN arguments
  abbrev pub AreAssigned : List Naming → List Spot → List Operand → List Operand → Type 0
  AreAssigned [] [] under over = under ≡ over
  AreAssigned (name ∷ names) (at ∷ spots) under over = (shape : ℕ) × AreAssigned names spots (Area at shape ∷ under) over
  AreAssigned names spots under over = ⊥

  -- the references of ASSIGN parameters are kept, from the last to the first
  bound_leads : (unit : ℕ) (names : List Naming) (spots : List Spot) (from to : ℕ) (under over : List Operand) (line : List ℕ) (st : State) → BoundAt code (site_of h) unit names from to → AreAssigned names spots under over
      → Leads (setting code begin h) (Moves (core_at from over line n st)) st.left (Moves (core_at to under line n (with_places (bound h unit names spots st.kept.places) st))) st.left
  bound_leads unit [] [] from to under over line st same is =
      subst (λ end. Leads (setting code begin h) (Moves (core_at from over line n st)) st.left (Moves (core_at end under line n st)) st.left) same
      (subst (λ below. Leads (setting code begin h) (Moves (core_at from over line n st)) st.left (Moves (core_at from below line n st)) st.left) (sym is) (stays (setting code begin h) _ st.left))
  bound_leads unit (name ∷ names) (at ∷ spots) from to under over line st here is =
      subst (λ end. Leads (setting code begin h) (Moves (core_at from over line n st)) st.left (Moves (core_at end under line n (with_places (bound h unit (name ∷ names) (at ∷ spots) st.kept.places) st))) st.left) here.2.1
      (through (setting code begin h) _ _ _ st.left st.left st.left (bound_leads unit names spots from here.0 (Area at is.0 ∷ under) over line st here.1 is.1)
      (acts_to (setting code begin h) (instr.Bind (first_place h.places (parameter_named h.set unit name).number))
      (core_at here.0 (Area at is.0 ∷ under) line n (with_places (bound h unit names spots st.kept.places) st)) st.left _ here.2.0 refl))
  bound_leads unit [] (at ∷ spots) from to under over line st here is = absurd is
  bound_leads unit (name ∷ names) [] from to under over line st here is = absurd is

  -- a parameter of one element gets its value
  value_reaches : (p : Parameter) (v : Value) (from to : ℕ) (stack : List Operand) (line : List ℕ) (st : State)
      → AddressAt code st.kept.places (kind_of_first p.shape.components) (Own (first_place h.places p.number)) from → One code (suc from) instr.Keep to
      → Done to stack line (Moves (core_at from (Val v ∷ stack) line n st)) st.left (stored_parameter h p (Plain v) st)
  value_reaches p v from to stack line st at one =
      subst (λ end. Done end stack line (Moves (core_at from (Val v ∷ stack) line n st)) st.left (stored_parameter h p (Plain v) st)) one.1
      (address_reaches code begin h n _ (kind_of_first p.shape.components) (Own (first_place h.places p.number)) from (Val v ∷ stack) line st _ at
      (acts (setting code begin h) n _ (core_at (suc from) (At (Own (first_place h.places p.number)) (kind_of_first p.shape.components) ∷ Val v ∷ stack) line n st) st.left instr.Keep _ one.0
      (store_reaches code begin h n standing (suc (suc from)) stack line (kind_of_first p.shape.components) (Own (first_place h.places p.number)) v st)))

  -- an array or a structure gets the elements of its argument
  whole_reaches : (p : Parameter) (at : Spot) (shape from to : ℕ) (stack : List Operand) (line : List ℕ) (st : State) → machine.kinds_of code.image shape ≡ kinds_of p.shape
      → One code from (instr.Copy (first_place h.places p.number)) to → Done to stack line (Moves (core_at from (Area at shape ∷ stack) line n st)) st.left (stored_parameter h p (Whole at) st)
  whole_reaches p at shape from to stack line st same one =
      subst (λ end. Done end stack line (Moves (core_at from (Area at shape ∷ stack) line n st)) st.left (stored_parameter h p (Whole at) st)) one.1
      (acts (setting code begin h) n _ (core_at from (Area at shape ∷ stack) line n st) st.left (instr.Copy (first_place h.places p.number)) _ one.0
      (subst (λ ks. Done (suc from) stack line (copied (setting code begin h) ks at (first_place h.places p.number) (core_at (suc from) stack line n st)) st.left (stored_parameter h p (Whole at) st)) (sym same)
      (copied_reaches code begin h n (suc from) stack line (kinds_of p.shape) at (first_place h.places p.number) st)))

  -- the code for a parameter of one element, and that for another one
  abbrev KeepsValue : Parameter → ℕ → ℕ → Type 0
  KeepsValue p from to = ((held : List Held) → AddressAt code held (kind_of_first p.shape.components) (Own (first_place h.places p.number)) from) × One code (suc from) instr.Keep to

  abbrev CopiesCells : Parameter → ℕ → ℕ → Type 0
  CopiesCells p from to = One code from (instr.Copy (first_place h.places p.number)) to

  parameter_reaches : (p : Parameter) (passed : Passed) (o : Operand) (from to : ℕ) (stack : List Operand) (line : List ℕ) (st : State) → ParameterAt code (site_of h) p from to → IsArgument p passed o
      → Done to stack line (Moves (core_at from (o ∷ stack) line n st)) st.left (stored_parameter h p passed st)
  parameter_reaches p (Plain v) o from to stack line st here is =
      subst (λ one. Done to stack line (Moves (core_at from (one ∷ stack) line n st)) st.left (stored_parameter h p (Plain v) st)) (sym is.1) (value_reaches p v from to stack line st (at.0 st.kept.places) at.1)
    where
      at : KeepsValue p from to
      at = subst (λ whole. EitherAt whole (λ begins ends. CopiesCells p begins ends) (λ begins ends. KeepsValue p begins ends) from to) is.0 here
  parameter_reaches p (Whole spot) o from to stack line st here is =
      subst (λ one. Done to stack line (Moves (core_at from (one ∷ stack) line n st)) st.left (stored_parameter h p (Whole spot) st)) (sym is.3)
      (whole_reaches p spot is.1 from to stack line st is.2 (subst (λ whole. EitherAt whole (λ begins ends. CopiesCells p begins ends) (λ begins ends. KeepsValue p begins ends) from to) is.0 here))

  -- parameters get their arguments, from the last to the first
  stored_reaches : (unit : ℕ) (names : List Naming) (ps : List Passed) (from to : ℕ) (under over : List Operand) (line : List ℕ) (st : State) → ParametersAt code (site_of h) unit names from to → AreArguments unit names ps under over
      → Done to under line (Moves (core_at from over line n st)) st.left (stored_parameters h unit names ps st)
  stored_reaches unit [] [] from to under over line st same is =
      subst (λ end. Done end under line (Moves (core_at from over line n st)) st.left (Gives tt st)) same
      (subst (λ below. Done from below line (Moves (core_at from over line n st)) st.left (Gives tt st)) (sym is) (record { holds = stays (setting code begin h) _ st.left }))
  stored_reaches unit (name ∷ names) (p ∷ ps) from to under over line st here is =
      bind_reaches (setting code begin h) n (λ done after. Moves (core_at here.0 (is.0 ∷ under) line n after)) _ (Moves (core_at from over line n st)) st.left (stored_parameters h unit names ps st)
      (λ done after. stored_parameter h (parameter_named h.set unit name) p after) (stored_reaches unit names ps from here.0 (is.0 ∷ under) over line st here.1 is.2)
      (λ done after. parameter_reaches (parameter_named h.set unit name) p is.0 here.0 to under line after here.2 is.1)
  stored_reaches unit [] (p ∷ ps) from to under over line st here is = absurd is
  stored_reaches unit (name ∷ names) [] from to under over line st here is = absurd is

  -- what a call comes to, of a unit that is found
  abbrev call_by : Option Body → List Passed → List Spot → State → Evaluated Value
  call_by o ps spots st = elim o [ None ↦ Gives (value.Int (pos 0)) st | Some b ↦ made_call rec h b ps spots st ]

  called_reaches : (unit : ℕ) (function : Bool) (from to : ℕ) (stack : List Operand) (line : List ℕ) (st : State) (here : CallAt code (site_of h) unit function from to)
      → Reaches (setting code begin h) n (λ v after. Some (Moves (core_at to (pushed_result (wanted_by function here.body.head) v stack) line n after))) (Moves (core_at here.middle stack line n st)) st.left
      (bind (turn h st) (λ made begins. run_call rec h here.body made begins))
  called_reaches unit function from to stack line st here =
      subst (λ end. Reaches (setting code begin h) n (λ v after. Some (Moves (core_at end (pushed_result (wanted_by function here.body.head) v stack) line n after))) (Moves (core_at here.middle stack line n st)) st.left
      (bind (turn h st) (λ made begins. run_call rec h here.body made begins))) here.call.1
      (acts (setting code begin h) n _ (core_at here.middle stack line n st) st.left (instr.Call here.number) _ here.call.0
      (subst (λ o. Reaches (setting code begin h) n (λ v after. Some (Moves (core_at (suc here.middle) (pushed_result (wanted_by function here.body.head) v stack) line n after)))
      (elim o [ None ↦ stuck (core_at here.middle stack line n st) | Some row ↦ controlling.called (setting code begin h) row (core_at here.middle stack line n st) ]) st.left (bind (turn h st) (λ made begins. run_call rec h here.body made begins))) (sym here.block)
      (subst (λ w. Reaches (setting code begin h) n (λ v after. Some (Moves (core_at (suc here.middle) (pushed_result (wanted_by function here.body.head) v stack) line n after)))
      (called_with w (setting code begin h) here.row (core_at here.middle stack line n st)) st.left (bind (turn h st) (λ made begins. run_call rec h here.body made begins)))
      (sym (result_same code function here.body.head here.row at.finish (subst (λ f. EndAt code f here.body.head here.row at.finish) here.gives at.ends)))
      (run_reaches function here.body here.row here.middle stack line st at here.gives))))
    where
      at : UnitAt code h.set h.places here.body here.row
      at = standing.units unit here.number here.body here.row here.named here.found here.block

  -- a call of the unit, behind its arguments
  made_reaches : (unit : ℕ) (function : Bool) (ps : List Passed) (spots : List Spot) (from to : ℕ) (under over top : List Operand) (line : List ℕ) (st : State) (here : CallAt code (site_of h) unit function from to)
      → AreArguments here.body.number (inputs_of here.body.head) ps under over → AreAssigned (outputs_of here.body.head) spots over top
      → Reaches (setting code begin h) n (λ v after. Some (Moves (core_at to (pushed_result (wanted_by function here.body.head) v under) line n after))) (Moves (core_at from top line n st)) st.left (made_call rec h here.body ps spots st)
  made_reaches unit function ps spots from to under over top line st here are assigned =
      before (setting code begin h) n _ (Moves (core_at from top line n st)) st.left (Moves (core_at here.bound over line n (with_places (bound h here.body.number (outputs_of here.body.head) spots st.kept.places) st))) st.left _
      (bound_leads here.body.number (outputs_of here.body.head) spots from here.bound over top line st here.references assigned)
      (bind_reaches (setting code begin h) n (λ done after. Moves (core_at here.middle under line n after)) _ _ st.left
      (stored_parameters h here.body.number (inputs_of here.body.head) ps (with_places (bound h here.body.number (outputs_of here.body.head) spots st.kept.places) st))
      (λ stored after. bind (turn h after) (λ made begins. run_call rec h here.body made begins))
      (stored_reaches here.body.number (inputs_of here.body.head) ps here.bound here.middle under over line (with_places (bound h here.body.number (outputs_of here.body.head) spots st.kept.places) st) here.parameters are)
      (λ done after. called_reaches unit function from to under line after here))

  -- the same, of what the code says of the unit
  pub call_reaches : (unit : ℕ) (function : Bool) (ps : List Passed) (spots : List Spot) (from to : ℕ) (under over top : List Operand) (line : List ℕ) (st : State) (here : CallAt code (site_of h) unit function from to)
      → AreArguments unit (inputs_at h.set unit) ps under over → AreAssigned (outputs_at h.set unit) spots over top
      → Reaches (setting code begin h) n (λ v after. Some (Moves (core_at to (pushed_result (wanted_by function here.body.head) v under) line n after))) (Moves (core_at from top line n st)) st.left (call rec h unit ps spots st)
  call_reaches unit function ps spots from to under over top line st here are assigned =
      subst (λ o. Reaches (setting code begin h) n (λ v after. Some (Moves (core_at to (pushed_result (wanted_by function here.body.head) v under) line n after))) (Moves (core_at from top line n st)) st.left (call_by o ps spots st))
      (sym here.found)
      (made_reaches unit function ps spots from to under over top line st here
      (subst (λ number. AreArguments number (inputs_of here.body.head) ps under over) (sym (number_same h.set unit here.body here.found))
      (subst (λ names. AreArguments unit names ps under over) (ap inputs_by here.found) are))
      (subst (λ names. AreAssigned names spots over top) (ap outputs_by here.found) assigned))

  -- the value of a FUNCTION, behind its arguments
  pub function_reaches : (unit : ℕ) (ps : List Passed) (from to : ℕ) (under over : List Operand) (line : List ℕ) (st : State) → CallAt code (site_of h) unit true from to → AreArguments unit (inputs_at h.set unit) ps under over
      → Reaches (setting code begin h) n (λ v after. Some (Moves (core_at to (Val v ∷ under) line n after))) (Moves (core_at from over line n st)) st.left (call rec h unit ps [] st)
  function_reaches unit ps from to under over line st here are =
      call_reaches unit true ps [] from to under over over line st here are
      (subst (λ names. AreAssigned names [] over over) (sym (ap outputs_by here.found ∙ none_assigned here.body.head here.gives)) refl)
