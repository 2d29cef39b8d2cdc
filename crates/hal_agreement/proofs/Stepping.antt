-- The code of a DO FOR with TO does what the tree says.
use Rattle.std.specs.Prelude.{ℕ, suc, Bool, true, false, not, List, [], ◌∷◌, pos, Option, Some, None, if◌then◌else◌}
use Rattle.hal_grammar.specs.Leaves.{Naming}
use Rattle.hal_grammar.specs.Expressions.{Expression}
use Rattle.hal_grammar.specs.Statements.{Guard}
use Rattle.hal_values.specs.declared.value.Value.{Value}
use Rattle.hal_values.specs.declared.value.Value.TheVariants as value
use Rattle.hal_meaning.specs.Access.{Here}
use Rattle.hal_meaning.specs.Expressions.{expression}
use Rattle.hal_meaning.specs.States.{State, Evaluated, Gives, bind, Flow}
use Rattle.hal_meaning.specs.Statements.{turn_if, kept_at, held_at, variable_read, step_of, bounds_kept, variable_kept, is_over, begun_stepping, span_begins, next_stored, next_stepping}
use Rattle.hal_meaning.specs.Tasks.{Meaning}
use Rattle.hal_code.specs.Cores.{Operand, Val, Step, Moves}
use Rattle.hal_code.specs.declared.instr.Instr.TheVariants as instr
use Rattle.hal_agreement.specs.Codes.{Code}
use Rattle.hal_agreement.specs.Sites.{site_of}
use Rattle.hal_agreement.specs.PlacedExpressions.{Has}
use Rattle.hal_agreement.specs.PlacedGroups.{HoldsAt, NextAt}
use Rattle.hal_agreement.specs.PlacedStatements.{opened, Exits, within_group, VariableAt, VariableValueAt, FirstSpanAt, LaterSpanAt, StepAt, BegunAt, SteppingAt}
use Rattle.hal_agreement.proofs.Expressing.{expression_reaches}
use Rattle.hal_agreement.proofs.Keeping.{keeps_reaches, holds_reaches, bounds_reaches, next_reaches}
use Rattle.hal_agreement.proofs.Knowing.{flow_to, Out, Sound}
use Rattle.hal_agreement.proofs.Leading.{stays}
use Rattle.hal_agreement.proofs.Listing.{At_step, Each, variable_reaches, variable_value, first_span_reaches, later_span_reaches}
use Rattle.hal_agreement.proofs.Raising.{Standing}
use Rattle.hal_agreement.proofs.Reaching.{Nest, setting, core_at, Reaches, bind_reaches}
use Rattle.hal_agreement.proofs.Stating.{FlowsAt, final, turn_reaches}

module _ (code : Code) (begin : ℕ) (rec : Meaning) (sound : Sound code begin rec) (h : Here) (n : Nest) (standing : Standing code h n) (out : Out) where
  -- control goes on here
  abbrev On : ℕ → State → Step
  On at st = At_step code begin rec sound h n standing out at st

  -- where control goes on by what something comes to
  abbrev by_value : ℕ → ℕ → Bool → State → Option Step
  by_value to exit b after = Some (On (if b then to else exit) after)

  -- the variable gets the value that is kept
  variable_kept_reaches : {A : Type 0} (fine : A → State → Option Step) (name : List ℕ) (place from middle to : ℕ) (st : State) (go : State → Evaluated A) → HoldsAt code (suc (suc place)) from middle
      → VariableAt code (site_of h) name middle to → ((after : State) → Reaches (setting code begin h) n fine (On to after) after.left (go after))
      → Reaches (setting code begin h) n fine (On from st) st.left (bind (variable_kept h name place st) (λ done after. go after))
  variable_kept_reaches fine name place from middle to st go held stored each =
      holds_reaches code begin h n fine (suc (suc place)) from middle [] st _ held
      (bind_reaches (setting code begin h) n (λ done after. On to after) fine _ st.left (variable_kept h name place st) (λ done after. go after)
      (variable_reaches code begin rec sound h n standing out name (held_at (suc (suc place)) st) middle to st stored) (λ done after. each after))

  step_reaches : (step : Option Expression) (from to : ℕ) (stack : List Operand) (st : State) → StepAt code (site_of h) step from to
      → Reaches (setting code begin h) n (λ v after. Some (Moves (core_at to (Val v ∷ stack) [] n after))) (Moves (core_at from stack [] n st)) st.left (step_of rec h step st)
  step_reaches None from to stack st here =
      final code begin rec sound h n standing out (λ end v after. Some (Moves (core_at end (Val v ∷ stack) [] n after))) (instr.Int (pos 1)) from to stack [] st (Gives (value.Int (pos 1)) st) here
      (record { holds = stays (setting code begin h) _ st.left })
  step_reaches (Some tree) from to stack st here = expression_reaches code begin rec sound h n standing tree from to stack [] st here

  -- the beginning
  begun_reaches : (name : List ℕ) (place : ℕ) (first last : Expression) (step : Option Expression) (from exit to : ℕ) (st : State) → BegunAt code (site_of h) name place first last step from exit to
      → Reaches (setting code begin h) n (by_value to exit) (On from st) st.left (begun_stepping rec h name place first last step st)
  begun_reaches name place first last step from exit to st here =
      bind_reaches (setting code begin h) n (λ v after. Moves (core_at here.0 (Val v ∷ []) [] n after)) (by_value to exit) _ st.left (expression rec h first st) _
      (expression_reaches code begin rec sound h n standing first from here.0 [] [] st here.8)
      (λ v st1. bind_reaches (setting code begin h) n (λ w after. Moves (core_at here.1 (Val w ∷ Val v ∷ []) [] n after)) (by_value to exit) _ st1.left (expression rec h last st1) _
      (expression_reaches code begin rec sound h n standing last here.0 here.1 (Val v ∷ []) [] st1 here.9)
      (λ w st2. bind_reaches (setting code begin h) n (λ u after. Moves (core_at here.2 (Val u ∷ Val w ∷ Val v ∷ []) [] n after)) (by_value to exit) _ st2.left (step_of rec h step st2) _
      (step_reaches step here.1 here.2 (Val w ∷ Val v ∷ []) st2 here.10)
      (λ u st3. kept_bounds v w u st3)))
    where
      kept_bounds : (v w u : Value) (st3 : State) → Reaches (setting code begin h) n (by_value to exit) (Moves (core_at here.2 (Val u ∷ Val w ∷ Val v ∷ []) [] n st3)) st3.left
          (bind (variable_kept h name place (bounds_kept place v w u st3)) (λ done st4. Gives (not (is_over place st4)) st4))
      kept_bounds v w u st3 =
          keeps_reaches code begin h n (by_value to exit) (suc place) u here.2 here.3 (Val w ∷ Val v ∷ []) st3 _ here.11
          (keeps_reaches code begin h n (by_value to exit) place w here.3 here.4 (Val v ∷ []) (kept_at (suc place) u st3) _ here.12
          (keeps_reaches code begin h n (by_value to exit) (suc (suc place)) v here.4 here.5 [] (kept_at place w (kept_at (suc place) u st3)) _ here.13
          (variable_kept_reaches (by_value to exit) name place here.5 here.6 here.7 (bounds_kept place v w u st3) (λ st4. Gives (not (is_over place st4)) st4) here.14 here.15
          (λ st4. bounds_reaches code begin h n (by_value to exit) place here.7 exit to st4 (Gives (not (is_over place st4)) st4) here.16 (record { holds = stays (setting code begin h) _ st4.left })))))

  -- where no value is past the end, the test follows
  first_begins : {A : Type 0} (fine : A → State → Option Step) (g : Option Guard) (test exit turn : ℕ) (go : Bool → State → Evaluated A) → FirstSpanAt code (site_of h) g test exit turn → Each code begin rec sound h n standing out fine turn exit go
      → (b : Bool) (st : State) → Reaches (setting code begin h) n fine (On (if b then test else exit) st) st.left (bind (span_begins rec h true g b st) go)
  first_begins fine g test exit turn go here each true st = first_span_reaches code begin rec sound h n standing out fine g test exit turn st go here each
  first_begins fine g test exit turn go here each false st = each false st

  later_begins : {A : Type 0} (fine : A → State → Option Step) (g : Option Guard) (test turn exit : ℕ) (go : Bool → State → Evaluated A) → LaterSpanAt code (site_of h) g test turn exit → Each code begin rec sound h n standing out fine turn exit go
      → (b : Bool) (st : State) → Reaches (setting code begin h) n fine (On (if b then test else exit) st) st.left (bind (span_begins rec h false g b st) go)
  later_begins fine g test turn exit go here each true st = later_span_reaches code begin rec sound h n standing out fine g test turn exit st go here each
  later_begins fine g test turn exit go here each false st = each false st

  -- the next value
  begun_by : (name : List ℕ) (place from middle to exit : ℕ) → HoldsAt code (suc (suc place)) from middle → VariableAt code (site_of h) name middle to → (b : Bool) (st : State)
      → Reaches (setting code begin h) n (by_value to exit) (On (if b then from else exit) st) st.left (next_stored h name place b st)
  begun_by name place from middle to exit held stored true st =
      variable_kept_reaches (by_value to exit) name place from middle to st (λ after. Gives true after) held stored (λ after. record { holds = stays (setting code begin h) _ after.left })
  begun_by name place from middle to exit held stored false st = record { holds = stays (setting code begin h) _ st.left }

  next_stepping_reaches : (name : List ℕ) (place from value kept middle to exit : ℕ) (st : State) → VariableValueAt code (site_of h) name from value → NextAt code place value exit kept → HoldsAt code (suc (suc place)) kept middle
      → VariableAt code (site_of h) name middle to → Reaches (setting code begin h) n (by_value to exit) (On from st) st.left (next_stepping h name place st)
  next_stepping_reaches name place from value kept middle to exit st fetched next held stored =
      bind_reaches (setting code begin h) n (λ v after. Moves (core_at value (Val v ∷ []) [] n after)) (by_value to exit) _ st.left (variable_read h name st) _
      (variable_value code begin rec sound h n standing out name from value st fetched)
      (λ v after. next_reaches code begin h n (by_value to exit) place v value exit kept after _ next (begun_by name place kept middle to exit held stored _ _))

  -- what stands behind a turn
  pub stepping_reaches : (exits : Exits) (labels : List Naming) (name : List ℕ) (place : ℕ) (g : Option Guard) (run next : State → Evaluated Flow) (turn again to : ℕ) → Has code turn (instr.Turn to)
      → SteppingAt code (site_of h) name place g again turn to
      → ((st : State) → FlowsAt code begin rec sound h n standing out (within_group (opened labels to (Some again)) exits) again (On (suc turn) st) st.left (run st))
      → ((st : State) → FlowsAt code begin rec sound h n standing out exits to (On again st) st.left (next st))
      → (st : State) → FlowsAt code begin rec sound h n standing out exits to (On again st) st.left
      (bind (next_stepping h name place st) (λ begins st1. bind (span_begins rec h false g begins st1) (λ held st2. turn_if h labels run next held st2)))
  stepping_reaches exits labels name place g run next turn again to has here bodies nexts st =
      bind_reaches (setting code begin h) n (λ b after. On (if b then here.3 else to) after) (flow_to exits out n to) _ st.left (next_stepping h name place st)
      (λ begins st1. bind (span_begins rec h false g begins st1) (λ held st2. turn_if h labels run next held st2))
      (next_stepping_reaches name place again here.0 here.1 here.2 here.3 to st here.4 here.5 here.6 here.7)
      (λ b after. later_begins (flow_to exits out n to) g here.3 turn to (λ held st2. turn_if h labels run next held st2) here.8
      (λ c later. turn_reaches code begin rec sound h n standing out exits labels run next turn again to has bodies nexts c later) b after)

  -- the beginning, with the first turn
  pub stepped_reaches : (exits : Exits) (labels : List Naming) (name : List ℕ) (place : ℕ) (first last : Expression) (step : Option Expression) (g : Option Guard) (run next : State → Evaluated Flow) (from test turn again to : ℕ)
      → BegunAt code (site_of h) name place first last step from to test → FirstSpanAt code (site_of h) g test to turn → Has code turn (instr.Turn to)
      → ((st : State) → FlowsAt code begin rec sound h n standing out (within_group (opened labels to (Some again)) exits) again (On (suc turn) st) st.left (run st))
      → ((st : State) → FlowsAt code begin rec sound h n standing out exits to (On again st) st.left (next st))
      → (st : State) → FlowsAt code begin rec sound h n standing out exits to (On from st) st.left
      (bind (begun_stepping rec h name place first last step st) (λ begins st1. bind (span_begins rec h true g begins st1) (λ held st2. turn_if h labels run next held st2)))
  stepped_reaches exits labels name place first last step g run next from test turn again to begun guard has bodies nexts st =
      bind_reaches (setting code begin h) n (λ b after. On (if b then test else to) after) (flow_to exits out n to) _ st.left (begun_stepping rec h name place first last step st)
      (λ begins st1. bind (span_begins rec h true g begins st1) (λ held st2. turn_if h labels run next held st2))
      (begun_reaches name place first last step from to test st begun)
      (λ b after. first_begins (flow_to exits out n to) g test to turn (λ held st2. turn_if h labels run next held st2) guard
      (λ c later. turn_reaches code begin rec sound h n standing out exits labels run next turn again to has bodies nexts c later) b after)
