-- The code of statements does what the tree says.
use Rattle.std.specs.Prelude.{◌≡◌, ℕ, suc, nat_lt, length, take, Bool, true, false, not, List, [], ◌∷◌, ◌++◌, Option, Some, None, if◌then◌else◌}
use Rattle.std.proofs.Common.{refl, sym, ap, subst, ◌∙◌, append_assoc, append-nil}
use Rattle.hal_base.specs.declared.limits.TheConstants.{LINE_LIMIT}
use Rattle.hal_grammar.specs.Leaves.{Naming}
use Rattle.hal_grammar.specs.Expressions.{Expression, Expressions, NoExpressions, MoreExpressions, Reference}
use Rattle.hal_grammar.specs.Statements.{Guard, While, Until, Alternative, NoAlternative, Otherwise}
use Rattle.hal_grammar.specs.Declarations.{IntegerKind, BooleanKind, EventKind, BitKind, CharacterKind, StructureKind}
use Rattle.hal_grammar.specs.Units.{Head, Program, Compool, Task, Procedure, Function, NoKind, HasKind}
use Rattle.hal_operations.specs.declared.operation.Op1.TheVariants as op1
use Rattle.hal_operations.specs.Mended.{mended_of_one}
use Rattle.hal_values.specs.declared.request.Request.TheVariants as request
use Rattle.hal_values.specs.declared.value.Value.{Value}
use Rattle.hal_values.specs.declared.value.Value.TheVariants as value
use Rattle.hal_values.specs.Answers.{Answered, error}
use Rattle.hal_states.specs.Lines.{line_of, item_of}
use Rattle.hal_states.specs.Numbers.{holds}
use Rattle.hal_meaning.specs.States.{State, Evaluated, Gives, Asks, Caught, Restarts, Lost, bind, Flow, Normal, Leaves, Repeats, Returned}
use Rattle.hal_meaning.specs.Bodies.{Body}
use Rattle.hal_states.specs.Spots.{Spot}
use Rattle.hal_meaning.specs.Calls.{parameter_named, returned_by, call}
use Rattle.hal_meaning.specs.Elements.{kinds_of}
use Rattle.hal_meaning.specs.Sets.{body_at}
use Rattle.hal_meaning.specs.Access.{Here, raise, turn, request_made}
use Rattle.hal_meaning.specs.Variables.{Meant, MeantData, MeantConstant, MeantEvent, MeantBlock, MeantBuiltin, MeantNothing}
use Rattle.hal_meaning.specs.Expressions.{inputs_at, outputs_at, expression, values, chosen_data}
use Rattle.hal_meaning.specs.Statements.{goes_on, returned_in, spots, called, all_received, line_fitting, channel_of, written, is_meant, group_left, NextTurn, Ended, after_turn, goes_round, turn_made, turn_if, guard_holds, first_holds, goes_behind, one_of}
use Rattle.hal_meaning.specs.Tasks.{Meaning}
use Rattle.hal_code.specs.declared.choice.Choice.TheVariants as choice
use Rattle.hal_code.specs.declared.instr.Instr.{Instr}
use Rattle.hal_code.specs.declared.instr.Instr.TheVariants as instr
use Rattle.hal_code.specs.Cores.{Operand, Val, Area, Goes, Asks, Then, Step, Waits, Moves}
use Rattle.hal_code.specs.Raising.{raised_before}
use Rattle.hal_code.specs.Machine.{act}
use Rattle.hal_agreement.specs.Codes.{Code}
use Rattle.hal_agreement.specs.Sites.{site_of}
use Rattle.hal_agreement.specs.PlacedExpressions.{Has, One, ExpressionAt}
use Rattle.hal_agreement.specs.PlacedStatements.{opened, exit_of, again_of, ByResult, Exits, within_group, ReceiversAt, ChannelAt, ItemsAt, ConditionAt, FirstTestAt, TestAt, ResultBy, ResultAt, AssignedAt, CalledAt, AlternativeAt}
use Rattle.hal_agreement.proofs.Leading.{Leads, stays, through, acts_to}
use Rattle.hal_agreement.proofs.Reaching.{Nest, setting, core_at, Arrives, Holds, Reaches, OnStep, before, bind_reaches, bind_on, asks_reaches, acts}
use Rattle.hal_agreement.proofs.Calling.{AreAssigned, call_reaches}
use Rattle.hal_agreement.proofs.Knowing.{going_to, Out, flow_to, Leads_out, Sound}
use Rattle.hal_agreement.proofs.Raising.{Standing, bind_bind, raised_reaches, turned_reaches}
use Rattle.hal_agreement.proofs.Expressing.{OfNothing, expression_reaches, passed_reaches, cells_of_reaches}
use Rattle.hal_agreement.proofs.Receiving.{received_reaches}

-- what a unit returns, as its type has it
abbrev result_in : Option Body → Value → Value
result_in o v = elim o [ None ↦ v | Some b ↦ returned_by b.head v ]

module _ (code : Code) (begin : ℕ) (rec : Meaning) (sound : Sound code begin rec) (h : Here) (n : Nest) (standing : Standing code h n) (out : Out) where
  abbrev pub FlowsAt : Exits → ℕ → Step → List Answered → Evaluated Flow → Type 0
  FlowsAt exits to step left r = Reaches (setting code begin h) n (flow_to exits out n to) step left r

  -- a statement's step
  abbrev pub Begins : ℕ → State → Step
  Begins at st = Moves (core_at at [] [] n st)

  -- something without a value is done, and control goes on there
  abbrev pub DoneAt : ℕ → List Operand → List ℕ → Step → List Answered → Evaluated (Unit {0}) → Type 0
  DoneAt to stack line step left r = Reaches (setting code begin h) n (λ (done : Unit {0}) st. Some (Moves (core_at to stack line n st))) step left r

  pub normal : (exits : Exits) (to : ℕ) (st : State) → FlowsAt exits to (Begins to st) st.left (Gives Normal st)
  normal exits to st = record { holds = stays (setting code begin h) _ st.left }

  pub still : (exits : Exits) (from to : ℕ) (st : State) → from ≡ to → FlowsAt exits to (Begins from st) st.left (Gives Normal st)
  still exits from to st same = subst (λ end. FlowsAt exits end (Begins from st) st.left (Gives Normal st)) same (normal exits from st)

  -- a flow that leads to the same step
  pub passes : (fine : Flow → State → Option Step) (flow : Flow) (st : State) (o : Option Step) → fine flow st ≡ o → OnStep o (λ to. Reaches (setting code begin h) n fine to st.left (Gives flow st))
  passes fine flow st None e = tt
  passes fine flow st (Some to) e = record { holds = subst (λ one. Arrives (setting code begin h) to st.left one st.left) (sym e) (stays (setting code begin h) to st.left) }

  pub goes_on_reaches : (exits : Exits) (to : ℕ) (step : Step) (left : List Answered) (r : Evaluated (Unit {0})) → DoneAt to [] [] step left r → FlowsAt exits to step left (goes_on r)
  goes_on_reaches exits to step left r is = bind_reaches (setting code begin h) n (λ done st. Begins to st) (flow_to exits out n to) step left r (λ nothing after. Gives Normal after) is (λ done st. normal exits to st)

  -- an instruction that is the last one
  pub final : {A : Type 0} (F : ℕ → A → State → Option Step) (i : Instr) (at to : ℕ) (stack : List Operand) (line : List ℕ) (st : State) (r : Evaluated A) → One code at i to
      → Reaches (setting code begin h) n (F (suc at)) (act (setting code begin h) i (core_at at stack line n st)) st.left r → Reaches (setting code begin h) n (F to) (Moves (core_at at stack line n st)) st.left r
  final F i at to stack line st r one is =
      subst (λ end. Reaches (setting code begin h) n (F end) (Moves (core_at at stack line n st)) st.left r) one.1 (acts (setting code begin h) n (F (suc at)) (core_at at stack line n st) st.left i r one.0 is)

  -- JUMP, behind which nothing is reached
  jumps : (fine : Flow → State → Option Step) (from target : ℕ) (st : State) (r : Evaluated Flow) → Has code from (instr.Jump target) → Reaches (setting code begin h) n fine (Begins target st) st.left r → Reaches (setting code begin h) n fine (Begins from st) st.left r
  jumps fine from target st r has is = acts (setting code begin h) n fine (core_at from [] [] n st) st.left (instr.Jump target) r has is

  -- an expression, and then something
  pub valued : {A : Type 0} (fine : A → State → Option Step) (e : Expression) (from middle : ℕ) (line : List ℕ) (st : State) (go : Value → State → Evaluated A) → ExpressionAt code (site_of h) e from middle
      → ((v : Value) (after : State) → Reaches (setting code begin h) n fine (Moves (core_at middle (Val v ∷ []) line n after)) after.left (go v after))
      → Reaches (setting code begin h) n fine (Moves (core_at from [] line n st)) st.left (bind (expression rec h e st) go)
  valued fine e from middle line st go at each =
      bind_reaches (setting code begin h) n (λ v after. Moves (core_at middle (Val v ∷ []) line n after)) fine _ st.left _ go (expression_reaches code begin rec sound h n standing e from middle [] line st at) each

  -- an instruction that leads there
  pub instr_leads : (i : Instr) (from : ℕ) (st : State) (left : List Answered) (to : Step) → Has code from i → act (setting code begin h) i (core_at from [] [] n st) ≡ to → Leads (setting code begin h) (Begins from st) left to left
  instr_leads i from st left to has is = acts_to (setting code begin h) i (core_at from [] [] n st) left to has is

  pub jump_leads : (from target : ℕ) (st : State) (left : List Answered) → Has code from (instr.Jump target) → Leads (setting code begin h) (Begins from st) left (Begins target st) left
  jump_leads from target st left has = instr_leads (instr.Jump target) from st left (Begins target st) has refl

  led_holds : (exits : Exits) (end to : ℕ) (step : Step) (left : List Answered) (r : Evaluated Flow) → ((st : State) → Leads (setting code begin h) (Begins end st) st.left (Begins to st) st.left)
      → Holds (setting code begin h) n (flow_to exits out n end) step left r → Holds (setting code begin h) n (flow_to exits out n to) step left r
  led_holds exits end to step left (Gives Normal st) leads is = through (setting code begin h) step (Begins end st) (Begins to st) left st.left st.left is (leads st)
  led_holds exits end to step left (Gives (Leaves label) st) leads is = is
  led_holds exits end to step left (Gives (Repeats label) st) leads is = is
  led_holds exits end to step left (Gives (Returned v) st) leads is = is
  led_holds exits end to step left (Asks r k m) leads is = is
  led_holds exits end to step left (Caught level place st) leads is = is
  led_holds exits end to step left (Restarts k rest) leads is = is
  led_holds exits end to step left Lost leads is = tt

  -- a statement whose end leads on
  pub led : (exits : Exits) (end to : ℕ) (step : Step) (left : List Answered) (r : Evaluated Flow) → ((st : State) → Leads (setting code begin h) (Begins end st) st.left (Begins to st) st.left) → FlowsAt exits end step left r → FlowsAt exits to step left r
  led exits end to step left r leads is = record { holds = led_holds exits end to step left r leads is.holds }

  -- receivers, the last of which takes the value itself
  pub all_received_reaches : (receivers : List Reference) (v : Value) (from to : ℕ) (st : State) → ReceiversAt code (site_of h) receivers from to
      → DoneAt to [] [] (Moves (core_at from (Val v ∷ []) [] n st)) st.left (all_received rec h v receivers st)
  all_received_reaches [] v from to st here = absurd here
  all_received_reaches (receiver ∷ []) v from to st here =
      bind_reaches (setting code begin h) n (λ done after. Moves (core_at to [] [] n after)) _ _ st.left _ (λ done after. Gives tt after) (received_reaches code begin rec sound h n standing receiver v from to [] st here) (λ done after. record { holds = stays (setting code begin h) _ after.left })
  all_received_reaches (receiver ∷ next ∷ others) v from to st here =
      acts (setting code begin h) n _ (core_at from (Val v ∷ []) [] n st) st.left instr.Dup _ here.1
      (bind_reaches (setting code begin h) n (λ done after. Moves (core_at here.0 (Val v ∷ []) [] n after)) _ _ st.left _ (λ done after. all_received rec h v (next ∷ others) after)
      (received_reaches code begin rec sound h n standing receiver v (suc from) here.0 (Val v ∷ []) st here.2) (λ done after. all_received_reaches (next ∷ others) v here.0 to after here.3))

  -- items are added to the line
  items_reaches : (items : Expressions) (from to : ℕ) (line : List ℕ) (st : State) → ItemsAt code (site_of h) items from to
      → Reaches (setting code begin h) n (λ vs after. Some (Moves (core_at to [] (line ++ line_of vs) n after))) (Moves (core_at from [] line n st)) st.left (values rec h items st)
  items_reaches NoExpressions from to line st here =
      subst (λ end. Reaches (setting code begin h) n (λ vs after. Some (Moves (core_at end [] (line ++ line_of vs) n after))) (Moves (core_at from [] line n st)) st.left (Gives [] st)) here
      (record { holds = subst (λ one. Leads (setting code begin h) (Moves (core_at from [] line n st)) st.left (Moves (core_at from [] one n st)) st.left) (sym (append-nil line)) (stays (setting code begin h) _ st.left) })
  items_reaches (MoreExpressions first others) from to line st here =
      valued _ first from here.0 line st (λ v after. bind (values rec h others after) (λ vs later. Gives (v ∷ vs) later)) here.1
      (λ v after. acts (setting code begin h) n _ (core_at here.0 (Val v ∷ []) line n after) after.left instr.Item _ here.2
      (bind_reaches (setting code begin h) n (λ vs later. Moves (core_at to [] ((line ++ item_of v) ++ line_of vs) n later)) _ _ after.left (values rec h others after) (λ vs later. Gives (v ∷ vs) later)
      (items_reaches others (suc here.0) to (line ++ item_of v) after here.3)
      (λ vs later. record { holds = subst (λ one. Leads (setting code begin h) (Moves (core_at to [] ((line ++ item_of v) ++ line_of vs) n later)) later.left (Moves (core_at to [] one n later)) later.left) (append_assoc line (item_of v) (line_of vs)) (stays (setting code begin h) _ later.left) })))

  printed_by : (long : Bool) (channel to : ℕ) (line : List ℕ) (st : State)
      → DoneAt to [] [] (if long then raised_before (setting code begin h) (error 3 3) (Asks (request.Print channel (take LINE_LIMIT line))) (core_at to [] [] n st) else Waits (request.Print channel line) (Then Goes) (core_at to [] [] n st)) st.left
      (bind (if long then bind (raise h (error 3 3) st) (λ ignored after. Gives (take LINE_LIMIT line) after) else Gives line st) (λ fitting after. request_made (request.Print channel fitting) after))
  printed_by true channel to line st =
      subst (λ r. DoneAt to [] [] (raised_before (setting code begin h) (error 3 3) (Asks (request.Print channel (take LINE_LIMIT line))) (core_at to [] [] n st)) st.left r)
      (sym (bind_bind (raise h (error 3 3) st) (λ ignored after. Gives (take LINE_LIMIT line) after) (λ fitting after. request_made (request.Print channel fitting) after)))
      (raised_reaches code begin h n standing _ (error 3 3) (Asks (request.Print channel (take LINE_LIMIT line))) to [] [] st (λ ignored after. request_made (request.Print channel (take LINE_LIMIT line)) after)
      (λ after. asks_reaches (setting code begin h) n _ (request.Print channel (take LINE_LIMIT line)) (Then Goes) (core_at to [] [] n after) after.entries after.left (λ a later. Gives tt later) (λ a rest. record { holds = stays (setting code begin h) _ rest })))
  printed_by false channel to line st =
      asks_reaches (setting code begin h) n _ (request.Print channel line) (Then Goes) (core_at to [] [] n st) st.entries st.left (λ a later. Gives tt later) (λ a rest. record { holds = stays (setting code begin h) _ rest })

  printed_reaches : (channel from to : ℕ) (line : List ℕ) (st : State) → One code from (instr.Print channel) to
      → DoneAt to [] [] (Moves (core_at from [] line n st)) st.left (bind (line_fitting h line st) (λ fitting after. request_made (request.Print channel fitting) after))
  printed_reaches channel from to line st one =
      final (λ end done after. Some (Moves (core_at end [] [] n after))) (instr.Print channel) from to [] line st _ one (printed_by (nat_lt LINE_LIMIT (length line)) channel (suc from) line st)

  -- WRITE
  pub written_reaches : (channel : Expression) (items : Expressions) (number from last to : ℕ) (st : State) → ChannelAt (site_of h) channel number → ItemsAt code (site_of h) items from last → One code last (instr.Print number) to
      → DoneAt to [] [] (Begins from st) st.left (written rec h channel items st)
  written_reaches channel items number from last to st known here one =
      subst (λ r. DoneAt to [] [] (Begins from st) st.left
      (bind r (λ c st1. bind (values rec h items st1) (λ vs st2. bind (line_fitting h (line_of vs) st2) (λ line st3. request_made (request.Print (channel_of c) line) st3))))) (sym (known rec h st refl))
      (bind_reaches (setting code begin h) n (λ vs after. Moves (core_at last [] (line_of vs) n after)) _ _ st.left (values rec h items st) _ (items_reaches items from last [] st here)
      (λ vs after. printed_reaches number last to (line_of vs) after one))

  -- a condition
  pub condition_reaches : {A : Type 0} (fine : A → State → Option Step) (condition : Expression) (from target to : ℕ) (st : State) (go : Value → State → Evaluated A) → ConditionAt code (site_of h) condition from target to
      → ((v : Value) (after : State) → Reaches (setting code begin h) n fine (Begins (if holds v then to else target) after) after.left (go v after))
      → Reaches (setting code begin h) n fine (Begins from st) st.left (bind (expression rec h condition st) go)
  condition_reaches fine condition from target to st go here each =
      valued fine condition from here.0 [] st go here.1
      (λ v after. acts (setting code begin h) n fine (core_at here.0 (Val v ∷ []) [] n after) after.left (instr.JumpNot target) (go v after) here.2.0
      (subst (λ end. Reaches (setting code begin h) n fine (Begins (if holds v then end else target) after) after.left (go v after)) (sym here.2.1) (each v after)))

  pub first_test_reaches : {A : Type 0} (fine : A → State → Option Step) (g : Guard) (from exit to : ℕ) (st : State) (go : Bool → State → Evaluated A) → FirstTestAt code (site_of h) g from exit to
      → ((b : Bool) (after : State) → Reaches (setting code begin h) n fine (Begins (if b then to else exit) after) after.left (go b after))
      → Reaches (setting code begin h) n fine (Begins from st) st.left (bind (first_holds rec h g st) go)
  first_test_reaches fine (While place condition) from exit to st go here each =
      subst (λ r. Reaches (setting code begin h) n fine (Begins from st) st.left r) (sym (bind_bind (expression rec h condition st) (λ v after. Gives (holds v) after) go))
      (condition_reaches fine condition from exit to st (λ v after. go (holds v) after) here (λ v after. each (holds v) after))
  first_test_reaches fine (Until place condition) from exit to st go here each = subst (λ at. Reaches (setting code begin h) n fine (Begins at st) st.left (go true st)) (sym here) (each true st)

  while_again : {A : Type 0} (fine : A → State → Option Step) (b : Bool) (middle turn to : ℕ) (st : State) (go : Bool → State → Evaluated A) → One code (suc middle) (instr.Jump turn) to
      → Reaches (setting code begin h) n fine (Begins (if b then turn else to) st) st.left (go b st)
      → Reaches (setting code begin h) n fine (Begins (if b then suc middle else to) st) st.left (go b st)
  while_again fine true middle turn to st go one is = before (setting code begin h) n fine (Begins (suc middle) st) st.left (Begins turn st) st.left (go true st) (jump_leads (suc middle) turn st st.left one.0) is
  while_again fine false middle turn to st go one is = is

  until_again : {A : Type 0} (fine : A → State → Option Step) (b : Bool) (turn to : ℕ) (st : State) (go : Bool → State → Evaluated A)
      → ((c : Bool) → Reaches (setting code begin h) n fine (Begins (if c then turn else to) st) st.left (go c st))
      → Reaches (setting code begin h) n fine (Begins (if b then to else turn) st) st.left (go (not b) st)
  until_again fine true turn to st go each = each false
  until_again fine false turn to st go each = each true

  -- a later test of a loop
  pub test_reaches : {A : Type 0} (fine : A → State → Option Step) (g : Guard) (from turn to : ℕ) (st : State) (go : Bool → State → Evaluated A) → TestAt code (site_of h) g from turn to
      → ((b : Bool) (after : State) → Reaches (setting code begin h) n fine (Begins (if b then turn else to) after) after.left (go b after))
      → Reaches (setting code begin h) n fine (Begins from st) st.left (bind (guard_holds rec h g st) go)
  test_reaches fine (While place condition) from turn to st go here each =
      subst (λ r. Reaches (setting code begin h) n fine (Begins from st) st.left r) (sym (bind_bind (expression rec h condition st) (λ v after. Gives (holds v) after) go))
      (condition_reaches fine condition from to (suc here.0) st (λ v after. go (holds v) after) (here.0, here.1, (here.2, refl)) (λ v after. while_again fine (holds v) here.0 turn to after go here.3 (each (holds v) after)))
  test_reaches fine (Until place condition) from turn to st go here each =
      subst (λ r. Reaches (setting code begin h) n fine (Begins from st) st.left r) (sym (bind_bind (expression rec h condition st) (λ v after. Gives (not (holds v)) after) go))
      (condition_reaches fine condition from turn to st (λ v after. go (not (holds v)) after) here (λ v after. until_again fine (holds v) turn to after go (λ c. each c after)))

  -- EXIT of a group leads to its end, or further out
  leaves_by : (exits : Exits) (b : Bool) (label : Option (List ℕ)) (to : ℕ) (st : State)
      → OnStep (going_to n st (if b then Some to else exit_of exits.groups label)) (λ x. FlowsAt exits to x st.left (Gives (if b then Normal else Leaves label) st))
  leaves_by exits true label to st = normal exits to st
  leaves_by exits false label to st = passes (flow_to exits out n to) (Leaves label) st (going_to n st (exit_of exits.groups label)) refl

  repeats_by : (exits : Exits) (b : Bool) (label : Option (List ℕ)) (again to : ℕ) (next : State → Evaluated Flow) (st : State) → FlowsAt exits to (Begins again st) st.left (next st)
      → OnStep (going_to n st (if b then Some again else again_of exits.groups label)) (λ x. FlowsAt exits to x st.left (goes_round next (if b then NextTurn else Ended (Repeats label)) st))
  repeats_by exits true label again to next st is = is
  repeats_by exits false label again to next st is = passes (flow_to exits out n to) (Repeats label) st (going_to n st (again_of exits.groups label)) refl

  after_turn_reaches : (exits : Exits) (labels : List Naming) (again to : ℕ) (next : State → Evaluated Flow) (flow : Flow) (st : State) → FlowsAt exits to (Begins again st) st.left (next st)
      → OnStep (flow_to (within_group (opened labels to (Some again)) exits) out n again flow st) (λ x. FlowsAt exits to x st.left (goes_round next (after_turn labels flow) st))
  after_turn_reaches exits labels again to next Normal st is = is
  after_turn_reaches exits labels again to next (Leaves label) st is = leaves_by exits (is_meant labels label) label to st
  after_turn_reaches exits labels again to next (Repeats label) st is = repeats_by exits (is_meant labels label) label again to next st is
  after_turn_reaches exits labels again to next (Returned v) st is = passes (flow_to exits out n to) (Returned v) st (out v st) refl

  unmade : (exits : Exits) (labels : List Naming) (body next : State → Evaluated Flow) (to : ℕ) (made : Bool) (st : State)
      → OnStep (if made then None else Some (Begins to st)) (λ x. FlowsAt exits to x st.left (turn_made labels body next made st))
  unmade exits labels body next to true st = tt
  unmade exits labels body next to false st = normal exits to st

  -- a turn of a loop, where its condition lets it begin
  pub turn_reaches : (exits : Exits) (labels : List Naming) (body next : State → Evaluated Flow) (turn again to : ℕ) → Has code turn (instr.Turn to)
      → ((st : State) → FlowsAt (within_group (opened labels to (Some again)) exits) again (Begins (suc turn) st) st.left (body st)) → ((st : State) → FlowsAt exits to (Begins again st) st.left (next st))
      → (b : Bool) (st : State) → FlowsAt exits to (Begins (if b then turn else to) st) st.left (turn_if h labels body next b st)
  turn_reaches exits labels body next turn again to has bodies nexts false st = normal exits to st
  turn_reaches exits labels body next turn again to has bodies nexts true st =
      acts (setting code begin h) n (flow_to exits out n to) (core_at turn [] [] n st) st.left (instr.Turn to) _ has
      (turned_reaches code begin h n (flow_to exits out n to) _ (suc turn) [] [] st (λ made after. turn_made labels body next made after)
      (λ after. bind_on (setting code begin h) n (flow_to (within_group (opened labels to (Some again)) exits) out n again) (flow_to exits out n to) _ after.left (body after) (λ flow later. goes_round next (after_turn labels flow) later)
      (bodies after) (λ flow later. after_turn_reaches exits labels again to next flow later (nexts later)))
      (λ spent. bind_on (setting code begin h) n (λ made after. if made then None else Some (Begins to after)) (flow_to exits out n to) _ st.left (bind (raise h (error 1 8) st) (λ ignored after. Gives false after)) (λ made after. turn_made labels body next made after)
      (raised_reaches code begin h n standing (λ made after. if made then None else Some (Begins to after)) (error 1 8) Goes to [] [] st (λ ignored after. Gives false after) (λ after. record { holds = stays (setting code begin h) _ after.left }))
      (λ made after. unmade exits labels body next to made after)))

  pub group_reaches : (exits : Exits) (labels : List Naming) (to : ℕ) (flow : Flow) (st : State)
      → OnStep (flow_to (within_group (opened labels to None) exits) out n to flow st) (λ x. FlowsAt exits to x st.left (Gives (group_left labels flow) st))
  group_reaches exits labels to Normal st = normal exits to st
  group_reaches exits labels to (Leaves label) st = leaves_by exits (is_meant labels label) label to st
  group_reaches exits labels to (Repeats label) st = passes (flow_to exits out n to) (Repeats label) st (going_to n st (again_of exits.groups label)) refl
  group_reaches exits labels to (Returned v) st = passes (flow_to exits out n to) (Returned v) st (out v st) refl

  pub behind_reaches : (exits : Exits) (middle to : ℕ) (next : State → Evaluated Flow) (flow : Flow) (st : State) → FlowsAt exits to (Begins middle st) st.left (next st)
      → OnStep (flow_to exits out n middle flow st) (λ x. FlowsAt exits to x st.left (goes_behind flow next st))
  behind_reaches exits middle to next Normal st is = is
  behind_reaches exits middle to next (Leaves label) st is = passes (flow_to exits out n to) (Leaves label) st (going_to n st (exit_of exits.groups label)) refl
  behind_reaches exits middle to next (Repeats label) st is = passes (flow_to exits out n to) (Repeats label) st (going_to n st (again_of exits.groups label)) refl
  behind_reaches exits middle to next (Returned v) st is = passes (flow_to exits out n to) (Returned v) st (out v st) refl

  -- EXIT and REPEAT
  pub exit_reaches : (exits : Exits) (from to target : ℕ) (flow : Flow) (o : Option ℕ) (st : State) → flow_to exits out n to flow st ≡ going_to n st o → o ≡ Some target → Has code from (instr.Jump target)
      → FlowsAt exits to (Begins from st) st.left (Gives flow st)
  exit_reaches exits from to target flow o st leads is has = record {
    holds = subst (λ one. Arrives (setting code begin h) (Begins from st) st.left one st.left) (sym (leads ∙ ap (going_to n st) is)) (jump_leads from target st st.left has);
  }

  pub either_reaches : (exits : Exits) (to one other : ℕ) (b : Bool) (held failed : State → Evaluated Flow) (st : State) → FlowsAt exits to (Begins one st) st.left (held st) → FlowsAt exits to (Begins other st) st.left (failed st)
      → FlowsAt exits to (Begins (if b then one else other) st) st.left (one_of b held failed st)
  either_reaches exits to one other true held failed st is are = is
  either_reaches exits to one other false held failed st is are = are

  -- a consequence, behind which control goes over the alternative
  pub over_reaches : (exits : Exits) (m : ℕ) (alternative : Alternative) (end other to : ℕ) (step : Step) (left : List Answered) (r : Evaluated Flow) → AlternativeAt code (site_of h) exits m alternative end other to
      → FlowsAt exits end step left r → FlowsAt exits to step left r
  over_reaches exits m NoAlternative end other to step left r beside is = subst (λ last. FlowsAt exits last step left r) beside.0 is
  over_reaches exits m (Otherwise two) end other to step left r beside is = led exits end to step left r (λ after. jump_leads end to after after.left beside.0) is

  unchanged : (from to : ℕ) (v : Value) (st : State) → from ≡ to
      → Reaches (setting code begin h) n (λ w after. Some (Moves (core_at to (Val w ∷ []) [] n after))) (Moves (core_at from (Val v ∷ []) [] n st)) st.left (Gives v st)
  unchanged from to v st same =
      subst (λ end. Reaches (setting code begin h) n (λ w after. Some (Moves (core_at end (Val w ∷ []) [] n after))) (Moves (core_at from (Val v ∷ []) [] n st)) st.left (Gives v st)) same
      (record { holds = stays (setting code begin h) _ st.left })

  -- RETURN with a value, as the FUNCTION's type has it
  result_by : (head : Head) (from to : ℕ) (v : Value) (st : State) → ResultBy code head from to
      → Reaches (setting code begin h) n (λ w after. Some (Moves (core_at to (Val w ∷ []) [] n after))) (Moves (core_at from (Val v ∷ []) [] n st)) st.left (Gives (returned_by head v) st)
  result_by (Function place inputs (HasKind (CharacterKind at size) precision) mode) from to v st one =
      final (λ end w after. Some (Moves (core_at end (Val w ∷ []) [] n after))) (instr.Op1 (choice.Known op1.Character)) from to (Val v ∷ []) [] st _ one (record { holds = character v })
    where
      character : (w : Value) → Leads (setting code begin h) (act (setting code begin h) (instr.Op1 (choice.Known op1.Character)) (core_at from (Val w ∷ []) [] n st)) st.left
          (Moves (core_at (suc from) (Val (mended_of_one op1.Character w) ∷ []) [] n st)) st.left
      character (value.Int a) = stays (setting code begin h) _ st.left
      character (value.Bits len word) = stays (setting code begin h) _ st.left
      character (value.Text text) = stays (setting code begin h) _ st.left
  result_by (Function place inputs (HasKind (IntegerKind at) precision) mode) from to v st same = unchanged from to v st same
  result_by (Function place inputs (HasKind (BooleanKind at) precision) mode) from to v st same = unchanged from to v st same
  result_by (Function place inputs (HasKind (EventKind at) precision) mode) from to v st same = unchanged from to v st same
  result_by (Function place inputs (HasKind (BitKind at size) precision) mode) from to v st same = unchanged from to v st same
  result_by (Function place inputs (HasKind (StructureKind at template copies) precision) mode) from to v st same = unchanged from to v st same
  result_by (Function place inputs NoKind mode) from to v st same = unchanged from to v st same
  result_by (Program place) from to v st same = unchanged from to v st same
  result_by (Compool place) from to v st same = unchanged from to v st same
  result_by (Task place) from to v st same = unchanged from to v st same
  result_by (Procedure place inputs outputs mode) from to v st same = unchanged from to v st same

  result_at : (o : Option Body) (from to : ℕ) (v : Value) (st : State) → ResultAt code o from to
      → Reaches (setting code begin h) n (λ w after. Some (Moves (core_at to (Val w ∷ []) [] n after))) (Moves (core_at from (Val v ∷ []) [] n st)) st.left (Gives (result_in o v) st)
  result_at None from to v st same = unchanged from to v st same
  result_at (Some b) from to v st here = result_by b.head from to v st here

  returned_holds : (late : ℕ) (v : Value) (st : State) (exits : Exits) (to : ℕ) (o : Option Step) → out (Some v) st ≡ o → Arrives (setting code begin h) (Moves (core_at late (Val v ∷ []) [] n st)) st.left o st.left
      → Reaches (setting code begin h) n (flow_to exits out n to) (Moves (core_at late (Val v ∷ []) [] n st)) st.left (Gives (Returned (Some v)) st)
  returned_holds late v st exits to o e is = record { holds = subst (λ one. Arrives (setting code begin h) (Moves (core_at late (Val v ∷ []) [] n st)) st.left one st.left) (sym e) is }

  pub returned_reaches : (exits : Exits) (tree : Expression) (from middle late to : ℕ) (st : State) → Leads_out code begin h n exits.leaving out → ExpressionAt code (site_of h) tree from middle → ResultAt code (body_at h.set h.unit) middle late
      → exits.leaving ≡ ByResult → Has code late instr.Return → FlowsAt exits to (Begins from st) st.left (bind (expression rec h tree st) (λ v after. Gives (Returned (Some (returned_in h v))) after))
  returned_reaches exits tree from middle late to st leads here results same has =
      valued (flow_to exits out n to) tree from middle [] st (λ v after. Gives (Returned (Some (returned_in h v))) after) here
      (λ v after. bind_reaches (setting code begin h) n (λ w later. Moves (core_at late (Val w ∷ []) [] n later)) (flow_to exits out n to) _ after.left (Gives (returned_in h v) after) (λ w later. Gives (Returned (Some w)) later)
      (result_at (body_at h.set h.unit) middle late v after results)
      (λ w later. returned_holds late w later exits to (out (Some w) later) refl (leads.with_value w late later same has)))

  -- the addresses of ASSIGN arguments are put on these operands
  assigned_reaches : (fine : Unit {0} → State → Option Step) (unit : ℕ) (names : List Naming) (receivers : List Reference) (from to : ℕ) (under : List Operand) (st : State) (go : List Spot → State → Evaluated (Unit {0}))
      → AssignedAt code (site_of h) unit names receivers from to
      → ((at : List Spot) (over : List Operand) (after : State) → AreAssigned code begin rec sound h n standing names at under over → Reaches (setting code begin h) n fine (Moves (core_at to over [] n after)) after.left (go at after))
      → Reaches (setting code begin h) n fine (Moves (core_at from under [] n st)) st.left (bind (spots rec h receivers st) go)
  assigned_reaches fine unit [] [] from to under st go same each =
      subst (λ begins. Reaches (setting code begin h) n fine (Moves (core_at begins under [] n st)) st.left (go [] st)) (sym same) (each [] under st refl)
  assigned_reaches fine unit (name ∷ names) (receiver ∷ receivers) from to under st go here each =
      subst (λ r. Reaches (setting code begin h) n fine (Moves (core_at from under [] n st)) st.left r)
      (sym (bind_bind (chosen_data rec h receiver st) (λ l after. bind (spots rec h receivers after) (λ more later. Gives (l.at ∷ more) later)) go))
      (cells_of_reaches code begin rec sound h n standing OfNothing fine (kinds_of (parameter_named h.set unit name).shape) receiver from here.0 under [] st
      (λ l after. bind (bind (spots rec h receivers after) (λ more later. Gives (l.at ∷ more) later)) go) here.1
      (λ l shape after kinds. subst (λ r. Reaches (setting code begin h) n fine (Moves (core_at here.0 (Area l.at shape ∷ under) [] n after)) after.left r)
      (sym (bind_bind (spots rec h receivers after) (λ more later. Gives (l.at ∷ more) later) go))
      (assigned_reaches fine unit names receivers here.0 to (Area l.at shape ∷ under) after (λ more later. go (l.at ∷ more) later) here.2
      (λ more over later are. each (l.at ∷ more) over later (shape, are)))))
  assigned_reaches fine unit [] (receiver ∷ receivers) from to under st go here each = absurd here
  assigned_reaches fine unit (name ∷ names) [] from to under st go here each = absurd here

  -- CALL of what a name means
  pub call_meant : (arguments : Expressions) (receivers : List Reference) (m : Meant) (from to : ℕ) (st : State) → CalledAt code (site_of h) arguments receivers m from to
      → DoneAt to [] [] (Begins from st) st.left (called rec h m arguments receivers st)
  call_meant arguments receivers (MeantBlock unit) from to st here =
      passed_reaches code begin rec sound h n standing OfNothing _ unit (inputs_at h.set unit) arguments from here.0 [] [] st
      (λ ps st1. bind (spots rec h receivers st1) (λ at st2. bind (call rec h unit ps at st2) (λ result st3. Gives tt st3))) here.2
      (λ ps over st1 are. assigned_reaches _ unit (outputs_at h.set unit) receivers here.0 here.1 over st1 (λ at st2. bind (call rec h unit ps at st2) (λ result st3. Gives tt st3)) here.3
      (λ at top st2 assigned. bind_reaches (setting code begin h) n (λ (v : Value) later. Begins to later) _ (Moves (core_at here.1 top [] n st2)) st2.left (call rec h unit ps at st2) (λ result st3. Gives tt st3)
      (call_reaches code begin rec sound h n standing unit false ps at here.1 to [] over top [] st2 here.4 are assigned) (λ v later. record { holds = stays (setting code begin h) _ later.left })))
  call_meant arguments receivers (MeantData at shape) from to st here = absurd here
  call_meant arguments receivers (MeantConstant w) from to st here = absurd here
  call_meant arguments receivers (MeantEvent e) from to st here = absurd here
  call_meant arguments receivers (MeantBuiltin b) from to st here = absurd here
  call_meant arguments receivers MeantNothing from to st here = absurd here
