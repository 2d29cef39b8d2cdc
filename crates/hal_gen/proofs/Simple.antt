-- The code of statements without statements in them stands where it was put.
use Rattle.std.specs.Prelude.{◌≡◌, ℕ, zero, suc, ◌+◌, ◌==◌, nat_lt, Bool, true, false, not, ◌||◌, List, [], ◌∷◌, ◌++◌, length, pos, Option, Some, None, Ok, if◌then◌else◌}
use Rattle.std.specs.Option.{option_map, option_and_then}
use Rattle.std.proofs.Common.{refl, sym, ap, subst, ◌∙◌, arith, ne_eqb, append-nil}
use Rattle.std.proofs.lemmas.Bool.{ltb-true}
use Rattle.hal_base.specs.declared.refusal.Place.{Place}
use Rattle.hal_grammar.specs.Leaves.{Naming}
use Rattle.hal_grammar.specs.Declarations.{IntegerKind, BooleanKind, EventKind, BitKind, CharacterKind, StructureKind}
use Rattle.hal_grammar.specs.Expressions.{Expression, Expressions, NoExpressions, MoreExpressions, Reference, Refers}
use Rattle.hal_grammar.specs.Statements.{Guard, While, Until, Selector, EveryError, GroupErrors, OneError, Eventful, EventAction, Signal, Set, Reset, Response}
use Rattle.hal_grammar.specs.Units.{Head, Program, Task, Compool, Procedure, Function, HasKind, NoKind}
use Rattle.hal_operations.specs.declared.operation.Op1.TheVariants as op1
use Rattle.hal_values.specs.Answers.{error}
use Rattle.hal_values.specs.declared.environment.Selector.TheVariants as selectors
use Rattle.hal_values.specs.declared.environment.Side.TheVariants as side
use Rattle.hal_values.specs.Tables.{process_count}
use Rattle.hal_states.specs.Spots.{Held}
use Rattle.hal_meaning.specs.Bodies.{Body}
use Rattle.hal_meaning.specs.Events.{event_named}
use Rattle.hal_meaning.specs.Calls.{parameter_named}
use Rattle.hal_meaning.specs.Expressions.{inputs_at, outputs_at}
use Rattle.hal_meaning.specs.RealTime.{process_named, side_of, side_of_action}
use Rattle.hal_meaning.specs.Sets.{body_at}
use Rattle.hal_meaning.specs.Statements.{kind_named, kind_meant}
use Rattle.hal_meaning.specs.Variables.{name_meant}
use Rattle.hal_code.specs.declared.choice.Choice.TheVariants as choice
use Rattle.hal_code.specs.declared.instr.Instr.{Instr}
use Rattle.hal_code.specs.declared.instr.Instr.TheVariants as instr
use Rattle.hal_code.specs.declared.operand.Delay.{Delay}
use Rattle.hal_code.specs.declared.operand.Delay.TheVariants as delay
use Rattle.hal_code.specs.Controlling as machine
use Rattle.hal_code.specs.Operands.{is_selector}
use Rattle.hal_code.specs.declared.operand.EventChange.{EventChange}
use Rattle.hal_code.specs.declared.operand.EventChange.TheVariants as change
use Rattle.hal_code.specs.declared.operand.Response.TheVariants as response
use Rattle.hal_agreement.specs.Codes.{Code}
use Rattle.hal_agreement.specs.PlacedExpressions.{Has, One, ExpressionAt}
use Rattle.hal_agreement.specs.PlacedStatements.{Leaving, ToFinish, ByReturn, ByResult, NoReturn, Exits, ChannelAt, ItemsAt, ConditionAt, FirstTestAt, TestAt, ReturnAt, ResultBy, ResultAt, AssignedAt, CalledAt, ReadsAt, EventAt, EachAt, NamedOrOwnAt, Selects, sets, response_of, changes}
use Rattle.hal_agreement.specs.PlacedTimes.{There, NamedAt}
use Rattle.hal_agreement.specs.Sites.{Site, here_at}
use Rattle.hal_gen_expr.specs.Emitting.{emit}
use Rattle.hal_gen_expr.specs.ExpressionCode.{emit_one, expression_code, arguments_code}
use Rattle.hal_gen_expr.specs.Calling.{spot_code, spots_code, passed_to_code}
use Rattle.hal_gen_expr.specs.Leaves.{call_of}
use Rattle.hal_gen_expr.specs.Numbering.{Numbering, below}
use Rattle.hal_storage.specs.referents.Referents.{Referent, DataOf, ConstantOf, EventOf, BlockOf, BuiltinOf, Unmeant}
use Rattle.hal_gen_expr.specs.Referents.{referent}
use Rattle.hal_gen_expr.specs.Standing.{Begins, IsNumbered, Placed}
use Rattle.hal_gen_expr.proofs.Expressed.{call_given, ok_is, expression_at, arguments_at, area_placed}
use Rattle.hal_gen_expr.proofs.Growing.{append_append, weaker, one_placed, none_placed, first_placed, both_there, both_placed, emitted}
use Rattle.hal_gen_expr.proofs.Numbered.{given_is}
use Rattle.hal_gen_expr.proofs.Named.{two_placed, call_placed}
use Rattle.hal_gen_expr.proofs.Numbered.{below_is, mapped_is, then_is}
use Rattle.hal_gen_expr.proofs.Referring.{meaning_of, name_means}
use Rattle.hal_gen_expr.specs.Constants.{integer_of}
use Rattle.hal_gen_expr.proofs.Constancy.{constant_at}
use Rattle.hal_gen.specs.ChannelNumbers.{channel_of}
use Rattle.hal_gen.specs.Leaves.{kind_referred, kind_of_receiver, return_of, gives_text, text_result, as_result, result_of, stated_number, first_event, event_pause_of, named_process, and_asked, each_of, named_or_own_of, event_change_of, from_one, numbers_of, change_of, side_numbers, response_code, handler_entry, handler_code, off_of, raise_of}
use Rattle.hal_gen.specs.Receiving.{receiver_code, receiver_size}
use Rattle.hal_gen.specs.StatementCode.{items_code, reads_code, condition_code, first_test_code, test_code, procedure_code, returning_code}
use Rattle.hal_gen.proofs.ChannelNumbers.{number_given}
use Rattle.hal_gen.proofs.Measured.{later, receiver_longer}
use Rattle.hal_gen.proofs.Received.{receiver_at}

below_true : (limit n m : ℕ) → below limit n ≡ Some m → nat_lt n limit ≡ true
below_true limit n m = by (nat_lt n limit) where
  by : (b : Bool) → (if b then Some n else None) ≡ Some m → b ≡ true
  by true is = refl
  by false is = absurd (cc)

not_it : (n limit : ℕ) → nat_lt n limit ≡ true → (n == limit) ≡ false
not_it n limit low = let less = ltb-true n limit low in ne_eqb n limit (λ same. omega (arith, less, same))

module _ (code : Code) (n : Numbering) (site : Site) (numbered : IsNumbered code n) where
  -- one instruction that goes by what is given
  pub single_placed : {X : Type 0} (f : X → Instr) (source : Option X) (place : Place) (before after : List Instr) → emit before place (option_map (λ x. f x ∷ []) source) ≡ Ok after → Begins after code.image.code
      → (x : X) × (source ≡ Some x) × Placed code before after (λ from to. One code from (f x) to)
  single_placed f source place before after e begins =
      let given = emitted before place (option_map (λ x. f x ∷ []) source) after e in
      let one = mapped_is (λ x. f x ∷ []) source given.0 given.1 in
      (one.0, one.1, one_placed code before after (f one.0) (ap (λ l. before ++ l) one.2 ∙ given.2) begins)

  pub channel_at : (tree : Expression) (number : ℕ) → channel_of site tree ≡ Some number → ChannelAt site tree number
  channel_at tree number is = constant_at site tree (pos number) (number_given (integer_of site tree) number is)

  pub items_at : (items : Expressions) (before after : List Instr) → items_code n site before items ≡ Ok after → Begins after code.image.code
      → Placed code before after (λ from to. ItemsAt code site items from to)
  items_at NoExpressions before after e begins = none_placed code before after (ok_is before after e) begins
  items_at (MoreExpressions first others) before after e begins =
      weaker code before after (λ from to at. (at.0, at.1, at.2.0, at.2.1))
      (both_placed code (expression_code n site before first) (λ middle. items_code n site (middle ++ (instr.Item ∷ [])) others) before after e
      (λ middle there begun. expression_at code n site numbered first before middle there begun)
      (λ middle there. first_placed code middle after instr.Item (items_at others (middle ++ (instr.Item ∷ [])) after there begins)))

  pub condition_at : (condition : Expression) (place : Place) (target : ℕ) (before after : List Instr) → condition_code n site before place condition target ≡ Ok after → Begins after code.image.code
      → Placed code before after (λ from to. ConditionAt code site condition from target to)
  condition_at condition place target before after e begins =
      both_placed code (expression_code n site before condition) (λ middle. emit_one middle place (instr.JumpNot target)) before after e
      (λ middle there begun. expression_at code n site numbered condition before middle there begun) (λ middle there. one_placed code middle after (instr.JumpNot target) (ok_is _ after there) begins)

  pub first_test_at : (g : Guard) (exit : ℕ) (before after : List Instr) → first_test_code n site before g exit ≡ Ok after → Begins after code.image.code
      → Placed code before after (λ from to. FirstTestAt code site g from exit to)
  first_test_at (While place condition) exit before after e begins = condition_at condition place exit before after e begins
  first_test_at (Until place condition) exit before after e begins = none_placed code before after (ok_is before after e) begins

  -- the exit is where the code ends
  pub test_at : (g : Guard) (turn exit : ℕ) (before after : List Instr) → test_code n site before g turn exit ≡ Ok after → exit ≡ length after → Begins after code.image.code
      → Placed code before after (λ from to. TestAt code site g from turn to)
  test_at (While place condition) turn exit before after e ends begins =
      let there = both_placed code (expression_code n site before condition) (λ middle. emit middle place (Some (instr.JumpNot exit ∷ instr.Jump turn ∷ []))) before after e
      (λ middle first begun. expression_at code n site numbered condition before middle first begun)
      (λ middle late. two_placed code n site numbered middle after (instr.JumpNot exit) (instr.Jump turn) (ok_is _ after late) begins)
      in record { at = (there.at.0, there.at.1, subst (λ m. Has code there.at.0 (instr.JumpNot m)) ends there.at.2.0, there.at.2.1); begins = there.begins }
  test_at (Until place condition) turn exit before after e ends begins = condition_at condition place turn before after e begins

  kind_same : (path : List Naming) (held : List Held) (r : Referent) → kind_meant path (meaning_of site held r) ≡ kind_referred path r
  kind_same path held (DataOf k kept shape) = refl
  kind_same path held (ConstantOf v) = refl
  kind_same path held (EventOf e) = refl
  kind_same path held (BlockOf unit) = refl
  kind_same path held (BuiltinOf b) = refl
  kind_same path held Unmeant = refl

  kind_there : (receiver : Reference) (held : List Held) → kind_named (here_at site) receiver held ≡ kind_of_receiver site receiver
  kind_there (Refers place name path subscript) held = ap (kind_meant path) (name_means site held name) ∙ kind_same path held (referent site name)

  behind_receiver : (input : Instr) (receiver : Reference) (channel : ℕ) (receivers : List Reference) (before middle after : List Instr) → receiver_code n site (before ++ (input ∷ [])) receiver ≡ Ok middle
      → Placed code middle after (λ from to. ReadsAt code site channel receivers from to)
      → Placed code middle after (λ from to. (from ≡ length before + (1 + receiver_size n site receiver)) × ReadsAt code site channel receivers from to)
  behind_receiver input receiver channel receivers before middle after got rest =
      record { at = (later before middle input (receiver_size n site receiver) (receiver_longer n site (before ++ (input ∷ [])) middle receiver got), rest.at); begins = rest.begins }

  pub reads_at : (channel : ℕ) (receivers : List Reference) (before after : List Instr) → reads_code n site before channel receivers ≡ Ok after → Begins after code.image.code
      → Placed code before after (λ from to. ReadsAt code site channel receivers from to)
  reads_at channel [] before after e begins = none_placed code before after (ok_is before after e) begins
  reads_at channel (receiver ∷ receivers) before after e begins =
      let input = instr.Input channel (kind_of_receiver site receiver) (length before + (1 + receiver_size n site receiver)) in
      let there = first_placed code before after input
      (both_there code (receiver_code n site (before ++ (input ∷ [])) receiver)
      (λ middle. reads_code n site middle channel receivers) (before ++ (input ∷ [])) after e (λ middle got begun. receiver_at code n site numbered receiver (before ++ (input ∷ [])) middle got begun)
      (λ middle got rest. behind_receiver input receiver channel receivers before middle after got (reads_at channel receivers middle after rest begins)))
      in record {
        at = (
          kind_of_receiver site receiver,
          there.at.1.0,
          kind_there receiver,
          subst (λ m. Has code (length before) (instr.Input channel (kind_of_receiver site receiver) m)) (sym there.at.1.2.0) there.at.0,
          there.at.1.1,
          there.at.1.2.1,
        );
        begins = there.begins;
      }

  return_at : (l : Leaving) (before after is : List Instr) → return_of l ≡ Some is → before ++ is ≡ after → Begins after code.image.code → Placed code before after (λ from to. ReturnAt code l from to)
  return_at (ToFinish at) before after is given grown begins = one_placed code before after (instr.Jump at) (ap (λ l. before ++ l) (let same : (instr.Jump at ∷ []) ≡ is = cc in same) ∙ grown) begins
  return_at ByReturn before after is given grown begins = one_placed code before after instr.Return (ap (λ l. before ++ l) (let same : (instr.Return ∷ []) ≡ is = cc in same) ∙ grown) begins
  return_at ByResult before after is given grown begins = absurd (cc)
  return_at NoReturn before after is given grown begins = absurd (cc)

  nothing_put : (before after : List Instr) → before ++ [] ≡ after → Begins after code.image.code → Placed code before after (λ from to. from ≡ to)
  nothing_put before after grown begins = none_placed code before after (sym (append-nil before) ∙ grown) begins

  result_at : (head : Head) (before after : List Instr) → before ++ text_result (gives_text head) ≡ after → Begins after code.image.code → Placed code before after (λ from to. ResultBy code head from to)
  result_at (Function place inputs (HasKind (CharacterKind at size) precision) mode) before after grown begins = one_placed code before after (instr.Op1 (choice.Known op1.Character)) grown begins
  result_at (Function place inputs (HasKind (IntegerKind at) precision) mode) before after grown begins = nothing_put before after grown begins
  result_at (Function place inputs (HasKind (BooleanKind at) precision) mode) before after grown begins = nothing_put before after grown begins
  result_at (Function place inputs (HasKind (EventKind at) precision) mode) before after grown begins = nothing_put before after grown begins
  result_at (Function place inputs (HasKind (BitKind at size) precision) mode) before after grown begins = nothing_put before after grown begins
  result_at (Function place inputs (HasKind (StructureKind at template copies) precision) mode) before after grown begins = nothing_put before after grown begins
  result_at (Function place inputs NoKind mode) before after grown begins = nothing_put before after grown begins
  result_at (Program place) before after grown begins = nothing_put before after grown begins
  result_at (Compool place) before after grown begins = nothing_put before after grown begins
  result_at (Task place) before after grown begins = nothing_put before after grown begins
  result_at (Procedure place inputs outputs mode) before after grown begins = nothing_put before after grown begins

  as_result_at : (body : Option Body) (before after : List Instr) → before ++ as_result body ≡ after → Begins after code.image.code → Placed code before after (λ from to. ResultAt code body from to)
  as_result_at None before after grown begins = nothing_put before after grown begins
  as_result_at (Some b) before after grown begins = result_at b.head before after grown begins

  result_placed : (l : Leaving) (body : Option Body) (before after is : List Instr) → result_of l body ≡ Some is → before ++ is ≡ after → Begins after code.image.code
      → Placed code before after (λ from to. (late : ℕ) × ResultAt code body from late × (l ≡ ByResult) × One code late instr.Return to)
  result_placed (ToFinish at) body before after is given grown begins = absurd (cc)
  result_placed ByReturn body before after is given grown begins = absurd (cc)
  result_placed ByResult body before after is given grown begins =
      let same : as_result body ++ (instr.Return ∷ []) ≡ is = cc in
      let late = one_placed code (before ++ as_result body) after instr.Return (append_append before (as_result body) (instr.Return ∷ []) ∙ (ap (λ l. before ++ l) same ∙ grown)) begins in
      let early = as_result_at body before (before ++ as_result body) refl late.begins in
      record { at = (length (before ++ as_result body), early.at, refl, late.at); begins = early.begins }
  result_placed NoReturn body before after is given grown begins = absurd (cc)

  -- RETURN, as a statement that stands for it
  pub plain_return_at : (exits : Exits) (place : Place) (before after : List Instr) → returning_code n site before exits place None ≡ Ok after → Begins after code.image.code
      → Placed code before after (λ from to. ReturnAt code exits.leaving from to)
  plain_return_at exits place before after e begins =
      let given = emitted before place (return_of exits.leaving) after e in return_at exits.leaving before after given.0 given.1 given.2 begins

  pub value_return_at : (exits : Exits) (place : Place) (tree : Expression) (before after : List Instr) → returning_code n site before exits place (Some tree) ≡ Ok after → Begins after code.image.code
      → Placed code before after (λ from to. (middle : ℕ) × (late : ℕ) × ExpressionAt code site tree from middle × ResultAt code (body_at site.set site.unit) middle late × (exits.leaving ≡ ByResult) × One code late instr.Return to)
  value_return_at exits place tree before after e begins =
      weaker code before after (λ from to at. (at.0, at.2.0, at.1, at.2.1, at.2.2, at.2.3))
      (both_placed code (expression_code n site before tree) (λ middle. emit middle place (result_of exits.leaving (body_at site.set site.unit))) before after e
      (λ middle there begun. expression_at code n site numbered tree before middle there begun)
      (λ middle there. let given = emitted middle place (result_of exits.leaving (body_at site.set site.unit)) after there in
      result_placed exits.leaving (body_at site.set site.unit) middle after given.0 given.1 given.2 begins))

  -- ASSIGN arguments
  assigned_at : (names : List Naming) (receivers : List Reference) (unit : ℕ) (place : Place) (before after : List Instr) → spots_code n site before place unit names receivers ≡ Ok after → Begins after code.image.code
      → Placed code before after (λ from to. AssignedAt code site unit names receivers from to)
  unfolding spot_code
  assigned_at [] [] unit place before after e begins = none_placed code before after (ok_is before after e) begins
  assigned_at (name ∷ names) (receiver ∷ receivers) unit place before after e begins =
      both_placed code (spot_code n site before unit name receiver) (λ middle. spots_code n site middle place unit names receivers) before after e
      (λ middle there begun. area_placed code n site numbered receiver (parameter_named site.set unit name).shape before middle there begun) (λ middle there. assigned_at names receivers unit place middle after there begins)
  assigned_at [] (receiver ∷ receivers) unit place before after e begins = absurd (cc)
  assigned_at (name ∷ names) [] unit place before after e begins = absurd (cc)

  procedure_by : (arguments : Expressions) (receivers : List Reference) (r : Referent) (place : Place) (before after : List Instr) → procedure_code n site before place arguments receivers r ≡ Ok after → Begins after code.image.code
      → Placed code before after (λ from to. (held : List Held) → CalledAt code site arguments receivers (meaning_of site held r) from to)
  procedure_by arguments receivers (BlockOf unit) place before after e begins =
      let call = call_given (passed_to_code n site before place arguments receivers unit) (call_of n site false unit) place after e in
      weaker code before after (λ from to at. λ held. (at.1.0, at.0, at.1.1, at.1.2, at.2))
      (both_placed code (passed_to_code n site before place arguments receivers unit) (λ middle. Ok (middle ++ call.0)) before after call.2
      (λ last there begun. both_placed code (arguments_code n site before place unit (inputs_at site.set unit) arguments) (λ middle. spots_code n site middle place unit (outputs_at site.set unit) receivers) before last there
      (λ middle here starts. arguments_at code n site numbered arguments unit (inputs_at site.set unit) place before middle here starts)
      (λ middle here. assigned_at (outputs_at site.set unit) receivers unit place middle last here begun))
      (λ last there. call_placed code n site numbered false unit last after call.0 call.1 (ok_is (last ++ call.0) after there) begins))
  procedure_by arguments receivers (DataOf k kept shape) place before after e begins = absurd (cc)
  procedure_by arguments receivers (ConstantOf v) place before after e begins = absurd (cc)
  procedure_by arguments receivers (EventOf one) place before after e begins = absurd (cc)
  procedure_by arguments receivers (BuiltinOf b) place before after e begins = absurd (cc)
  procedure_by arguments receivers Unmeant place before after e begins = absurd (cc)

  pub procedure_at : (name : List ℕ) (arguments : Expressions) (receivers : List Reference) (place : Place) (before after : List Instr) → procedure_code n site before place arguments receivers (referent site name) ≡ Ok after → Begins after code.image.code
      → Placed code before after (λ from to. (held : List Held) → CalledAt code site arguments receivers (name_meant (here_at site) name held) from to)
  procedure_at name arguments receivers place before after e begins =
      weaker code before after (λ from to at. λ held. subst (λ m. CalledAt code site arguments receivers m from to) (sym (name_means site held name)) (at held))
      (procedure_by arguments receivers (referent site name) place before after e begins)

  pub stated_is : (x number : ℕ) → stated_number site x ≡ Some number → (x ≡ number) × There site x
  stated_is x number is =
      let there = given_is (nat_lt x (length site.set.tables.expressions)) (below 4294967296 x) number is in (below_is 4294967296 x number there.1, there.0)

  event_at : (xs : List ℕ) (number from to : ℕ) → first_event site xs ≡ Some number → One code from (instr.Wait (delay.Event number)) to → EventAt code site xs from to
  event_at [] number from to is one = absurd (cc)
  event_at (x ∷ xs) number from to is one =
      let there = stated_is x number is in (there.1, subst (λ k. One code from (instr.Wait (delay.Event k)) to) (sym there.0) one)

  pub event_pause_at : (xs : List ℕ) (place : Place) (before after : List Instr) → emit before place (event_pause_of site xs) ≡ Ok after → Begins after code.image.code
      → Placed code before after (λ from to. EventAt code site xs from to)
  event_pause_at xs place before after e begins =
      let given = single_placed (λ number. instr.Wait (delay.Event number)) (first_event site xs) place before after e begins in
      weaker code before after (λ from to at. event_at xs given.0 from to given.1 at) given.2

  pub named_is : (name : Naming) (number : ℕ) → named_process site name ≡ Some number → NamedAt site name number
  named_is name number is =
      let there = given_is (nat_lt (process_named (here_at site) name) (process_count site.set.tables)) (below 255 (process_named (here_at site) name)) number is in
      let same = below_is 255 (process_named (here_at site) name) number there.1 in
      record {
        process = same;
        other = subst (λ m. (m == 255) ≡ false) same (not_it (process_named (here_at site) name) 255 (below_true 255 (process_named (here_at site) name) number there.1));
        there = subst (λ m. nat_lt m (process_count site.set.tables) ≡ true) same there.0;
      }

  both_asked : (asks : ℕ → Instr) (number : Option ℕ) (others : Option (List Instr)) (is : List Instr) → and_asked asks number others ≡ Some is
      → (p : ℕ) × (rest : List Instr) × (number ≡ Some p) × (others ≡ Some rest) × ((asks p ∷ rest) ≡ is)
  both_asked asks None others is e = absurd (cc)
  both_asked asks (Some p) None is e = absurd (cc)
  both_asked asks (Some p) (Some rest) is e = (p, rest, refl, refl, cc)

  each_at : (asks : ℕ → Instr) (names : List Naming) (before after is : List Instr) → each_of site asks names ≡ Some is → before ++ is ≡ after → Begins after code.image.code
      → Placed code before after (λ from to. EachAt code site asks names from to)
  each_at asks [] before after is given grown begins = nothing_put before after (ap (λ l. before ++ l) (let same : [] ≡ is = cc in same) ∙ grown) begins
  each_at asks (name ∷ names) before after is given grown begins =
      let both = both_asked asks (named_process site name) (each_of site asks names) is given in
      let there = first_placed code before after (asks both.0)
      (each_at asks names (before ++ (asks both.0 ∷ [])) after both.1 both.3 (append_append before (asks both.0 ∷ []) both.1 ∙ (ap (λ l. before ++ l) both.4 ∙ grown)) begins)
      in record { at = (both.0, named_is name both.0 both.2, there.at.0, there.at.1); begins = there.begins }

  pub named_or_own_at : (asks : ℕ → Instr) (names : List Naming) (place : Place) (before after : List Instr) → emit before place (named_or_own_of site asks names) ≡ Ok after → Begins after code.image.code
      → Placed code before after (λ from to. NamedOrOwnAt code site asks names from to)
  named_or_own_at asks [] place before after e begins = one_placed code before after (asks 255) (ok_is _ after e) begins
  named_or_own_at asks (name ∷ names) place before after e begins =
      let given = emitted before place (each_of site asks (name ∷ names)) after e in each_at asks (name ∷ names) before after given.0 given.1 given.2 begins

  two_given : {X Y : Type 0} (f : X → Y → Instr) (a : Option X) (b : Option Y) (place : Place) (before after : List Instr) → emit before place (option_and_then (λ x. option_map (λ y. f x y ∷ []) b) a) ≡ Ok after
      → Begins after code.image.code → (x : X) × (y : Y) × (a ≡ Some x) × (b ≡ Some y) × Placed code before after (λ from to. One code from (f x y) to)
  two_given f a b place before after e begins =
      let given = emitted before place (option_and_then (λ x. option_map (λ y. f x y ∷ []) b) a) after e in
      let first = then_is (λ x. option_map (λ y. f x y ∷ []) b) a given.0 given.1 in
      let second = mapped_is (λ y. f first.0 y ∷ []) b given.0 first.2 in
      (first.0, second.0, first.1, second.1, one_placed code before after (f first.0 second.0) (ap (λ l. before ++ l) second.2 ∙ given.2) begins)

  from_one_is : (n m : ℕ) → from_one n ≡ Some m → (k : ℕ) × (n ≡ suc k) × (m ≡ suc k)
  from_one_is zero m is = absurd (cc)
  from_one_is (suc k) m is = (k, refl, sym (below_is 256 (suc k) m is))

  grouped_right : (group k number : ℕ) → group ≡ suc k → is_selector group number ≡ true
  grouped_right group k number is = ap (λ (b : Bool). not b || (number == 0)) (ne_eqb group 0 (λ none. omega (arith, is, none)))

  pub selects : (s : Selector) (errors : ℕ × ℕ) → numbers_of s ≡ Some errors → Selects s errors.0 errors.1
  selects EveryError errors is = subst (λ (e : ℕ × ℕ). Selects EveryError e.0 e.1) (let same : (0, 0) ≡ errors = cc in same) (record { is = refl; right = refl })
  selects (GroupErrors place group_at group) errors is =
      let given = mapped_is (λ g. (g, 0)) (from_one group) errors is in
      let one = from_one_is group given.0 given.1 in
      subst (λ (e : ℕ × ℕ). Selects (GroupErrors place group_at group) e.0 e.1) given.2
      (record {
        is = subst (λ g. machine.selector_of given.0 0 ≡ selectors.Group g) (sym one.1) (ap (λ g. machine.selector_of g 0) one.2);
        right = grouped_right given.0 one.0 0 one.2;
      })
  selects (OneError place group_at group number_at number) errors is =
      let given = then_is (λ g. option_map (λ k. (g, k)) (from_one number)) (from_one group) errors is in
      let late = mapped_is (λ k. (given.0, k)) (from_one number) errors given.2 in
      let one = from_one_is group given.0 given.1 in
      let two = from_one_is number late.0 late.1 in
      subst (λ (e : ℕ × ℕ). Selects (OneError place group_at group number_at number) e.0 e.1) late.2
      (record {
        is =
            subst (λ g. machine.selector_of given.0 late.0 ≡ selectors.One (error g number)) (sym one.1)
            (subst (λ k. machine.selector_of given.0 late.0 ≡ selectors.One (error (suc one.0) k)) (sym two.1) (ap (λ g. machine.selector_of g late.0) one.2 ∙ ap (λ k. machine.selector_of (suc one.0) k) two.2));
        right = grouped_right given.0 one.0 late.0 one.2;
      })

  side_by : (action : EventAction) (number : ℕ) → machine.side_of (change_of action) number ≡ side_of_action action number
  side_by Signal number = refl
  side_by Set number = refl
  side_by Reset number = refl

  pub sides : (e : Option Eventful) (what : EventChange × ℕ) → side_numbers site e ≡ Some what → machine.side_of what.0 what.1 ≡ side_of (here_at site) e
  sides None what is = subst (λ (s : EventChange × ℕ). machine.side_of s.0 s.1 ≡ side.Nothing) (let same : (change.Nothing, 0) ≡ what = cc in same) refl
  sides (Some e) what is =
      let given = mapped_is (λ number. (change_of e.action, number)) (below 65536 (event_named site.set.phrases site.block e.name.name)) what is in
      let same = below_is 65536 (event_named site.set.phrases site.block e.name.name) given.0 given.1 in
      subst (λ (s : EventChange × ℕ). machine.side_of s.0 s.1 ≡ side_of_action e.action (event_named site.set.phrases site.block e.name.name)) given.2
      (ap (machine.side_of (change_of e.action)) (sym same) ∙ side_by e.action (event_named site.set.phrases site.block e.name.name))

  -- SEND ERROR, ON ERROR with SYSTEM or IGNORE, OFF ERROR
  pub raise_at : (group number : ℕ) (place : Place) (before after : List Instr) → emit before place (raise_of group number) ≡ Ok after → Begins after code.image.code
      → Placed code before after (λ from to. One code from (instr.Raise group number) to)
  raise_at group number place before after e begins =
      let given = two_given instr.Raise (below 256 group) (below 256 number) place before after e begins in
      weaker code before after
      (λ from to at. subst (λ g. One code from (instr.Raise g number) to) (sym (below_is 256 group given.0 given.2)) (subst (λ k. One code from (instr.Raise given.0 k) to) (sym (below_is 256 number given.1 given.3)) at)) given.4

  pub response_at : (s : Selector) (r : Response) (e : Option Eventful) (place : Place) (before after : List Instr) → emit before place (response_code site s r e) ≡ Ok after → Begins after code.image.code
      → Placed code before after (λ from to. (group : ℕ) × (number : ℕ) × (changed : EventChange) × (event : ℕ) × Selects s group number × (machine.side_of changed event ≡ side_of (here_at site) e)
      × One code from (sets group number (response_of r) changed event 0) to)
  response_at s r e place before after is begins =
      let given = two_given (λ (errors : ℕ × ℕ) (side : EventChange × ℕ). sets errors.0 errors.1 (response_of r) side.0 side.1 0) (numbers_of s) (side_numbers site e) place before after is begins in
      weaker code before after (λ from to at. (given.0.0, given.0.1, given.1.0, given.1.1, selects s given.0 given.2, sides e given.1 given.3, at)) given.4

  pub off_at : (s : Selector) (place : Place) (before after : List Instr) → emit before place (off_of s) ≡ Ok after → Begins after code.image.code
      → Placed code before after (λ from to. (group : ℕ) × (number : ℕ) × Selects s group number × One code from (instr.Off group number) to)
  off_at s place before after is begins =
      let given = single_placed (λ (errors : ℕ × ℕ). instr.Off errors.0 errors.1) (numbers_of s) place before after is begins in
      weaker code before after (λ from to at. (given.0.0, given.0.1, selects s given.0 given.1, at)) given.2

  -- ON ERROR with a statement of this size, and the jump over it
  pub entry_at : (s : Selector) (size : ℕ) (place : Place) (before after : List Instr) → emit before place (handler_code s (length before) size) ≡ Ok after → Begins after code.image.code
      → Placed code before after (λ from to. (group : ℕ) × (number : ℕ) × Selects s group number × Has code from (sets group number response.Statement change.Nothing 0 (suc (suc from))) × One code (suc from) (instr.Jump (suc (suc from) + size)) to)
  entry_at s size place before after is begins =
      let given = emitted before place (handler_code s (length before) size) after is in
      let one = mapped_is (handler_entry (length before) size) (numbers_of s) given.0 given.1 in
      let there = two_placed code n site numbered before after (sets one.0.0 one.0.1 response.Statement change.Nothing 0 (suc (suc (length before)))) (instr.Jump (suc (suc (length before)) + size)) (ap (λ l. before ++ l) one.2 ∙ given.2) begins in
      record { at = (one.0.0, one.0.1, selects s one.0 one.1, there.at.0, there.at.1); begins = there.begins }

  pub event_change_at : (one : Eventful) (before after : List Instr) → emit before one.place (event_change_of site one) ≡ Ok after → Begins after code.image.code
      → Placed code before after (λ from to. One code from (changes one.action (event_named site.set.phrases site.block one.name.name)) to)
  event_change_at one before after e begins =
      let given = single_placed (changes one.action) (below 65536 (event_named site.set.phrases site.block one.name.name)) one.place before after e begins in
      weaker code before after (λ from to at. subst (λ m. One code from (changes one.action m) to) (sym (below_is 65536 (event_named site.set.phrases site.block one.name.name) given.0 given.1)) at) given.2
