-- The code of statements goes on: each jump leads forward, or back to the TURN of a loop that is left behind the jump.
use Rattle.std.specs.Prelude.{◌≡◌, ◌≤◌, ◌<◌, ℕ, suc, ◌+◌, Bool, true, false, List, [], ◌∷◌, ◌++◌, length, Option, Some, None, Ok, Err, if◌then◌else◌}
use Rattle.std.specs.Option.{option_map}
use Rattle.std.proofs.Common.{refl, sym, subst, inl, inr, arith}
use Rattle.hal_base.specs.declared.refusal.Place.{Place}
use Rattle.hal_grammar.specs.Leaves.{Naming}
use Rattle.hal_grammar.specs.Declarations.{IntegerKind, BooleanKind, EventKind, BitKind, CharacterKind, StructureKind}
use Rattle.hal_grammar.specs.Expressions.{Expression, Decimal, Expressions, NoExpressions, MoreExpressions, Reference, Refers, Subscript, Unsubscripted, ByName, ByInteger, ByParts, Subscripts, NoSubscripts, MoreSubscripts}
use Rattle.hal_grammar.specs.Statements.{Guard, While, Until, Span, Stepped, Listed, Start, StartAt, StartIn, StartOn, Cycle, Cyclic, CyclicEvery, CyclicAfter, Schedule, EventAction, Signal, Set, Reset, Statement, Labelled, Basic, Null, Assignment, If, Do, DoCase, DoLoop, DoFor, Exit, Repeat, Return, Call, Read, Write, Cancel, Terminate, Wait, WaitUntil, WaitForDependent, WaitFor, Event, Scheduled, UpdatePriority, Update, OnErrorStatement, OnErrorResponse, OffError, SendError, Alternative, NoAlternative, Otherwise, Group, Groups, Statements, NoStatements, MoreStatements}
use Rattle.hal_grammar.specs.Units.{Head, Program, Task, Compool, Procedure, Function, HasKind, NoKind}
use Rattle.hal_scope.specs.Uses.{holds_event}
use Rattle.hal_meaning.specs.Bodies.{Body}
use Rattle.hal_meaning.specs.Events.{event_named}
use Rattle.hal_meaning.specs.Expressions.{inputs_at, outputs_at, sizes_named}
use Rattle.hal_meaning.specs.Marks.{after_statement, after_alternative}
use Rattle.hal_meaning.specs.RealTime.{stated_at_mark}
use Rattle.hal_meaning.specs.Sets.{body_at}
use Rattle.hal_meaning.specs.Statements.{components_in, is_meant, loop_place, end_place, label_name, update_groups}
use Rattle.hal_states.specs.Spots.{Spot, Held}
use Rattle.hal_meaning.specs.Calls.{parameter_named}
use Rattle.hal_meaning.specs.Elements.{chosen, kinds_of}
use Rattle.hal_code.specs.declared.row.Target.TheVariants as targets
use Rattle.hal_meaning.specs.Variables.{Meant, MeantData, MeantConstant, MeantEvent, MeantBlock, MeantBuiltin, MeantNothing, name_meant, spot_named, kind_of_first, is_arrayed}
use Rattle.hal_code.specs.declared.instr.Instr.{Instr}
use Rattle.hal_code.specs.declared.instr.Instr.TheVariants as instr
use Rattle.hal_code.specs.declared.operand.Delay.{Delay}
use Rattle.hal_code.specs.declared.operand.Delay.TheVariants as delay
use Rattle.hal_code.specs.declared.choice.Choice.{Choice}
use Rattle.hal_code.specs.declared.operand.Limit as limits
use Rattle.hal_code.specs.declared.operand.Round as rounds
use Rattle.hal_code.specs.declared.operand.Start as starts
use Rattle.hal_code.specs.declared.operand.Time.{Time}
use Rattle.hal_code.specs.Forward.{GoesOn}
use Rattle.hal_agreement.specs.Codes.{Code}
use Rattle.hal_agreement.specs.PlacedExpressions.{Has, One, ChosenAt}
use Rattle.hal_agreement.specs.PlacedStatements.{FirstSpanAt, Leaving, ToFinish, ByReturn, ByResult, NoReturn, Exits, exit_of, again_of, opened, within_group, KeptAt, StoredAt, ReceivedAt, AddressedAt, ReceiverAt, ReceiversAt, ItemsAt, FirstTestAt, TestAt, ReturnAt, ResultBy, ResultAt, AssignedAt, CalledAt, ReadsAt, changes, EventAt, EachAt, NamedOrOwnAt, BasicAt}
use Rattle.hal_agreement.specs.PlacedTimes.{TimeAt, PauseAt, StartsAt, PriorityAt, RoundAt, UntilAt, LimitAt, ScheduledAt, PrioritizedAt}
use Rattle.hal_agreement.specs.Sites.{Site, here_at, group_site}
use Rattle.hal_gen_expr.specs.Emitting.{Emitted, onwards, emit}
use Rattle.hal_gen_expr.specs.ExpressionCode.{emit_one, expression_code}
use Rattle.hal_gen_expr.specs.Numbering.{Numbering, below}
use Rattle.hal_gen_expr.specs.Standing.{Begins, IsNumbered, Placed}
use Rattle.hal_gen_expr.proofs.Expressed.{ok_is, expression_at}
use Rattle.hal_gen_expr.proofs.Forwarding.{Goes, none_goes, one_goes, joined_goes, first_goes, call_goes, expression_goes, arguments_go, area_goes, name_goes, chosen_goes as address_goes, part_goes}
use Rattle.hal_gen_expr.proofs.Growing.{length_of_one_more, weaker, has_there, one_placed, none_placed, first_placed}
use Rattle.hal_gen.specs.BlockExits.{of_body}
use Rattle.hal_gen.specs.declared.kept.Cells.{Cells}
use Rattle.hal_gen.specs.KeptCode.{cell_of, keeping, case_code, cells_of}
use Rattle.hal_gen.specs.Leaves.{handler_code}
use Rattle.hal_gen.specs.SpanCode.{begin_code, again_code}
use Rattle.hal_gen.specs.Sizes.{spanned_size, again_size, later_span_size, selected_size, jump_size, statement_size, basic_size, group_size}
use Rattle.hal_gen.specs.StatementCode.{first_span_code, later_span_code, first_test_code, test_code, statement_code, basic_code, direct_code, block_code, alternative_code, uncased_code, cases_code, selected_code, group_code, statements_code}
use Rattle.hal_gen.proofs.Keeping.{IsCell, keeping_at, case_at, cell_is, keeps_go, case_goes, AreCells, cells_are}
use Rattle.hal_gen.proofs.Spanned.{first_span_at, BeginAt, AgainAt, begin_at, again_at, begun_goes, value_goes, stepping_goes, listing_goes}
use Rattle.hal_gen.proofs.Measured.{unnested, later, begin_longer, again_longer, first_span_longer, later_span_longer, both_longer, uncased_longer, selected_longer, first_test_longer, test_longer, basic_longer, alternative_longer, group_longer, block_longer, statements_longer}
use Rattle.hal_gen.proofs.Simple.{first_test_at, test_at, entry_at}
use Rattle.hal_gen.proofs.Stated.{number_given, cells_given, opens_at, basic_at}

-- EXIT, REPEAT and RETURN lead on from before this address
pub record Ahead (exits : Exits) (to : ℕ) : Type 0 where
  pub exit : (label : Option (List ℕ)) (target : ℕ) → exit_of exits.groups label ≡ Some target → to ≤ target
  pub again : (label : Option (List ℕ)) (target : ℕ) → again_of exits.groups label ≡ Some target → to ≤ target
  pub finish : (at : ℕ) → exits.leaving ≡ ToFinish at → to ≤ at

pub earlier : (exits : Exits) (from to : ℕ) → from ≤ to → Ahead exits to → Ahead exits from
earlier exits from to less ahead =
    record {
      exit = λ label target is. let far = ahead.exit label target is in omega (arith, far, less);
      again = λ label target is. let far = ahead.again label target is in omega (arith, far, less);
      finish = λ at is. let far = ahead.finish at is in omega (arith, far, less);
    }

chosen_exit : (b : Bool) (one : ℕ) (others : Option ℕ) (target to : ℕ) → (if b then Some one else others) ≡ Some target → to ≤ one → (others ≡ Some target → to ≤ target) → to ≤ target
chosen_exit true one others target to is here there = let same : one ≡ target = cc in omega (arith, same, here)
chosen_exit false one others target to is here there = there is

-- a group that isn't a loop, and one that is
in_group : (labels : List Naming) (exits : Exits) (exit to : ℕ) → to ≤ exit → Ahead exits to → Ahead (within_group (opened labels exit None) exits) to
in_group labels exits exit to far ahead =
    record {
      exit = λ label target is. chosen_exit (is_meant labels label) exit (exit_of exits.groups label) target to is far (ahead.exit label target);
      again = ahead.again;
      finish = ahead.finish;
    }

in_loop : (labels : List Naming) (exits : Exits) (exit again to : ℕ) → to ≤ exit → to ≤ again → Ahead exits to → Ahead (within_group (opened labels exit (Some again)) exits) to
in_loop labels exits exit again to far far_again ahead =
    record {
      exit = λ label target is. chosen_exit (is_meant labels label) exit (exit_of exits.groups label) target to is far (ahead.exit label target);
      again = λ label target is. chosen_exit (is_meant labels label) again (again_of exits.groups label) target to is far_again (ahead.again label target);
      finish = ahead.finish;
    }

-- no group is open, and no RETURN stands there
none_open : (to : ℕ) → Ahead (of_body NoReturn) to
none_open to = record { exit = λ label target is. absurd (cc); again = λ label target is. absurd (cc); finish = λ at is. absurd (cc) }

module _ (code : Code) (n : Numbering) (site : Site) (numbered : IsNumbered code n) where
  kept_goes : (path : List Naming) (m : Meant) (from to : ℕ) → KeptAt code path [] m from to → Goes code from to
  kept_goes path (MeantData at shape) from to there = first_goes code from to _ there.0.cell tt (one_goes code (suc from) to _ there.1 tt)
  kept_goes path (MeantConstant v) from to there = absurd there
  kept_goes path (MeantEvent e) from to there = absurd there
  kept_goes path (MeantBlock unit) from to there = absurd there
  kept_goes path (MeantBuiltin b) from to there = absurd there
  kept_goes path MeantNothing from to there = absurd there

  stored_goes : (list : Subscripts) (from to : ℕ) → StoredAt code site list from to → Goes code from to
  stored_goes NoSubscripts from to at = one_goes code from to _ at tt
  stored_goes (MoreSubscripts first others) from to at =
      first_goes code from to _ at.1 tt
      (joined_goes code (suc from) at.0 to (part_goes code site first (suc from) at.0 at.2) (first_goes code at.0 to _ at.3 tt (one_goes code (suc at.0) to _ at.4 tt)))

  received_goes : (subscript : Subscript) (arrayed : Bool) (from to : ℕ) → ReceivedAt code site arrayed subscript from to → Goes code from to
  received_goes Unsubscripted true from to at = stored_goes NoSubscripts from to at
  received_goes Unsubscripted false from to at = stored_goes NoSubscripts from to at
  received_goes (ByName there name) true from to at = stored_goes NoSubscripts from to at
  received_goes (ByName there name) false from to at =
      first_goes code from to _ at.1 tt
      (joined_goes code (suc from) at.0 to (name_goes code site name.name [] (suc from) at.0 at.2) (first_goes code at.0 to _ at.3 tt (one_goes code (suc at.0) to _ at.4 tt)))
  received_goes (ByInteger there mark number) true from to at = stored_goes NoSubscripts from to at
  received_goes (ByInteger there mark number) false from to at =
      first_goes code from to _ at.0 tt (first_goes code (suc from) to _ at.1 tt (first_goes code (suc (suc from)) to _ at.2 tt (one_goes code (suc (suc (suc from))) to _ at.3 tt)))
  received_goes (ByParts there copies arrays components) true from to at = stored_goes (components_in true (ByParts there copies arrays components)) from to at
  received_goes (ByParts there copies arrays components) false from to at = stored_goes components from to at

  addressed_goes : (path : List Naming) (subscript : Subscript) (spots : List Held → Spot) (m : Meant) (from to : ℕ)
      → AddressedAt code site path subscript (λ shape a e. ChosenAt code site (targets.Cell (kind_of_first (chosen path shape.components))) path subscript spots shape a e) m from to → Goes code from to
  addressed_goes path subscript spots (MeantData at shape) from to there =
      joined_goes code from there.0 to (address_goes code site subscript (targets.Cell (kind_of_first (chosen path shape.components))) path spots shape from there.0 there.1)
      (received_goes subscript (is_arrayed (sizes_named path shape)) there.0 to there.2)
  addressed_goes path subscript spots (MeantConstant v) from to there = absurd there
  addressed_goes path subscript spots (MeantEvent e) from to there = absurd there
  addressed_goes path subscript spots (MeantBlock unit) from to there = absurd there
  addressed_goes path subscript spots (MeantBuiltin b) from to there = absurd there
  addressed_goes path subscript spots MeantNothing from to there = absurd there

  receiver_goes : (receiver : Reference) (from to : ℕ) → ReceiverAt code site receiver from to → Goes code from to
  receiver_goes (Refers place name path Unsubscripted) from to at = kept_goes path (name_meant (here_at site) name []) from to (at [])
  receiver_goes (Refers place name path (ByName there one)) from to at = addressed_goes path (ByName there one) (spot_named (here_at site) name) (name_meant (here_at site) name []) from to (at [])
  receiver_goes (Refers place name path (ByInteger there mark number)) from to at = addressed_goes path (ByInteger there mark number) (spot_named (here_at site) name) (name_meant (here_at site) name []) from to (at [])
  receiver_goes (Refers place name path (ByParts there copies arrays components)) from to at = addressed_goes path (ByParts there copies arrays components) (spot_named (here_at site) name) (name_meant (here_at site) name []) from to (at [])

  receivers_go : (receivers : List Reference) (from to : ℕ) → ReceiversAt code site receivers from to → Goes code from to
  receivers_go [] from to at = absurd at
  receivers_go (receiver ∷ []) from to at = receiver_goes receiver from to at
  receivers_go (receiver ∷ next ∷ others) from to at =
      first_goes code from to _ at.1 tt (joined_goes code (suc from) at.0 to (receiver_goes receiver (suc from) at.0 at.2) (receivers_go (next ∷ others) at.0 to at.3))

  items_go : (items : Expressions) (from to : ℕ) → ItemsAt code site items from to → Goes code from to
  items_go NoExpressions from to at = none_goes code from to at
  items_go (MoreExpressions first others) from to at =
      joined_goes code from at.0 to (expression_goes code site first from at.0 at.1) (first_goes code at.0 to _ at.2 tt (items_go others (suc at.0) to at.3))

  reads_go : (channel : ℕ) (receivers : List Reference) (from to : ℕ) → ReadsAt code site channel receivers from to → Goes code from to
  reads_go channel [] from to at = none_goes code from to at
  reads_go channel (receiver ∷ receivers) from to at =
      first_goes code from to _ at.3 tt (joined_goes code (suc from) at.1 to (receiver_goes receiver (suc from) at.1 at.4) (reads_go channel receivers at.1 to at.5))

  -- a condition that leads on to a target where it fails
  first_test_goes : (g : Guard) (exit from to : ℕ) → FirstTestAt code site g from exit to → to ≤ exit → Goes code from to
  first_test_goes (While place condition) exit from to at far =
      joined_goes code from at.0 to (expression_goes code site condition from at.0 at.1) (one_goes code at.0 to _ at.2 (inl (omega (arith, at.2.1, far))))
  first_test_goes (Until place condition) exit from to at far = none_goes code from to at

  -- a test from which control goes back to a TURN that leads to its end
  test_goes : (g : Guard) (turn exit from to : ℕ) → TestAt code site g from turn to → Has code turn (instr.Turn exit) → exit ≡ to → Goes code from to
  test_goes (While place condition) turn exit from to at has ends =
      joined_goes code from at.0 to (expression_goes code site condition from at.0 at.1)
      (first_goes code at.0 to _ at.2 (inl (omega (arith, at.3.1))) (one_goes code (suc at.0) to _ at.3 (inr (exit, has, omega (arith, at.3.1, ends)))))
  test_goes (Until place condition) turn exit from to at has ends =
      joined_goes code from at.0 to (expression_goes code site condition from at.0 at.1) (one_goes code at.0 to _ at.2 (inr (exit, has, omega (arith, at.2.1, ends))))

  result_goes : (head : Head) (from to : ℕ) → ResultBy code head from to → Goes code from to
  result_goes (Function place inputs (HasKind (CharacterKind at size) precision) mode) from to there = one_goes code from to _ there tt
  result_goes (Function place inputs (HasKind (IntegerKind at) precision) mode) from to there = none_goes code from to there
  result_goes (Function place inputs (HasKind (BooleanKind at) precision) mode) from to there = none_goes code from to there
  result_goes (Function place inputs (HasKind (EventKind at) precision) mode) from to there = none_goes code from to there
  result_goes (Function place inputs (HasKind (BitKind at size) precision) mode) from to there = none_goes code from to there
  result_goes (Function place inputs (HasKind (StructureKind at template copies) precision) mode) from to there = none_goes code from to there
  result_goes (Function place inputs NoKind mode) from to there = none_goes code from to there
  result_goes (Program place) from to there = none_goes code from to there
  result_goes (Compool place) from to there = none_goes code from to there
  result_goes (Task place) from to there = none_goes code from to there
  result_goes (Procedure place inputs outputs mode) from to there = none_goes code from to there

  as_result_goes : (body : Option Body) (from to : ℕ) → ResultAt code body from to → Goes code from to
  as_result_goes None from to at = none_goes code from to at
  as_result_goes (Some b) from to at = result_goes b.head from to at

  return_goes : (l : Leaving) (from to : ℕ) → ReturnAt code l from to → ((at : ℕ) → l ≡ ToFinish at → to ≤ at) → Goes code from to
  return_goes (ToFinish at) from to there far = let end = far at refl in one_goes code from to _ there (inl (omega (arith, there.1, end)))
  return_goes ByReturn from to there far = one_goes code from to _ there tt
  return_goes ByResult from to there far = absurd there
  return_goes NoReturn from to there far = absurd there

  assigned_go : (unit : ℕ) (names : List Naming) (receivers : List Reference) (from to : ℕ) → AssignedAt code site unit names receivers from to → Goes code from to
  assigned_go unit [] [] from to at = none_goes code from to at
  assigned_go unit (name ∷ names) (receiver ∷ receivers) from to at =
      joined_goes code from at.0 to (area_goes code site receiver (kinds_of (parameter_named site.set unit name).shape) from at.0 at.1) (assigned_go unit names receivers at.0 to at.2)
  assigned_go unit [] (receiver ∷ receivers) from to at = absurd at
  assigned_go unit (name ∷ names) [] from to at = absurd at

  procedure_goes : (arguments : Expressions) (receivers : List Reference) (m : Meant) (from to : ℕ) → CalledAt code site arguments receivers m from to → Goes code from to
  procedure_goes arguments receivers (MeantBlock unit) from to at =
      joined_goes code from at.0 to (arguments_go code site arguments unit (inputs_at site.set unit) from at.0 at.2)
      (joined_goes code at.0 at.1 to (assigned_go unit (outputs_at site.set unit) receivers at.0 at.1 at.3) (call_goes code site unit false at.1 to at.4))
  procedure_goes arguments receivers (MeantData at shape) from to there = absurd there
  procedure_goes arguments receivers (MeantConstant v) from to there = absurd there
  procedure_goes arguments receivers (MeantEvent e) from to there = absurd there
  procedure_goes arguments receivers (MeantBuiltin b) from to there = absurd there
  procedure_goes arguments receivers MeantNothing from to there = absurd there

  change_goes : (action : EventAction) (e from to : ℕ) → One code from (changes action e) to → Goes code from to
  change_goes Signal e from to at = one_goes code from to _ at tt
  change_goes Set e from to at = one_goes code from to _ at tt
  change_goes Reset e from to at = one_goes code from to _ at tt

  time_goes : (tree : Expression) (t : Time) (from to : ℕ) → TimeAt code site tree t from to → Goes code from to
  time_goes (Decimal place number) t from to at = none_goes code from to at.1
  time_goes tree t from to at = expression_goes code site tree from to at.1

  pause_goes : (delays : Time → Delay) (tree : Expression) (from to : ℕ) → PauseAt code site delays tree from to → Goes code from to
  pause_goes delays tree from to at = joined_goes code from at.1 to (time_goes tree at.0 from at.1 at.2) (one_goes code at.1 to _ at.3 tt)

  start_goes : (xs : List ℕ) (s : Option Start) (operand : starts.Start) (from to : ℕ) → StartsAt code site xs s operand from to → Goes code from to
  start_goes xs None operand from to at = none_goes code from to at.1
  start_goes xs (Some (StartAt place tree)) operand from to at = time_goes tree at.0 from to at.2
  start_goes xs (Some (StartIn place tree)) operand from to at = time_goes tree at.0 from to at.2
  start_goes xs (Some (StartOn place tree)) operand from to at = none_goes code from to at.1

  given_goes : (tree : Option Expression) (given : Choice Bool) (from to : ℕ) → PriorityAt code site tree given from to → Goes code from to
  given_goes None given from to at = none_goes code from to at.1
  given_goes (Some tree) given from to at = expression_goes code site tree from to at.1

  round_goes : (c : Option Cycle) (operand : rounds.Round) (from to : ℕ) → RoundAt code site c operand from to → Goes code from to
  round_goes None operand from to at = none_goes code from to at.1
  round_goes (Some (Cyclic place)) operand from to at = none_goes code from to at.1
  round_goes (Some (CyclicEvery place tree)) operand from to at = time_goes tree at.0 from to at.2
  round_goes (Some (CyclicAfter place tree)) operand from to at = time_goes tree at.0 from to at.2

  until_goes : (xs : List ℕ) (b : Bool) (tree : Expression) (operand : limits.Limit) (from to : ℕ) → UntilAt code site xs b tree operand from to → Goes code from to
  until_goes xs true tree operand from to at = none_goes code from to at.1
  until_goes xs false tree operand from to at = time_goes tree at.0 from to at.2

  limit_goes : (xs : List ℕ) (g : Option Guard) (operand : limits.Limit) (from to : ℕ) → LimitAt code site xs g operand from to → Goes code from to
  limit_goes xs None operand from to at = none_goes code from to at.1
  limit_goes xs (Some (While place tree)) operand from to at = none_goes code from to at.1
  limit_goes xs (Some (Until place tree)) operand from to at = until_goes xs (holds_event site.set.phrases site.block tree) tree operand from to at

  schedule_goes : (m : ℕ) (s : Schedule) (from to : ℕ) → ScheduledAt code site m s from to → Goes code from to
  schedule_goes m s from to at =
      joined_goes code from at.second to (start_goes (stated_at_mark (here_at site) m) s.start at.begins from at.second at.first_is)
      (joined_goes code at.second at.third to (given_goes s.priority at.given at.second at.third at.second_is)
      (joined_goes code at.third at.fourth to (round_goes s.cycle at.again at.third at.fourth at.third_is)
      (joined_goes code at.fourth at.last to (limit_goes (stated_at_mark (here_at site) m) s.guard at.until at.fourth at.last at.fourth_is) (one_goes code at.last to _ at.asks tt))))

  update_priority_goes : (name : Option Naming) (tree : Expression) (from to : ℕ) → PrioritizedAt code site name tree from to → Goes code from to
  update_priority_goes name tree from to at = joined_goes code from at.1 to (expression_goes code site tree from at.1 at.3) (one_goes code at.1 to _ at.4 tt)

  event_pause_goes : (xs : List ℕ) (from to : ℕ) → EventAt code site xs from to → Goes code from to
  event_pause_goes [] from to at = absurd at
  event_pause_goes (x ∷ xs) from to at = one_goes code from to _ at.1 tt

  each_goes : (asks : ℕ → Instr) (names : List Naming) (from to : ℕ) → ((at number : ℕ) → GoesOn code.image.code at (asks number)) → EachAt code site asks names from to → Goes code from to
  each_goes asks [] from to goes at = none_goes code from to at
  each_goes asks (name ∷ names) from to goes at = first_goes code from to _ at.2 (goes from at.0) (each_goes asks names (suc from) to goes at.3)

  named_go : (asks : ℕ → Instr) (names : List Naming) (from to : ℕ) → ((at number : ℕ) → GoesOn code.image.code at (asks number)) → NamedOrOwnAt code site asks names from to → Goes code from to
  named_go asks [] from to goes at = one_goes code from to _ at (goes from 255)
  named_go asks (name ∷ names) from to goes at = each_goes asks (name ∷ names) from to goes at

  -- a statement without statements in it
  abbrev Simply : Basic → Type 0
  Simply basic = (labels : List Naming) (exits : Exits) (m from to : ℕ) → Ahead exits to → BasicAt code site exits m labels basic from to → Goes code from to

  null_goes : (place : Place) → Simply (Null place)
  null_goes place labels exits m from to ahead at = none_goes code from to at

  assignment_goes : (place : Place) (receivers : List Reference) (tree : Expression) → Simply (Assignment place receivers tree)
  assignment_goes place receivers tree labels exits m from to ahead at = joined_goes code from at.0 to (expression_goes code site tree from at.0 at.1) (receivers_go receivers at.0 to at.2)

  exit_goes : (place : Place) (label : Option Naming) → Simply (Exit place label)
  exit_goes place label labels exits m from to ahead at = let far = ahead.exit (label_name label) at.0 at.1 in one_goes code from to _ at.2 (inl (omega (arith, at.2.1, far)))

  repeat_goes : (place : Place) (label : Option Naming) → Simply (Repeat place label)
  repeat_goes place label labels exits m from to ahead at = let far = ahead.again (label_name label) at.0 at.1 in one_goes code from to _ at.2 (inl (omega (arith, at.2.1, far)))

  returning_goes : (place : Place) (value : Option Expression) → Simply (Return place value)
  returning_goes place None labels exits m from to ahead at = return_goes exits.leaving from to at ahead.finish
  returning_goes place (Some tree) labels exits m from to ahead at =
      joined_goes code from at.0 to (expression_goes code site tree from at.0 at.2)
      (joined_goes code at.0 at.1 to (as_result_goes (body_at site.set site.unit) at.0 at.1 at.3) (one_goes code at.1 to _ at.5 tt))

  write_goes : (place : Place) (channel : Expression) (items : Expressions) → Simply (Write place channel items)
  write_goes place channel items labels exits m from to ahead at = joined_goes code from at.1 to (items_go items from at.1 at.3) (one_goes code at.1 to _ at.4 tt)

  read_goes : (place : Place) (channel : Expression) (receivers : List Reference) → Simply (Read place channel receivers)
  read_goes place channel receivers labels exits m from to ahead at = reads_go at.0 receivers from to at.2

  -- a simple statement where it was put
  simply : (basic : Basic) (labels : List Naming) (exits : Exits) (m : ℕ) (before after : List Instr) → Simply basic → basic_code n site before exits m labels basic ≡ Ok after → Ahead exits (length after)
      → Begins after code.image.code → Placed code before after (λ from to. Goes code from to)
  simply basic labels exits m before after goes e ahead begins =
      let there = basic_at code n site numbered basic labels exits m before after e begins in record { at = goes labels exits m (length before) (length after) ahead there.at; begins = there.begins }

  -- one instruction that goes on, with more behind it
  behind_one : (before after : List Instr) (i : Instr) → GoesOn code.image.code (length before) i → Placed code (before ++ (i ∷ [])) after (λ from to. Goes code from to)
      → Placed code before after (λ from to. Goes code from to)
  behind_one before after i goes rest =
      let there = first_placed code before after i rest in record { at = first_goes code (length before) (length after) i there.at.0 goes there.at.1; begins = there.begins }

  -- two phrases, one after the other
  both_go : (r : Emitted) (next : List Instr → Emitted) (before after : List Instr) → onwards r next ≡ Ok after
      → ((middle : List Instr) → r ≡ Ok middle → next middle ≡ Ok after → Begins middle code.image.code → Placed code before middle (λ from to. Goes code from to))
      → ((middle : List Instr) → r ≡ Ok middle → next middle ≡ Ok after → Placed code middle after (λ from to. Goes code from to)) → Placed code before after (λ from to. Goes code from to)
  both_go (Ok middle) next before after is first second =
      let late = second middle refl is in
      let early = first middle refl is late.begins in
      record { at = joined_goes code (length before) (length middle) (length after) early.at late.at; begins = early.begins }
  both_go (Err place) next before after is first second = absurd (cc)

  -- the code of these goes on
  abbrev StatementGoes : Statement → Type 0
  StatementGoes tree = (exits : Exits) (m : ℕ) (before after : List Instr) → statement_code n site before exits m tree ≡ Ok after → Ahead exits (length after) → Begins after code.image.code
      → Placed code before after (λ from to. Goes code from to)

  abbrev ElseGoes : Alternative → Type 0
  ElseGoes alternative = (exits : Exits) (m : ℕ) (before after : List Instr) → alternative_code n site before exits m alternative ≡ Ok after → Ahead exits (length after) → Begins after code.image.code
      → Placed code before after (λ from to. Goes code from to)

  abbrev GroupGoes : Group → Type 0
  GroupGoes group = (exits : Exits) (m : ℕ) (before after : List Instr) → group_code n site before exits m group ≡ Ok after → Ahead exits (length after) → Begins after code.image.code
      → Placed code before after (λ from to. Goes code from to)

  abbrev ListGoes : Statements → Type 0
  ListGoes list = (exits : Exits) (m : ℕ) (before after : List Instr) → statements_code n site before exits m list ≡ Ok after → Ahead exits (length after) → Begins after code.image.code
      → Placed code before after (λ from to. Goes code from to)

  -- and so does that of a statement directly in a block's body, and of the statements of the body
  abbrev DirectGoes : Statement → Type 0
  DirectGoes tree = (exits : Exits) (m : ℕ) (before after : List Instr) → direct_code n site before exits m tree ≡ Ok after → Ahead exits (length after) → Begins after code.image.code
      → Placed code before after (λ from to. Goes code from to)

  abbrev BlockGoes : Statements → Type 0
  BlockGoes list = (exits : Exits) (m : ℕ) (before after : List Instr) → block_code n site before exits m list ≡ Ok after → Ahead exits (length after) → Begins after code.image.code
      → Placed code before after (λ from to. Goes code from to)

  abbrev CasesGo : Statements → Type 0
  CasesGo list = (exits : Exits) (place : Place) (cell own target m k : ℕ) (before after : List Instr) → IsCell code cell own → selected_code n site before exits place cell target m k list ≡ Ok after → length after ≤ target
      → Ahead exits (length after) → Begins after code.image.code → Placed code before after (λ from to. Goes code from to)

  -- a statement of DO CASE behind its test, and those that follow
  selected_first_goes : (first : Statement) (others : Statements) (exits : Exits) (place : Place) (cell own target m k : ℕ) (tested after : List Instr) → IsCell code cell own → StatementGoes first → CasesGo others
      → onwards (statement_code n site tested exits m first) (λ middle. selected_code n site (middle ++ (instr.Jump target ∷ [])) exits place cell target (after_statement m first) (suc k) others) ≡ Ok after → length after ≤ target
      → Ahead exits (length after) → Begins after code.image.code → Placed code tested after (λ from to. Goes code from to)
  selected_first_goes first others exits place cell own target m k tested after is one more e far ahead begins =
      both_go (statement_code n site tested exits m first) _ tested after e
      (λ middle there rest begun. one exits m tested middle there (earlier exits (length middle) (length after) (let longer = behind middle rest in omega (arith, longer)) ahead) begun)
      (λ middle there rest. let longer = behind middle rest in
      behind_one middle after (instr.Jump target) (inl (omega (arith, longer, far))) (more exits place cell own target (after_statement m first) (suc k) (middle ++ (instr.Jump target ∷ [])) after is rest far ahead begins))
    where
      behind : (middle : List Instr) → selected_code n site (middle ++ (instr.Jump target ∷ [])) exits place cell target (after_statement m first) (suc k) others ≡ Ok after → suc (length middle) ≤ length after
      behind middle rest =
          let longer = later middle after (instr.Jump target) (selected_size n site (after_statement m first) others) (selected_longer n site others exits place cell target (after_statement m first) (suc k) (middle ++ (instr.Jump target ∷ [])) after rest) in omega (arith, longer)

  abbrev UncasedGoes : Alternative → Type 0
  UncasedGoes alternative = (exits : Exits) (place : Place) (m : ℕ) (before after : List Instr) → uncased_code n site before exits place m alternative ≡ Ok after → Ahead exits (length after)
      → Begins after code.image.code → Placed code before after (λ from to. Goes code from to)

  abbrev SelectionGoes : Group → Type 0
  SelectionGoes group = (exits : Exits) (place : Place) (cell own target m : ℕ) (before after : List Instr) → IsCell code cell own → cases_code n site before exits place cell target m group ≡ Ok after → length after ≤ target
      → Ahead exits (length after) → Begins after code.image.code → Placed code before after (λ from to. Goes code from to)

  selecting_goes : (alternative : Alternative) (group : Group) (exits : Exits) (place : Place) (cell own exit m : ℕ) (valued after : List Instr) → IsCell code cell own → SelectionGoes group → UncasedGoes alternative
      → onwards (cases_code n site (keeping valued cell) exits place cell exit (after_alternative (suc m) alternative) group) (λ middle. uncased_code n site middle exits place (suc m) alternative) ≡ Ok after
      → exit ≡ length after → Ahead exits (length after) → Begins after code.image.code → Placed code valued after (λ from to. Goes code from to)
  selecting_goes alternative group exits place cell own exit m valued after is cases none e ends ahead begins =
      both_go (Ok (keeping valued cell)) (λ kept. onwards (cases_code n site kept exits place cell exit (after_alternative (suc m) alternative) group) (λ middle. uncased_code n site middle exits place (suc m) alternative)) valued after e
      (λ kept got rest begun. weaker code valued kept (λ from to at. keeps_go code own from to at) (keeping_at code cell own is valued kept (ok_is _ kept got) begun))
      (λ kept got rest. both_go (cases_code n site kept exits place cell exit (after_alternative (suc m) alternative) group) _ kept after rest
      (λ middle there more begun. let longer = uncased_longer n site alternative exits place (suc m) middle after more in
      cases exits place cell own exit (after_alternative (suc m) alternative) kept middle is there (omega (arith, longer, ends)) (earlier exits (length middle) (length after) (omega (arith, longer)) ahead) begun)
      (λ middle there more. none exits place (suc m) middle after more ahead begins))

  -- a consequence behind its test, and what stands after ELSE
  chosen_goes : (consequence : Statement) (alternative : Alternative) (exits : Exits) (m : ℕ) (tested after : List Instr) → StatementGoes consequence → ElseGoes alternative
      → onwards (statement_code n site (tested ++ (instr.JumpNot (suc (length tested) + (statement_size n site m consequence + jump_size alternative)) ∷ [])) exits m consequence)
      (λ middle. alternative_code n site middle exits (after_statement m consequence) alternative) ≡ Ok after → Ahead exits (length after) → Begins after code.image.code
      → Placed code tested after (λ from to. Goes code from to)
  chosen_goes consequence alternative exits m tested after one two e ahead begins =
      let other = suc (length tested) + (statement_size n site m consequence + jump_size alternative) in
      let test = tested ++ (instr.JumpNot other ∷ []) in
      behind_one tested after (instr.JumpNot other) (inl (omega arith))
      (both_go (statement_code n site test exits m consequence) (λ middle. alternative_code n site middle exits (after_statement m consequence) alternative) test after e
      (λ middle there rest begun. one exits m test middle there
      (earlier exits (length middle) (length after) (let longer = alternative_longer n site alternative exits (after_statement m consequence) middle after rest in omega (arith, longer)) ahead) begun)
      (λ middle there rest. two exits (after_statement m consequence) middle after rest ahead begins))

  -- EXIT and REPEAT in a loop
  loop_ahead : (g : Guard) (group : Group) (labels : List Naming) (exits : Exits) (m exit : ℕ) (tested middle after : List Instr)
      → group_code n site (tested ++ (instr.Turn exit ∷ [])) (within_group (opened labels exit (Some (suc (length tested) + group_size n site (suc m) group))) exits) (suc m) group ≡ Ok middle
      → test_code n site middle g (length tested) exit ≡ Ok after → exit ≡ length after → Ahead exits (length after)
      → Ahead (within_group (opened labels exit (Some (suc (length tested) + group_size n site (suc m) group))) exits) (length middle)
  loop_ahead g group labels exits m exit tested middle after there rest ends ahead =
      let again = suc (length tested) + group_size n site (suc m) group in
      let longer = test_longer n site g (length tested) exit middle after rest in
      let size = group_longer n site group (within_group (opened labels exit (Some again)) exits) (suc m) (tested ++ (instr.Turn exit ∷ [])) middle there in
      let one = length_of_one_more tested (instr.Turn exit) in
      in_loop labels exits exit again (length middle) (omega (arith, ends, longer)) (omega (arith, size, one)) (earlier exits (length middle) (length after) (omega (arith, longer)) ahead)

  -- the turns of a loop that ends at this address
  turns_go : (g : Guard) (group : Group) (labels : List Naming) (exits : Exits) (m exit : ℕ) (tested after : List Instr) → GroupGoes group
      → onwards (group_code n site (tested ++ (instr.Turn exit ∷ [])) (within_group (opened labels exit (Some (suc (length tested) + group_size n site (suc m) group))) exits) (suc m) group)
      (λ middle. test_code n site middle g (length tested) exit) ≡ Ok after → exit ≡ length after → length tested < exit → Ahead exits (length after) → Begins after code.image.code
      → Placed code tested after (λ from to. Goes code from to)
  turns_go g group labels exits m exit tested after whole e ends far ahead begins =
      let again = suc (length tested) + group_size n site (suc m) group in
      let start = tested ++ (instr.Turn exit ∷ []) in
      let inner = within_group (opened labels exit (Some again)) exits in
      behind_one tested after (instr.Turn exit) far
      (both_go (group_code n site start inner (suc m) group) (λ middle. test_code n site middle g (length tested) exit) start after e
      (λ middle there rest begun. whole inner (suc m) start middle there (loop_ahead g group labels exits m exit tested middle after there rest ends ahead) begun)
      (λ middle there rest. let at = test_at code n site numbered g (length tested) exit middle after rest ends begins in
      let body = whole inner (suc m) start middle there (loop_ahead g group labels exits m exit tested middle after there rest ends ahead) at.begins in
      record { at = test_goes g (length tested) exit (length middle) (length after) at.at (has_there code tested (instr.Turn exit) body.begins) ends; begins = at.begins }))

  -- a DO FOR
  first_span_goes : (g : Option Guard) (exit from to : ℕ) → FirstSpanAt code site g from exit to → to ≤ exit → Goes code from to
  first_span_goes None exit from to at far = none_goes code from to at
  first_span_goes (Some g) exit from to at far = first_test_goes g exit from to at far

  begin_goes : (c : Cells) (own : ℕ) (are : AreCells code c own) (place : Place) (name : List ℕ) (span : Span) (exit from to : ℕ) → BeginAt code n site numbered c own are place name span from exit to → to ≤ exit → Goes code from to
  begin_goes c own are place name (Stepped first last step) exit from to at far = begun_goes code site name own first last step from exit to at far
  begin_goes c own are place name (Listed NoExpressions) exit from to at far = absurd at
  begin_goes c own are place name (Listed (MoreExpressions first others)) exit from to at far = value_goes code site name own 1 first from to at

  again_goes : (c : Cells) (own : ℕ) (are : AreCells code c own) (place : Place) (name : List ℕ) (span : Span) (g : Option Guard) (turn from to : ℕ) → AgainAt code n site numbered c own are place name span g from turn to → Has code turn (instr.Turn to)
      → Goes code from to
  again_goes c own are place name (Stepped first last step) g turn from to at has = stepping_goes code site name own g from turn to (λ begin one test. test_goes one turn to begin to test has refl) at has
  again_goes c own are place name (Listed NoExpressions) g turn from to at has = absurd at
  again_goes c own are place name (Listed (MoreExpressions first others)) g turn from to at has = listing_goes code site name own others g from turn to (λ begin one test. test_goes one turn to begin to test has refl) at has

  -- its turns
  span_turns_go : (c : Cells) (own : ℕ) (are : AreCells code c own) (place : Place) (name : List ℕ) (span : Span) (g : Option Guard) (group : Group) (labels : List Naming) (exits : Exits) (m exit : ℕ) (tested after : List Instr) → GroupGoes group
      → onwards (group_code n site (tested ++ (instr.Turn exit ∷ [])) (within_group (opened labels exit (Some (suc (length tested) + group_size n site (suc m) group))) exits) (suc m) group)
      (λ middle. onwards (again_code n site middle place name c exit span) (λ counted. later_span_code n site counted place g (length tested) exit)) ≡ Ok after → exit ≡ length after → length tested < exit → Ahead exits (length after)
      → Begins after code.image.code → Placed code tested after (λ from to. Goes code from to)
  span_turns_go c own are place name span g group labels exits m exit tested after whole e ends far ahead begins =
      let again = suc (length tested) + group_size n site (suc m) group in
      let start = tested ++ (instr.Turn exit ∷ []) in
      let inner = within_group (opened labels exit (Some again)) exits in
      behind_one tested after (instr.Turn exit) far
      (both_go (group_code n site start inner (suc m) group) (λ middle. onwards (again_code n site middle place name c exit span) (λ counted. later_span_code n site counted place g (length tested) exit)) start after e
      (λ middle there rest begun. whole inner (suc m) start middle there (ahead_there middle there rest) begun)
      (λ middle there rest. let at = again_at code n site numbered c own are place name span g (length tested) exit middle after rest ends begins in
      let body = whole inner (suc m) start middle there (ahead_there middle there rest) at.begins in
      record {
        at = again_goes c own are place name span g (length tested) (length middle) (length after) at.at (subst (λ to. Has code (length tested) (instr.Turn to)) ends (has_there code tested (instr.Turn exit) body.begins));
        begins = at.begins;
      }))
    where
      ahead_there : (middle : List Instr) → group_code n site (tested ++ (instr.Turn exit ∷ [])) (within_group (opened labels exit (Some (suc (length tested) + group_size n site (suc m) group))) exits) (suc m) group ≡ Ok middle
          → onwards (again_code n site middle place name c exit span) (λ counted. later_span_code n site counted place g (length tested) exit) ≡ Ok after
          → Ahead (within_group (opened labels exit (Some (suc (length tested) + group_size n site (suc m) group))) exits) (length middle)
      ahead_there middle there rest =
          let longer = both_longer (again_code n site middle place name c exit span) _ middle after (again_size n site span) (later_span_size n site g) rest
          (λ counted one. again_longer n site place name c exit span middle counted one) (λ counted one. later_span_longer n site place g (length tested) exit counted after one) in
          let size = group_longer n site group (within_group (opened labels exit (Some (suc (length tested) + group_size n site (suc m) group))) exits) (suc m) (tested ++ (instr.Turn exit ∷ [])) middle there in
          let one = length_of_one_more tested (instr.Turn exit) in
          in_loop labels exits exit (suc (length tested) + group_size n site (suc m) group) (length middle) (omega (arith, ends, longer)) (omega (arith, size, one)) (earlier exits (length middle) (length after) (omega (arith, longer)) ahead)

  -- all of it
  range_goes : (c : Cells) (own : ℕ) (are : AreCells code c own) (place : Place) (name : List ℕ) (span : Span) (g : Option Guard) (group : Group) (labels : List Naming) (exits : Exits) (m exit : ℕ) (before after : List Instr) → GroupGoes group
      → exit ≡ length before + spanned_size n site span g (group_size n site (suc m) group)
      → onwards (begin_code n site before place name c exit span) (λ begun. onwards (first_span_code n site begun g exit)
      (λ tested. onwards (group_code n site (tested ++ (instr.Turn exit ∷ [])) (within_group (opened labels exit (Some (suc (length tested) + group_size n site (suc m) group))) exits) (suc m) group)
      (λ middle. onwards (again_code n site middle place name c exit span) (λ counted. later_span_code n site counted place g (length tested) exit)))) ≡ Ok after → exit ≡ length after → Ahead exits (length after)
      → Begins after code.image.code → Placed code before after (λ from to. Goes code from to)
  range_goes c own are place name span g group labels exits m exit before after whole sized e ends ahead begins =
      both_go (begin_code n site before place name c exit span) _ before after e
      (λ begun there rest starts. let size = begin_longer n site place name c exit span before begun there in
      let at = begin_at code n site numbered c own are place name span exit before begun there starts in
      record { at = begin_goes c own are place name span exit (length before) (length begun) at.at (omega (arith, sized, size)); begins = at.begins })
      (λ begun there rest. let begins_longer = begin_longer n site place name c exit span before begun there in
      both_go (first_span_code n site begun g exit) _ begun after rest
      (λ tested got more starts. let size = first_span_longer n site g exit begun tested got in
      let at = first_span_at code n site numbered g exit begun tested got starts in
      record { at = first_span_goes g exit (length begun) (length tested) at.at (omega (arith, sized, begins_longer, size)); begins = at.begins })
      (λ tested got more. let size = first_span_longer n site g exit begun tested got in
      span_turns_go c own are place name span g group labels exits m exit tested after whole more ends (omega (arith, sized, begins_longer, size)) ahead begins))

mutual
  pub statement_goes : (code : Code) (n : Numbering) (site : Site) (numbered : IsNumbered code n) (tree : Statement) → StatementGoes code n site numbered tree
  statement_goes code n site numbered (Labelled labels basic) exits m before after e ahead begins = basic_goes code n site numbered basic labels exits m before after e ahead begins

  basic_goes : (code : Code) (n : Numbering) (site : Site) (numbered : IsNumbered code n) (basic : Basic) (labels : List Naming) (exits : Exits) (m : ℕ) (before after : List Instr) → basic_code n site before exits m labels basic ≡ Ok after → Ahead exits (length after)
      → Begins after code.image.code → Placed code before after (λ from to. Goes code from to)
  basic_goes code n site numbered (If place condition consequence alternative) labels exits m before after e ahead begins =
      both_go code n site numbered (expression_code n site before condition) _ before after e
      (λ tested there rest begun. weaker code before tested (λ from to at. expression_goes code site condition from to at) (expression_at code n site numbered condition before tested there begun))
      (λ tested there rest. chosen_goes code n site numbered consequence alternative exits m tested after (statement_goes code n site numbered consequence) (else_goes code n site numbered alternative) rest ahead begins)
  basic_goes code n site numbered (Do place group) labels exits m before after e ahead begins =
      let exit = length before + group_size n site (suc m) group in
      let size = group_longer n site group (within_group (opened labels exit None) exits) (suc m) before after e in
      group_goes code n site numbered group (within_group (opened labels exit None) exits) (suc m) before after e (in_group labels exits exit (length after) (omega (arith, size)) ahead) begins
  basic_goes code n site numbered (DoCase place number alternative group) labels exits m before after e ahead begins =
      let exit = length before + basic_size n site m (DoCase place number alternative group) in
      let own = loop_place (here_at site) m in
      let inner = within_group (opened labels exit None) exits in
      let ends : exit ≡ length after = sym (basic_longer n site (DoCase place number alternative group) labels exits m before after e) in
      let given = number_given place (cell_of n site m 0) _ after e in
      both_go code n site numbered (expression_code n site before number) _ before after given.2
      (λ valued there rest begun. weaker code before valued (λ from to at. expression_goes code site number from to at) (expression_at code n site numbered number before valued there begun))
      (λ valued there rest. selecting_goes code n site numbered alternative group inner place given.0 (own + 0) exit m valued after (cell_is code n site numbered m 0 given.0 given.1) (cases_go code n site numbered group) (uncased_goes code n site numbered alternative) rest ends
      (in_group labels exits exit (length after) (omega (arith, ends)) ahead) begins)
  basic_goes code n site numbered (DoLoop place g group) labels exits m before after e ahead begins =
      let exit = length before + basic_size n site m (DoLoop place g group) in
      let ends : exit ≡ length after = sym (basic_longer n site (DoLoop place g group) labels exits m before after e) in
      both_go code n site numbered (first_test_code n site before g exit) _ before after e
      (λ tested first rest begun. let at = first_test_at code n site numbered g exit before tested first begun in
      let size = first_test_longer n site g exit before tested first in
      record { at = first_test_goes code n site numbered g exit (length before) (length tested) at.at (omega (arith, size)); begins = at.begins })
      (λ tested first rest. let size = first_test_longer n site g exit before tested first in
      turns_go code n site numbered g group labels exits m exit tested after (group_goes code n site numbered group) rest ends (omega (arith, size)) ahead begins)
  basic_goes code n site numbered (DoFor place temporary variable span g group) labels exits m before after e ahead begins =
      let inner = group_site site temporary m in
      let exit = length before + basic_size n site m (DoFor place temporary variable span g group) in
      let ends : exit ≡ length after = sym (basic_longer n site (DoFor place temporary variable span g group) labels exits m before after e) in
      let given = cells_given place (cells_of n site temporary m) _ after e in
      range_goes code n inner numbered given.0 (end_place (here_at site) temporary m) (cells_are code n site numbered temporary m given.0 given.1) place variable.name span g group labels exits m exit before after
      (group_goes code n inner numbered group) refl
      (unnested (begin_code n inner before place variable.name given.0 exit span) (λ begun. first_span_code n inner begun g exit) _ after given.2) ends ahead begins
  basic_goes code n site numbered (Update place body close) labels exits m before after e ahead begins =
      both_go code n site numbered (emit before place (option_map (λ groups. instr.Open groups ∷ []) (below 65536 (update_groups (here_at site) m)))) _ before after e
      (λ begun there rest starts. weaker code before begun (λ from to at. one_goes code from to _ at tt) (opens_at code n site numbered (update_groups (here_at site) m) place before begun there starts))
      (λ begun there rest. both_go code n site numbered (block_code n site begun (of_body NoReturn) (suc m) body) (λ middle. emit_one middle place instr.Close) begun after rest
      (λ middle inner late starts. block_goes code n site numbered body (of_body NoReturn) (suc m) begun middle inner (none_open (length middle)) starts)
      (λ middle inner late. weaker code middle after (λ from to at. one_goes code from to _ at tt) (one_placed code middle after instr.Close (ok_is _ after late) begins)))
  basic_goes code n site numbered (Null place) labels exits m before after e ahead begins = simply code n site numbered (Null place) labels exits m before after (null_goes code n site numbered place) e ahead begins
  basic_goes code n site numbered (Assignment place receivers tree) labels exits m before after e ahead begins =
      simply code n site numbered (Assignment place receivers tree) labels exits m before after (assignment_goes code n site numbered place receivers tree) e ahead begins
  basic_goes code n site numbered (Exit place label) labels exits m before after e ahead begins = simply code n site numbered (Exit place label) labels exits m before after (exit_goes code n site numbered place label) e ahead begins
  basic_goes code n site numbered (Repeat place label) labels exits m before after e ahead begins = simply code n site numbered (Repeat place label) labels exits m before after (repeat_goes code n site numbered place label) e ahead begins
  basic_goes code n site numbered (Return place value) labels exits m before after e ahead begins = simply code n site numbered (Return place value) labels exits m before after (returning_goes code n site numbered place value) e ahead begins
  basic_goes code n site numbered (Call place name arguments receivers) labels exits m before after e ahead begins =
      simply code n site numbered (Call place name arguments receivers) labels exits m before after (λ ls ex k from to far at. procedure_goes code n site numbered arguments receivers (name_meant (here_at site) name.name []) from to (at [])) e ahead begins
  basic_goes code n site numbered (Read place channel receivers) labels exits m before after e ahead begins = simply code n site numbered (Read place channel receivers) labels exits m before after (read_goes code n site numbered place channel receivers) e ahead begins
  basic_goes code n site numbered (Write place channel items) labels exits m before after e ahead begins = simply code n site numbered (Write place channel items) labels exits m before after (write_goes code n site numbered place channel items) e ahead begins
  basic_goes code n site numbered (Event one) labels exits m before after e ahead begins =
      simply code n site numbered (Event one) labels exits m before after (λ ls ex k from to far at. change_goes code n site numbered one.action (event_named site.set.phrases site.block one.name.name) from to at) e ahead begins
  basic_goes code n site numbered (Cancel place names) labels exits m before after e ahead begins =
      simply code n site numbered (Cancel place names) labels exits m before after (λ ls ex k from to far at. named_go code n site numbered instr.Cancel names from to (λ here number. tt) at) e ahead begins
  basic_goes code n site numbered (Terminate place names) labels exits m before after e ahead begins =
      simply code n site numbered (Terminate place names) labels exits m before after (λ ls ex k from to far at. named_go code n site numbered instr.Terminate names from to (λ here number. tt) at) e ahead begins
  basic_goes code n site numbered (Wait place tree) labels exits m before after e ahead begins =
      simply code n site numbered (Wait place tree) labels exits m before after (λ ls ex k from to far at. pause_goes code n site numbered delay.For tree from to at) e ahead begins
  basic_goes code n site numbered (WaitUntil place tree) labels exits m before after e ahead begins =
      simply code n site numbered (WaitUntil place tree) labels exits m before after (λ ls ex k from to far at. pause_goes code n site numbered delay.Until tree from to at) e ahead begins
  basic_goes code n site numbered (WaitForDependent place) labels exits m before after e ahead begins =
      simply code n site numbered (WaitForDependent place) labels exits m before after (λ ls ex k from to far at. one_goes code from to _ at tt) e ahead begins
  basic_goes code n site numbered (WaitFor place tree) labels exits m before after e ahead begins =
      simply code n site numbered (WaitFor place tree) labels exits m before after (λ ls ex k from to far at. event_pause_goes code n site numbered (stated_at_mark (here_at site) k) from to at) e ahead begins
  basic_goes code n site numbered (SendError place at group its number) labels exits m before after e ahead begins =
      simply code n site numbered (SendError place at group its number) labels exits m before after (λ ls ex k from to far there. one_goes code from to _ there tt) e ahead begins
  basic_goes code n site numbered (OnErrorResponse place s r one) labels exits m before after e ahead begins =
      simply code n site numbered (OnErrorResponse place s r one) labels exits m before after (λ ls ex k from to far at. one_goes code from to _ at.6 tt) e ahead begins
  basic_goes code n site numbered (OffError place s) labels exits m before after e ahead begins =
      simply code n site numbered (OffError place s) labels exits m before after (λ ls ex k from to far at. one_goes code from to _ at.3 tt) e ahead begins
  basic_goes code n site numbered (Scheduled place s) labels exits m before after e ahead begins =
      simply code n site numbered (Scheduled place s) labels exits m before after (λ ls ex k from to far at. schedule_goes code n site numbered k s from to at) e ahead begins
  basic_goes code n site numbered (UpdatePriority place name tree) labels exits m before after e ahead begins =
      simply code n site numbered (UpdatePriority place name tree) labels exits m before after (λ ls ex k from to far at. update_priority_goes code n site numbered name tree from to at) e ahead begins
  basic_goes code n site numbered (OnErrorStatement place s handler) labels exits m before after e ahead begins = absurd (cc)

  direct_goes : (code : Code) (n : Numbering) (site : Site) (numbered : IsNumbered code n) (tree : Statement) → DirectGoes code n site numbered tree
  direct_goes code n site numbered (Labelled labels (OnErrorStatement place s handler)) exits m before after e ahead begins =
      both_go code n site numbered (emit before place (handler_code s (length before) (statement_size n site (suc m) handler))) (λ begun. statement_code n site begun exits (suc m) handler) before after e
      (λ begun there rest starts. weaker code before begun (λ from to at. first_goes code from to _ at.3 tt (one_goes code (suc from) to _ at.4 (inl (omega arith))))
      (entry_at code n site numbered s (statement_size n site (suc m) handler) place before begun there starts))
      (λ begun there rest. statement_goes code n site numbered handler exits (suc m) begun after rest ahead begins)
  direct_goes code n site numbered (Labelled labels basic) exits m before after e ahead begins = basic_goes code n site numbered basic labels exits m before after e ahead begins

  pub block_goes : (code : Code) (n : Numbering) (site : Site) (numbered : IsNumbered code n) (list : Statements) → BlockGoes code n site numbered list
  block_goes code n site numbered NoStatements exits m before after e ahead begins = weaker code before after (λ from to at. none_goes code from to at) (none_placed code before after (ok_is before after e) begins)
  block_goes code n site numbered (MoreStatements first others) exits m before after e ahead begins =
      both_go code n site numbered (direct_code n site before exits m first) (λ middle. block_code n site middle exits (after_statement m first) others) before after e
      (λ middle there rest begun. direct_goes code n site numbered first exits m before middle there
      (earlier exits (length middle) (length after) (let longer = block_longer n site others exits (after_statement m first) middle after rest in omega (arith, longer)) ahead) begun)
      (λ middle there rest. block_goes code n site numbered others exits (after_statement m first) middle after rest ahead begins)

  else_goes : (code : Code) (n : Numbering) (site : Site) (numbered : IsNumbered code n) (alternative : Alternative) → ElseGoes code n site numbered alternative
  else_goes code n site numbered NoAlternative exits m before after e ahead begins = weaker code before after (λ from to at. none_goes code from to at) (none_placed code before after (ok_is before after e) begins)
  else_goes code n site numbered (Otherwise one) exits m before after e ahead begins =
      let jump = suc (length before) + statement_size n site m one in
      behind_one code n site numbered before after (instr.Jump jump) (inl (omega arith)) (statement_goes code n site numbered one exits m (before ++ (instr.Jump jump ∷ [])) after e ahead begins)

  uncased_goes : (code : Code) (n : Numbering) (site : Site) (numbered : IsNumbered code n) (alternative : Alternative) → UncasedGoes code n site numbered alternative
  uncased_goes code n site numbered NoAlternative exits place m before after e ahead begins = weaker code before after (λ from to at. one_goes code from to _ at tt) (one_placed code before after (instr.Raise 1 6) (ok_is _ after e) begins)
  uncased_goes code n site numbered (Otherwise one) exits place m before after e ahead begins = statement_goes code n site numbered one exits m before after e ahead begins

  cases_go : (code : Code) (n : Numbering) (site : Site) (numbered : IsNumbered code n) (group : Group) → SelectionGoes code n site numbered group
  cases_go code n site numbered (Groups list close) exits place cell own target m before after is e far ahead begins = selected_go code n site numbered list exits place cell own target m 1 before after is e far ahead begins

  selected_go : (code : Code) (n : Numbering) (site : Site) (numbered : IsNumbered code n) (list : Statements) → CasesGo code n site numbered list
  selected_go code n site numbered NoStatements exits place cell own target m k before after is e far ahead begins = weaker code before after (λ from to at. none_goes code from to at) (none_placed code before after (ok_is before after e) begins)
  selected_go code n site numbered (MoreStatements first others) exits place cell own target m k before after is e far ahead begins =
      both_go code n site numbered (case_code before place cell k (statement_size n site m first)) _ before after e
      (λ tested there rest begun. weaker code before tested (λ from to at. case_goes code own k from (to + (statement_size n site m first + 1)) to at (omega arith))
      (case_at code cell own is k (statement_size n site m first) place before tested there begun))
      (λ tested there rest. selected_first_goes code n site numbered first others exits place cell own target m k tested after is (statement_goes code n site numbered first) (selected_go code n site numbered others) rest far ahead begins)

  group_goes : (code : Code) (n : Numbering) (site : Site) (numbered : IsNumbered code n) (group : Group) → GroupGoes code n site numbered group
  group_goes code n site numbered (Groups list close) exits m before after e ahead begins = list_goes code n site numbered list exits m before after e ahead begins

  list_goes : (code : Code) (n : Numbering) (site : Site) (numbered : IsNumbered code n) (list : Statements) → ListGoes code n site numbered list
  list_goes code n site numbered NoStatements exits m before after e ahead begins = weaker code before after (λ from to at. none_goes code from to at) (none_placed code before after (ok_is before after e) begins)
  list_goes code n site numbered (MoreStatements first others) exits m before after e ahead begins =
      both_go code n site numbered (statement_code n site before exits m first) (λ middle. statements_code n site middle exits (after_statement m first) others) before after e
      (λ middle there rest begun. statement_goes code n site numbered first exits m before middle there
      (earlier exits (length middle) (length after) (let longer = statements_longer n site others exits (after_statement m first) middle after rest in omega (arith, longer)) ahead) begun)
      (λ middle there rest. list_goes code n site numbered others exits (after_statement m first) middle after rest ahead begins)
