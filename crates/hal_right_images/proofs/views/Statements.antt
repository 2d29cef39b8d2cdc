-- The code of statements names views that are for what their phrases name.
use Rattle.std.specs.Prelude.{◌≡◌, ◌+◌, ℕ, suc, Bool, true, false, List, [], ◌∷◌, ◌++◌, length, pos, Option, Some, None, Ok, slice_get}
use Rattle.std.specs.Option.{option_map, option_and_then}
use Rattle.std.proofs.Common.{refl, sym, ap, subst, inl, inr, arith}
use Rattle.hal_base.specs.declared.refusal.Place as refusals
use Rattle.hal_grammar.specs.Leaves.{Naming}
use Rattle.hal_grammar.specs.Expressions.{Expression, Expressions, NoExpressions, MoreExpressions, Reference}
use Rattle.hal_grammar.specs.Statements.{Guard, While, Until, Span, Stepped, Listed, Start, StartAt, StartIn, StartOn, Cycle, Cyclic, CyclicEvery, CyclicAfter, Schedule, Eventful, Response, Selector, Statement, Labelled, Basic, Null, Assignment, If, Do, DoCase, DoLoop, DoFor, Exit, Repeat, Return, Call, Read, Write, Cancel, Terminate, Wait, WaitUntil, WaitForDependent, WaitFor, Event, Scheduled, UpdatePriority, Update, OnErrorStatement, OnErrorResponse, OffError, SendError, Alternative, NoAlternative, Otherwise, Group, Groups, Statements, NoStatements, MoreStatements}
use Rattle.hal_phrases.specs.declared.around.Around.{Around}
use Rattle.hal_phrases.specs.declared.role.Role.{Role}
use Rattle.hal_phrases.specs.declared.role.Role.TheVariants as role
use Rattle.hal_phrases.specs.Surroundings.{inside, grouped, updated}
use Rattle.hal_phrases.specs.Phrases.{Node, Phrase, phrase, add, gathered_each, gathered_any, OfExpression, OfAssignment, OfGroup, OfTemporaryGroup, OfVariable, OfReturn, OfRead, OfWrite, OfUpdate, OfRealTime, OfHandler}
use Rattle.hal_phrases.specs.GatheredDeclarations.{gathered_optional}
use Rattle.hal_phrases.specs.GatheredExpressions.{below, gathered, gathered_all, gathered_reference}
use Rattle.hal_phrases.specs.GatheredStatements.{gathered_label, gathered_receiver, gathered_process, gathered_guard, gathered_span, gathered_start, gathered_cycle, gathered_limit, gathered_schedule, begun_for, around_for, gathered_statement, gathered_basic, gathered_alternative, gathered_group, gathered_statements}
use Rattle.hal_scope.specs.Uses.{holds_event}
use Rattle.hal_code.specs.declared.instr.Instr.{Instr}
use Rattle.hal_code.specs.declared.instr.Instr.TheVariants as instr
use Rattle.hal_code.specs.declared.operand.Delay.{Delay}
use Rattle.hal_code.specs.declared.operand.Delay.TheVariants as delay
use Rattle.hal_code.specs.declared.operand.Time.{Time}
use Rattle.hal_code.specs.declared.row.View.{View}
use Rattle.hal_meaning.specs.Bodies.{is_mark, marks_of}
use Rattle.hal_meaning.specs.Marks.{after_statement, after_alternative}
use Rattle.hal_meaning.specs.Places.{Place}
use Rattle.hal_meaning.specs.Runs.{places_of_process}
use Rattle.hal_meaning.specs.Sets.{Set}
use Rattle.hal_agreement.specs.PlacedStatements.{Exits, NoReturn, changes}
use Rattle.hal_agreement.specs.Sites.{Site, group_site}
use Rattle.hal_gen_expr.specs.Emitting.{Emitted, onwards, emit}
use Rattle.hal_gen_expr.specs.ExpressionCode.{emit_one, expression_code}
use Rattle.hal_gen_expr.specs.Numbering.{Numbering, below as below_limit}
use Rattle.hal_gen_expr.specs.Referents.{referent}
use Rattle.hal_gen_expr.proofs.Numbered.{mapped_is, then_is}
use Rattle.hal_gen.specs.declared.kept.Cells.{Cells}
use Rattle.hal_gen.specs.BlockExits.{of_body}
use Rattle.hal_gen.specs.KeptCode.{cell_of, cells_of, keeping, holding, case_code, bounds_keeping, bounding, counting}
use Rattle.hal_gen.specs.Leaves.{decimal_of, first_event, last_event, named_process, handler_entry, numbers_of, raise_of, response_entry, response_code, side_numbers}
use Rattle.hal_gen.specs.Receiving.{receiver_code}
use Rattle.hal_gen.specs.Sizes.{value_size, next_values_size, group_size}
use Rattle.hal_gen.specs.SpanCode.{store_code, fetch_code, step_code, begun_code, counted_code, counted_in, value_code, next_values_code, begin_code, again_code}
use Rattle.hal_gen.specs.StatementCode.{items_code, with_number, reads_code, condition_code, first_test_code, test_code, first_span_code, later_span_code, span_start_code, spanned_code, with_cells, receivers_code, statement_code, basic_code, direct_code, block_code, alternative_code, uncased_code, cases_code, selected_code, group_code, statements_code}
use Rattle.hal_gen.specs.Timing.{time_by, time_code, pause_code, start_code, start_operand, priority_code, round_code, until_code, limit_code, limit_operand, schedule_by, schedule_of, schedule_code}
use Rattle.hal_link.specs.Outlines.{Outline, outlines_of, numbering_of}
use Rattle.hal_link.specs.Shapes.{shapes_of}
use Rattle.hal_fit_calls.specs.Each.{Each}
use Rattle.hal_fit_rules.specs.Begun.{AreFirst}
use Rattle.hal_fit_rules.proofs.Beginning.{then_, one, among, there}
use Rattle.hal_fit_rules.proofs.BegunExpressions.{own_first, expression_first, expressions_first}
use Rattle.hal_fit_rules.proofs.BegunStatements.{close_first, receivers_first, optional_first, any_guard_first, span_first, any_cycle_first, any_limit_first, statement_first, alternative_first, group_first, statements_first}
use Rattle.hal_fit_rules.proofs.Marking.{Counts, mark_more, mark_there, expression_counts, statement_counts, alternative_counts, labels_count, guard_counts, any_guard_counts, span_counts, for_counts}
use Rattle.hal_right_images.specs.rows.Homes.{LeadsHome, InGroup}
use Rattle.hal_right_images.specs.rows.Purposes.{IsSite, SaysPlaces, HasPlace}
use Rattle.hal_right_images.specs.views.Naming.{NamesCell, Names}
use Rattle.hal_right_images.proofs.views.Adding.{Gives, none_more, some_more, both_add, emit_gives, one_gives, then_gives, behind_gives}
use Rattle.hal_right_images.proofs.views.Calling.{site_in}
use Rattle.hal_right_images.proofs.views.Expressions.{expression_gives}
use Rattle.hal_right_images.proofs.views.Receivers.{past_gives, mapped_gives, receiver_gives, receivers_give, procedure_gives, cell_named, AreNamed, cells_named, case_gives, keeping_adds, holding_adds, bounds_adds, bounding_adds, counting_adds, store_gives, fetch_gives, return_gives, result_gives, change_plain, asked_gives}

module _ (s : Set) (views : List View) (o : Outline) (number : ℕ) (outlined : slice_get (outlines_of s) number ≡ Some o) (places : List Place) (laid : places ≡ places_of_process s o.process) (unit : ℕ)
    (sites : (block : ℕ) → LeadsHome s.phrases unit block → IsSite s o.process (site_in s places unit block (marks_of s.phrases unit))) where
  -- around phrases of the unit
  abbrev Here : Around → Type 0
  Here a = (a.home ≡ unit) × LeadsHome s.phrases unit a.block

  abbrev n : Numbering
  n = numbering_of (shapes_of s) views o

  abbrev at : ℕ → Site
  at block = site_in s places unit block (marks_of s.phrases unit)

  abbrev P : Instr → Type 0
  P i = Names s views o.process i

  abbrev Named : ℕ → Type 0
  Named cell = NamesCell s views o.process cell

  abbrev AllNamed : Cells → Type 0
  AllNamed c = AreNamed s views o number outlined places laid unit sites c

  tree_gives : (d : List Phrase) (a : Around) (r : Role) (t : Expression) → Here a → AreFirst (gathered d a r t) s.phrases → (before : List Instr) → Gives P before (expression_code n (at a.block) before t)
  tree_gives d a r t home begun before = expression_gives s views o number outlined places laid unit sites d a r t home begun before

  -- what is done with a number
  number_gives : (before : List Instr) (place : refusals.Place) (given : Option ℕ) (go : ℕ → Emitted) → ((m : ℕ) → given ≡ Some m → Gives P before (go m)) → Gives P before (with_number place given go)
  number_gives before place None go gives = tt
  number_gives before place (Some m) go gives = gives m refl

  with_cells_gives : (before : List Instr) (place : refusals.Place) (given : Option Cells) (go : Cells → Emitted) → ((c : Cells) → given ≡ Some c → Gives P before (go c)) → Gives P before (with_cells place given go)
  with_cells_gives before place None go gives = tt
  with_cells_gives before place (Some c) go gives = gives c refl

  mapped : {X : Type 0} (f : X → List Instr) (given : Option X) (before : List Instr) (place : refusals.Place) → ((x : X) → Each P (f x)) → Gives P before (emit before place (option_map f given))
  mapped f given before place each = mapped_gives s views o number outlined places laid unit sites f given before place each

  -- tests
  condition_gives : (d : List Phrase) (a : Around) (t : Expression) → Here a → AreFirst (gathered d a role.Condition t) s.phrases → (before : List Instr) (place : refusals.Place) (target : ℕ)
      → Gives P before (condition_code n (at a.block) before place t target)
  condition_gives d a t home begun before place target =
      then_gives P before (expression_code n (at a.block) before t) (λ middle. emit_one middle place (instr.JumpNot target)) (tree_gives d a role.Condition t home begun before) (λ middle. one_gives P middle place (instr.JumpNot target) tt)

  first_test_gives : (d : List Phrase) (a : Around) (g : Guard) → Here a → AreFirst (gathered_guard a d g) s.phrases → (before : List Instr) (exit : ℕ) → Gives P before (first_test_code n (at a.block) before g exit)
  unfolding gathered_guard
  first_test_gives d a (While place t) home begun before exit = condition_gives d a t home begun before place exit
  first_test_gives d a (Until place t) home begun before exit = none_more P before

  test_gives : (d : List Phrase) (a : Around) (g : Guard) → Here a → AreFirst (gathered_guard a d g) s.phrases → (before : List Instr) (turn exit : ℕ) → Gives P before (test_code n (at a.block) before g turn exit)
  unfolding gathered_guard
  test_gives d a (While place t) home begun before turn exit =
      then_gives P before (expression_code n (at a.block) before t) (λ middle. emit middle place (Some (instr.JumpNot exit ∷ instr.Jump turn ∷ []))) (tree_gives d a role.Condition t home begun before)
      (λ middle. some_more P middle (instr.JumpNot exit ∷ instr.Jump turn ∷ []) (tt, (tt, tt)))
  test_gives d a (Until place t) home begun before turn exit = condition_gives d a t home begun before place turn

  first_span_gives : (d : List Phrase) (a : Around) (g : Option Guard) → Here a → AreFirst (gathered_any (gathered_guard a) d g) s.phrases → (before : List Instr) (exit : ℕ) → Gives P before (first_span_code n (at a.block) before g exit)
  first_span_gives d a None home begun before exit = none_more P before
  first_span_gives d a (Some g) home begun before exit = first_test_gives d a g home begun before exit

  later_span_gives : (d : List Phrase) (a : Around) (g : Option Guard) → Here a → AreFirst (gathered_any (gathered_guard a) d g) s.phrases → (before : List Instr) (place : refusals.Place) (turn exit : ℕ)
      → Gives P before (later_span_code n (at a.block) before place g turn exit)
  later_span_gives d a None home begun before place turn exit = one_gives P before place (instr.Jump turn) tt
  later_span_gives d a (Some g) home begun before place turn exit = test_gives d a g home begun before turn exit

  -- the values of the variable of a DO FOR
  step_gives : (d : List Phrase) (a : Around) (step : Option Expression) → Here a → AreFirst (gathered_optional d a role.Bound step) s.phrases → (before : List Instr) (place : refusals.Place)
      → Gives P before (step_code n (at a.block) before place step)
  step_gives d a None home begun before place = one_gives P before place (instr.Int (pos 1)) tt
  step_gives d a (Some t) home begun before place = tree_gives d a role.Bound t home begun before

  module _ (place : refusals.Place) (name : List ℕ) where
    stored : (block : ℕ) (leads : LeadsHome s.phrases unit block) (before : List Instr) → Gives P before (store_code n (at block) before place name)
    stored block leads before = store_gives s views o number outlined places laid unit sites block leads before place name

    begun_gives : (d : List Phrase) (a : Around) (first last : Expression) (step : Option Expression) → Here a → AreFirst (gathered_span d a (Stepped first last step)) s.phrases → (c : Cells) → AllNamed c
        → (exit : ℕ) (before : List Instr) → Gives P before (begun_code n (at a.block) before place name c exit first last step)
    unfolding gathered_span
    begun_gives d a first last step home begun c named exit before =
        let here : Site = at a.block in
        let e : List Phrase = gathered d a role.Bound first in
        let f : List Phrase = gathered e a role.Bound last in
        let last_begun = then_ (optional_first f a role.Bound step) begun in
        let store : List Instr → Emitted = (λ three. onwards (store_code n here (bounds_keeping three c) place name) (λ after. Ok (bounding after c exit))) in
        then_gives P before (expression_code n here before first) (λ one. onwards (expression_code n here one last) (λ two. onwards (step_code n here two place step) store))
        (tree_gives d a role.Bound first home (then_ (expression_first e a role.Bound last) last_begun) before)
        (λ one. then_gives P one (expression_code n here one last) (λ two. onwards (step_code n here two place step) store) (tree_gives e a role.Bound last home last_begun one)
        (λ two. then_gives P two (step_code n here two place step) store (step_gives f a step home begun two place)
        (λ three. then_gives P three (store_code n here (bounds_keeping three c) place name) (λ after. Ok (bounding after c exit))
        (past_gives s views o number outlined places laid unit sites three (bounds_keeping three c) (store_code n here (bounds_keeping three c) place name) (bounds_adds s views o number outlined places laid unit sites three c named)
        (stored a.block home.1 (bounds_keeping three c)))
        (λ after. bounding_adds s views o number outlined places laid unit sites after c exit named))))

    counted_gives : (block : ℕ) (leads : LeadsHome s.phrases unit block) (c : Cells) → AllNamed c → (exit : ℕ) (before : List Instr) → Gives P before (counted_code n (at block) before place name c exit)
    counted_gives block leads c named exit before =
        let here : Site = at block in
        then_gives P before (fetch_code n here before place name) (λ fetched. store_code n here (holding (counting fetched c exit) c.value) place name) (fetch_gives s views o number outlined places laid unit sites block leads before place name)
        (λ fetched. past_gives s views o number outlined places laid unit sites fetched (holding (counting fetched c exit) c.value) (store_code n here (holding (counting fetched c exit) c.value) place name)
        (both_add P fetched (counting fetched c exit) (holding (counting fetched c exit) c.value) (counting_adds s views o number outlined places laid unit sites fetched c exit named)
        (holding_adds s views o number outlined places laid unit sites (counting fetched c exit) c.value named.value)) (stored block leads (holding (counting fetched c exit) c.value)))

    value_gives : (d : List Phrase) (a : Around) (t : Expression) → Here a → AreFirst (gathered d a role.Bound t) s.phrases → (cell k : ℕ) → Named cell → (before : List Instr)
        → Gives P before (value_code n (at a.block) before place name cell k t)
    value_gives d a t home begun cell k named before =
        let here : Site = at a.block in
        then_gives P before (expression_code n here before t) (λ valued. onwards (store_code n here valued place name) (λ after. emit after place (option_map (counted_in cell) (below_limit 2147483648 k))))
        (tree_gives d a role.Bound t home begun before)
        (λ valued. then_gives P valued (store_code n here valued place name) (λ after. emit after place (option_map (counted_in cell) (below_limit 2147483648 k))) (stored a.block home.1 valued)
        (λ after. mapped (counted_in cell) (below_limit 2147483648 k) after place (λ m. (tt, (named, (tt, tt))))))

    next_values_give : (d : List Phrase) (a : Around) (ts : Expressions) → Here a → AreFirst (gathered_all d a role.Bound ts) s.phrases → (cell k exit test : ℕ) → Named cell → (before : List Instr)
        → Gives P before (next_values_code n (at a.block) before place name cell k exit test ts)
    unfolding gathered_all
    next_values_give d a NoExpressions home begun cell k exit test named before = one_gives P before place (instr.Jump exit) tt
    next_values_give d a (MoreExpressions t others) home begun cell k exit test named before =
        let here : Site = at a.block in
        then_gives P before (case_code before place cell k (value_size n here t))
        (λ tested. onwards (value_code n here tested place name cell (suc k) t) (λ after. next_values_code n here (after ++ (instr.Jump test ∷ [])) place name cell (suc k) exit test others))
        (case_gives s views o number outlined places laid unit sites before place cell k (value_size n here t) named)
        (λ tested. then_gives P tested (value_code n here tested place name cell (suc k) t) (λ after. next_values_code n here (after ++ (instr.Jump test ∷ [])) place name cell (suc k) exit test others)
        (value_gives d a t home (then_ (expressions_first (gathered d a role.Bound t) a role.Bound others) begun) cell (suc k) named tested)
        (λ after. behind_gives P after (instr.Jump test ∷ []) (next_values_code n here (after ++ (instr.Jump test ∷ [])) place name cell (suc k) exit test others) (tt, tt)
        (next_values_give (gathered d a role.Bound t) a others home begun cell (suc k) exit test named (after ++ (instr.Jump test ∷ [])))))

    begin_gives : (d : List Phrase) (a : Around) (span : Span) → Here a → AreFirst (gathered_span d a span) s.phrases → (c : Cells) → AllNamed c → (exit : ℕ) (before : List Instr)
        → Gives P before (begin_code n (at a.block) before place name c exit span)
    unfolding gathered_span gathered_all
    begin_gives d a (Stepped first last step) home begun c named exit before = begun_gives d a first last step home begun c named exit before
    begin_gives d a (Listed NoExpressions) home begun c named exit before = tt
    begin_gives d a (Listed (MoreExpressions first others)) home begun c named exit before =
        value_gives d a first home (then_ (expressions_first (gathered d a role.Bound first) a role.Bound others) begun) c.last 1 named.last before

    again_gives : (d : List Phrase) (a : Around) (span : Span) → Here a → AreFirst (gathered_span d a span) s.phrases → (c : Cells) → AllNamed c → (exit : ℕ) (before : List Instr)
        → Gives P before (again_code n (at a.block) before place name c exit span)
    unfolding gathered_span gathered_all
    again_gives d a (Stepped first last step) home begun c named exit before = counted_gives a.block home.1 c named exit before
    again_gives d a (Listed NoExpressions) home begun c named exit before = tt
    again_gives d a (Listed (MoreExpressions first others)) home begun c named exit before =
        next_values_give (gathered d a role.Bound first) a others home begun c.last 1 exit (length before + next_values_size n (at a.block) others) named.last before

    -- all of a DO FOR, where its group is so
    span_gives : (d : List Phrase) (a : Around) (span : Span) (g : Option Guard) → Here a → AreFirst (gathered_any (gathered_guard a) (gathered_span d a span) g) s.phrases → (c : Cells) → AllNamed c → (exits : Exits)
        (labels : List Naming) (size : ℕ) (group : List Instr → Exits → Emitted) → ((start : List Instr) (inner : Exits) → Gives P start (group start inner)) → (before : List Instr)
        → Gives P before (spanned_code n (at a.block) before exits labels place name c span g size group)
    span_gives d a span g home begun c named exits labels size group gives before =
        let here : Site = at a.block in
        let f : List Phrase = gathered_span d a span in
        let span_begun = then_ (any_guard_first a f g) begun in
        then_gives P before (span_start_code n here before place name c _ span g) _
        (then_gives P before (begin_code n here before place name c _ span) (λ started. first_span_code n here started g _) (begin_gives d a span home span_begun c named _ before) (λ started. first_span_gives f a g home begun started _))
        (λ tested. then_gives P tested (group (tested ++ (instr.Turn _ ∷ [])) _) _ (behind_gives P tested (instr.Turn _ ∷ []) (group (tested ++ (instr.Turn _ ∷ [])) _) (tt, tt) (gives (tested ++ (instr.Turn _ ∷ [])) _))
        (λ middle. then_gives P middle (again_code n here middle place name c _ span) (λ counted. later_span_code n here counted place g (length tested) _) (again_gives d a span home span_begun c named _ middle)
        (λ counted. later_span_gives f a g home begun counted place (length tested) _)))

  -- items, and what READ stores
  items_give : (d : List Phrase) (a : Around) (ts : Expressions) → Here a → AreFirst (gathered_all d a role.Item ts) s.phrases → (before : List Instr) → Gives P before (items_code n (at a.block) before ts)
  unfolding gathered_all
  items_give d a NoExpressions home begun before = none_more P before
  items_give d a (MoreExpressions first others) home begun before =
      then_gives P before (expression_code n (at a.block) before first) (λ middle. items_code n (at a.block) (middle ++ (instr.Item ∷ [])) others)
      (tree_gives d a role.Item first home (then_ (expressions_first (gathered d a role.Item first) a role.Item others) begun) before)
      (λ middle. behind_gives P middle (instr.Item ∷ []) (items_code n (at a.block) (middle ++ (instr.Item ∷ [])) others) (tt, tt) (items_give (gathered d a role.Item first) a others home begun (middle ++ (instr.Item ∷ []))))

  reads_give : (d : List Phrase) (a : Around) (ts : List Reference) → Here a → AreFirst (gathered_each (gathered_receiver a role.Receiver) d ts) s.phrases → (channel : ℕ) (before : List Instr)
      → Gives P before (reads_code n (at a.block) before channel ts)
  reads_give d a [] home begun channel before = none_more P before
  reads_give d a (t ∷ ts) home begun channel before =
      let e : List Phrase = gathered_reference d a role.Receiver t in
      then_gives P before (receiver_code n (at a.block) (before ++ (instr.Input channel _ _ ∷ [])) t) (λ middle. reads_code n (at a.block) middle channel ts)
      (behind_gives P before (instr.Input channel _ _ ∷ []) (receiver_code n (at a.block) (before ++ (instr.Input channel _ _ ∷ [])) t) (tt, tt)
      (receiver_gives s views o number outlined places laid unit sites d a role.Receiver t home (then_ (receivers_first a role.Receiver e ts) begun) (before ++ (instr.Input channel _ _ ∷ []))))
      (λ middle. reads_give e a ts home begun channel middle)

  -- times and SCHEDULE
  by_gives : (given : Option ℕ) (d : List Phrase) (a : Around) (r : Role) (t : Expression) → Here a → AreFirst (gathered d a r t) s.phrases → (before : List Instr) → Gives P before (time_by n (at a.block) before t given)
  by_gives None d a r t home begun before = tree_gives d a r t home begun before
  by_gives (Some m) d a r t home begun before = none_more P before

  time_gives : (d : List Phrase) (a : Around) (r : Role) (t : Expression) → Here a → AreFirst (gathered d a r t) s.phrases → (before : List Instr) → Gives P before (time_code n (at a.block) before t)
  time_gives d a r t home begun before = by_gives (decimal_of t) d a r t home begun before

  start_gives : (d : List Phrase) (a : Around) (start : Option Start) → Here a → AreFirst (gathered_any (gathered_start a) d start) s.phrases → (before : List Instr) → Gives P before (start_code n (at a.block) before start)
  unfolding gathered_start
  start_gives d a None home begun before = none_more P before
  start_gives d a (Some (StartAt place t)) home begun before = time_gives d a role.Time t home begun before
  start_gives d a (Some (StartIn place t)) home begun before = time_gives d a role.Time t home begun before
  start_gives d a (Some (StartOn place t)) home begun before = none_more P before

  priority_gives : (d : List Phrase) (a : Around) (priority : Option Expression) → Here a → AreFirst (gathered_optional d a role.Priority priority) s.phrases → (before : List Instr)
      → Gives P before (priority_code n (at a.block) before priority)
  priority_gives d a None home begun before = none_more P before
  priority_gives d a (Some t) home begun before = tree_gives d a role.Priority t home begun before

  round_gives : (d : List Phrase) (a : Around) (cycle : Option Cycle) → Here a → AreFirst (gathered_any (gathered_cycle a) d cycle) s.phrases → (before : List Instr) → Gives P before (round_code n (at a.block) before cycle)
  unfolding gathered_cycle
  round_gives d a None home begun before = none_more P before
  round_gives d a (Some (Cyclic place)) home begun before = none_more P before
  round_gives d a (Some (CyclicEvery place t)) home begun before = time_gives d a role.Time t home begun before
  round_gives d a (Some (CyclicAfter place t)) home begun before = time_gives d a role.Time t home begun before

  until_gives : (event : Bool) (d : List Phrase) (a : Around) (r : Role) (t : Expression) → Here a → AreFirst (gathered d a r t) s.phrases → (before : List Instr) → Gives P before (until_code n (at a.block) before event t)
  until_gives true d a r t home begun before = none_more P before
  until_gives false d a r t home begun before = time_gives d a r t home begun before

  limit_gives : (d : List Phrase) (a : Around) (guard : Option Guard) → Here a → AreFirst (gathered_any (gathered_limit a) d guard) s.phrases → (before : List Instr) → Gives P before (limit_code n (at a.block) before guard)
  unfolding gathered_limit
  limit_gives d a None home begun before = none_more P before
  limit_gives d a (Some (While place t)) home begun before = none_more P before
  limit_gives d a (Some (Until place t)) home begun before = until_gives (holds_event s.phrases a.block t) d a role.EventOrTime t home begun before

  scheduled_each : (here : Site) (xs : List ℕ) (x : Schedule) (is : List Instr) → schedule_of here xs x ≡ Some is → Each P is
  scheduled_each here xs x is given =
      let ended = limit_operand here (last_event here xs) x.guard in
      let started = start_operand (first_event here xs) x.start in
      let process = then_is (λ p. option_and_then (λ begins. option_map (schedule_by x p begins) ended) started) (named_process here x.name) is given in
      let begins = then_is (λ b. option_map (schedule_by x process.0 b) ended) started is process.2 in
      let until = mapped_is (schedule_by x process.0 begins.0) ended is begins.2 in
      subst (λ l. Each P l) until.2 (tt, tt)

  schedule_gives : (d : List Phrase) (a : Around) (x : Schedule) → Here a → AreFirst (gathered_schedule d a x) s.phrases → (place : refusals.Place) (xs : List ℕ) (before : List Instr)
      → Gives P before (schedule_code n (at a.block) before place xs x)
  unfolding gathered_schedule
  schedule_gives d a x home begun place xs before =
      let here : Site = at a.block in
      let e : List Phrase = gathered_process a d x.name in
      let f : List Phrase = gathered_any (gathered_start a) e x.start in
      let h : List Phrase = gathered_optional f a role.Priority x.priority in
      let k : List Phrase = gathered_any (gathered_cycle a) h x.cycle in
      let cycle_begun = then_ (any_limit_first a k x.guard) begun in
      let priority_begun = then_ (any_cycle_first a h x.cycle) cycle_begun in
      then_gives P before (start_code n here before x.start)
      (λ first. onwards (priority_code n here first x.priority) (λ second. onwards (round_code n here second x.cycle) (λ third. onwards (limit_code n here third x.guard) (λ fourth. emit fourth place (schedule_of here xs x)))))
      (start_gives e a x.start home (then_ (optional_first f a role.Priority x.priority) priority_begun) before)
      (λ first. then_gives P first (priority_code n here first x.priority) (λ second. onwards (round_code n here second x.cycle) (λ third. onwards (limit_code n here third x.guard) (λ fourth. emit fourth place (schedule_of here xs x))))
      (priority_gives f a x.priority home priority_begun first)
      (λ second. then_gives P second (round_code n here second x.cycle) (λ third. onwards (limit_code n here third x.guard) (λ fourth. emit fourth place (schedule_of here xs x))) (round_gives h a x.cycle home cycle_begun second)
      (λ third. then_gives P third (limit_code n here third x.guard) (λ fourth. emit fourth place (schedule_of here xs x)) (limit_gives k a x.guard home begun third)
      (λ fourth. emit_gives P fourth place (schedule_of here xs x) (scheduled_each here xs x)))))

  pause_gives : (d : List Phrase) (a : Around) (t : Expression) → Here a → AreFirst (gathered d a role.Time t) s.phrases → (place : refusals.Place) (delays : Time → Delay) (before : List Instr)
      → Gives P before (pause_code n (at a.block) before place delays t)
  pause_gives d a t home begun place delays before = then_gives P before (time_code n (at a.block) before t) _ (time_gives d a role.Time t home begun before) (λ middle. one_gives P middle place _ tt)

  -- errors
  response_each : (here : Site) (x : Selector) (r : Response) (e : Option Eventful) (is : List Instr) → response_code here x r e ≡ Some is → Each P is
  response_each here x r e is given =
      let errors = then_is (λ (m : ℕ × ℕ). option_map (response_entry r m) (side_numbers here e)) (numbers_of x) is given in
      let side = mapped_is (response_entry r errors.0) (side_numbers here e) is errors.2 in
      subst (λ l. Each P l) side.2 (tt, tt)

  raise_each : (group m : ℕ) (is : List Instr) → raise_of group m ≡ Some is → Each P is
  raise_each group m is given =
      let one = then_is (λ g. option_map (λ k. instr.Raise g k ∷ []) (below_limit 256 m)) (below_limit 256 group) is given in
      let other = mapped_is (λ k. instr.Raise one.0 k ∷ []) (below_limit 256 m) is one.2 in
      subst (λ l. Each P l) other.2 (tt, tt)

  -- the group of a DO FOR or DO CASE has its place
  said_place : (d : List Phrase) (a : Around) (node : Node) (group before : ℕ) (block : ℕ) → Here a → AreFirst (add d a node) s.phrases → SaysPlaces (phrase (length d) a node) group before → HasPlace (at block) group before
  said_place d a node group before block home first says = record { phrase = phrase (length d) a node; among = among s.phrases d a node first; home = home.0; says = says }

  -- the mark of a group
  marked : (m : ℕ) (d : List Phrase) (a : Around) (node : Node) → Here a → is_mark node ≡ true → Counts a.home m d → AreFirst (add d a node) s.phrases → slice_get (marks_of s.phrases unit) m ≡ Some (length d)
  marked m d a node home is counts first = subst (λ k. slice_get (marks_of s.phrases k) m ≡ Some (length d)) home.0 (mark_there s.phrases m d a node is counts first)

  opened_site : (m : ℕ) (d : List Phrase) (a : Around) (labels : List Naming) (variable : Naming) → Here a → Counts a.home m d → AreFirst (add d a (OfTemporaryGroup labels variable)) s.phrases
      → group_site (at a.block) true m ≡ at (length d)
  opened_site m d a labels variable home counts first =
      ap (λ (k : Option ℕ). elim k [ None ↦ at a.block | Some x ↦ at x ]) (marked m d a (OfTemporaryGroup labels variable) home refl counts first)

  mutual
    unfolding gathered_statement gathered_basic gathered_alternative gathered_group gathered_statements begun_for around_for

    statement_gives : (m : ℕ) (d : List Phrase) (a : Around) (x : Statement) → Here a → Counts a.home m d → AreFirst (gathered_statement d a x) s.phrases → (exits : Exits) (before : List Instr)
        → Gives P before (statement_code n (at a.block) before exits m x)
    statement_gives m d a (Labelled labels basic) home counts begun exits before = basic_gives m (gathered_each (gathered_label a) d labels) a labels basic home (labels_count m a d labels counts) begun exits before

    basic_gives : (m : ℕ) (d : List Phrase) (a : Around) (labels : List Naming) (x : Basic) → Here a → Counts a.home m d → AreFirst (gathered_basic d a labels x) s.phrases → (exits : Exits) (before : List Instr)
        → Gives P before (basic_code n (at a.block) before exits m labels x)
    basic_gives m d a labels (Null p) home counts begun exits before = none_more P before
    basic_gives m d a labels (Assignment p receivers t) home counts begun exits before =
        let e : List Phrase = add d a (OfAssignment receivers t) in
        let f : List Phrase = gathered_each (gathered_receiver (below d a) role.Receiver) e receivers in
        then_gives P before (expression_code n (at a.block) before t) (λ middle. receivers_code n (at a.block) middle p receivers) (tree_gives f (below d a) role.Assigned t home begun before)
        (λ middle. receivers_give s views o number outlined places laid unit sites e (below d a) role.Receiver receivers home (then_ (expression_first f (below d a) role.Assigned t) begun) middle p)
    basic_gives m d a labels (If p condition consequence alternative) home counts begun exits before =
        let here : Site = at a.block in
        let e : List Phrase = gathered d a role.Condition condition in
        let f : List Phrase = gathered_statement e (inside a) consequence in
        let consequence_begun = then_ (alternative_first f (inside a) alternative) begun in
        let counted = expression_counts m d a role.Condition condition counts in
        then_gives P before (expression_code n here before condition) _ (tree_gives d a role.Condition condition home (then_ (statement_first e (inside a) consequence) consequence_begun) before)
        (λ tested. then_gives P tested (statement_code n here (tested ++ (instr.JumpNot _ ∷ [])) exits m consequence) (λ middle. alternative_code n here middle exits (after_statement m consequence) alternative)
        (behind_gives P tested (instr.JumpNot _ ∷ []) (statement_code n here (tested ++ (instr.JumpNot _ ∷ [])) exits m consequence) (tt, tt)
        (statement_gives m e (inside a) consequence home counted consequence_begun exits (tested ++ (instr.JumpNot _ ∷ []))))
        (λ middle. alternative_gives (after_statement m consequence) f (inside a) alternative home (statement_counts m e (inside a) consequence counted) begun exits middle))
    basic_gives m d a labels (Do p group) home counts begun exits before =
        group_gives (suc m) (add d a (OfGroup labels false)) (grouped (length d) a) group home (mark_more m d a (OfGroup labels false) refl counts) begun _ before
    basic_gives m d a labels (DoCase p selector alternative group) home counts begun exits before =
        let here : Site = at a.block in
        let e : List Phrase = add d a (OfGroup labels false) in
        let f : List Phrase = gathered e (below d a) role.Case selector in
        let h : List Phrase = gathered_alternative f (grouped (length d) a) alternative in
        let alternative_begun = then_ (group_first h (grouped (length d) a) group) begun in
        let selector_begun = then_ (alternative_first f (grouped (length d) a) alternative) alternative_begun in
        let counted = expression_counts (suc m) e (below d a) role.Case selector (mark_more m d a (OfGroup labels false) refl counts) in
        let own = then_ (own_first e (below d a) role.Case selector) selector_begun in
        let has = said_place e (below d a) (OfExpression role.Case selector) (length d) 0 a.block home own (inr (refl, refl, omega arith)) in
        let group_marked = marked m d a (OfGroup labels false) home refl counts (then_ (expression_first e (below d a) role.Case selector) selector_begun) in
        number_gives before p (cell_of n here m 0) _
        (λ cell is.
        let named = cell_named s views o number outlined places laid unit sites a.block m (length d) 0 cell home.1 group_marked has is in
        then_gives P before (expression_code n here before selector) _ (tree_gives e (below d a) role.Case selector home selector_begun before)
        (λ valued. then_gives P valued (cases_code n here (keeping valued cell) _ p cell _ (after_alternative (suc m) alternative) group) _
        (past_gives s views o number outlined places laid unit sites valued (keeping valued cell) (cases_code n here (keeping valued cell) _ p cell _ (after_alternative (suc m) alternative) group)
        (keeping_adds s views o number outlined places laid unit sites valued cell named)
        (cases_give (after_alternative (suc m) alternative) h (grouped (length d) a) group home (alternative_counts (suc m) f (grouped (length d) a) alternative counted) begun _ p cell _ named (keeping valued cell)))
        (λ middle. uncased_gives (suc m) f (grouped (length d) a) alternative home counted alternative_begun _ p middle)))
    basic_gives m d a labels (DoLoop p guard group) home counts begun exits before =
        let here : Site = at a.block in
        let e : List Phrase = add d a (OfGroup labels true) in
        let f : List Phrase = gathered_guard (below d a) e guard in
        let guard_begun = then_ (group_first f (grouped (length d) a) group) begun in
        then_gives P before (first_test_code n here before guard _) _ (first_test_gives e (below d a) guard home guard_begun before _)
        (λ tested. then_gives P tested (group_code n here (tested ++ (instr.Turn _ ∷ [])) _ (suc m) group) _
        (behind_gives P tested (instr.Turn _ ∷ []) (group_code n here (tested ++ (instr.Turn _ ∷ [])) _ (suc m) group) (tt, tt)
        (group_gives (suc m) f (grouped (length d) a) group home (guard_counts (suc m) (below d a) e guard (mark_more m d a (OfGroup labels true) refl counts)) begun _ (tested ++ (instr.Turn _ ∷ []))))
        (λ middle. test_gives e (below d a) guard home guard_begun middle (length tested) _))
    basic_gives m d a labels (DoFor p true variable span guard group) home counts begun exits before =
        let inner : Around = around_for d a true in
        let e : List Phrase = add d a (OfTemporaryGroup labels variable) in
        let f : List Phrase = gathered_span e inner span in
        let h : List Phrase = gathered_any (gathered_guard inner) f guard in
        let guard_begun = then_ (group_first h inner group) begun in
        let span_begun = then_ (any_guard_first inner f guard) guard_begun in
        let first = then_ (span_first e inner span) span_begun in
        let within : Here inner =
        (home.0, InGroup (length d) (phrase (length d) a (OfTemporaryGroup labels variable)) labels variable (there s.phrases d a (OfTemporaryGroup labels variable) first) refl home.0 home.1) in
        let counted = any_guard_counts (suc m) inner f guard (span_counts (suc m) e inner span (mark_more m d a (OfTemporaryGroup labels variable) refl counts)) in
        with_cells_gives before p (cells_of n (at a.block) true m) _
        (λ c is.
        let named = cells_named s views o number outlined places laid unit sites true a.block m (length d) c home.1 (marked m d a (OfTemporaryGroup labels variable) home refl counts first)
        (λ k few. said_place d a (OfTemporaryGroup labels variable) (length d) k a.block home first (inl (labels, variable, refl, refl, few))) is in
        subst (λ (here : Site). Gives P before (spanned_code n here before exits labels p variable.name c span guard (group_size n here (suc m) group) (λ start out. group_code n here start out (suc m) group)))
        (sym (opened_site m d a labels variable home counts first))
        (span_gives p variable.name e inner span guard within guard_begun c named exits labels _ (λ start out. group_code n (at (length d)) start out (suc m) group) (λ start out. group_gives (suc m) h inner group within counted begun out start) before))
    basic_gives m d a labels (DoFor p false variable span guard group) home counts begun exits before =
        let inner : Around = around_for d a false in
        let g : List Phrase = add d a (OfGroup labels true) in
        let e : List Phrase = begun_for d a labels false variable in
        let f : List Phrase = gathered_span e inner span in
        let h : List Phrase = gathered_any (gathered_guard inner) f guard in
        let guard_begun = then_ (group_first h inner group) begun in
        let span_begun = then_ (any_guard_first inner f guard) guard_begun in
        let first = then_ (span_first e inner span) span_begun in
        let own = then_ (one g (below d a) (OfVariable variable)) first in
        let counted = any_guard_counts (suc m) inner f guard (span_counts (suc m) e inner span (for_counts m d a labels false variable counts)) in
        with_cells_gives before p (cells_of n (at a.block) false m) _
        (λ c is.
        let named = cells_named s views o number outlined places laid unit sites false a.block m (length d) c home.1 (marked m d a (OfGroup labels true) home refl counts own)
        (λ k few. said_place g (below d a) (OfVariable variable) (length d) k a.block home first (inr (refl, refl, few))) is in
        span_gives p variable.name e inner span guard home guard_begun c named exits labels _ (λ start out. group_code n (at a.block) start out (suc m) group) (λ start out. group_gives (suc m) h inner group home counted begun out start) before)
    basic_gives m d a labels (Exit p label) home counts begun exits before = mapped (λ spot. instr.Jump spot ∷ []) _ before p (λ spot. (tt, tt))
    basic_gives m d a labels (Repeat p label) home counts begun exits before = mapped (λ spot. instr.Jump spot ∷ []) _ before p (λ spot. (tt, tt))
    basic_gives m d a labels (Return p None) home counts begun exits before = return_gives s views o number outlined places laid unit sites exits.leaving before p
    basic_gives m d a labels (Return p (Some t)) home counts begun exits before =
        then_gives P before (expression_code n (at a.block) before t) _ (tree_gives (add d a (OfReturn p (Some t))) (below d a) role.Returned t home begun before)
        (λ middle. result_gives s views o number outlined places laid unit sites exits.leaving _ middle p)
    basic_gives m d a labels (Call p name arguments receivers) home counts begun exits before =
        procedure_gives s views o number outlined places laid unit sites d a name arguments receivers home begun before p (referent (at a.block) name.name) refl
    basic_gives m d a labels (Read p channel receivers) home counts begun exits before =
        number_gives before p _ _ (λ m is. reads_give (gathered (add d a (OfRead p)) (below d a) role.Channel channel) (below d a) receivers home begun m before)
    basic_gives m d a labels (Write p channel items) home counts begun exits before =
        number_gives before p _ _
        (λ m is. then_gives P before (items_code n (at a.block) before items) (λ middle. emit_one middle p (instr.Print m)) (items_give (gathered (add d a (OfWrite p)) (below d a) role.Channel channel) (below d a) items home begun before)
        (λ middle. one_gives P middle p (instr.Print m) tt))
    basic_gives m d a labels (Event e) home counts begun exits before =
        mapped (λ k. changes e.action k ∷ []) _ before e.place (λ k. (change_plain s views o number outlined places laid unit sites e.action k, tt))
    basic_gives m d a labels (Cancel p names) home counts begun exits before = asked_gives s views o number outlined places laid unit sites (at a.block) instr.Cancel (λ k. tt) names before p
    basic_gives m d a labels (Terminate p names) home counts begun exits before = asked_gives s views o number outlined places laid unit sites (at a.block) instr.Terminate (λ k. tt) names before p
    basic_gives m d a labels (Scheduled p x) home counts begun exits before = schedule_gives (add d a (OfRealTime p)) (below d a) x home begun p _ before
    basic_gives m d a labels (UpdatePriority p name t) home counts begun exits before =
        then_gives P before (expression_code n (at a.block) before t) _ (tree_gives (gathered_any (gathered_process (below d a)) (add d a (OfRealTime p)) name) (below d a) role.Priority t home begun before)
        (λ middle. mapped (λ k. instr.Priority k ∷ []) _ middle p (λ k. (tt, tt)))
    basic_gives m d a labels (Wait p t) home counts begun exits before = pause_gives (add d a (OfRealTime p)) (below d a) t home begun p delay.For before
    basic_gives m d a labels (WaitUntil p t) home counts begun exits before = pause_gives (add d a (OfRealTime p)) (below d a) t home begun p delay.Until before
    basic_gives m d a labels (WaitForDependent p) home counts begun exits before = one_gives P before p (instr.Wait delay.Dependents) tt
    basic_gives m d a labels (WaitFor p t) home counts begun exits before = mapped (λ k. instr.Wait (delay.Event k) ∷ []) _ before p (λ k. (tt, tt))
    basic_gives m d a labels (Update p body close) home counts begun exits before =
        let e : List Phrase = add d a (OfUpdate p labels) in
        then_gives P before (emit before p (option_map (λ groups. instr.Open groups ∷ []) _)) _ (mapped (λ groups. instr.Open groups ∷ []) _ before p (λ k. (tt, tt)))
        (λ started. then_gives P started (block_code n (at a.block) started (of_body NoReturn) (suc m) body) (λ middle. emit_one middle p instr.Close)
        (block_gives (suc m) e (updated (length d) a) body home (mark_more m d a (OfUpdate p labels) refl counts) (then_ (close_first (updated (length d) a) (gathered_statements e (updated (length d) a) body) close) begun) (of_body NoReturn) started)
        (λ middle. one_gives P middle p instr.Close tt))
    basic_gives m d a labels (SendError p group_at group number_at k) home counts begun exits before = emit_gives P before p (raise_of group k) (raise_each group k)
    basic_gives m d a labels (OnErrorResponse p x r e) home counts begun exits before = emit_gives P before p (response_code (at a.block) x r e) (response_each (at a.block) x r e)
    basic_gives m d a labels (OffError p x) home counts begun exits before = mapped (λ (errors : ℕ × ℕ). instr.Off errors.0 errors.1 ∷ []) (numbers_of x) before p (λ errors. (tt, tt))
    basic_gives m d a labels (OnErrorStatement p x handler) home counts begun exits before = tt

    direct_gives : (m : ℕ) (d : List Phrase) (a : Around) (x : Statement) → Here a → Counts a.home m d → AreFirst (gathered_statement d a x) s.phrases → (exits : Exits) (before : List Instr)
        → Gives P before (direct_code n (at a.block) before exits m x)
    direct_gives m d a (Labelled labels (OnErrorStatement p x handler)) home counts begun exits before =
        let e : List Phrase = gathered_each (gathered_label a) d labels in
        then_gives P before (emit before p _) (λ started. statement_code n (at a.block) started exits (suc m) handler) (mapped (handler_entry (length before) _) (numbers_of x) before p (λ errors. (tt, (tt, tt))))
        (λ started. statement_gives (suc m) (add e a (OfHandler p x)) (inside a) handler home (mark_more m e a (OfHandler p x) refl (labels_count m a d labels counts)) begun exits started)
    direct_gives m d a (Labelled labels (Null p)) home counts begun exits before = basic_gives m (gathered_each (gathered_label a) d labels) a labels (Null p) home (labels_count m a d labels counts) begun exits before
    direct_gives m d a (Labelled labels (Assignment p receivers t)) home counts begun exits before = basic_gives m (gathered_each (gathered_label a) d labels) a labels (Assignment p receivers t) home (labels_count m a d labels counts) begun exits before
    direct_gives m d a (Labelled labels (If p condition consequence alternative)) home counts begun exits before = basic_gives m (gathered_each (gathered_label a) d labels) a labels (If p condition consequence alternative) home (labels_count m a d labels counts) begun exits before
    direct_gives m d a (Labelled labels (Do p group)) home counts begun exits before = basic_gives m (gathered_each (gathered_label a) d labels) a labels (Do p group) home (labels_count m a d labels counts) begun exits before
    direct_gives m d a (Labelled labels (DoCase p selector alternative group)) home counts begun exits before = basic_gives m (gathered_each (gathered_label a) d labels) a labels (DoCase p selector alternative group) home (labels_count m a d labels counts) begun exits before
    direct_gives m d a (Labelled labels (DoLoop p guard group)) home counts begun exits before = basic_gives m (gathered_each (gathered_label a) d labels) a labels (DoLoop p guard group) home (labels_count m a d labels counts) begun exits before
    direct_gives m d a (Labelled labels (DoFor p temporary variable span guard group)) home counts begun exits before = basic_gives m (gathered_each (gathered_label a) d labels) a labels (DoFor p temporary variable span guard group) home (labels_count m a d labels counts) begun exits before
    direct_gives m d a (Labelled labels (Exit p label)) home counts begun exits before = basic_gives m (gathered_each (gathered_label a) d labels) a labels (Exit p label) home (labels_count m a d labels counts) begun exits before
    direct_gives m d a (Labelled labels (Repeat p label)) home counts begun exits before = basic_gives m (gathered_each (gathered_label a) d labels) a labels (Repeat p label) home (labels_count m a d labels counts) begun exits before
    direct_gives m d a (Labelled labels (Return p value)) home counts begun exits before = basic_gives m (gathered_each (gathered_label a) d labels) a labels (Return p value) home (labels_count m a d labels counts) begun exits before
    direct_gives m d a (Labelled labels (Call p name arguments receivers)) home counts begun exits before = basic_gives m (gathered_each (gathered_label a) d labels) a labels (Call p name arguments receivers) home (labels_count m a d labels counts) begun exits before
    direct_gives m d a (Labelled labels (Read p channel receivers)) home counts begun exits before = basic_gives m (gathered_each (gathered_label a) d labels) a labels (Read p channel receivers) home (labels_count m a d labels counts) begun exits before
    direct_gives m d a (Labelled labels (Write p channel items)) home counts begun exits before = basic_gives m (gathered_each (gathered_label a) d labels) a labels (Write p channel items) home (labels_count m a d labels counts) begun exits before
    direct_gives m d a (Labelled labels (Event e)) home counts begun exits before = basic_gives m (gathered_each (gathered_label a) d labels) a labels (Event e) home (labels_count m a d labels counts) begun exits before
    direct_gives m d a (Labelled labels (Cancel p names)) home counts begun exits before = basic_gives m (gathered_each (gathered_label a) d labels) a labels (Cancel p names) home (labels_count m a d labels counts) begun exits before
    direct_gives m d a (Labelled labels (Terminate p names)) home counts begun exits before = basic_gives m (gathered_each (gathered_label a) d labels) a labels (Terminate p names) home (labels_count m a d labels counts) begun exits before
    direct_gives m d a (Labelled labels (Scheduled p x)) home counts begun exits before = basic_gives m (gathered_each (gathered_label a) d labels) a labels (Scheduled p x) home (labels_count m a d labels counts) begun exits before
    direct_gives m d a (Labelled labels (UpdatePriority p name t)) home counts begun exits before = basic_gives m (gathered_each (gathered_label a) d labels) a labels (UpdatePriority p name t) home (labels_count m a d labels counts) begun exits before
    direct_gives m d a (Labelled labels (Wait p t)) home counts begun exits before = basic_gives m (gathered_each (gathered_label a) d labels) a labels (Wait p t) home (labels_count m a d labels counts) begun exits before
    direct_gives m d a (Labelled labels (WaitUntil p t)) home counts begun exits before = basic_gives m (gathered_each (gathered_label a) d labels) a labels (WaitUntil p t) home (labels_count m a d labels counts) begun exits before
    direct_gives m d a (Labelled labels (WaitForDependent p)) home counts begun exits before = basic_gives m (gathered_each (gathered_label a) d labels) a labels (WaitForDependent p) home (labels_count m a d labels counts) begun exits before
    direct_gives m d a (Labelled labels (WaitFor p t)) home counts begun exits before = basic_gives m (gathered_each (gathered_label a) d labels) a labels (WaitFor p t) home (labels_count m a d labels counts) begun exits before
    direct_gives m d a (Labelled labels (Update p body close)) home counts begun exits before = basic_gives m (gathered_each (gathered_label a) d labels) a labels (Update p body close) home (labels_count m a d labels counts) begun exits before
    direct_gives m d a (Labelled labels (SendError p group_at group number_at k)) home counts begun exits before = basic_gives m (gathered_each (gathered_label a) d labels) a labels (SendError p group_at group number_at k) home (labels_count m a d labels counts) begun exits before
    direct_gives m d a (Labelled labels (OnErrorResponse p x r e)) home counts begun exits before = basic_gives m (gathered_each (gathered_label a) d labels) a labels (OnErrorResponse p x r e) home (labels_count m a d labels counts) begun exits before
    direct_gives m d a (Labelled labels (OffError p x)) home counts begun exits before = basic_gives m (gathered_each (gathered_label a) d labels) a labels (OffError p x) home (labels_count m a d labels counts) begun exits before

    pub block_gives : (m : ℕ) (d : List Phrase) (a : Around) (x : Statements) → Here a → Counts a.home m d → AreFirst (gathered_statements d a x) s.phrases → (exits : Exits) (before : List Instr)
        → Gives P before (block_code n (at a.block) before exits m x)
    block_gives m d a NoStatements home counts begun exits before = none_more P before
    block_gives m d a (MoreStatements first others) home counts begun exits before =
        then_gives P before (direct_code n (at a.block) before exits m first) (λ middle. block_code n (at a.block) middle exits (after_statement m first) others)
        (direct_gives m d a first home counts (then_ (statements_first (gathered_statement d a first) a others) begun) exits before)
        (λ middle. block_gives (after_statement m first) (gathered_statement d a first) a others home (statement_counts m d a first counts) begun exits middle)

    alternative_gives : (m : ℕ) (d : List Phrase) (a : Around) (x : Alternative) → Here a → Counts a.home m d → AreFirst (gathered_alternative d a x) s.phrases → (exits : Exits) (before : List Instr)
        → Gives P before (alternative_code n (at a.block) before exits m x)
    alternative_gives m d a NoAlternative home counts begun exits before = none_more P before
    alternative_gives m d a (Otherwise x) home counts begun exits before =
        behind_gives P before (instr.Jump _ ∷ []) (statement_code n (at a.block) (before ++ (instr.Jump _ ∷ [])) exits m x) (tt, tt) (statement_gives m d a x home counts begun exits (before ++ (instr.Jump _ ∷ [])))

    uncased_gives : (m : ℕ) (d : List Phrase) (a : Around) (x : Alternative) → Here a → Counts a.home m d → AreFirst (gathered_alternative d a x) s.phrases → (exits : Exits) (p : refusals.Place) (before : List Instr)
        → Gives P before (uncased_code n (at a.block) before exits p m x)
    uncased_gives m d a NoAlternative home counts begun exits p before = one_gives P before p (instr.Raise 1 6) tt
    uncased_gives m d a (Otherwise x) home counts begun exits p before = statement_gives m d a x home counts begun exits before

    cases_give : (m : ℕ) (d : List Phrase) (a : Around) (x : Group) → Here a → Counts a.home m d → AreFirst (gathered_group d a x) s.phrases → (exits : Exits) (p : refusals.Place) (cell target : ℕ) → Named cell → (before : List Instr)
        → Gives P before (cases_code n (at a.block) before exits p cell target m x)
    cases_give m d a (Groups list close) home counts begun exits p cell target named before =
        selected_gives m d a list home counts (then_ (close_first a (gathered_statements d a list) close) begun) exits p cell target 1 named before

    selected_gives : (m : ℕ) (d : List Phrase) (a : Around) (x : Statements) → Here a → Counts a.home m d → AreFirst (gathered_statements d a x) s.phrases → (exits : Exits) (p : refusals.Place) (cell target k : ℕ) → Named cell
        → (before : List Instr) → Gives P before (selected_code n (at a.block) before exits p cell target m k x)
    selected_gives m d a NoStatements home counts begun exits p cell target k named before = none_more P before
    selected_gives m d a (MoreStatements first others) home counts begun exits p cell target k named before =
        then_gives P before (case_code before p cell k _) _ (case_gives s views o number outlined places laid unit sites before p cell k _ named)
        (λ tested. then_gives P tested (statement_code n (at a.block) tested exits m first) (λ middle. selected_code n (at a.block) (middle ++ (instr.Jump target ∷ [])) exits p cell target (after_statement m first) (suc k) others)
        (statement_gives m d a first home counts (then_ (statements_first (gathered_statement d a first) a others) begun) exits tested)
        (λ middle. behind_gives P middle (instr.Jump target ∷ []) (selected_code n (at a.block) (middle ++ (instr.Jump target ∷ [])) exits p cell target (after_statement m first) (suc k) others) (tt, tt)
        (selected_gives (after_statement m first) (gathered_statement d a first) a others home (statement_counts m d a first counts) begun exits p cell target (suc k) named (middle ++ (instr.Jump target ∷ [])))))

    group_gives : (m : ℕ) (d : List Phrase) (a : Around) (x : Group) → Here a → Counts a.home m d → AreFirst (gathered_group d a x) s.phrases → (exits : Exits) (before : List Instr)
        → Gives P before (group_code n (at a.block) before exits m x)
    group_gives m d a (Groups list close) home counts begun exits before = statements_give m d a list home counts (then_ (close_first a (gathered_statements d a list) close) begun) exits before

    statements_give : (m : ℕ) (d : List Phrase) (a : Around) (x : Statements) → Here a → Counts a.home m d → AreFirst (gathered_statements d a x) s.phrases → (exits : Exits) (before : List Instr)
        → Gives P before (statements_code n (at a.block) before exits m x)
    statements_give m d a NoStatements home counts begun exits before = none_more P before
    statements_give m d a (MoreStatements first others) home counts begun exits before =
        then_gives P before (statement_code n (at a.block) before exits m first) (λ middle. statements_code n (at a.block) middle exits (after_statement m first) others)
        (statement_gives m d a first home counts (then_ (statements_first (gathered_statement d a first) a others) begun) exits before)
        (λ middle. statements_give (after_statement m first) (gathered_statement d a first) a others home (statement_counts m d a first counts) begun exits middle)
