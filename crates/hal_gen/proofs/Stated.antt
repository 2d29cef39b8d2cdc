-- The code of statements stands where it was put.
use Rattle.std.specs.Prelude.{◌≡◌, ℕ, suc, ◌+◌, List, [], ◌∷◌, ◌++◌, length, Option, Some, None, Ok}
use Rattle.std.specs.Option.{option_map}
use Rattle.std.proofs.Common.{refl, sym, ap, subst, ◌∙◌, arith}
use Rattle.hal_base.specs.declared.refusal.Place.{Place}
use Rattle.hal_grammar.specs.Leaves.{Naming}
use Rattle.hal_grammar.specs.Expressions.{NoExpressions, MoreExpressions}
use Rattle.hal_grammar.specs.Statements.{Selector, Guard, Span, Stepped, Listed, Statement, Labelled, Basic, Null, Assignment, If, Do, DoCase, DoLoop, DoFor, Exit, Repeat, Return, Call, Read, Write, Cancel, Terminate, Wait, WaitUntil, WaitForDependent, WaitFor, Event, Scheduled, UpdatePriority, Update, OnErrorStatement, OnErrorResponse, OffError, SendError, Alternative, NoAlternative, Otherwise, Group, Groups, Statements, NoStatements, MoreStatements}
use Rattle.hal_meaning.specs.Marks.{after_statement, after_alternative}
use Rattle.hal_meaning.specs.RealTime.{stated_at_mark}
use Rattle.hal_meaning.specs.Statements.{label_name, loop_place, end_place, update_groups}
use Rattle.hal_code.specs.declared.instr.Instr.{Instr}
use Rattle.hal_code.specs.declared.instr.Instr.TheVariants as instr
use Rattle.hal_code.specs.declared.operand.Delay.TheVariants as delay
use Rattle.hal_code.specs.declared.operand.EventChange.TheVariants as change
use Rattle.hal_code.specs.declared.operand.Response.TheVariants as response
use Rattle.hal_agreement.specs.Codes.{Code}
use Rattle.hal_agreement.specs.PlacedExpressions.{Has, One, ExpressionAt}
use Rattle.hal_agreement.specs.PlacedGroups.{KeepsAt, CaseAt}
use Rattle.hal_agreement.specs.PlacedStatements.{NoReturn, Exits, exit_of, again_of, opened, within_group, of_block, LeadsOut, sets, Selects, FirstTestAt, TestAt, StatementAt, BasicAt, AlternativeAt, UncasedAt, CasesAt, SelectedAt, SpannedAt, FirstSpanAt, GroupAt, StatementsAt}
use Rattle.hal_agreement.specs.Sites.{Site, here_at, group_site}
use Rattle.hal_gen_expr.specs.Emitting.{Emitted, onwards, emit}
use Rattle.hal_gen_expr.specs.ExpressionCode.{emit_one, expression_code}
use Rattle.hal_gen_expr.specs.Numbering.{Numbering, below}
use Rattle.hal_gen_expr.specs.Standing.{Begins, IsNumbered, Placed}
use Rattle.hal_gen_expr.proofs.Expressed.{ok_is, expression_at}
use Rattle.hal_gen_expr.proofs.Growing.{length_of_one_more, weaker, one_placed, none_placed, first_placed, both_there, both_placed}
use Rattle.hal_gen_expr.proofs.Numbered.{below_is}
use Rattle.hal_gen.specs.BlockExits.{of_body, with_handlers}
use Rattle.hal_gen.specs.ChannelNumbers.{channel_of}
use Rattle.hal_gen.specs.Leaves.{handler_code}
use Rattle.hal_gen.specs.declared.kept.Cells.{Cells}
use Rattle.hal_gen.specs.KeptCode.{cell_of, keeping, case_code, cells_of}
use Rattle.hal_gen.specs.SpanCode.{begin_code, again_code}
use Rattle.hal_gen.specs.Sizes.{jump_size, statement_size, basic_size, group_size}
use Rattle.hal_gen.specs.StatementCode.{first_span_code, later_span_code, with_cells, receivers_code, items_code, with_number, first_test_code, test_code, statement_code, basic_code, direct_code, block_code, alternative_code, uncased_code, cases_code, selected_code, group_code, statements_code}
use Rattle.hal_gen.proofs.Keeping.{IsCell, keeping_at, case_at, cell_is, AreCells, cells_are}
use Rattle.hal_gen.proofs.Handled.{HandlerAt, HandlersAt, spot_in, handlers_at, leads_out}
use Rattle.hal_gen.proofs.Measured.{unnested, later, statement_longer, basic_longer, direct_longer, group_longer}
use Rattle.hal_gen.proofs.Received.{receivers_at}
use Rattle.hal_gen.proofs.Timed.{pause_at, schedule_at, update_priority_at}
use Rattle.hal_gen.proofs.Simple.{single_placed, channel_at, items_at, first_test_at, test_at, reads_at, plain_return_at, value_return_at, procedure_at, event_pause_at, named_or_own_at, raise_at, response_at, entry_at, off_at, event_change_at}
use Rattle.hal_gen.proofs.Spanned.{first_span_at, BeginAt, AgainAt, begin_at, again_at}
use Rattle.hal_gen.proofs.Unaware.{statement_same, basic_same}

pub number_given : (place : Place) (o : Option ℕ) (go : ℕ → Emitted) (after : List Instr) → with_number place o go ≡ Ok after → (number : ℕ) × (o ≡ Some number) × (go number ≡ Ok after)
number_given place None go after e = absurd (cc)
number_given place (Some number) go after e = (number, refl, e)

pub cells_given : (place : Place) (o : Option Cells) (go : Cells → Emitted) (after : List Instr) → with_cells place o go ≡ Ok after → (c : Cells) × (o ≡ Some c) × (go c ≡ Ok after)
cells_given place None go after e = absurd (cc)
cells_given place (Some c) go after e = (c, refl, e)

module _ (code : Code) (n : Numbering) (site : Site) (numbered : IsNumbered code n) where
  pub opens_at : (groups : ℕ) (place : Place) (before after : List Instr) → emit before place (option_map (λ g. instr.Open g ∷ []) (below 65536 groups)) ≡ Ok after → Begins after code.image.code
      → Placed code before after (λ from to. One code from (instr.Open groups) to)
  opens_at groups place before after e begins =
      let given = single_placed code n site numbered instr.Open (below 65536 groups) place before after e begins in
      weaker code before after (λ from to at. subst (λ g. One code from (instr.Open g) to) (sym (below_is 65536 groups given.0 given.1)) at) given.2

  -- the code of these stands where it was put
  abbrev StatementStands : Statement → Type 0
  StatementStands tree = (exits : Exits) (m : ℕ) (before after : List Instr) → statement_code n site before exits m tree ≡ Ok after → Begins after code.image.code
      → Placed code before after (λ from to. StatementAt code site exits m tree from to)

  abbrev ElseStands : Alternative → Type 0
  ElseStands alternative = (exits : Exits) (m other : ℕ) (before after : List Instr) → alternative_code n site before exits m alternative ≡ Ok after → other ≡ length before + jump_size alternative
      → Begins after code.image.code → Placed code before after (λ from to. AlternativeAt code site exits m alternative from other to)

  abbrev GroupStands : Group → Type 0
  GroupStands group = (exits : Exits) (m : ℕ) (before after : List Instr) → group_code n site before exits m group ≡ Ok after → Begins after code.image.code
      → Placed code before after (λ from to. GroupAt code site exits m group from to)

  abbrev ListStands : Statements → Type 0
  ListStands list = (exits : Exits) (m : ℕ) (before after : List Instr) → statements_code n site before exits m list ≡ Ok after → Begins after code.image.code
      → Placed code before after (λ from to. StatementsAt code site exits m list from to)

  abbrev CasesStand : Statements → Type 0
  CasesStand list = (exits : Exits) (place : Place) (cell own target m k : ℕ) (before after : List Instr) → IsCell code cell own → selected_code n site before exits place cell target m k list ≡ Ok after
      → Begins after code.image.code → Placed code before after (λ from to. SelectedAt code site exits own m k list from to target)

  -- a statement of DO CASE behind its test, a jump behind it, and those that follow
  selected_first : (first : Statement) (others : Statements) (exits : Exits) (place : Place) (cell own target m k : ℕ) (tested after : List Instr) → IsCell code cell own → StatementStands first → CasesStand others
      → onwards (statement_code n site tested exits m first) (λ middle. selected_code n site (middle ++ (instr.Jump target ∷ [])) exits place cell target (after_statement m first) (suc k) others) ≡ Ok after
      → Begins after code.image.code
      → Placed code tested after (λ from to. (end : ℕ) × StatementAt code site exits m first from end × (end ≡ from + statement_size n site m first) × Has code end (instr.Jump target)
      × SelectedAt code site exits own (after_statement m first) (suc k) others (suc end) to target)
  selected_first first others exits place cell own target m k tested after is one rest e begins =
      let there = both_there code {A = λ from to. StatementAt code site exits m first from to}
      {B = λ end to. (end ≡ length tested + statement_size n site m first) × Has code end (instr.Jump target) × SelectedAt code site exits own (after_statement m first) (suc k) others (suc end) to target}
      (statement_code n site tested exits m first) _ tested after e
      (λ middle there begun. one exits m tested middle there begun)
      (λ middle there late. let behind = first_placed code {B = λ from to. SelectedAt code site exits own (after_statement m first) (suc k) others from to target} middle after (instr.Jump target)
      (rest exits place cell own target (after_statement m first) (suc k) (middle ++ (instr.Jump target ∷ [])) after is late begins) in
      record { at = (statement_longer n site first exits m tested middle there, behind.at.0, behind.at.1); begins = behind.begins })
      in record { at = (there.at.0, there.at.1, there.at.2.0, there.at.2.1, there.at.2.2); begins = there.begins }

  abbrev UncasedStands : Alternative → Type 0
  UncasedStands alternative = (exits : Exits) (place : Place) (m : ℕ) (before after : List Instr) → uncased_code n site before exits place m alternative ≡ Ok after → Begins after code.image.code
      → Placed code before after (λ from to. UncasedAt code site exits m alternative from to)

  abbrev SelectionStands : Group → Type 0
  SelectionStands group = (exits : Exits) (place : Place) (cell own target m : ℕ) (before after : List Instr) → IsCell code cell own → cases_code n site before exits place cell target m group ≡ Ok after
      → Begins after code.image.code → Placed code before after (λ from to. CasesAt code site exits own m group from to target)

  -- the number of a DO CASE is kept, and its statements follow
  selecting_at : (alternative : Alternative) (group : Group) (exits : Exits) (place : Place) (cell own exit m : ℕ) (valued after : List Instr) → IsCell code cell own → SelectionStands group → UncasedStands alternative
      → onwards (cases_code n site (keeping valued cell) exits place cell exit (after_alternative (suc m) alternative) group) (λ middle. uncased_code n site middle exits place (suc m) alternative) ≡ Ok after
      → Begins after code.image.code
      → Placed code valued after (λ from to. (begin : ℕ) × KeepsAt code own from begin × (none : ℕ) × CasesAt code site exits own (after_alternative (suc m) alternative) group begin none exit
      × UncasedAt code site exits (suc m) alternative none to)
  selecting_at alternative group exits place cell own exit m valued after is cases none e begins =
      weaker code valued after (λ from to at. (at.0, at.1, at.2.0, at.2.1, at.2.2))
      (both_placed code {A = λ from to. KeepsAt code own from to}
      {B = λ from to. (none : ℕ) × CasesAt code site exits own (after_alternative (suc m) alternative) group from none exit × UncasedAt code site exits (suc m) alternative none to}
      (Ok (keeping valued cell)) (λ kept. onwards (cases_code n site kept exits place cell exit (after_alternative (suc m) alternative) group) (λ middle. uncased_code n site middle exits place (suc m) alternative)) valued after e
      (λ kept got begun. keeping_at code cell own is valued kept (ok_is _ kept got) begun)
      (λ kept got. both_placed code {A = λ from to. CasesAt code site exits own (after_alternative (suc m) alternative) group from to exit}
      {B = λ from to. UncasedAt code site exits (suc m) alternative from to}
      (cases_code n site kept exits place cell exit (after_alternative (suc m) alternative) group) _ kept after got
      (λ middle there begun. cases exits place cell own exit (after_alternative (suc m) alternative) kept middle is there begun)
      (λ middle there. none exits place (suc m) middle after there begins)))

  -- a consequence behind its test, and what stands after ELSE
  chosen_at : (consequence : Statement) (alternative : Alternative) (exits : Exits) (m : ℕ) (tested after : List Instr)
      → StatementStands consequence → ElseStands alternative → onwards (statement_code n site (tested ++ (instr.JumpNot (suc (length tested) + (statement_size n site m consequence + jump_size alternative)) ∷ [])) exits m consequence)
      (λ middle. alternative_code n site middle exits (after_statement m consequence) alternative) ≡ Ok after → Begins after code.image.code
      → Placed code tested after (λ from to. (other : ℕ) × (end : ℕ) × Has code from (instr.JumpNot other) × StatementAt code site exits m consequence (suc from) end
      × AlternativeAt code site exits (after_statement m consequence) alternative end other to)
  chosen_at consequence alternative exits m tested after one two e begins =
      let other = suc (length tested) + (statement_size n site m consequence + jump_size alternative) in
      let test = tested ++ (instr.JumpNot other ∷ []) in
      weaker code tested after (λ from to at. (other, at.1.0, at.0, at.1.1, at.1.2))
      (first_placed code tested after (instr.JumpNot other)
      (both_there code (statement_code n site test exits m consequence) _ test after e (λ middle there begun. one exits m test middle there begun)
      (λ middle there rest. two exits (after_statement m consequence) other middle after rest
      (let longer = later tested middle (instr.JumpNot other) (statement_size n site m consequence) (statement_longer n site consequence exits m test middle there) in omega (arith, longer)) begins)))

  -- the group of a loop whose test begins where the group ends
  repeated_at : (group : Group) (labels : List Naming) (exits : Exits) (m exit again : ℕ) (before after : List Instr)
      → GroupStands group → group_code n site before (within_group (opened labels exit (Some again)) exits) (suc m) group ≡ Ok after → again ≡ length after → Begins after code.image.code
      → Placed code before after (λ from to. GroupAt code site (within_group (opened labels exit (Some to)) exits) (suc m) group from to)
  repeated_at group labels exits m exit again before after whole e is begins =
      let there = whole (within_group (opened labels exit (Some again)) exits) (suc m) before after e begins in
      record { at = subst (λ a. GroupAt code site (within_group (opened labels exit (Some a)) exits) (suc m) group (length before) (length after)) is there.at; begins = there.begins }

  -- the turns of a loop that ends at this address
  turns_at : (g : Guard) (group : Group) (labels : List Naming) (exits : Exits) (m exit : ℕ) (tested after : List Instr)
      → GroupStands group → onwards (group_code n site (tested ++ (instr.Turn exit ∷ [])) (within_group (opened labels exit (Some (suc (length tested) + group_size n site (suc m) group))) exits) (suc m) group)
      (λ middle. test_code n site middle g (length tested) exit) ≡ Ok after → exit ≡ length after → Begins after code.image.code
      → Placed code tested after (λ from to. (again : ℕ) × Has code from (instr.Turn exit) × GroupAt code site (within_group (opened labels exit (Some again)) exits) (suc m) group (suc from) again
      × TestAt code site g again from to)
  turns_at g group labels exits m exit tested after whole e ends begins =
      let again = suc (length tested) + group_size n site (suc m) group in
      let start = tested ++ (instr.Turn exit ∷ []) in
      let there = first_placed code tested after (instr.Turn exit)
      (both_placed code {A = λ from to. GroupAt code site (within_group (opened labels exit (Some to)) exits) (suc m) group from to}
      (group_code n site start (within_group (opened labels exit (Some again)) exits) (suc m) group) (λ middle. test_code n site middle g (length tested) exit) start after e
      (λ middle got begun. repeated_at group labels exits m exit again start middle whole got
      (let longer = group_longer n site group (within_group (opened labels exit (Some again)) exits) (suc m) start middle got in let one = length_of_one_more tested (instr.Turn exit) in omega (arith, longer, one)) begun)
      (λ middle got. test_at code n site numbered g (length tested) exit middle after got ends begins))
      in record { at = (there.at.1.0, there.at.0, there.at.1.1, there.at.1.2); begins = there.begins }

  -- the same of a DO FOR
  span_turns_at : (c : Cells) (own : ℕ) (are : AreCells code c own) (place : Place) (name : List ℕ) (span : Span) (g : Option Guard) (group : Group) (labels : List Naming) (exits : Exits) (m exit : ℕ) (tested after : List Instr) → GroupStands group
      → onwards (group_code n site (tested ++ (instr.Turn exit ∷ [])) (within_group (opened labels exit (Some (suc (length tested) + group_size n site (suc m) group))) exits) (suc m) group)
      (λ middle. onwards (again_code n site middle place name c exit span) (λ counted. later_span_code n site counted place g (length tested) exit)) ≡ Ok after → exit ≡ length after → Begins after code.image.code
      → Placed code tested after (λ from to. (again : ℕ) × Has code from (instr.Turn exit) × GroupAt code site (within_group (opened labels exit (Some again)) exits) (suc m) group (suc from) again
      × AgainAt code n site numbered c own are place name span g again from to)
  span_turns_at c own are place name span g group labels exits m exit tested after whole e ends begins =
      let again = suc (length tested) + group_size n site (suc m) group in
      let start = tested ++ (instr.Turn exit ∷ []) in
      let there = first_placed code tested after (instr.Turn exit)
      (both_placed code {A = λ from to. GroupAt code site (within_group (opened labels exit (Some to)) exits) (suc m) group from to} {B = λ from to. AgainAt code n site numbered c own are place name span g from (length tested) to}
      (group_code n site start (within_group (opened labels exit (Some again)) exits) (suc m) group) (λ middle. onwards (again_code n site middle place name c exit span) (λ counted. later_span_code n site counted place g (length tested) exit)) start after e
      (λ middle got begun. repeated_at group labels exits m exit again start middle whole got
      (let longer = group_longer n site group (within_group (opened labels exit (Some again)) exits) (suc m) start middle got in let one = length_of_one_more tested (instr.Turn exit) in omega (arith, longer, one)) begun)
      (λ middle got. again_at code n site numbered c own are place name span g (length tested) exit middle after got ends begins))
      in record { at = (there.at.1.0, there.at.0, there.at.1.1, there.at.1.2); begins = there.begins }

  -- all of it
  spanned_at : (c : Cells) (own : ℕ) (are : AreCells code c own) (place : Place) (name : List ℕ) (span : Span) (g : Option Guard) (group : Group) (labels : List Naming) (exits : Exits) (m exit : ℕ) (before after : List Instr) → GroupStands group
      → onwards (begin_code n site before place name c exit span) (λ begun. onwards (first_span_code n site begun g exit)
      (λ tested. onwards (group_code n site (tested ++ (instr.Turn exit ∷ [])) (within_group (opened labels exit (Some (suc (length tested) + group_size n site (suc m) group))) exits) (suc m) group)
      (λ middle. onwards (again_code n site middle place name c exit span) (λ counted. later_span_code n site counted place g (length tested) exit)))) ≡ Ok after → exit ≡ length after → Begins after code.image.code
      → Placed code before after (λ from to. (test : ℕ) × (turn : ℕ) × (again : ℕ) × BeginAt code n site numbered c own are place name span from exit test × FirstSpanAt code site g test exit turn × Has code turn (instr.Turn exit)
      × GroupAt code site (within_group (opened labels exit (Some again)) exits) (suc m) group (suc turn) again × AgainAt code n site numbered c own are place name span g again turn to)
  spanned_at c own are place name span g group labels exits m exit before after whole e ends begins =
      weaker code before after (λ from to at. (at.0, at.2.0, at.2.2.0, at.1, at.2.1, at.2.2.1, at.2.2.2, at.2.2.3))
      (both_placed code {A = λ from to. BeginAt code n site numbered c own are place name span from exit to}
      {B = λ from to. (turn : ℕ) × FirstSpanAt code site g from exit turn × ((again : ℕ) × Has code turn (instr.Turn exit) × GroupAt code site (within_group (opened labels exit (Some again)) exits) (suc m) group (suc turn) again
      × AgainAt code n site numbered c own are place name span g again turn to)}
      (begin_code n site before place name c exit span) _ before after e (λ begun there starts. begin_at code n site numbered c own are place name span exit before begun there starts)
      (λ begun there. both_placed code {A = λ from to. FirstSpanAt code site g from exit to}
      {B = λ from to. (again : ℕ) × Has code from (instr.Turn exit) × GroupAt code site (within_group (opened labels exit (Some again)) exits) (suc m) group (suc from) again × AgainAt code n site numbered c own are place name span g again from to}
      (first_span_code n site begun g exit) _ begun after there (λ tested got starts. first_span_at code n site numbered g exit begun tested got starts)
      (λ tested got. span_turns_at c own are place name span g group labels exits m exit tested after whole got ends begins)))

  -- as the statement has it
  span_there : (c : Cells) (own : ℕ) (are : AreCells code c own) (place : Place) (name : List ℕ) (span : Span) (g : Option Guard) (body : ℕ → ℕ → Type 0) (from test turn again to : ℕ) → BeginAt code n site numbered c own are place name span from to test
      → FirstSpanAt code site g test to turn → Has code turn (instr.Turn to) → body (suc turn) again → AgainAt code n site numbered c own are place name span g again turn to → SpannedAt code site name own g body span from again to
  span_there c own are place name (Stepped first last step) g body from test turn again to begin guard has inner next = (test, turn, begin, guard, has, inner, next)
  span_there c own are place name (Listed NoExpressions) g body from test turn again to begin guard has inner next = absurd begin
  span_there c own are place name (Listed (MoreExpressions first others)) g body from test turn again to begin guard has inner next = (test, turn, begin, guard, has, inner, next)

  -- a DO FOR whose end stands behind it
  range_at : (c : Cells) (own : ℕ) (are : AreCells code c own) (place : Place) (name : List ℕ) (span : Span) (g : Option Guard) (group : Group) (labels : List Naming) (exits : Exits) (m exit : ℕ) (before after : List Instr) → GroupStands group
      → onwards (begin_code n site before place name c exit span) (λ begun. onwards (first_span_code n site begun g exit)
      (λ tested. onwards (group_code n site (tested ++ (instr.Turn exit ∷ [])) (within_group (opened labels exit (Some (suc (length tested) + group_size n site (suc m) group))) exits) (suc m) group)
      (λ middle. onwards (again_code n site middle place name c exit span) (λ counted. later_span_code n site counted place g (length tested) exit)))) ≡ Ok after → exit ≡ length after → Begins after code.image.code
      → Placed code before after (λ from to. (again : ℕ) × SpannedAt code site name own g (λ begin end. GroupAt code site (within_group (opened labels to (Some again)) exits) (suc m) group begin end) span from again to)
  range_at c own are place name span g group labels exits m exit before after whole e ends begins =
      let there = spanned_at c own are place name span g group labels exits m exit before after whole e ends begins in
      record {
        at = subst (λ to. (again : ℕ) × SpannedAt code site name own g (λ begin end. GroupAt code site (within_group (opened labels to (Some again)) exits) (suc m) group begin end) span (length before) again (length after)) ends (
          there.at.2,
          subst (λ to. SpannedAt code site name own g (λ begin end. GroupAt code site (within_group (opened labels exit (Some there.at.2)) exits) (suc m) group begin end) span (length before) there.at.2 to) ends
              (span_there c own are place name span g (λ begin end. GroupAt code site (within_group (opened labels exit (Some there.at.2)) exits) (suc m) group begin end) (length before) there.at.0 there.at.1 there.at.2 exit
              there.at.3 there.at.4 there.at.5 there.at.6
              (subst (λ to. AgainAt code n site numbered c own are place name span g there.at.2 there.at.1 to) (sym ends) there.at.7)),
        );
        begins = there.begins;
      }

  -- a statement directly in a block's body, and the statements of the body; the statements of ON ERROR among them stand there
  abbrev DirectStands : Statement → Type 0
  DirectStands tree = (spot : ℕ → ℕ) (exits : Exits) (m : ℕ) (before after : List Instr) → direct_code n site before exits m tree ≡ Ok after → HandlerAt n site spot (length before) m tree
      → Begins after code.image.code → Placed code before after (λ from to. StatementAt code site (with_handlers spot exits) m tree from to)

  abbrev BlockStands : Statements → Type 0
  BlockStands list = (spot : ℕ → ℕ) (exits : Exits) (m : ℕ) (before after : List Instr) → block_code n site before exits m list ≡ Ok after → HandlersAt n site spot (length before) m list
      → Begins after code.image.code → Placed code before after (λ from to. StatementsAt code site (with_handlers spot exits) m list from to)

  -- ON ERROR with a statement
  handler_at : (labels : List Naming) (place : Place) (s : Selector) (handler : Statement) → StatementStands handler → DirectStands (Labelled labels (OnErrorStatement place s handler))
  handler_at labels place s handler stands spot exits m before after e is begins =
      let size = statement_size n site (suc m) handler in
      let there = both_placed code
      {A = λ from to. (group : ℕ) × (number : ℕ) × Selects s group number × Has code from (sets group number response.Statement change.Nothing 0 (suc (suc from))) × One code (suc from) (instr.Jump (suc (suc from) + size)) to}
      {B = λ from to. StatementAt code site (with_handlers spot exits) (suc m) handler from to}
      (emit before place (handler_code s (length before) size)) (λ begun. statement_code n site begun exits (suc m) handler) before after e
      (λ begun got starts. entry_at code n site numbered s size place before begun got starts)
      (λ begun got. stands (with_handlers spot exits) (suc m) begun after (sym (statement_same n spot handler site exits (suc m) begun) ∙ got) begins) in
      let longer = direct_longer n site (Labelled labels (OnErrorStatement place s handler)) exits m before after e in
      let ends : suc (suc (length before)) + size ≡ length after = omega (arith, longer) in
      record {
        at = (
          there.at.1.0,
          there.at.1.1,
          there.at.1.2,
          there.at.1.3,
          subst (λ to. Has code (suc (length before)) (instr.Jump to)) ends there.at.1.4.0,
          is,
          subst (λ from. StatementAt code site (with_handlers spot exits) (suc m) handler from (length after)) (sym there.at.1.4.1) there.at.2,
        );
        begins = there.begins;
      }

  -- the statements of a block's body stand somewhere, and the marks of none of them lead to where they end
  led_out : (list : Statements) → BlockStands list → (exits : Exits) (m : ℕ) (before after : List Instr) → block_code n site before exits m list ≡ Ok after → Begins after code.image.code
      → Placed code before after (λ from to. (handler : ℕ → ℕ) × StatementsAt code site (with_handlers handler exits) m list from to × LeadsOut handler m list to)
  led_out list stands exits m before after e begins =
      let spot = spot_in n site (length after) (length before) m list in
      let there = stands spot exits m before after e (handlers_at n site (length after) (length before) m list spot (λ place far. refl)) begins in
      record { at = (spot, there.at, leads_out n site (length after) (length before) m list); begins = there.begins }

  -- the statements of an UPDATE block, and CLOSE
  updated_at : (body : Statements) (m : ℕ) (begun after : List Instr) (place : Place)
      → BlockStands body → onwards (block_code n site begun (of_body NoReturn) (suc m) body) (λ middle. emit_one middle place instr.Close) ≡ Ok after → Begins after code.image.code
      → Placed code begun after (λ from to. (handler : ℕ → ℕ) × (last : ℕ) × StatementsAt code site (of_block NoReturn handler) (suc m) body from last × LeadsOut handler (suc m) body last × One code last instr.Close to)
  updated_at body m begun after place whole e begins =
      weaker code begun after (λ from to at. (at.1.0, at.0, at.1.1, at.1.2, at.2))
      (both_placed code {A = λ from to. (handler : ℕ → ℕ) × StatementsAt code site (of_block NoReturn handler) (suc m) body from to × LeadsOut handler (suc m) body to} {B = λ from to. One code from instr.Close to}
      (block_code n site begun (of_body NoReturn) (suc m) body) (λ middle. emit_one middle place instr.Close) begun after e
      (λ middle there starts. led_out body whole (of_body NoReturn) (suc m) begun middle there starts) (λ middle late. one_placed code middle after instr.Close (ok_is _ after late) begins))

mutual
  pub statement_at : (code : Code) (n : Numbering) (site : Site) (numbered : IsNumbered code n) (tree : Statement) → StatementStands code n site numbered tree
  statement_at code n site numbered (Labelled labels basic) exits m before after e begins = basic_at code n site numbered basic labels exits m before after e begins

  pub basic_at : (code : Code) (n : Numbering) (site : Site) (numbered : IsNumbered code n) (basic : Basic) (labels : List Naming) (exits : Exits) (m : ℕ) (before after : List Instr) → basic_code n site before exits m labels basic ≡ Ok after → Begins after code.image.code
      → Placed code before after (λ from to. BasicAt code site exits m labels basic from to)
  basic_at code n site numbered (Null place) labels exits m before after e begins = none_placed code before after (ok_is before after e) begins
  basic_at code n site numbered (Assignment place receivers tree) labels exits m before after e begins =
      both_placed code (expression_code n site before tree) (λ middle. receivers_code n site middle place receivers) before after e
      (λ middle there begun. expression_at code n site numbered tree before middle there begun) (λ middle there. receivers_at code n site numbered receivers place middle after there begins)
  basic_at code n site numbered (If place condition consequence alternative) labels exits m before after e begins =
      weaker code before after (λ from to at. (at.2.0, suc at.0, at.2.1, (at.0, at.1, (at.2.2, refl)), at.2.3, at.2.4))
      (both_placed code (expression_code n site before condition) _ before after e (λ tested there begun. expression_at code n site numbered condition before tested there begun)
      (λ tested there. chosen_at code n site numbered consequence alternative exits m tested after (statement_at code n site numbered consequence) (alternative_at code n site numbered alternative) there begins))
  basic_at code n site numbered (Do place group) labels exits m before after e begins =
      let exit = length before + group_size n site (suc m) group in
      let there = group_at code n site numbered group (within_group (opened labels exit None) exits) (suc m) before after e begins in
      let ends = sym (group_longer n site group (within_group (opened labels exit None) exits) (suc m) before after e) in
      record { at = subst (λ to. GroupAt code site (within_group (opened labels to None) exits) (suc m) group (length before) (length after)) ends there.at; begins = there.begins }
  basic_at code n site numbered (DoCase place number alternative group) labels exits m before after e begins =
      let exit = length before + basic_size n site m (DoCase place number alternative group) in
      let own = loop_place (here_at site) m in
      let ends : exit ≡ length after = sym (basic_longer n site (DoCase place number alternative group) labels exits m before after e) in
      let given = number_given place (cell_of n site m 0) _ after e in
      let is : IsCell code given.0 own = subst (λ p. IsCell code given.0 p) (let same : own + 0 ≡ own = omega arith in same) (cell_is code n site numbered m 0 given.0 given.1) in
      let there = both_placed code {A = λ from to. ExpressionAt code site number from to}
      {B = λ from to. (begin : ℕ) × KeepsAt code own from begin × (none : ℕ) × CasesAt code site (within_group (opened labels exit None) exits) own (after_alternative (suc m) alternative) group begin none exit
      × UncasedAt code site (within_group (opened labels exit None) exits) (suc m) alternative none to}
      (expression_code n site before number) _ before after given.2
      (λ valued got begun. expression_at code n site numbered number before valued got begun)
      (λ valued got. selecting_at code n site numbered alternative group (within_group (opened labels exit None) exits) place given.0 own exit m valued after is (cases_at code n site numbered group) (uncased_at code n site numbered alternative) got begins)
      in record {
        at = subst (λ to. (middle : ℕ) × (begin : ℕ) × (none : ℕ) × ExpressionAt code site number (length before) middle × KeepsAt code own middle begin
            × CasesAt code site (within_group (opened labels to None) exits) own (after_alternative (suc m) alternative) group begin none to
            × UncasedAt code site (within_group (opened labels to None) exits) (suc m) alternative none (length after)) ends
            (there.at.0, there.at.2.0, there.at.2.2, there.at.1, there.at.2.1, there.at.2.3, there.at.2.4);
        begins = there.begins;
      }
  basic_at code n site numbered (DoLoop place g group) labels exits m before after e begins =
      let exit = length before + basic_size n site m (DoLoop place g group) in
      let ends : exit ≡ length after = sym (basic_longer n site (DoLoop place g group) labels exits m before after e) in
      let there = both_placed code (first_test_code n site before g exit) _ before after e (λ tested first begun. first_test_at code n site numbered g exit before tested first begun)
      (λ tested rest. turns_at code n site numbered g group labels exits m exit tested after (group_at code n site numbered group) rest ends begins)
      in record {
        at = subst (λ to. (turn : ℕ) × (again : ℕ) × FirstTestAt code site g (length before) to turn × Has code turn (instr.Turn to)
            × GroupAt code site (within_group (opened labels to (Some again)) exits) (suc m) group (suc turn) again × TestAt code site g again turn (length after)) ends
            (there.at.0, there.at.2.0, there.at.1, there.at.2.1, there.at.2.2, there.at.2.3);
        begins = there.begins;
      }
  basic_at code n site numbered (DoFor place temporary variable span g group) labels exits m before after e begins =
      let inner = group_site site temporary m in
      let exit = length before + basic_size n site m (DoFor place temporary variable span g group) in
      let ends : exit ≡ length after = sym (basic_longer n site (DoFor place temporary variable span g group) labels exits m before after e) in
      let given = cells_given place (cells_of n site temporary m) _ after e in
      range_at code n inner numbered given.0 (end_place (here_at site) temporary m) (cells_are code n site numbered temporary m given.0 given.1) place variable.name span g group labels exits m exit before after
      (group_at code n inner numbered group)
      (unnested (begin_code n inner before place variable.name given.0 exit span) (λ begun. first_span_code n inner begun g exit) _ after given.2) ends begins
  basic_at code n site numbered (Exit place label) labels exits m before after e begins =
      let given = single_placed code n site numbered instr.Jump (exit_of exits.groups (label_name label)) place before after e begins in weaker code before after (λ from to at. (given.0, given.1, at)) given.2
  basic_at code n site numbered (Repeat place label) labels exits m before after e begins =
      let given = single_placed code n site numbered instr.Jump (again_of exits.groups (label_name label)) place before after e begins in weaker code before after (λ from to at. (given.0, given.1, at)) given.2
  basic_at code n site numbered (Return place None) labels exits m before after e begins = plain_return_at code n site numbered exits place before after e begins
  basic_at code n site numbered (Return place (Some tree)) labels exits m before after e begins = value_return_at code n site numbered exits place tree before after e begins
  basic_at code n site numbered (Call place name arguments receivers) labels exits m before after e begins = procedure_at code n site numbered name.name arguments receivers place before after e begins
  basic_at code n site numbered (Read place channel receivers) labels exits m before after e begins =
      let given = number_given place (channel_of site channel) _ after e in
      weaker code before after (λ from to at. (given.0, channel_at code n site numbered channel given.0 given.1, at)) (reads_at code n site numbered given.0 receivers before after given.2 begins)
  basic_at code n site numbered (Write place channel items) labels exits m before after e begins =
      let given = number_given place (channel_of site channel) _ after e in
      weaker code before after (λ from to at. (given.0, at.0, channel_at code n site numbered channel given.0 given.1, at.1, at.2))
      (both_placed code (items_code n site before items) (λ middle. emit_one middle place (instr.Print given.0)) before after given.2 (λ middle there begun. items_at code n site numbered items before middle there begun)
      (λ middle there. one_placed code middle after (instr.Print given.0) (ok_is _ after there) begins))
  basic_at code n site numbered (Event one) labels exits m before after e begins = event_change_at code n site numbered one before after e begins
  basic_at code n site numbered (Cancel place names) labels exits m before after e begins = named_or_own_at code n site numbered instr.Cancel names place before after e begins
  basic_at code n site numbered (Terminate place names) labels exits m before after e begins = named_or_own_at code n site numbered instr.Terminate names place before after e begins
  basic_at code n site numbered (Scheduled place s) labels exits m before after e begins = schedule_at code n site numbered place m s before after e begins
  basic_at code n site numbered (UpdatePriority place name tree) labels exits m before after e begins = update_priority_at code n site numbered place name tree before after e begins
  basic_at code n site numbered (Wait place tree) labels exits m before after e begins = pause_at code n site numbered delay.For tree place before after e begins
  basic_at code n site numbered (WaitUntil place tree) labels exits m before after e begins = pause_at code n site numbered delay.Until tree place before after e begins
  basic_at code n site numbered (WaitForDependent place) labels exits m before after e begins = one_placed code before after (instr.Wait delay.Dependents) (ok_is _ after e) begins
  basic_at code n site numbered (WaitFor place tree) labels exits m before after e begins = event_pause_at code n site numbered (stated_at_mark (here_at site) m) place before after e begins
  basic_at code n site numbered (Update place body close) labels exits m before after e begins =
      weaker code before after (λ from to at. (at.2.0, at.2.1, at.1.0, subst (λ b. StatementsAt code site (of_block NoReturn at.2.0) (suc m) body b at.2.1) (sym at.1.1) at.2.2, at.2.3, at.2.4))
      (both_placed code (emit before place (option_map (λ groups. instr.Open groups ∷ []) (below 65536 (update_groups (here_at site) m)))) _ before after e
      (λ begun there starts. opens_at code n site numbered (update_groups (here_at site) m) place before begun there starts) (λ begun there. updated_at code n site numbered body m begun after place (block_at code n site numbered body) there begins))
  basic_at code n site numbered (SendError place at group its number) labels exits m before after e begins = raise_at code n site numbered group number place before after e begins
  basic_at code n site numbered (OnErrorResponse place s r one) labels exits m before after e begins = response_at code n site numbered s r one place before after e begins
  basic_at code n site numbered (OffError place s) labels exits m before after e begins = off_at code n site numbered s place before after e begins
  basic_at code n site numbered (OnErrorStatement place s handler) labels exits m before after e begins = absurd (cc)

  direct_at : (code : Code) (n : Numbering) (site : Site) (numbered : IsNumbered code n) (tree : Statement) → DirectStands code n site numbered tree
  direct_at code n site numbered (Labelled labels (OnErrorStatement place s handler)) spot exits m before after e is begins =
      handler_at code n site numbered labels place s handler (statement_at code n site numbered handler) spot exits m before after e is begins
  direct_at code n site numbered (Labelled labels basic) spot exits m before after e is begins =
      basic_at code n site numbered basic labels (with_handlers spot exits) m before after (sym (basic_same n spot basic site labels exits m before) ∙ e) begins

  block_at : (code : Code) (n : Numbering) (site : Site) (numbered : IsNumbered code n) (list : Statements) → BlockStands code n site numbered list
  block_at code n site numbered NoStatements spot exits m before after e are begins = none_placed code before after (ok_is before after e) begins
  block_at code n site numbered (MoreStatements first others) spot exits m before after e are begins =
      both_there code (direct_code n site before exits m first) (λ middle. block_code n site middle exits (after_statement m first) others) before after e
      (λ middle there begun. direct_at code n site numbered first spot exits m before middle there are.0 begun)
      (λ middle there rest. block_at code n site numbered others spot exits (after_statement m first) middle after rest
      (subst (λ from. HandlersAt n site spot from (after_statement m first) others) (sym (direct_longer n site first exits m before middle there)) are.1) begins)

  -- what stands after ELSE, to which the condition leads at this address
  alternative_at : (code : Code) (n : Numbering) (site : Site) (numbered : IsNumbered code n) (alternative : Alternative) → ElseStands code n site numbered alternative
  alternative_at code n site numbered NoAlternative exits m other before after e is begins =
      let same = ap length (ok_is before after e) in
      let there = none_placed code before after (ok_is before after e) begins in
      record { at = (there.at, omega (arith, is, same)); begins = there.begins }
  alternative_at code n site numbered (Otherwise one) exits m other before after e is begins =
      let jump = suc (length before) + statement_size n site m one in
      let there = first_placed code before after (instr.Jump jump) (statement_at code n site numbered one exits m (before ++ (instr.Jump jump ∷ [])) after e begins) in
      let longer = later before after (instr.Jump jump) (statement_size n site m one) (statement_longer n site one exits m (before ++ (instr.Jump jump ∷ [])) after e) in
      let ends : jump ≡ length after = omega (arith, longer) in
      let begin : suc (length before) ≡ other = omega (arith, is) in
      record {
        at = (subst (λ to. Has code (length before) (instr.Jump to)) ends there.at.0, sym begin, subst (λ from. StatementAt code site exits m one from (length after)) begin there.at.1);
        begins = there.begins;
      }

  -- what DO CASE does where its number selects no statement
  uncased_at : (code : Code) (n : Numbering) (site : Site) (numbered : IsNumbered code n) (alternative : Alternative) → UncasedStands code n site numbered alternative
  uncased_at code n site numbered NoAlternative exits place m before after e begins = one_placed code before after (instr.Raise 1 6) (ok_is _ after e) begins
  uncased_at code n site numbered (Otherwise one) exits place m before after e begins = statement_at code n site numbered one exits m before after e begins

  cases_at : (code : Code) (n : Numbering) (site : Site) (numbered : IsNumbered code n) (group : Group) → SelectionStands code n site numbered group
  cases_at code n site numbered (Groups list close) exits place cell own target m before after is e begins = selected_at code n site numbered list exits place cell own target m 1 before after is e begins

  selected_at : (code : Code) (n : Numbering) (site : Site) (numbered : IsNumbered code n) (list : Statements) → CasesStand code n site numbered list
  selected_at code n site numbered NoStatements exits place cell own target m k before after is e begins = none_placed code before after (ok_is before after e) begins
  selected_at code n site numbered (MoreStatements first others) exits place cell own target m k before after is e begins =
      weaker code before after
      (λ from to at. (at.0, at.2.0, subst (λ far. CaseAt code own k from far at.0) (let far : at.0 + (statement_size n site m first + 1) ≡ suc at.2.0 = omega (arith, at.2.2) in far) at.1, at.2.1, at.2.3, at.2.4))
      (both_placed code {A = λ from to. CaseAt code own k from (to + (statement_size n site m first + 1)) to}
      {B = λ from to. (end : ℕ) × StatementAt code site exits m first from end × (end ≡ from + statement_size n site m first) × Has code end (instr.Jump target)
      × SelectedAt code site exits own (after_statement m first) (suc k) others (suc end) to target}
      (case_code before place cell k (statement_size n site m first)) _ before after e
      (λ tested there begun. case_at code cell own is k (statement_size n site m first) place before tested there begun)
      (λ tested there. selected_first code n site numbered first others exits place cell own target m k tested after is (statement_at code n site numbered first) (selected_at code n site numbered others) there begins))

  group_at : (code : Code) (n : Numbering) (site : Site) (numbered : IsNumbered code n) (group : Group) → GroupStands code n site numbered group
  group_at code n site numbered (Groups list close) exits m before after e begins = statements_at code n site numbered list exits m before after e begins

  statements_at : (code : Code) (n : Numbering) (site : Site) (numbered : IsNumbered code n) (list : Statements) → ListStands code n site numbered list
  statements_at code n site numbered NoStatements exits m before after e begins = none_placed code before after (ok_is before after e) begins
  statements_at code n site numbered (MoreStatements first others) exits m before after e begins =
      both_placed code (statement_code n site before exits m first) (λ middle. statements_code n site middle exits (after_statement m first) others) before after e
      (λ middle there begun. statement_at code n site numbered first exits m before middle there begun) (λ middle there. statements_at code n site numbered others exits (after_statement m first) middle after there begins)

-- the statements of a block's body
pub block_stands : (code : Code) (n : Numbering) (site : Site) (numbered : IsNumbered code n) (list : Statements) (exits : Exits) (m : ℕ) (before after : List Instr) → block_code n site before exits m list ≡ Ok after
    → Begins after code.image.code → Placed code before after (λ from to. (handler : ℕ → ℕ) × StatementsAt code site (with_handlers handler exits) m list from to × LeadsOut handler m list to)
block_stands code n site numbered list exits m before after e begins = led_out code n site numbered list (block_at code n site numbered list) exits m before after e begins
