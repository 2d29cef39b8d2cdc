-- The code of statements, behind the code so far.
use Rattle.std.specs.Prelude.{ℕ, suc, ◌+◌, false, List, [], ◌∷◌, ◌++◌, length, Option, Some, None, Ok, Err}
use Rattle.std.specs.Option.{option_map}
use Rattle.hal_base.specs.declared.refusal.Place.{Place}
use Rattle.hal_grammar.specs.Leaves.{Naming}
use Rattle.hal_grammar.specs.Expressions.{Expression, Expressions, NoExpressions, MoreExpressions, Reference}
use Rattle.hal_grammar.specs.Statements.{Guard, While, Until, Span, Statement, Labelled, Basic, Null, Assignment, If, Do, DoCase, DoLoop, DoFor, Exit, Repeat, Return, Call, Read, Write, Cancel, Terminate, Wait, WaitUntil, WaitForDependent, WaitFor, Event, Scheduled, UpdatePriority, Update, OnErrorStatement, OnErrorResponse, OffError, SendError, Alternative, NoAlternative, Otherwise, Group, Groups, Statements, NoStatements, MoreStatements}
use Rattle.hal_meaning.specs.Marks.{after_statement, after_alternative}
use Rattle.hal_meaning.specs.RealTime.{stated_at_mark}
use Rattle.hal_meaning.specs.Sets.{body_at}
use Rattle.hal_meaning.specs.Statements.{label_name, update_groups}
use Rattle.hal_code.specs.declared.instr.Instr.{Instr}
use Rattle.hal_code.specs.declared.instr.Instr.TheVariants as instr
use Rattle.hal_code.specs.declared.operand.Delay.TheVariants as delay
use Rattle.hal_agreement.specs.PlacedStatements.{exit_of, again_of, opened, NoReturn, Exits, within_group}
use Rattle.hal_agreement.specs.Sites.{Site, here_at, group_site}
use Rattle.hal_gen_expr.specs.Emitting.{Emitted, onwards, emit}
use Rattle.hal_gen_expr.specs.Calling.{called_code}
use Rattle.hal_gen_expr.specs.ExpressionCode.{emit_one, expression_code}
use Rattle.hal_gen_expr.specs.Numbering.{Numbering, below}
use Rattle.hal_storage.specs.referents.Referents.{Referent, BlockOf}
use Rattle.hal_gen_expr.specs.Referents.{referent}
use Rattle.hal_gen.specs.ChannelNumbers.{channel_of}
use Rattle.hal_gen.specs.Leaves.{kind_of_receiver, return_of, result_of, event_change_of, event_pause_of, named_or_own_of, response_code, handler_code, off_of, raise_of}
use Rattle.hal_gen.specs.KeptCode.{cell_of, keeping, case_code, cells_of}
use Rattle.hal_gen.specs.Receiving.{receiver_code, receiver_size}
use Rattle.hal_gen.specs.SpanCode.{begin_code, again_code}
use Rattle.hal_gen.specs.Timing.{pause_code, schedule_code, update_priority_code}
use Rattle.hal_gen.specs.declared.kept.Cells.{Cells}
use Rattle.hal_gen.specs.BlockExits.{of_body}
use Rattle.hal_gen.specs.Sizes.{spanned_size, statement_size, group_size, jump_size, basic_size}

-- receivers get the value on the stack from left to right, each but the last one from a copy
abbrev pub receivers_code : Numbering → Site → List Instr → Place → List Reference → Emitted
receivers_code n site before place [] = Err place
receivers_code n site before place (receiver ∷ []) = receiver_code n site before receiver
receivers_code n site before place (receiver ∷ next ∷ others) =
    onwards (receiver_code n site (before ++ (instr.Dup ∷ [])) receiver) (λ middle. receivers_code n site middle place (next ∷ others))

-- items, each added to the line
abbrev pub items_code : Numbering → Site → List Instr → Expressions → Emitted
items_code n site before NoExpressions = Ok before
items_code n site before (MoreExpressions first others) = onwards (expression_code n site before first) (λ middle. items_code n site (middle ++ (instr.Item ∷ [])) others)

-- something is done with a number
abbrev pub with_number : Place → Option ℕ → (ℕ → Emitted) → Emitted
with_number place None go = Err place
with_number place (Some number) go = go number

-- receivers of READ: for each INPUT of its kind, behind which control goes to the next one where there is no datum, and its store
abbrev pub reads_code : Numbering → Site → List Instr → ℕ → List Reference → Emitted
reads_code n site before channel [] = Ok before
reads_code n site before channel (receiver ∷ receivers) =
    onwards (receiver_code n site (before ++ (instr.Input channel (kind_of_receiver site receiver) (length before + (1 + receiver_size n site receiver)) ∷ [])) receiver)
    (λ middle. reads_code n site middle channel receivers)

-- a condition, behind which control goes on where it holds, and else to a target
abbrev pub condition_code : Numbering → Site → List Instr → Place → Expression → ℕ → Emitted
condition_code n site before place condition target = onwards (expression_code n site before condition) (λ middle. emit_one middle place (instr.JumpNot target))

-- the first test of a loop, from which control goes to its end; each later one, from which control goes to its TURN or to its end
abbrev pub first_test_code : Numbering → Site → List Instr → Guard → ℕ → Emitted
first_test_code n site before (While place condition) exit = condition_code n site before place condition exit
first_test_code n site before (Until place condition) exit = Ok before

abbrev pub test_code : Numbering → Site → List Instr → Guard → ℕ → ℕ → Emitted
test_code n site before (While place condition) turn exit =
    onwards (expression_code n site before condition) (λ middle. emit middle place (Some (instr.JumpNot exit ∷ instr.Jump turn ∷ [])))
test_code n site before (Until place condition) turn exit = condition_code n site before place condition turn

-- the test of a DO FOR before its first turn, and before the others
abbrev pub first_span_code : Numbering → Site → List Instr → Option Guard → ℕ → Emitted
first_span_code n site before None exit = Ok before
first_span_code n site before (Some g) exit = first_test_code n site before g exit

abbrev pub later_span_code : Numbering → Site → List Instr → Place → Option Guard → ℕ → ℕ → Emitted
later_span_code n site before place None turn exit = emit_one before place (instr.Jump turn)
later_span_code n site before place (Some g) turn exit = test_code n site before g turn exit

-- what stands before its first turn, and behind each
abbrev pub span_start_code : Numbering → Site → List Instr → Place → List ℕ → Cells → ℕ → Span → Option Guard → Emitted
span_start_code n site before place name c exit span g = onwards (begin_code n site before place name c exit span) (λ begun. first_span_code n site begun g exit)

abbrev pub span_end_code : Numbering → Site → List Instr → Place → List ℕ → Cells → ℕ → Span → Option Guard → ℕ → Emitted
span_end_code n site before place name c exit span g turn = onwards (again_code n site before place name c exit span) (λ counted. later_span_code n site counted place g turn exit)

-- all of it, where its group has so many instructions and this code
abbrev pub spanned_code : Numbering → Site → List Instr → Exits → List Naming → Place → List ℕ → Cells → Span → Option Guard → ℕ → (List Instr → Exits → Emitted) → Emitted
spanned_code n site before exits labels place name c span g size group =
    onwards (span_start_code n site before place name c (length before + spanned_size n site span g size) span g)
    (λ tested. onwards (group (tested ++ (instr.Turn (length before + spanned_size n site span g size) ∷ []))
    (within_group (opened labels (length before + spanned_size n site span g size) (Some (suc (length tested) + size))) exits))
    (λ middle. span_end_code n site middle place name c (length before + spanned_size n site span g size) span g (length tested)))

-- something is done with the own places of a DO FOR
abbrev pub with_cells : Place → Option Cells → (Cells → Emitted) → Emitted
with_cells place None go = Err place
with_cells place (Some c) go = go c

-- a jump
abbrev pub jump_to : Option ℕ → Option (List Instr)
jump_to target = option_map (λ at. instr.Jump at ∷ []) target

-- CALL of a PROCEDURE
abbrev pub procedure_code : Numbering → Site → List Instr → Place → Expressions → List Reference → Referent → Emitted
procedure_code n site before place arguments receivers (BlockOf unit) = called_code n site before place arguments receivers unit
procedure_code n site before place arguments receivers other = Err place

abbrev pub returning_code : Numbering → Site → List Instr → Exits → Place → Option Expression → Emitted
returning_code n site before exits place None = emit before place (return_of exits.leaving)
returning_code n site before exits place (Some tree) =
    onwards (expression_code n site before tree) (λ middle. emit middle place (result_of exits.leaving (body_at site.set site.unit)))

abbrev mutual
  pub statement_code : Numbering → Site → List Instr → Exits → ℕ → Statement → Emitted
  statement_code n site before exits m (Labelled labels basic) = basic_code n site before exits m labels basic

  -- a statement with these labels, before which the next mark has this number
  pub basic_code : Numbering → Site → List Instr → Exits → ℕ → List Naming → Basic → Emitted
  basic_code n site before exits m labels (Null place) = Ok before
  basic_code n site before exits m labels (Assignment place receivers tree) = onwards (expression_code n site before tree) (λ middle. receivers_code n site middle place receivers)
  basic_code n site before exits m labels (If place condition consequence alternative) =
      onwards (expression_code n site before condition)
      (λ tested. onwards (statement_code n site (tested ++ (instr.JumpNot (suc (length tested) + (statement_size n site m consequence + jump_size alternative)) ∷ [])) exits m consequence)
      (λ middle. alternative_code n site middle exits (after_statement m consequence) alternative))
  basic_code n site before exits m labels (Do place group) = group_code n site before (within_group (opened labels (length before + group_size n site (suc m) group) None) exits) (suc m) group
  basic_code n site before exits m labels (DoCase place number alternative group) =
      with_number place (cell_of n site m 0)
      (λ cell. onwards (expression_code n site before number)
      (λ valued. onwards (cases_code n site (keeping valued cell) (within_group (opened labels (length before + basic_size n site m (DoCase place number alternative group)) None) exits) place cell
      (length before + basic_size n site m (DoCase place number alternative group)) (after_alternative (suc m) alternative) group)
      (λ middle. uncased_code n site middle (within_group (opened labels (length before + basic_size n site m (DoCase place number alternative group)) None) exits) place (suc m) alternative)))
  basic_code n site before exits m labels (DoLoop place g group) =
      onwards (first_test_code n site before g (length before + basic_size n site m (DoLoop place g group)))
      (λ tested. onwards (group_code n site (tested ++ (instr.Turn (length before + basic_size n site m (DoLoop place g group)) ∷ []))
      (within_group (opened labels (length before + basic_size n site m (DoLoop place g group)) (Some (suc (length tested) + group_size n site (suc m) group))) exits) (suc m) group)
      (λ middle. test_code n site middle g (length tested) (length before + basic_size n site m (DoLoop place g group))))
  basic_code n site before exits m labels (DoFor place temporary variable span g group) =
      with_cells place (cells_of n site temporary m)
      (λ c. spanned_code n (group_site site temporary m) before exits labels place variable.name c span g (group_size n (group_site site temporary m) (suc m) group)
      (λ start inner. group_code n (group_site site temporary m) start inner (suc m) group))
  basic_code n site before exits m labels (Exit place label) = emit before place (jump_to (exit_of exits.groups (label_name label)))
  basic_code n site before exits m labels (Repeat place label) = emit before place (jump_to (again_of exits.groups (label_name label)))
  basic_code n site before exits m labels (Return place value) = returning_code n site before exits place value
  basic_code n site before exits m labels (Call place name arguments receivers) = procedure_code n site before place arguments receivers (referent site name.name)
  basic_code n site before exits m labels (Read place channel receivers) = with_number place (channel_of site channel) (λ number. reads_code n site before number receivers)
  basic_code n site before exits m labels (Write place channel items) =
      with_number place (channel_of site channel) (λ number. onwards (items_code n site before items) (λ middle. emit_one middle place (instr.Print number)))
  basic_code n site before exits m labels (Event e) = emit before e.place (event_change_of site e)
  basic_code n site before exits m labels (Cancel place names) = emit before place (named_or_own_of site instr.Cancel names)
  basic_code n site before exits m labels (Terminate place names) = emit before place (named_or_own_of site instr.Terminate names)
  basic_code n site before exits m labels (Scheduled place s) = schedule_code n site before place (stated_at_mark (here_at site) m) s
  basic_code n site before exits m labels (UpdatePriority place name tree) = update_priority_code n site before place name tree
  basic_code n site before exits m labels (Wait place tree) = pause_code n site before place delay.For tree
  basic_code n site before exits m labels (WaitUntil place tree) = pause_code n site before place delay.Until tree
  basic_code n site before exits m labels (WaitForDependent place) = emit_one before place (instr.Wait delay.Dependents)
  basic_code n site before exits m labels (WaitFor place tree) = emit before place (event_pause_of site (stated_at_mark (here_at site) m))
  basic_code n site before exits m labels (Update place body close) =
      onwards (emit before place (option_map (λ groups. instr.Open groups ∷ []) (below 65536 (update_groups (here_at site) m))))
      (λ begun. onwards (block_code n site begun (of_body NoReturn) (suc m) body) (λ middle. emit_one middle place instr.Close))
  basic_code n site before exits m labels (SendError place group_at group number_at number) = emit before place (raise_of group number)
  basic_code n site before exits m labels (OnErrorResponse place s r e) = emit before place (response_code site s r e)
  basic_code n site before exits m labels (OffError place s) = emit before place (off_of s)
  basic_code n site before exits m labels (OnErrorStatement place s handler) = Err place

  -- a statement that stands directly in a block's body: ON ERROR with a statement has code there alone
  pub direct_code : Numbering → Site → List Instr → Exits → ℕ → Statement → Emitted
  direct_code n site before exits m (Labelled labels (OnErrorStatement place s handler)) =
      onwards (emit before place (handler_code s (length before) (statement_size n site (suc m) handler))) (λ begun. statement_code n site begun exits (suc m) handler)
  direct_code n site before exits m (Labelled labels basic) = basic_code n site before exits m labels basic

  -- the statements of a block's body, one after another
  pub block_code : Numbering → Site → List Instr → Exits → ℕ → Statements → Emitted
  block_code n site before exits m NoStatements = Ok before
  block_code n site before exits m (MoreStatements first others) =
      onwards (direct_code n site before exits m first) (λ middle. block_code n site middle exits (after_statement m first) others)

  -- what stands after ELSE, with a jump over it behind the consequence
  pub alternative_code : Numbering → Site → List Instr → Exits → ℕ → Alternative → Emitted
  alternative_code n site before exits m NoAlternative = Ok before
  alternative_code n site before exits m (Otherwise one) =
      statement_code n site (before ++ (instr.Jump (suc (length before) + statement_size n site m one) ∷ [])) exits m one

  -- what DO CASE at this place does where its number selects no statement
  pub uncased_code : Numbering → Site → List Instr → Exits → Place → ℕ → Alternative → Emitted
  uncased_code n site before exits place m NoAlternative = emit_one before place (instr.Raise 1 6)
  uncased_code n site before exits place m (Otherwise one) = statement_code n site before exits m one

  -- the statements of DO CASE, whose number this cell holds, and from which control goes on at a target
  pub cases_code : Numbering → Site → List Instr → Exits → Place → ℕ → ℕ → ℕ → Group → Emitted
  cases_code n site before exits place cell target m (Groups list close) = selected_code n site before exits place cell target m 1 list

  -- statements of which the first one has this number
  pub selected_code : Numbering → Site → List Instr → Exits → Place → ℕ → ℕ → ℕ → ℕ → Statements → Emitted
  selected_code n site before exits place cell target m k NoStatements = Ok before
  selected_code n site before exits place cell target m k (MoreStatements first others) =
      onwards (case_code before place cell k (statement_size n site m first))
      (λ tested. onwards (statement_code n site tested exits m first)
      (λ middle. selected_code n site (middle ++ (instr.Jump target ∷ [])) exits place cell target (after_statement m first) (suc k) others))

  pub group_code : Numbering → Site → List Instr → Exits → ℕ → Group → Emitted
  group_code n site before exits m (Groups list close) = statements_code n site before exits m list

  -- statements one after another
  pub statements_code : Numbering → Site → List Instr → Exits → ℕ → Statements → Emitted
  statements_code n site before exits m NoStatements = Ok before
  statements_code n site before exits m (MoreStatements first others) =
      onwards (statement_code n site before exits m first) (λ middle. statements_code n site middle exits (after_statement m first) others)
