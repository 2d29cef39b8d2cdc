-- The code of a statement has as many instructions as its size says.
use Rattle.std.specs.Prelude.{◌≡◌, ℕ, suc, ◌+◌, Bool, true, false, List, [], ◌∷◌, ◌++◌, length, pos, Option, Some, None, Ok, Err}
use Rattle.std.specs.Option.{option_map, option_and_then}
use Rattle.std.proofs.Common.{refl, ap, ◌∙◌, subst, append-nil, arith}
use Rattle.hal_base.specs.declared.refusal.Place.{Place}
use Rattle.hal_grammar.specs.Leaves.{Naming}
use Rattle.hal_grammar.specs.Expressions.{Expression, Decimal, Expressions, NoExpressions, MoreExpressions, Reference, Refers, Subscript, Unsubscripted, ByName, ByInteger, ByParts, Subscripts, NoSubscripts, MoreSubscripts}
use Rattle.hal_grammar.specs.Statements.{Guard, While, Until, Span, Stepped, Listed, Start, StartAt, StartIn, StartOn, Cycle, Cyclic, CyclicEvery, CyclicAfter, Schedule, Statement, Labelled, Basic, Null, Assignment, If, Do, DoCase, DoLoop, DoFor, Exit, Repeat, Return, Call, Read, Write, Cancel, Terminate, Wait, WaitUntil, WaitForDependent, WaitFor, Event, Scheduled, UpdatePriority, Update, OnErrorStatement, OnErrorResponse, OffError, SendError, Alternative, NoAlternative, Otherwise, Group, Groups, Statements, NoStatements, MoreStatements}
use Rattle.hal_scope.specs.Uses.{holds_event}
use Rattle.hal_constants.specs.Constants.{is_none}
use Rattle.hal_meaning.specs.Bodies.{Body}
use Rattle.hal_meaning.specs.Events.{event_named}
use Rattle.hal_meaning.specs.Marks.{after_statement, after_alternative}
use Rattle.hal_meaning.specs.RealTime.{stated_at_mark}
use Rattle.hal_meaning.specs.Sets.{body_at}
use Rattle.hal_meaning.specs.Statements.{label_name, update_groups, components_in}
use Rattle.hal_meaning.specs.Variables.{is_arrayed}
use Rattle.hal_operations.specs.declared.operation.Op1.TheVariants as op1
use Rattle.hal_code.specs.declared.choice.Choice.TheVariants as choice
use Rattle.hal_code.specs.declared.instr.Instr.{Instr}
use Rattle.hal_code.specs.declared.instr.Instr.TheVariants as instr
use Rattle.hal_code.specs.declared.operand.Delay as operand-delay
use Rattle.hal_code.specs.declared.operand.Delay.TheVariants as delay
use Rattle.hal_code.specs.declared.operand.Places.{Places}
use Rattle.hal_code.specs.declared.operand.Places.TheVariants as places
use Rattle.hal_code.specs.declared.operand.Time as operand-time
use Rattle.hal_agreement.specs.PlacedExpressions.{places_of}
use Rattle.hal_agreement.specs.PlacedStatements.{patches, ToFinish, ByReturn, ByResult, NoReturn, Leaving, Exits, exit_of, again_of, opened, within_group}
use Rattle.hal_agreement.specs.Sites.{Site, here_at, group_site}
use Rattle.hal_gen_expr.specs.Emitting.{Emitted, onwards, emit}
use Rattle.hal_gen_expr.specs.ExpressionCode.{emit_one, integer_instr, name_code, integer_code, chosen_code, part_code, expression_code}
use Rattle.hal_gen_expr.specs.Leaves.{value_of}
use Rattle.hal_gen_expr.specs.declared.aims.Aim.TheVariants as aims
use Rattle.hal_gen_expr.specs.Led.{Led, led_by, sizes_led}
use Rattle.hal_gen_expr.specs.Numbering.{Numbering, below}
use Rattle.hal_storage.specs.referents.Referents.{Referent, DataOf, ConstantOf, EventOf, BlockOf, BuiltinOf, Unmeant}
use Rattle.hal_gen_expr.specs.Referents.{referent}
use Rattle.hal_gen_expr.proofs.Appending.{behind, emit_behind, onwards_behind, if_behind, grows_by, chosen_behind, part_behind, expression_grows, call_grows}
use Rattle.hal_gen.specs.BlockExits.{of_body}
use Rattle.hal_gen.specs.ChannelNumbers.{channel_of}
use Rattle.hal_gen.specs.Leaves.{kind_of_receiver, return_of, as_result, result_of, event_change_of, event_pause_of, first_event, last_event, named_process, and_asked, each_of, named_or_own_of, numbers_of, side_numbers, response_entry, response_code, handler_entry, handler_code, off_of, raise_of}
use Rattle.hal_gen.specs.Receiving.{patch_code, patched_code, stored_code, received_code, addressed_code, receiver_code, receiver_size}
use Rattle.hal_gen.specs.Timing.{time_operand, time_code, time_size, pause_code, start_code, start_size, start_operand, priority_code, priority_size, round_code, round_size, until_code, until_size, limit_code, limit_size, limit_operand, schedule_by, schedule_of, schedule_code, schedule_size, named_or_self, update_priority_code}
use Rattle.hal_gen.specs.Sizes.{spanned_size, return_size, first_span_size, later_span_size, value_size, next_values_size, step_size, begin_size, again_size, uncased_size, cases_size, selected_size, expression_size, items_size, receivers_size, reads_size, first_test_size, test_size, jump_size, names_size, call_size, statement_size, basic_size, alternative_size, group_size, statements_size}
use Rattle.hal_gen.specs.StatementCode.{first_span_code, later_span_code, spanned_code, with_cells, receivers_code, items_code, with_number, reads_code, condition_code, first_test_code, test_code, jump_to, procedure_code, returning_code, statement_code, basic_code, direct_code, block_code, alternative_code, uncased_code, cases_code, selected_code, group_code, statements_code}
use Rattle.hal_gen.specs.KeptCode.{cell_of, keeping, case_tests, case_code, cells_of, holding, negative_tests, lesser_tests, bounds_keeping, bounding, nexting, counting}
use Rattle.hal_gen.specs.SpanCode.{variable_of, store_code, fetch_code, step_code, begun_code, counted_code, counted_in, value_code, next_values_code, begin_code, again_code}
use Rattle.hal_gen.specs.declared.kept.Cells.{Cells}

length_both : (before is : List Instr) → length (before ++ is) ≡ length before + length is
length_both [] is = omega arith
length_both (i ∷ before) is = omega (arith, length_both before is)

-- code that is so much longer
abbrev pub Longer : List Instr → List Instr → ℕ → Type 0
Longer before after size = length after ≡ length before + size

-- an option gives so many instructions wherever it gives any
abbrev pub Gives : Option (List Instr) → ℕ → Type 0
Gives o size = (is : List Instr) → o ≡ Some is → length is ≡ size

pub put : (before after is : List Instr) (size : ℕ) → onwards (Ok (before ++ is)) Ok ≡ Ok after → length is ≡ size → Longer before after size
put before after is size e n =
    let same : before ++ is ≡ after = cc in
    let sum = length_both before is in
    let there = ap length same in
    omega (arith, sum, there, n)

pub emitted_longer : (before after : List Instr) (place : Place) (o : Option (List Instr)) (size : ℕ) → emit before place o ≡ Ok after → Gives o size → Longer before after size
emitted_longer before after place None size e n = absurd (cc)
emitted_longer before after place (Some is) size e n = put before after is size e (n is refl)

pub both_longer : (r : Emitted) (next : List Instr → Emitted) (before after : List Instr) (a b : ℕ) → onwards r next ≡ Ok after → ((middle : List Instr) → r ≡ Ok middle → Longer before middle a)
    → ((middle : List Instr) → next middle ≡ Ok after → Longer middle after b) → Longer before after (a + b)
both_longer (Ok middle) next before after a b e first second = let one = first middle refl in let two = second middle e in omega (arith, one, two)
both_longer (Err place) next before after a b e first second = absurd (cc)

-- behind one more instruction
pub later : (before after : List Instr) (i : Instr) (size : ℕ) → Longer (before ++ (i ∷ [])) after size → Longer before after (1 + size)
later before after i size n = let sum = length_both before (i ∷ []) in omega (arith, sum, n)

pub map_one : {X : Type 0} (f : X → List Instr) (size : ℕ) (o : Option X) → ((x : X) → length (f x) ≡ size) → Gives (option_map f o) size
map_one f size None each is e = absurd (cc)
map_one f size (Some x) each is e = subst (λ l. length l ≡ size) (let same : f x ≡ is = cc in same) (each x)

two_mapped : {X Y : Type 0} (f : X → Y → List Instr) (size : ℕ) (a : Option X) (b : Option Y) → ((x : X) (y : Y) → length (f x y) ≡ size) → Gives (option_and_then (λ x. option_map (f x) b) a) size
two_mapped f size None b each is e = absurd (cc)
two_mapped f size (Some x) b each is e = map_one (f x) size b (each x) is e

-- what keeps something in own places, and compares it
pub keeping_longer : (before after : List Instr) (cell : ℕ) → keeping before cell ≡ after → Longer before after 2
keeping_longer before after cell e = put before after (instr.Cell cell ∷ instr.Keep ∷ []) 2 (ap Ok e) refl

pub case_longer : (place : Place) (cell number size : ℕ) (before after : List Instr) → case_code before place cell number size ≡ Ok after → Longer before after 5
case_longer place cell number size before after e =
    emitted_longer before after place (option_map (case_tests cell (length before + (size + 6))) (below 2147483648 number)) 5 e (map_one (case_tests cell (length before + (size + 6))) 5 (below 2147483648 number) (λ k. refl))

-- a receiver is as long as alone
module _ (n : Numbering) (site : Site) (front : List Instr) (place : Place) where
  patch_behind : (chosen : Places) (before : List Instr) → patch_code (front ++ before) place chosen ≡ behind front (patch_code before place chosen)
  patch_behind chosen before =
      onwards_behind front (emit_one before place (patches chosen)) _ (λ middle. emit_one middle place instr.Keep) (λ middle. emit_one middle place instr.Keep) (emit_behind front before place (Some (patches chosen ∷ [])))
      (λ code. emit_behind front code place (Some (instr.Keep ∷ [])))

  patched_behind : (chosen : Places) (numbers : List Instr → Emitted) (before : List Instr) → ((code : List Instr) → numbers (front ++ code) ≡ behind front (numbers code))
      → patched_code (front ++ before) place chosen numbers ≡ behind front (patched_code before place chosen numbers)
  patched_behind chosen numbers before each =
      onwards_behind front (emit_one before place instr.Peek) _ (λ middle. onwards (numbers middle) (λ late. patch_code late place chosen)) (λ middle. onwards (numbers middle) (λ late. patch_code late place chosen))
      (emit_behind front before place (Some (instr.Peek ∷ [])))
      (λ code. onwards_behind front (numbers code) _ (λ late. patch_code late place chosen) (λ late. patch_code late place chosen) (each code) (λ late. patch_behind chosen late))

  stored_behind : (list : Subscripts) (before : List Instr) → stored_code n site (front ++ before) place list ≡ behind front (stored_code n site before place list)
  stored_behind NoSubscripts before = emit_behind front before place (Some (instr.Keep ∷ []))
  stored_behind (MoreSubscripts first others) before =
      if_behind (is_none others) front (patched_code before place (places_of first) (λ middle. part_code n site middle place first)) (patched_code (front ++ before) place (places_of first) (λ middle. part_code n site middle place first)) place
      (patched_behind (places_of first) (λ middle. part_code n site middle place first) before (λ code. part_behind n site front first place code))

  received_behind : (subscript : Subscript) (arrayed : Bool) (before : List Instr) → received_code n site (front ++ before) place arrayed subscript ≡ behind front (received_code n site before place arrayed subscript)
  received_behind Unsubscripted true before = stored_behind NoSubscripts before
  received_behind Unsubscripted false before = stored_behind NoSubscripts before
  received_behind (ByName there name) true before = stored_behind NoSubscripts before
  received_behind (ByName there name) false before =
      patched_behind places.One (λ middle. name_code n site middle name) before (λ code. emit_behind front code name.place (value_of n site [] (referent site name.name)))
  received_behind (ByInteger there mark number) true before = stored_behind NoSubscripts before
  received_behind (ByInteger there mark number) false before =
      patched_behind places.One (λ middle. integer_code middle place number) before (λ code. emit_behind front code place (option_map (λ one. one ∷ []) (integer_instr number)))
  received_behind (ByParts there copies arrays components) true before = stored_behind (components_in true (ByParts there copies arrays components)) before
  received_behind (ByParts there copies arrays components) false before = stored_behind components before

  addressed_behind : (subscript : Subscript) (o : Option Led) (before : List Instr) → addressed_code n site (front ++ before) place subscript o ≡ behind front (addressed_code n site before place subscript o)
  addressed_behind subscript None before = refl
  addressed_behind subscript (Some l) before =
      onwards_behind front (chosen_code n site before place aims.Cell subscript l) _ (λ middle. received_code n site middle place (is_arrayed (sizes_led l)) subscript)
      (λ middle. received_code n site middle place (is_arrayed (sizes_led l)) subscript) (chosen_behind n site front subscript aims.Cell l place before) (λ code. received_behind subscript (is_arrayed (sizes_led l)) code)

receiver_behind : (n : Numbering) (site : Site) (front : List Instr) (receiver : Reference) (before : List Instr) → receiver_code n site (front ++ before) receiver ≡ behind front (receiver_code n site before receiver)
receiver_behind n site front (Refers place name path subscript) before = addressed_behind n site front place subscript (led_by path (referent site name)) before

pub receiver_longer : (n : Numbering) (site : Site) (before after : List Instr) (receiver : Reference) → receiver_code n site before receiver ≡ Ok after → Longer before after (receiver_size n site receiver)
receiver_longer n site before after receiver e =
    grows_by (receiver_code n site [] receiver) (receiver_code n site (before ++ []) receiver) before after (receiver_behind n site before receiver []) (ap (λ l. receiver_code n site l receiver) (append-nil before) ∙ e)

receivers_longer : (n : Numbering) (site : Site) (place : Place) (receivers : List Reference) (before after : List Instr) → receivers_code n site before place receivers ≡ Ok after
    → Longer before after (receivers_size n site receivers)
receivers_longer n site place [] before after e = absurd (cc)
receivers_longer n site place (receiver ∷ []) before after e = receiver_longer n site before after receiver e
receivers_longer n site place (receiver ∷ next ∷ others) before after e =
    let rest = later before after instr.Dup (receiver_size n site receiver + receivers_size n site (next ∷ others))
    (both_longer (receiver_code n site (before ++ (instr.Dup ∷ [])) receiver) (λ middle. receivers_code n site middle place (next ∷ others)) (before ++ (instr.Dup ∷ [])) after (receiver_size n site receiver)
    (receivers_size n site (next ∷ others)) e
    (λ middle there. receiver_longer n site (before ++ (instr.Dup ∷ [])) middle receiver there) (λ middle there. receivers_longer n site place (next ∷ others) middle after there))
    in omega (arith, rest)

expression_longer : (n : Numbering) (site : Site) (tree : Expression) (before after : List Instr) → expression_code n site before tree ≡ Ok after → Longer before after (expression_size n site tree)
expression_longer n site tree before after e = expression_grows n site tree before after e

items_longer : (n : Numbering) (site : Site) (items : Expressions) (before after : List Instr) → items_code n site before items ≡ Ok after → Longer before after (items_size n site items)
items_longer n site NoExpressions before after e = let same : before ≡ after = cc in let there = ap length same in omega (arith, there)
items_longer n site (MoreExpressions first others) before after e =
    let rest = both_longer (expression_code n site before first) (λ middle. items_code n site (middle ++ (instr.Item ∷ [])) others) before after (expression_size n site first) (1 + items_size n site others) e
    (λ middle there. expression_longer n site first before middle there) (λ middle there. later middle after instr.Item (items_size n site others) (items_longer n site others (middle ++ (instr.Item ∷ [])) after there))
    in omega (arith, rest)

length_after : (before is : List Instr) (size : ℕ) → length is ≡ size → length (before ++ is) ≡ length before + size
length_after before is size n = let sum = length_both before is in omega (arith, sum, n)

-- what keeps the bounds of a DO FOR, tests them, and counts
pub bounds_keeping_longer : (before : List Instr) (c : Cells) → Longer before (bounds_keeping before c) 8
bounds_keeping_longer before c =
    let one = keeping_longer before (keeping before c.step) c.step refl in
    let two = keeping_longer (keeping before c.step) (keeping (keeping before c.step) c.last) c.last refl in
    let three = keeping_longer (keeping (keeping before c.step) c.last) (keeping (keeping (keeping before c.step) c.last) c.value) c.value refl in
    let four = length_after (keeping (keeping (keeping before c.step) c.last) c.value) (instr.Cell c.value ∷ instr.Fetch ∷ []) 2 refl in
    omega (arith, one, two, three, four)

pub bounding_longer : (before : List Instr) (c : Cells) (exit : ℕ) → Longer before (bounding before c exit) 19
bounding_longer before c exit =
    let one = before ++ negative_tests c.step (length before + 12) in
    let two = one ++ lesser_tests c.value c.last (length before + 19) in
    let three = two ++ (instr.Jump exit ∷ []) in
    let four = three ++ lesser_tests c.last c.value (length before + 19) in
    let a = length_after before (negative_tests c.step (length before + 12)) 5 refl in
    let b = length_after one (lesser_tests c.value c.last (length before + 19)) 6 refl in
    let d = length_after two (instr.Jump exit ∷ []) 1 refl in
    let f = length_after three (lesser_tests c.last c.value (length before + 19)) 6 refl in
    let g = length_after four (instr.Jump exit ∷ []) 1 refl in
    omega (arith, a, b, d, f, g)

pub counting_longer : (before : List Instr) (c : Cells) (exit : ℕ) → Longer before (counting before c exit) 15
counting_longer before c exit =
    let one = holding before c.step in
    let two = holding one c.last in
    let three = nexting two in
    let four = keeping three c.begins in
    let five = keeping four c.value in
    let a = length_after before (instr.Cell c.step ∷ instr.Fetch ∷ []) 2 refl in
    let b = length_after one (instr.Cell c.last ∷ instr.Fetch ∷ []) 2 refl in
    let d = length_after two (instr.Next ∷ instr.Op1 (choice.Known op1.Integer) ∷ []) 2 refl in
    let f = keeping_longer three four c.begins refl in
    let g = keeping_longer four five c.value refl in
    let k = length_after five (case_tests c.begins exit 1) 5 refl in
    omega (arith, a, b, d, f, g, k)

-- the values of a DO FOR
module _ (n : Numbering) (site : Site) where
  store_longer : (place : Place) (name : List ℕ) (before after : List Instr) → store_code n site before place name ≡ Ok after → Longer before after 2
  store_longer place name before after e = emitted_longer before after place _ 2 e (map_one (λ i. i ∷ instr.Keep ∷ []) 2 (variable_of n site (referent site name)) (λ i. refl))

  fetch_longer : (place : Place) (name : List ℕ) (before after : List Instr) → fetch_code n site before place name ≡ Ok after → Longer before after 2
  fetch_longer place name before after e = emitted_longer before after place _ 2 e (map_one (λ i. i ∷ instr.Fetch ∷ []) 2 (variable_of n site (referent site name)) (λ i. refl))

  step_longer : (place : Place) (step : Option Expression) (before after : List Instr) → step_code n site before place step ≡ Ok after → Longer before after (step_size n site step)
  step_longer place None before after e = put before after (instr.Int (pos 1) ∷ []) 1 e refl
  step_longer place (Some tree) before after e = expression_longer n site tree before after e

  begun_longer : (place : Place) (name : List ℕ) (c : Cells) (exit : ℕ) (first last : Expression) (step : Option Expression) (before after : List Instr) → begun_code n site before place name c exit first last step ≡ Ok after
      → Longer before after (expression_size n site first + (expression_size n site last + (step_size n site step + 29)))
  begun_longer place name c exit first last step before after e =
      both_longer (expression_code n site before first) _ before after (expression_size n site first) (expression_size n site last + (step_size n site step + 29)) e
      (λ one there. expression_longer n site first before one there)
      (λ one there. both_longer (expression_code n site one last) _ one after (expression_size n site last) (step_size n site step + 29) there
      (λ two got. expression_longer n site last one two got)
      (λ two got. both_longer (step_code n site two place step) _ two after (step_size n site step) 29 got
      (λ three is. step_longer place step two three is)
      (λ three is. let kept = bounds_keeping_longer three c in
      let rest = both_longer (store_code n site (bounds_keeping three c) place name) _ (bounds_keeping three c) after 2 19 is
      (λ stored one. store_longer place name (bounds_keeping three c) stored one)
      (λ stored one. subst (λ late. Longer stored late 19) (let same : bounding stored c exit ≡ after = cc in same) (bounding_longer stored c exit))
      in omega (arith, kept, rest))))

  counted_longer : (place : Place) (name : List ℕ) (c : Cells) (exit : ℕ) (before after : List Instr) → counted_code n site before place name c exit ≡ Ok after → Longer before after 21
  counted_longer place name c exit before after e =
      both_longer (fetch_code n site before place name) _ before after 2 19 e (λ fetched there. fetch_longer place name before fetched there)
      (λ fetched there. let counts = counting_longer fetched c exit in
      let held = length_after (counting fetched c exit) (instr.Cell c.value ∷ instr.Fetch ∷ []) 2 refl in
      let stored = store_longer place name (holding (counting fetched c exit) c.value) after there in omega (arith, counts, held, stored))

  pub value_longer : (place : Place) (name : List ℕ) (cell k : ℕ) (tree : Expression) (before after : List Instr) → value_code n site before place name cell k tree ≡ Ok after → Longer before after (value_size n site tree)
  value_longer place name cell k tree before after e =
      both_longer (expression_code n site before tree) _ before after (expression_size n site tree) 5 e (λ valued there. expression_longer n site tree before valued there)
      (λ valued there. both_longer (store_code n site valued place name) _ valued after 2 3 there (λ stored got. store_longer place name valued stored got)
      (λ stored got. emitted_longer stored after place _ 3 got (map_one (counted_in cell) 3 (below 2147483648 k) (λ number. refl))))

  pub next_values_longer : (place : Place) (name : List ℕ) (cell k exit test : ℕ) (values : Expressions) (before after : List Instr) → next_values_code n site before place name cell k exit test values ≡ Ok after
      → Longer before after (next_values_size n site values)
  next_values_longer place name cell k exit test NoExpressions before after e = put before after (instr.Jump exit ∷ []) 1 e refl
  next_values_longer place name cell k exit test (MoreExpressions tree others) before after e =
      let rest = both_longer (case_code before place cell k (value_size n site tree)) _ before after 5 (value_size n site tree + (1 + next_values_size n site others)) e
      (λ tested there. case_longer place cell k (value_size n site tree) before tested there)
      (λ tested there. both_longer (value_code n site tested place name cell (suc k) tree) _ tested after (value_size n site tree) (1 + next_values_size n site others) there
      (λ stored got. value_longer place name cell (suc k) tree tested stored got)
      (λ stored got. later stored after (instr.Jump test) (next_values_size n site others) (next_values_longer place name cell (suc k) exit test others (stored ++ (instr.Jump test ∷ [])) after got)))
      in omega (arith, rest)

  pub begin_longer : (place : Place) (name : List ℕ) (c : Cells) (exit : ℕ) (span : Span) (before after : List Instr) → begin_code n site before place name c exit span ≡ Ok after → Longer before after (begin_size n site span)
  begin_longer place name c exit (Stepped first last step) before after e = begun_longer place name c exit first last step before after e
  begin_longer place name c exit (Listed NoExpressions) before after e = absurd (cc)
  begin_longer place name c exit (Listed (MoreExpressions first others)) before after e = value_longer place name c.last 1 first before after e

  pub again_longer : (place : Place) (name : List ℕ) (c : Cells) (exit : ℕ) (span : Span) (before after : List Instr) → again_code n site before place name c exit span ≡ Ok after → Longer before after (again_size n site span)
  again_longer place name c exit (Stepped first last step) before after e = counted_longer place name c exit before after e
  again_longer place name c exit (Listed NoExpressions) before after e = absurd (cc)
  again_longer place name c exit (Listed (MoreExpressions first others)) before after e =
      next_values_longer place name c.last 1 exit (length before + next_values_size n site others) others before after e

number_longer : (before after : List Instr) (place : Place) (channel : Option ℕ) (go : ℕ → Emitted) (size : ℕ) → with_number place channel go ≡ Ok after
    → ((number : ℕ) → go number ≡ Ok after → Longer before after size) → Longer before after size
number_longer before after place None go size e each = absurd (cc)
number_longer before after place (Some number) go size e each = each number e

reads_longer : (n : Numbering) (site : Site) (channel : ℕ) (receivers : List Reference) (before after : List Instr) → reads_code n site before channel receivers ≡ Ok after
    → Longer before after (reads_size n site receivers)
reads_longer n site channel [] before after e = let same : before ≡ after = cc in let there = ap length same in omega (arith, there)
reads_longer n site channel (receiver ∷ receivers) before after e =
    let input = instr.Input channel (kind_of_receiver site receiver) (length before + (1 + receiver_size n site receiver)) in
    let rest = later before after input (receiver_size n site receiver + reads_size n site receivers)
    (both_longer (receiver_code n site (before ++ (input ∷ [])) receiver) (λ middle. reads_code n site middle channel receivers) (before ++ (input ∷ [])) after (receiver_size n site receiver) (reads_size n site receivers) e
    (λ middle there. receiver_longer n site (before ++ (input ∷ [])) middle receiver there) (λ middle there. reads_longer n site channel receivers middle after there))
    in omega (arith, rest)

condition_longer : (n : Numbering) (site : Site) (condition : Expression) (place : Place) (target : ℕ) (before after : List Instr) → condition_code n site before place condition target ≡ Ok after
    → Longer before after (expression_size n site condition + 1)
condition_longer n site condition place target before after e =
    both_longer (expression_code n site before condition) (λ middle. emit_one middle place (instr.JumpNot target)) before after (expression_size n site condition) 1 e
    (λ middle there. expression_longer n site condition before middle there) (λ middle there. put middle after (instr.JumpNot target ∷ []) 1 there refl)

pub first_test_longer : (n : Numbering) (site : Site) (g : Guard) (exit : ℕ) (before after : List Instr) → first_test_code n site before g exit ≡ Ok after → Longer before after (first_test_size n site g)
first_test_longer n site (While place condition) exit before after e = condition_longer n site condition place exit before after e
first_test_longer n site (Until place condition) exit before after e = let same : before ≡ after = cc in let there = ap length same in omega (arith, there)

pub test_longer : (n : Numbering) (site : Site) (g : Guard) (turn exit : ℕ) (before after : List Instr) → test_code n site before g turn exit ≡ Ok after → Longer before after (test_size n site g)
test_longer n site (While place condition) turn exit before after e =
    both_longer (expression_code n site before condition) (λ middle. emit middle place (Some (instr.JumpNot exit ∷ instr.Jump turn ∷ []))) before after (expression_size n site condition) 2 e
    (λ middle there. expression_longer n site condition before middle there) (λ middle there. put middle after (instr.JumpNot exit ∷ instr.Jump turn ∷ []) 2 there refl)
test_longer n site (Until place condition) turn exit before after e = condition_longer n site condition place turn before after e

return_gives : (l : Leaving) → Gives (return_of l) 1
return_gives (ToFinish at) is e = subst (λ l. length l ≡ 1) (let same : (instr.Jump at ∷ []) ≡ is = cc in same) refl
return_gives ByReturn is e = subst (λ l. length l ≡ 1) (let same : (instr.Return ∷ []) ≡ is = cc in same) refl
return_gives ByResult is e = absurd (cc)
return_gives NoReturn is e = absurd (cc)

result_gives : (l : Leaving) (body : Option Body) → Gives (result_of l body) (length (as_result body) + 1)
result_gives (ToFinish at) body is e = absurd (cc)
result_gives ByReturn body is e = absurd (cc)
result_gives ByResult body is e = subst (λ l. length l ≡ length (as_result body) + 1) (let same : as_result body ++ (instr.Return ∷ []) ≡ is = cc in same) (length_both (as_result body) (instr.Return ∷ []))
result_gives NoReturn body is e = absurd (cc)

returning_longer : (n : Numbering) (site : Site) (exits : Exits) (place : Place) (value : Option Expression) (before after : List Instr) → returning_code n site before exits place value ≡ Ok after
    → Longer before after (return_size n site value)
returning_longer n site exits place None before after e = emitted_longer before after place (return_of exits.leaving) 1 e (return_gives exits.leaving)
returning_longer n site exits place (Some tree) before after e =
    both_longer (expression_code n site before tree) (λ middle. emit middle place (result_of exits.leaving (body_at site.set site.unit))) before after (expression_size n site tree) (length (as_result (body_at site.set site.unit)) + 1) e
    (λ middle there. expression_longer n site tree before middle there)
    (λ middle there. emitted_longer middle after place (result_of exits.leaving (body_at site.set site.unit)) (length (as_result (body_at site.set site.unit)) + 1) there (result_gives exits.leaving (body_at site.set site.unit)))

event_pause_gives : (site : Site) (xs : List ℕ) → Gives (event_pause_of site xs) 1
event_pause_gives site xs = map_one (λ number. instr.Wait (delay.Event number) ∷ []) 1 (first_event site xs) (λ number. refl)

asked_gives : (asks : ℕ → Instr) (number : Option ℕ) (others : Option (List Instr)) (size : ℕ) → Gives others size → Gives (and_asked asks number others) (suc size)
asked_gives asks None others size each is e = absurd (cc)
asked_gives asks (Some p) None size each is e = absurd (cc)
asked_gives asks (Some p) (Some rest) size each is e = subst (λ l. length l ≡ suc size) (let same : (asks p ∷ rest) ≡ is = cc in same) (ap suc (each rest refl))

each_gives : (site : Site) (asks : ℕ → Instr) (names : List Naming) → Gives (each_of site asks names) (length names)
each_gives site asks [] is e = subst (λ l. length l ≡ 0) (let same : [] ≡ is = cc in same) refl
each_gives site asks (name ∷ names) is e = asked_gives asks (named_process site name) (each_of site asks names) (length names) (each_gives site asks names) is e

named_gives : (site : Site) (asks : ℕ → Instr) (names : List Naming) → Gives (named_or_own_of site asks names) (names_size names)
named_gives site asks [] is e = subst (λ l. length l ≡ 1) (let same : (asks 255 ∷ []) ≡ is = cc in same) refl
named_gives site asks (name ∷ names) is e = each_gives site asks (name ∷ names) is e

procedure_longer : (n : Numbering) (site : Site) (place : Place) (arguments : Expressions) (receivers : List Reference) (r : Referent) (before after : List Instr) → procedure_code n site before place arguments receivers r ≡ Ok after
    → Longer before after (call_size n site arguments receivers place r)
procedure_longer n site place arguments receivers (BlockOf unit) before after e = call_grows n site arguments receivers unit place before after e
procedure_longer n site place arguments receivers (DataOf k kept shape) before after e = absurd (cc)
procedure_longer n site place arguments receivers (ConstantOf v) before after e = absurd (cc)
procedure_longer n site place arguments receivers (EventOf v) before after e = absurd (cc)
procedure_longer n site place arguments receivers (BuiltinOf v) before after e = absurd (cc)
procedure_longer n site place arguments receivers Unmeant before after e = absurd (cc)

same_length : (before after : List Instr) → onwards (Ok before) Ok ≡ Ok after → Longer before after 0
same_length before after e = let same : before ≡ after = cc in let there = ap length same in omega (arith, there)

-- what is evaluated for a time, a start, a priority, a cycle and a limit
module _ (n : Numbering) (site : Site) where
  time_longer : (tree : Expression) (before after : List Instr) → time_code n site before tree ≡ Ok after → Longer before after (time_size n site tree)
  time_longer (Decimal place number) before after e = same_length before after e
  time_longer tree before after e = expression_longer n site tree before after e

  start_longer : (s : Option Start) (before after : List Instr) → start_code n site before s ≡ Ok after → Longer before after (start_size n site s)
  start_longer None before after e = same_length before after e
  start_longer (Some (StartAt place tree)) before after e = time_longer tree before after e
  start_longer (Some (StartIn place tree)) before after e = time_longer tree before after e
  start_longer (Some (StartOn place tree)) before after e = same_length before after e

  priority_longer : (tree : Option Expression) (before after : List Instr) → priority_code n site before tree ≡ Ok after → Longer before after (priority_size n site tree)
  priority_longer None before after e = same_length before after e
  priority_longer (Some tree) before after e = expression_longer n site tree before after e

  round_longer : (c : Option Cycle) (before after : List Instr) → round_code n site before c ≡ Ok after → Longer before after (round_size n site c)
  round_longer None before after e = same_length before after e
  round_longer (Some (Cyclic place)) before after e = same_length before after e
  round_longer (Some (CyclicEvery place tree)) before after e = time_longer tree before after e
  round_longer (Some (CyclicAfter place tree)) before after e = time_longer tree before after e

  until_longer : (b : Bool) (tree : Expression) (before after : List Instr) → until_code n site before b tree ≡ Ok after → Longer before after (until_size n site b tree)
  until_longer true tree before after e = same_length before after e
  until_longer false tree before after e = time_longer tree before after e

  limit_longer : (g : Option Guard) (before after : List Instr) → limit_code n site before g ≡ Ok after → Longer before after (limit_size n site g)
  limit_longer None before after e = same_length before after e
  limit_longer (Some (While place tree)) before after e = same_length before after e
  limit_longer (Some (Until place tree)) before after e = until_longer (holds_event site.set.phrases site.block tree) tree before after e

  and_gives : {X : Type 0} (f : X → Option (List Instr)) (size : ℕ) (o : Option X) → ((x : X) → Gives (f x) size) → Gives (option_and_then f o) size
  and_gives f size None each is e = absurd (cc)
  and_gives f size (Some x) each is e = each x is e

  schedule_gives : (xs : List ℕ) (s : Schedule) → Gives (schedule_of site xs s) 1
  schedule_gives xs s =
      and_gives (λ process. option_and_then (λ begins. option_map (schedule_by s process begins) (limit_operand site (last_event site xs) s.guard)) (start_operand (first_event site xs) s.start)) 1 (named_process site s.name)
      (λ process. two_mapped (schedule_by s process) 1 (start_operand (first_event site xs) s.start) (limit_operand site (last_event site xs) s.guard) (λ begins until. refl))

  schedule_longer : (place : Place) (xs : List ℕ) (s : Schedule) (before after : List Instr) → schedule_code n site before place xs s ≡ Ok after → Longer before after (schedule_size n site s)
  schedule_longer place xs s before after e =
      both_longer (start_code n site before s.start) _ before after (start_size n site s.start) (priority_size n site s.priority + (round_size n site s.cycle + (limit_size n site s.guard + 1))) e
      (λ first there. start_longer s.start before first there)
      (λ first e1. both_longer (priority_code n site first s.priority) _ first after (priority_size n site s.priority) (round_size n site s.cycle + (limit_size n site s.guard + 1)) e1
      (λ second there. priority_longer s.priority first second there)
      (λ second e2. both_longer (round_code n site second s.cycle) _ second after (round_size n site s.cycle) (limit_size n site s.guard + 1) e2
      (λ third there. round_longer s.cycle second third there)
      (λ third e3. both_longer (limit_code n site third s.guard) _ third after (limit_size n site s.guard) 1 e3
      (λ fourth there. limit_longer s.guard third fourth there)
      (λ fourth e4. emitted_longer fourth after place (schedule_of site xs s) 1 e4 (schedule_gives xs s)))))

  pause_longer : (place : Place) (delays : operand-time.Time → operand-delay.Delay) (tree : Expression) (before after : List Instr) → pause_code n site before place delays tree ≡ Ok after → Longer before after (time_size n site tree + 1)
  pause_longer place delays tree before after e =
      both_longer (time_code n site before tree) (λ middle. emit_one middle place (instr.Wait (delays (time_operand tree)))) before after (time_size n site tree) 1 e
      (λ middle there. time_longer tree before middle there) (λ middle there. put middle after (instr.Wait (delays (time_operand tree)) ∷ []) 1 there refl)

  update_priority_longer : (place : Place) (name : Option Naming) (tree : Expression) (before after : List Instr) → update_priority_code n site before place name tree ≡ Ok after → Longer before after (expression_size n site tree + 1)
  update_priority_longer place name tree before after e =
      both_longer (expression_code n site before tree) (λ middle. emit middle place (option_map (λ process. instr.Priority process ∷ []) (named_or_self site name))) before after (expression_size n site tree) 1 e
      (λ middle there. expression_longer n site tree before middle there)
      (λ middle there. emitted_longer middle after place (option_map (λ process. instr.Priority process ∷ []) (named_or_self site name)) 1 there (map_one (λ process. instr.Priority process ∷ []) 1 (named_or_self site name) (λ process. refl)))

pub first_span_longer : (n : Numbering) (site : Site) (g : Option Guard) (exit : ℕ) (before after : List Instr) → first_span_code n site before g exit ≡ Ok after → Longer before after (first_span_size n site g)
first_span_longer n site None exit before after e = same_length before after e
first_span_longer n site (Some g) exit before after e = first_test_longer n site g exit before after e

pub later_span_longer : (n : Numbering) (site : Site) (place : Place) (g : Option Guard) (turn exit : ℕ) (before after : List Instr) → later_span_code n site before place g turn exit ≡ Ok after → Longer before after (later_span_size n site g)
later_span_longer n site place None turn exit before after e = put before after (instr.Jump turn ∷ []) 1 e refl
later_span_longer n site place (Some g) turn exit before after e = test_longer n site g turn exit before after e

-- a phrase behind two others
pub unnested : (r : Emitted) (f g : List Instr → Emitted) (after : List Instr) → onwards (onwards r f) g ≡ Ok after → onwards r (λ x. onwards (f x) g) ≡ Ok after
unnested (Ok x) f g after e = e
unnested (Err place) f g after e = absurd (cc)

cells_longer : (before after : List Instr) (place : Place) (o : Option Cells) (go : Cells → Emitted) (size : ℕ) → with_cells place o go ≡ Ok after → ((c : Cells) → go c ≡ Ok after → Longer before after size) → Longer before after size
cells_longer before after place None go size e each = absurd (cc)
cells_longer before after place (Some c) go size e each = each c e

-- all of a DO FOR, by its group
module _ (n : Numbering) (site : Site) (place : Place) (name : List ℕ) (c : Cells) (span : Span) (g : Option Guard) where
  pub spanned_longer : (labels : List Naming) (exits : Exits) (size : ℕ) (group : List Instr → Exits → Emitted) (before after : List Instr)
      → ((start : List Instr) (inner : Exits) (middle : List Instr) → group start inner ≡ Ok middle → Longer start middle size)
      → spanned_code n site before exits labels place name c span g size group ≡ Ok after → Longer before after (spanned_size n site span g size)
  spanned_longer labels exits size group before after each e =
      let exit = length before + spanned_size n site span g size in
      let rest = both_longer (begin_code n site before place name c exit span) _ before after (begin_size n site span) (first_span_size n site g + (1 + (size + (again_size n site span + later_span_size n site g))))
      (unnested (begin_code n site before place name c exit span) (λ begun. first_span_code n site begun g exit) _ after e)
      (λ begun there. begin_longer n site place name c exit span before begun there)
      (λ begun there. both_longer (first_span_code n site begun g exit) _ begun after (first_span_size n site g) (1 + (size + (again_size n site span + later_span_size n site g))) there
      (λ tested got. first_span_longer n site g exit begun tested got)
      (λ tested got. later tested after (instr.Turn exit) (size + (again_size n site span + later_span_size n site g))
      (both_longer (group (tested ++ (instr.Turn exit ∷ [])) (within_group (opened labels exit (Some (suc (length tested) + size))) exits)) _ (tested ++ (instr.Turn exit ∷ [])) after size
      (again_size n site span + later_span_size n site g) got
      (λ middle one. each (tested ++ (instr.Turn exit ∷ [])) (within_group (opened labels exit (Some (suc (length tested) + size))) exits) middle one)
      (λ middle one. both_longer (again_code n site middle place name c exit span) _ middle after (again_size n site span) (later_span_size n site g) one
      (λ counted two. again_longer n site place name c exit span middle counted two)
      (λ counted two. later_span_longer n site place g (length tested) exit counted after two)))))
      in omega (arith, rest)

mutual
  pub statement_longer : (n : Numbering) (site : Site) (tree : Statement) (exits : Exits) (m : ℕ) (before after : List Instr) → statement_code n site before exits m tree ≡ Ok after → Longer before after (statement_size n site m tree)
  statement_longer n site (Labelled labels basic) exits m before after e = basic_longer n site basic labels exits m before after e

  pub basic_longer : (n : Numbering) (site : Site) (basic : Basic) (labels : List Naming) (exits : Exits) (m : ℕ) (before after : List Instr) → basic_code n site before exits m labels basic ≡ Ok after
      → Longer before after (basic_size n site m basic)
  basic_longer n site (Null place) labels exits m before after e = same_length before after e
  basic_longer n site (Assignment place receivers tree) labels exits m before after e =
      both_longer (expression_code n site before tree) (λ middle. receivers_code n site middle place receivers) before after (expression_size n site tree) (receivers_size n site receivers) e
      (λ middle there. expression_longer n site tree before middle there) (λ middle there. receivers_longer n site place receivers middle after there)
  basic_longer n site (If place condition consequence alternative) labels exits m before after e =
      let rest = both_longer (expression_code n site before condition) _ before after (expression_size n site condition) (1 + (statement_size n site m consequence + (jump_size alternative + alternative_size n site (after_statement m consequence) alternative))) e
      (λ tested there. expression_longer n site condition before tested there)
      (λ tested there. later tested after (instr.JumpNot (suc (length tested) + (statement_size n site m consequence + jump_size alternative))) (statement_size n site m consequence + (jump_size alternative + alternative_size n site (after_statement m consequence) alternative))
      (both_longer (statement_code n site (tested ++ (instr.JumpNot (suc (length tested) + (statement_size n site m consequence + jump_size alternative)) ∷ [])) exits m consequence) _
      (tested ++ (instr.JumpNot (suc (length tested) + (statement_size n site m consequence + jump_size alternative)) ∷ [])) after (statement_size n site m consequence) (jump_size alternative + alternative_size n site (after_statement m consequence) alternative) there
      (λ middle one. statement_longer n site consequence exits m (tested ++ (instr.JumpNot (suc (length tested) + (statement_size n site m consequence + jump_size alternative)) ∷ [])) middle one)
      (λ middle other. alternative_longer n site alternative exits (after_statement m consequence) middle after other)))
      in omega (arith, rest)
  basic_longer n site (Do place group) labels exits m before after e = group_longer n site group (within_group (opened labels (length before + group_size n site (suc m) group) None) exits) (suc m) before after e
  basic_longer n site (DoCase place number alternative group) labels exits m before after e =
      let exit = length before + basic_size n site m (DoCase place number alternative group) in
      let inner = within_group (opened labels exit None) exits in
      number_longer before after place (cell_of n site m 0) _ (basic_size n site m (DoCase place number alternative group)) e
      (λ cell given. let rest = both_longer (expression_code n site before number) _ before after (expression_size n site number) (2 + (cases_size n site (after_alternative (suc m) alternative) group + uncased_size n site (suc m) alternative)) given
      (λ valued there. expression_longer n site number before valued there)
      (λ valued there. let two = keeping_longer valued (keeping valued cell) cell refl in
      let more = both_longer (cases_code n site (keeping valued cell) inner place cell exit (after_alternative (suc m) alternative) group) _ (keeping valued cell) after (cases_size n site (after_alternative (suc m) alternative) group) (uncased_size n site (suc m) alternative) there
      (λ middle one. cases_longer n site group inner place cell exit (after_alternative (suc m) alternative) (keeping valued cell) middle one)
      (λ middle one. uncased_longer n site alternative inner place (suc m) middle after one) in omega (arith, two, more))
      in omega (arith, rest))
  basic_longer n site (DoLoop place g group) labels exits m before after e =
      let exit = length before + basic_size n site m (DoLoop place g group) in
      let rest = both_longer (first_test_code n site before g exit) _ before after (first_test_size n site g) (1 + (group_size n site (suc m) group + test_size n site g)) e
      (λ tested there. first_test_longer n site g exit before tested there)
      (λ tested there. later tested after (instr.Turn exit) (group_size n site (suc m) group + test_size n site g)
      (both_longer (group_code n site (tested ++ (instr.Turn exit ∷ [])) (within_group (opened labels exit (Some (suc (length tested) + group_size n site (suc m) group))) exits) (suc m) group) _
      (tested ++ (instr.Turn exit ∷ [])) after (group_size n site (suc m) group) (test_size n site g) there
      (λ middle one. group_longer n site group (within_group (opened labels exit (Some (suc (length tested) + group_size n site (suc m) group))) exits) (suc m) (tested ++ (instr.Turn exit ∷ [])) middle one)
      (λ middle other. test_longer n site g (length tested) exit middle after other)))
      in omega (arith, rest)
  basic_longer n site (DoFor place temporary variable span g group) labels exits m before after e =
      let inner = group_site site temporary m in
      cells_longer before after place (cells_of n site temporary m) _ (basic_size n site m (DoFor place temporary variable span g group)) e
      (λ c given. spanned_longer n inner place variable.name c span g labels exits (group_size n inner (suc m) group) (λ start within. group_code n inner start within (suc m) group) before after
      (λ start within middle there. group_longer n inner group within (suc m) start middle there) given)
  basic_longer n site (Exit place label) labels exits m before after e =
      emitted_longer before after place (jump_to (exit_of exits.groups (label_name label))) 1 e (map_one (λ at. instr.Jump at ∷ []) 1 (exit_of exits.groups (label_name label)) (λ at. refl))
  basic_longer n site (Repeat place label) labels exits m before after e =
      emitted_longer before after place (jump_to (again_of exits.groups (label_name label))) 1 e (map_one (λ at. instr.Jump at ∷ []) 1 (again_of exits.groups (label_name label)) (λ at. refl))
  basic_longer n site (Return place value) labels exits m before after e = returning_longer n site exits place value before after e
  basic_longer n site (Call place name arguments receivers) labels exits m before after e = procedure_longer n site place arguments receivers (referent site name.name) before after e
  basic_longer n site (Read place channel receivers) labels exits m before after e =
      number_longer before after place (channel_of site channel) _ (reads_size n site receivers) e (λ number there. reads_longer n site number receivers before after there)
  basic_longer n site (Write place channel items) labels exits m before after e =
      number_longer before after place (channel_of site channel) _ (items_size n site items + 1) e
      (λ number there. both_longer (items_code n site before items) _ before after (items_size n site items) 1 there (λ middle one. items_longer n site items before middle one)
      (λ middle one. put middle after (instr.Print number ∷ []) 1 one refl))
  basic_longer n site (Event one) labels exits m before after e =
      emitted_longer before after one.place (event_change_of site one) 1 e (map_one _ 1 (below 65536 (event_named site.set.phrases site.block one.name.name)) (λ number. refl))
  basic_longer n site (Cancel place names) labels exits m before after e = emitted_longer before after place (named_or_own_of site instr.Cancel names) (names_size names) e (named_gives site instr.Cancel names)
  basic_longer n site (Terminate place names) labels exits m before after e =
      emitted_longer before after place (named_or_own_of site instr.Terminate names) (names_size names) e (named_gives site instr.Terminate names)
  basic_longer n site (Scheduled place s) labels exits m before after e = schedule_longer n site place (stated_at_mark (here_at site) m) s before after e
  basic_longer n site (UpdatePriority place name tree) labels exits m before after e = update_priority_longer n site place name tree before after e
  basic_longer n site (Wait place tree) labels exits m before after e = pause_longer n site place delay.For tree before after e
  basic_longer n site (WaitUntil place tree) labels exits m before after e = pause_longer n site place delay.Until tree before after e
  basic_longer n site (WaitForDependent place) labels exits m before after e = put before after (instr.Wait delay.Dependents ∷ []) 1 e refl
  basic_longer n site (WaitFor place tree) labels exits m before after e =
      emitted_longer before after place (event_pause_of site (stated_at_mark (here_at site) m)) 1 e (event_pause_gives site (stated_at_mark (here_at site) m))
  basic_longer n site (Update place body close) labels exits m before after e =
      let opens = option_map (λ groups. instr.Open groups ∷ []) (below 65536 (update_groups (here_at site) m)) in
      let rest = both_longer (emit before place opens) _ before after 1 (statements_size n site (suc m) body + 1) e
      (λ begun there. emitted_longer before begun place opens 1 there (map_one (λ groups. instr.Open groups ∷ []) 1 (below 65536 (update_groups (here_at site) m)) (λ groups. refl)))
      (λ begun there. both_longer (block_code n site begun (of_body NoReturn) (suc m) body) _ begun after (statements_size n site (suc m) body) 1 there
      (λ middle one. block_longer n site body (of_body NoReturn) (suc m) begun middle one) (λ middle one. put middle after (instr.Close ∷ []) 1 one refl))
      in omega (arith, rest)
  basic_longer n site (SendError place group_at group number_at number) labels exits m before after e =
      emitted_longer before after place (raise_of group number) 1 e (two_mapped (λ g k. instr.Raise g k ∷ []) 1 (below 256 group) (below 256 number) (λ g k. refl))
  basic_longer n site (OnErrorResponse place s r one) labels exits m before after e =
      emitted_longer before after place (response_code site s r one) 1 e (two_mapped (response_entry r) 1 (numbers_of s) (side_numbers site one) (λ errors side. refl))
  basic_longer n site (OffError place s) labels exits m before after e = emitted_longer before after place (off_of s) 1 e (map_one _ 1 (numbers_of s) (λ errors. refl))
  basic_longer n site (OnErrorStatement place s handler) labels exits m before after e = absurd (cc)

  pub direct_longer : (n : Numbering) (site : Site) (tree : Statement) (exits : Exits) (m : ℕ) (before after : List Instr) → direct_code n site before exits m tree ≡ Ok after → Longer before after (statement_size n site m tree)
  direct_longer n site (Labelled labels (OnErrorStatement place s handler)) exits m before after e =
      both_longer (emit before place (handler_code s (length before) (statement_size n site (suc m) handler))) _ before after 2 (statement_size n site (suc m) handler) e
      (λ begun there. emitted_longer before begun place (handler_code s (length before) (statement_size n site (suc m) handler)) 2 there
      (map_one (handler_entry (length before) (statement_size n site (suc m) handler)) 2 (numbers_of s) (λ errors. refl)))
      (λ begun there. statement_longer n site handler exits (suc m) begun after there)
  direct_longer n site (Labelled labels basic) exits m before after e = basic_longer n site basic labels exits m before after e

  pub block_longer : (n : Numbering) (site : Site) (list : Statements) (exits : Exits) (m : ℕ) (before after : List Instr) → block_code n site before exits m list ≡ Ok after → Longer before after (statements_size n site m list)
  block_longer n site NoStatements exits m before after e = same_length before after e
  block_longer n site (MoreStatements first others) exits m before after e =
      both_longer (direct_code n site before exits m first) (λ middle. block_code n site middle exits (after_statement m first) others) before after (statement_size n site m first) (statements_size n site (after_statement m first) others) e
      (λ middle there. direct_longer n site first exits m before middle there) (λ middle there. block_longer n site others exits (after_statement m first) middle after there)

  pub alternative_longer : (n : Numbering) (site : Site) (alternative : Alternative) (exits : Exits) (m : ℕ) (before after : List Instr) → alternative_code n site before exits m alternative ≡ Ok after
      → Longer before after (jump_size alternative + alternative_size n site m alternative)
  alternative_longer n site NoAlternative exits m before after e = same_length before after e
  alternative_longer n site (Otherwise one) exits m before after e =
      let jump = instr.Jump (suc (length before) + statement_size n site m one) in
      later before after jump (statement_size n site m one) (statement_longer n site one exits m (before ++ (jump ∷ [])) after e)

  pub uncased_longer : (n : Numbering) (site : Site) (alternative : Alternative) (exits : Exits) (place : Place) (m : ℕ) (before after : List Instr) → uncased_code n site before exits place m alternative ≡ Ok after
      → Longer before after (uncased_size n site m alternative)
  uncased_longer n site NoAlternative exits place m before after e = put before after (instr.Raise 1 6 ∷ []) 1 e refl
  uncased_longer n site (Otherwise one) exits place m before after e = statement_longer n site one exits m before after e

  pub cases_longer : (n : Numbering) (site : Site) (group : Group) (exits : Exits) (place : Place) (cell target m : ℕ) (before after : List Instr) → cases_code n site before exits place cell target m group ≡ Ok after
      → Longer before after (cases_size n site m group)
  cases_longer n site (Groups list close) exits place cell target m before after e = selected_longer n site list exits place cell target m 1 before after e

  pub selected_longer : (n : Numbering) (site : Site) (list : Statements) (exits : Exits) (place : Place) (cell target m k : ℕ) (before after : List Instr)
      → selected_code n site before exits place cell target m k list ≡ Ok after → Longer before after (selected_size n site m list)
  selected_longer n site NoStatements exits place cell target m k before after e = same_length before after e
  selected_longer n site (MoreStatements first others) exits place cell target m k before after e =
      let rest = both_longer (case_code before place cell k (statement_size n site m first)) _ before after 5 (statement_size n site m first + (1 + selected_size n site (after_statement m first) others)) e
      (λ tested there. case_longer place cell k (statement_size n site m first) before tested there)
      (λ tested there. both_longer (statement_code n site tested exits m first) _ tested after (statement_size n site m first) (1 + selected_size n site (after_statement m first) others) there
      (λ middle one. statement_longer n site first exits m tested middle one)
      (λ middle one. later middle after (instr.Jump target) (selected_size n site (after_statement m first) others) (selected_longer n site others exits place cell target (after_statement m first) (suc k) (middle ++ (instr.Jump target ∷ [])) after one)))
      in omega (arith, rest)

  pub group_longer : (n : Numbering) (site : Site) (group : Group) (exits : Exits) (m : ℕ) (before after : List Instr) → group_code n site before exits m group ≡ Ok after → Longer before after (group_size n site m group)
  group_longer n site (Groups list close) exits m before after e = statements_longer n site list exits m before after e

  pub statements_longer : (n : Numbering) (site : Site) (list : Statements) (exits : Exits) (m : ℕ) (before after : List Instr) → statements_code n site before exits m list ≡ Ok after → Longer before after (statements_size n site m list)
  statements_longer n site NoStatements exits m before after e = same_length before after e
  statements_longer n site (MoreStatements first others) exits m before after e =
      both_longer (statement_code n site before exits m first) (λ middle. statements_code n site middle exits (after_statement m first) others) before after (statement_size n site m first) (statements_size n site (after_statement m first) others) e
      (λ middle there. statement_longer n site first exits m before middle there) (λ middle there. statements_longer n site others exits (after_statement m first) middle after there)
