-- The phrases of statements that right words spell.
use Rattle.std.proofs.Common.{Bool, true, false, List, [], ◌∷◌, length, Option, Some, None}
use Rattle.hal_grammar.specs.Leaves.{Naming, naming}
use Rattle.hal_grammar.specs.Expressions.{Expression, Expressions, Reference}
use Rattle.hal_grammar.specs.Statements.{Guard, Span, Selector, Eventful, Response, Start, Cycle, Schedule, Statement, Basic, Alternative, Group, Statements}
use Rattle.hal_grammar.specs.Words.{Words}
use Rattle.hal_grammar.specs.SpellsExpressions.{SpellsReference}
use Rattle.hal_grammar.specs.SpellsDeclarations.{Parted, last, more}
use Rattle.hal_grammar.specs.SpellsStatements.{SpellsArguments, no_arguments, arguments, SpellsReceivers, no_receivers, receivers, SpellsGuard, no_guard, as_long, unless, SpellsStep, no_step as no_step_said, step, SpellsSpan, stepped, listed, SpellsSelector, every_error, group_alone, group_enclosed, group_colon, group_star, one_error, SpellsEvent, pulses, raises, lowers, SpellsResponse, by_system, ignored, SpellsEventEnd, no_event_end, event_end, SpellsStart, no_start, start_at, start_in, start_on, SpellsPriority, no_priority, priority, SpellsDependent, not_dependent, dependent, SpellsComma, no_comma, comma, SpellsCycle, no_cycle, cyclic, cyclic_every, cyclic_after, SpellsSchedule, scheduled_so, SpellsTemporary, not_temporary, temporary, SpellsNameOption, no_name, one_name, SpellsLabels, no_labels, more_labels, SpellsStatement, labelled, SpellsBasic, empty, assigned, chosen, grouped, selected, looped_while, looped_until, ranged, left, repeated, returned, returned_value, calls, inputs, outputs_nothing, outputs, updates, scheduled, cancelled_itself, cancelled, terminated_itself, terminated, waits, waits_until, waits_for_dependents, waits_for, acts, prioritizes, handles, answers, forgets, sends, SpellsAlternative, no_alternative, otherwise, SpellsGroup, groups, SpellsStatements, statements_end, statements_close, statements_more}
use Rattle.hal_phrases.specs.declared.around.Around.{Around}
use Rattle.hal_phrases.specs.declared.role.Role.{Role}
use Rattle.hal_phrases.specs.declared.role.Role.TheVariants as role
use Rattle.hal_phrases.specs.Surroundings.{inside, grouped as in_group, updated}
use Rattle.hal_phrases.specs.Phrases.{Phrase, OfAssignment, OfCall, OfClose, OfEvent, OfExit, OfGroup, OfHandler, OfLabel, OfOffError, OfProcess, OfRead, OfRealTime, OfRepeat, OfResponse, OfReturn, OfSendError, OfTemporaryGroup, OfUpdate, OfVariable, OfWrite, gathered_each, gathered_any}
use Rattle.hal_phrases.specs.GatheredDeclarations.{gathered_optional}
use Rattle.hal_phrases.specs.GatheredExpressions.{below, gathered_all}
use Rattle.hal_phrases.specs.GatheredStatements.{gathered_label, gathered_close, gathered_process, gathered_event, gathered_receiver, gathered_guard, gathered_span, gathered_start, gathered_cycle, gathered_limit, gathered_schedule, begun_for, around_for, gathered_statement, gathered_basic, gathered_alternative, gathered_group, gathered_statements}
use Rattle.hal_fit_rules.specs.Used.{HasReceiver}
use Rattle.hal_right_images.specs.spelled.Words.{AreRightWords}
use Rattle.hal_right_images.proofs.spelled.Adding.{Adds, Gives, and_more, behind_one, gives, no_step, one, past, then_}
use Rattle.hal_right_images.proofs.spelled.SpelledDeclarations.{name_end_right, names_right, parted_fit}
use Rattle.hal_right_images.proofs.spelled.SpelledExpressions.{expression_fit, expressions_fit, reference_fit}

receivers_fit : {xs : List Reference} {b a : Words} → Parted SpellsReference xs b a → AreRightWords b → (o : Around) (r : Role) (d : List Phrase) → Gives d (gathered_each (gathered_receiver o r) d xs) a
receivers_fit xs right o r d = parted_fit (gathered_receiver o r) (λ x b a e y fit. reference_fit y fit e o r) xs right d

has_receiver : {xs : List Reference} {b a : Words} → Parted SpellsReference xs b a → HasReceiver xs
has_receiver (last x) = tt
has_receiver (more x xs) = tt

arguments_fit : {ts : Expressions} {b a : Words} → SpellsArguments ts b a → AreRightWords b → (d : List Phrase) (o : Around) (r : Role) → Gives d (gathered_all d o r ts) a
unfolding gathered_all
arguments_fit (no_arguments h) right d o r = gives _ (no_step d) right
arguments_fit (arguments x) right d o r = past (expressions_fit x right.1 d o r)

outputs_fit : {xs : List Reference} {b a : Words} → SpellsReceivers xs b a → AreRightWords b → (o : Around) (d : List Phrase) → Gives d (gathered_each (gathered_receiver o role.Output) d xs) a
outputs_fit (no_receivers h) right o d = gives _ (no_step d) right
outputs_fit (receivers x) right o d = past (receivers_fit x right.1.1 o role.Output d)

guard_fit : {g : Option Guard} {b a : Words} → SpellsGuard g b a → AreRightWords b → (o : Around) (d : List Phrase) → Gives d (gathered_any (gathered_guard o) d g) a
unfolding gathered_guard
guard_fit (no_guard h k) right o d = gives _ (no_step d) right
guard_fit (as_long x) right o d = expression_fit x right.1 d o role.Condition
guard_fit (unless x) right o d = expression_fit x right.1 d o role.Condition

limit_fit : {g : Option Guard} {b a : Words} → SpellsGuard g b a → AreRightWords b → (o : Around) (d : List Phrase) → Gives d (gathered_any (gathered_limit o) d g) a
unfolding gathered_limit
limit_fit (no_guard h k) right o d = gives _ (no_step d) right
limit_fit (as_long x) right o d = expression_fit x right.1 d o role.Event
limit_fit (unless x) right o d = expression_fit x right.1 d o role.EventOrTime

step_fit : {t : Option Expression} {b a : Words} → SpellsStep t b a → AreRightWords b → (d : List Phrase) (o : Around) → Gives d (gathered_optional d o role.Bound t) a
step_fit (no_step_said h) right d o = gives _ (no_step d) right
step_fit (step x) right d o = expression_fit x right.1 d o role.Bound

span_fit : {x : Span} {b a : Words} → SpellsSpan x b a → AreRightWords b → (d : List Phrase) (o : Around) → Gives d (gathered_span d o x) a
unfolding gathered_span
span_fit (stepped x y s) right d o = and_more (expression_fit x right d o role.Bound) (λ next. and_more (expression_fit y next.1 _ o role.Bound) (λ then_next. step_fit s then_next _ o))
span_fit (listed x) right d o = expressions_fit x right d o role.Bound

selector_right : {x : Selector} {b a : Words} → SpellsSelector x b a → AreRightWords b → AreRightWords a
selector_right (every_error h) right = right
selector_right group_alone right = right.1.1
selector_right group_enclosed right = right.1.1.1.1
selector_right group_colon right = right.1.1.1.1.1
selector_right group_star right = right.1.1.1.1.1.1
selector_right one_error right = right.1.1.1.1.1.1

event_right : {e : Eventful} {b a : Words} → SpellsEvent e b a → AreRightWords b → AreRightWords a
event_right pulses right = right.1.1
event_right raises right = right.1.1
event_right lowers right = right.1.1

response_right : {r : Response} {b a : Words} → SpellsResponse r b a → AreRightWords b → AreRightWords a
response_right by_system right = right.1
response_right ignored right = right.1

event_end_fit : {e : Option Eventful} {b a : Words} → SpellsEventEnd e b a → AreRightWords b → (o : Around) (d : List Phrase) → Gives d (gathered_any (gathered_event o) d e) a
event_end_fit no_event_end right o d = gives _ (no_step d) right.1
event_end_fit (event_end {e = e} x) right o d = gives _ (one d o (OfEvent e) tt) ((event_right x right.1).1)

start_fit : {s : Option Start} {b a : Words} → SpellsStart s b a → AreRightWords b → (o : Around) (d : List Phrase) → Gives d (gathered_any (gathered_start o) d s) a
unfolding gathered_start
start_fit (no_start h k l) right o d = gives _ (no_step d) right
start_fit (start_at x) right o d = expression_fit x right.1 d o role.Time
start_fit (start_in x) right o d = expression_fit x right.1 d o role.Time
start_fit (start_on x) right o d = expression_fit x right.1 d o role.Event

priority_fit : {t : Option Expression} {b a : Words} → SpellsPriority t b a → AreRightWords b → (d : List Phrase) (o : Around) → Gives d (gathered_optional d o role.Priority t) a
priority_fit (no_priority h) right d o = gives _ (no_step d) right
priority_fit (priority x) right d o = past (expression_fit x right.1.1 d o role.Priority)

dependent_right : {x : Bool} {b a : Words} → SpellsDependent x b a → AreRightWords b → AreRightWords a
dependent_right (not_dependent h) right = right
dependent_right dependent right = right.1

comma_right : {b a : Words} → SpellsComma b a → AreRightWords b → AreRightWords a
comma_right (no_comma h) right = right
comma_right comma right = right.1

cycle_fit : {c : Option Cycle} {b a : Words} → SpellsCycle c b a → AreRightWords b → (o : Around) (d : List Phrase) → Gives d (gathered_any (gathered_cycle o) d c) a
unfolding gathered_cycle
cycle_fit (no_cycle h k) right o d = gives _ (no_step d) right
cycle_fit (cyclic x h k) right o d = gives _ (no_step d) ((comma_right x right).1)
cycle_fit (cyclic_every x y) right o d = expression_fit y (comma_right x right).1.1 d o role.Time
cycle_fit (cyclic_after x y) right o d = expression_fit y (comma_right x right).1.1 d o role.Time

schedule_fit : {s : Schedule} {b a : Words} → SpellsSchedule s b a → AreRightWords b → (d : List Phrase) (o : Around) → Gives d (gathered_schedule d o s) a
unfolding gathered_schedule
schedule_fit (scheduled_so {p = p} {n = n} s t x c g) right d o =
    behind_one d o (OfProcess (naming p n)) tt (and_more (start_fit s right.1 o _) (λ ranked. and_more (priority_fit t ranked _ o) (λ depends. and_more (cycle_fit c (dependent_right x depends) o _)
    (λ guarded. past (limit_fit g guarded o _)))))

temporary_right : {t : Bool} {b a : Words} → SpellsTemporary t b a → AreRightWords b → AreRightWords a
temporary_right (not_temporary h) right = right
temporary_right temporary right = right.1

name_fit : {n : Option Naming} {b a : Words} → SpellsNameOption n b a → AreRightWords b → (o : Around) (d : List Phrase) → Gives d (gathered_any (gathered_process o) d n) a
name_fit no_name right o d = gives _ (no_step d) right
name_fit (one_name {p = p} {n = n}) right o d = gives _ (one d o (OfProcess (naming p n)) tt) right.1

labels_fit : {ns : List Naming} {b a : Words} → SpellsLabels ns b a → AreRightWords b → (o : Around) (d : List Phrase) → Gives d (gathered_each (gathered_label o) d ns) a
labels_fit (no_labels h) right o d = gives _ (no_step d) right
labels_fit (more_labels {p = p} {n = n} x) right o d = behind_one d o (OfLabel (naming p n)) tt (labels_fit x right.1.1 o _)

processes_added : (o : Around) (d : List Phrase) (ns : List Naming) → Adds d (gathered_each (gathered_process o) d ns)
processes_added o d [] = no_step d
processes_added o d (n ∷ ns) = then_ (one d o (OfProcess n) tt) (processes_added o _ ns)

pub close_added : (o : Around) (d : List Phrase) (n : Option Naming) → Adds d (gathered_any (gathered_close o) d n)
close_added o d None = no_step d
close_added o d (Some n) = one d o (OfClose n) tt

begun_added : (d : List Phrase) (o : Around) (labels : List Naming) (t : Bool) (variable : Naming) → Adds d (begun_for d o labels t variable)
unfolding begun_for
begun_added d o labels true variable = one d o (OfTemporaryGroup labels variable) tt
begun_added d o labels false variable = then_ (one d o (OfGroup labels true) tt) (one _ (below d o) (OfVariable variable) tt)

mutual
  unfolding gathered_statement gathered_basic gathered_alternative gathered_group gathered_statements gathered_guard gathered_all

  pub statement_fit : {s : Statement} {b a : Words} → SpellsStatement s b a → AreRightWords b → (d : List Phrase) (o : Around) → Gives d (gathered_statement d o s) a
  statement_fit (labelled {ns = ns} ls x) right d o = and_more (labels_fit ls right o d) (λ next. basic_fit x next _ o ns)

  basic_fit : {x : Basic} {b a : Words} → SpellsBasic x b a → AreRightWords b → (d : List Phrase) (o : Around) (ns : List Naming) → Gives d (gathered_basic d o ns x) a
  basic_fit empty right d o ns = gives _ (no_step d) right.1
  basic_fit (assigned {xs = xs} {t = t} x y) right d o ns =
      behind_one d o (OfAssignment xs t) (has_receiver x) (and_more (receivers_fit x right (below d o) role.Receiver _) (λ next. past (expression_fit y next.1 _ (below d o) role.Assigned)))
  basic_fit (chosen x s e) right d o ns = and_more (expression_fit x right.1 d o role.Condition) (λ next. and_more (statement_fit s next.1 _ (inside o)) (λ otherwise_. alternative_fit e otherwise_ _ (inside o)))
  basic_fit (grouped g) right d o ns = behind_one d o (OfGroup ns false) tt (group_fit g right.1.1 _ (in_group (length d) o))
  basic_fit (selected x e g) right d o ns =
      behind_one d o (OfGroup ns false) tt (and_more (expression_fit x right.1.1 _ (below d o) role.Case) (λ next. and_more (alternative_fit e next.1 _ (in_group (length d) o)) (λ then_next. group_fit g then_next _ (in_group (length d) o))))
  basic_fit (looped_while x g) right d o ns = behind_one d o (OfGroup ns true) tt (and_more (expression_fit x right.1.1 _ (below d o) role.Condition) (λ next. group_fit g next.1 _ (in_group (length d) o)))
  basic_fit (looped_until x g) right d o ns = behind_one d o (OfGroup ns true) tt (and_more (expression_fit x right.1.1 _ (below d o) role.Condition) (λ next. group_fit g next.1 _ (in_group (length d) o)))
  basic_fit (ranged {r = r} {b = b} {n = n} t x c g) right d o ns =
      and_more (gives _ (begun_added d o ns b (naming r n)) ((temporary_right t right.1.1).1.1))
      (λ begun. and_more (span_fit x begun _ (around_for d o b)) (λ guarded. and_more (guard_fit c guarded (around_for d o b) _) (λ next. group_fit g next.1 _ (around_for d o b))))
  basic_fit (left {p = p} {n = n} x) right d o ns = gives _ (one d o (OfExit p n) tt) (name_end_right x right.1)
  basic_fit (repeated {p = p} {n = n} x) right d o ns = gives _ (one d o (OfRepeat p n) tt) (name_end_right x right.1)
  basic_fit (returned {p = p}) right d o ns = gives _ (one d o (OfReturn p None) tt) right.1.1
  basic_fit (returned_value {p = p} {t = t} x) right d o ns = behind_one d o (OfReturn p (Some t)) tt (past (expression_fit x right.1 _ (below d o) role.Returned))
  basic_fit (calls {q = q} {n = n} {ts = ts} {xs = xs} x y) right d o ns =
      behind_one d o (OfCall (naming q n) ts xs) tt (and_more (arguments_fit x right.1.1 _ (below d o) role.Input) (λ next. past (outputs_fit y next (below d o) _)))
  basic_fit (inputs {p = p} x y) right d o ns =
      behind_one d o (OfRead p) tt (and_more (expression_fit x right.1.1 _ (below d o) role.Channel) (λ next. past (receivers_fit y next.1 (below d o) role.Receiver _)))
  basic_fit (outputs_nothing {p = p} x) right d o ns = behind_one d o (OfWrite p) tt (past (past (expression_fit x right.1.1 _ (below d o) role.Channel)))
  basic_fit (outputs {p = p} x y) right d o ns =
      behind_one d o (OfWrite p) tt (and_more (expression_fit x right.1.1 _ (below d o) role.Channel) (λ next. past (expressions_fit y next.1 _ (below d o) role.Item)))
  basic_fit (updates {p = p} {n = n} x y) right d o ns =
      behind_one d o (OfUpdate p ns) tt (and_more (statements_fit x right.1.1 _ (updated (length d) o)) (λ next. (gives _ (close_added (updated (length d) o) _ n) (name_end_right y next.1))))
  basic_fit (scheduled {p = p} s) right d o ns = behind_one d o (OfRealTime p) tt (schedule_fit s right.1 _ (below d o))
  basic_fit (cancelled_itself {p = p}) right d o ns = gives _ (one d o (OfRealTime p) tt) right.1.1
  basic_fit (cancelled {p = p} {ns = ks} x) right d o ns = gives _ (then_ (one d o (OfRealTime p) tt) (processes_added (below d o) _ ks)) ((names_right x right.1).1)
  basic_fit (terminated_itself {p = p}) right d o ns = gives _ (one d o (OfRealTime p) tt) right.1.1
  basic_fit (terminated {p = p} {ns = ks} x) right d o ns = gives _ (then_ (one d o (OfRealTime p) tt) (processes_added (below d o) _ ks)) ((names_right x right.1).1)
  basic_fit (waits {p = p} x) right d o ns = behind_one d o (OfRealTime p) tt (past (expression_fit x right.1 _ (below d o) role.Time))
  basic_fit (waits_until {p = p} x) right d o ns = behind_one d o (OfRealTime p) tt (past (expression_fit x right.1.1 _ (below d o) role.Time))
  basic_fit (waits_for_dependents {p = p}) right d o ns = gives _ (one d o (OfRealTime p) tt) right.1.1.1.1
  basic_fit (waits_for {p = p} x) right d o ns = behind_one d o (OfRealTime p) tt (past (expression_fit x right.1.1 _ (below d o) role.Event))
  basic_fit (acts {e = e} x) right d o ns = gives _ (one d o (OfEvent e) tt) ((event_right x right).1)
  basic_fit (prioritizes {p = p} x y) right d o ns =
      behind_one d o (OfRealTime p) tt (and_more (name_fit x right.1.1 (below d o) _) (λ next. past (expression_fit y next.1 _ (below d o) role.Priority)))
  basic_fit (handles {p = p} {x = x} y s) right d o ns = behind_one d o (OfHandler p x) tt (statement_fit s (selector_right y right.1.1) _ (inside o))
  basic_fit (answers {p = p} {x = x} y r e) right d o ns = behind_one d o (OfResponse p x) tt (event_end_fit e (response_right r (selector_right y right.1.1)) (below d o) _)
  basic_fit (forgets {p = p} {x = x} y) right d o ns = gives _ (one d o (OfOffError p x) tt) ((selector_right y right.1.1).1)
  basic_fit (sends {g = g} {m = m} {group = group} {number = number}) right d o ns = gives _ (one d o (OfSendError g group m number) tt) right.1.1.1.1.1.1.1.1.1

  alternative_fit : {x : Alternative} {b a : Words} → SpellsAlternative x b a → AreRightWords b → (d : List Phrase) (o : Around) → Gives d (gathered_alternative d o x) a
  alternative_fit (no_alternative h) right d o = gives _ (no_step d) right
  alternative_fit (otherwise s) right d o = statement_fit s right.1 d o

  group_fit : {g : Group} {b a : Words} → SpellsGroup g b a → AreRightWords b → (d : List Phrase) (o : Around) → Gives d (gathered_group d o g) a
  group_fit (groups {n = n} x y) right d o = and_more (statements_fit x right d o) (λ next. (gives _ (close_added o _ n) (name_end_right y next.1)))

  pub statements_fit : {ss : Statements} {b a : Words} → SpellsStatements ss b a → AreRightWords b → (d : List Phrase) (o : Around) → Gives d (gathered_statements d o ss) a
  statements_fit statements_end right d o = gives _ (no_step d) right
  statements_fit statements_close right d o = gives _ (no_step d) right
  statements_fit (statements_more x xs) right d o = and_more (statement_fit x right d o) (λ next. statements_fit xs next _ o)
