-- Each phrase of a statement takes a word at least, and each one that may be left out none at least.
use Rattle.std.proofs.Common.{◌<◌, ◌≤◌, List, length, arith, Option, Bool}
use Rattle.hal_grammar.specs.Leaves.{Naming}
use Rattle.hal_grammar.specs.Expressions.{Expression, Expressions, Reference}
use Rattle.hal_grammar.specs.Words.{Words}
use Rattle.hal_grammar.specs.Statements.{Guard, Span, Selector, Eventful, Response, Start, Cycle, Schedule, Statement, Basic, Alternative, Group, Statements}
use Rattle.hal_grammar.specs.SpellsExpressions.{SpellsReference}
use Rattle.hal_grammar.specs.SpellsDeclarations.{Parted}
use Rattle.hal_grammar.specs.SpellsStatements.{SpellsArguments, no_arguments, arguments, SpellsReceivers, no_receivers, receivers, SpellsGuard, no_guard, as_long, unless, SpellsStep, no_step, step, SpellsSpan, stepped, listed, SpellsSelector, every_error, group_alone, group_enclosed, group_colon, group_star, one_error, SpellsEvent, pulses, raises, lowers, SpellsResponse, by_system, ignored, SpellsEventEnd, no_event_end, event_end, SpellsStart, no_start, start_at, start_in, start_on, SpellsPriority, no_priority, priority, SpellsDependent, not_dependent, dependent, SpellsComma, no_comma, comma, SpellsCycle, no_cycle, cyclic, cyclic_every, cyclic_after, SpellsSchedule, scheduled_so, SpellsTemporary, not_temporary, temporary, SpellsNameOption, no_name, one_name, SpellsLabels, no_labels, more_labels, SpellsStatement, labelled, SpellsBasic, empty, assigned, chosen, grouped, selected, looped_while, looped_until, ranged, left, repeated, returned, returned_value, calls, inputs, outputs_nothing, outputs, updates, scheduled, cancelled_itself, cancelled, terminated_itself, terminated, waits, waits_until, waits_for_dependents, waits_for, acts, prioritizes, handles, answers, forgets, sends, SpellsAlternative, no_alternative, otherwise, SpellsGroup, groups, SpellsStatements, statements_end, statements_close, statements_more}
use Rattle.hal_grammar.proofs.Shorter.{expression_shorter, expressions_shorter, reference_shorter}
use Rattle.hal_grammar.proofs.Lists.{parted_shorter}
use Rattle.hal_grammar.proofs.ShorterDeclarations.{names_shorter, name_end_shorter}

pub references_shorter : {xs : List Reference} {b a : Words} → Parted SpellsReference xs b a → length a < length b
references_shorter d = parted_shorter (λ x b a d. reference_shorter d) d

pub arguments_shorter : {ts : Expressions} {b a : Words} → SpellsArguments ts b a → length a ≤ length b
arguments_shorter (no_arguments n) = omega arith
arguments_shorter (arguments d) = omega (arith, expressions_shorter d)

pub receivers_shorter : {xs : List Reference} {b a : Words} → SpellsReceivers xs b a → length a ≤ length b
receivers_shorter (no_receivers n) = omega arith
receivers_shorter (receivers d) = omega (arith, references_shorter d)

pub guard_shorter : {g : Option Guard} {b a : Words} → SpellsGuard g b a → length a ≤ length b
guard_shorter (no_guard n m) = omega arith
guard_shorter (as_long d) = omega (arith, expression_shorter d)
guard_shorter (unless d) = omega (arith, expression_shorter d)

pub step_shorter : {t : Option Expression} {b a : Words} → SpellsStep t b a → length a ≤ length b
step_shorter (no_step n) = omega arith
step_shorter (step d) = omega (arith, expression_shorter d)

pub span_shorter : {x : Span} {b a : Words} → SpellsSpan x b a → length a < length b
span_shorter (stepped d e s) = omega (arith, expression_shorter d, expression_shorter e, step_shorter s)
span_shorter (listed d) = expressions_shorter d

pub selector_shorter : {x : Selector} {b a : Words} → SpellsSelector x b a → length a ≤ length b
selector_shorter (every_error n) = omega arith
selector_shorter group_alone = omega arith
selector_shorter group_enclosed = omega arith
selector_shorter group_colon = omega arith
selector_shorter group_star = omega arith
selector_shorter one_error = omega arith

pub event_shorter : {e : Eventful} {b a : Words} → SpellsEvent e b a → length a < length b
event_shorter pulses = omega arith
event_shorter raises = omega arith
event_shorter lowers = omega arith

pub response_shorter : {r : Response} {b a : Words} → SpellsResponse r b a → length a < length b
response_shorter by_system = omega arith
response_shorter ignored = omega arith

pub event_end_shorter : {e : Option Eventful} {b a : Words} → SpellsEventEnd e b a → length a < length b
event_end_shorter no_event_end = omega arith
event_end_shorter (event_end d) = omega (arith, event_shorter d)

pub start_shorter : {s : Option Start} {b a : Words} → SpellsStart s b a → length a ≤ length b
start_shorter (no_start n m o) = omega arith
start_shorter (start_at d) = omega (arith, expression_shorter d)
start_shorter (start_in d) = omega (arith, expression_shorter d)
start_shorter (start_on d) = omega (arith, expression_shorter d)

pub priority_shorter : {t : Option Expression} {b a : Words} → SpellsPriority t b a → length a ≤ length b
priority_shorter (no_priority n) = omega arith
priority_shorter (priority d) = omega (arith, expression_shorter d)

pub dependent_shorter : {d : Bool} {b a : Words} → SpellsDependent d b a → length a ≤ length b
dependent_shorter (not_dependent n) = omega arith
dependent_shorter dependent = omega arith

pub comma_shorter : {b a : Words} → SpellsComma b a → length a ≤ length b
comma_shorter (no_comma n) = omega arith
comma_shorter comma = omega arith

pub cycle_shorter : {c : Option Cycle} {b a : Words} → SpellsCycle c b a → length a ≤ length b
cycle_shorter (no_cycle n m) = omega arith
cycle_shorter (cyclic d n m) = omega (arith, comma_shorter d)
cycle_shorter (cyclic_every d e) = omega (arith, comma_shorter d, expression_shorter e)
cycle_shorter (cyclic_after d e) = omega (arith, comma_shorter d, expression_shorter e)

pub schedule_shorter : {s : Schedule} {b a : Words} → SpellsSchedule s b a → length a < length b
schedule_shorter (scheduled_so s t d c g) = omega (arith, start_shorter s, priority_shorter t, dependent_shorter d, cycle_shorter c, guard_shorter g)

pub temporary_shorter : {t : Bool} {b a : Words} → SpellsTemporary t b a → length a ≤ length b
temporary_shorter (not_temporary n) = omega arith
temporary_shorter temporary = omega arith

pub name_option_shorter : {n : Option Naming} {b a : Words} → SpellsNameOption n b a → length a ≤ length b
name_option_shorter no_name = omega arith
name_option_shorter one_name = omega arith

pub labels_shorter : {ns : List Naming} {b a : Words} → SpellsLabels ns b a → length a ≤ length b
labels_shorter (no_labels n) = omega arith
labels_shorter (more_labels d) = omega (arith, labels_shorter d)

mutual
  pub statement_shorter : {s : Statement} {b a : Words} → SpellsStatement s b a → length a < length b
  statement_shorter (labelled ls d) = omega (arith, labels_shorter ls, basic_shorter d)

  pub basic_shorter : {x : Basic} {b a : Words} → SpellsBasic x b a → length a < length b
  basic_shorter empty = omega arith
  basic_shorter (assigned d e) = omega (arith, references_shorter d, expression_shorter e)
  basic_shorter (chosen d s e) = omega (arith, expression_shorter d, statement_shorter s, alternative_shorter e)
  basic_shorter (grouped g) = omega (arith, group_shorter g)
  basic_shorter (selected d e g) = omega (arith, expression_shorter d, alternative_shorter e, group_shorter g)
  basic_shorter (looped_while d g) = omega (arith, expression_shorter d, group_shorter g)
  basic_shorter (looped_until d g) = omega (arith, expression_shorter d, group_shorter g)
  basic_shorter (ranged t x c g) = omega (arith, temporary_shorter t, span_shorter x, guard_shorter c, group_shorter g)
  basic_shorter (left n) = omega (arith, name_end_shorter n)
  basic_shorter (repeated n) = omega (arith, name_end_shorter n)
  basic_shorter returned = omega arith
  basic_shorter (returned_value d) = omega (arith, expression_shorter d)
  basic_shorter (calls d e) = omega (arith, arguments_shorter d, receivers_shorter e)
  basic_shorter (inputs d e) = omega (arith, expression_shorter d, references_shorter e)
  basic_shorter (outputs_nothing d) = omega (arith, expression_shorter d)
  basic_shorter (outputs d e) = omega (arith, expression_shorter d, expressions_shorter e)
  basic_shorter (updates b n) = omega (arith, statements_shorter b, name_end_shorter n)
  basic_shorter (scheduled s) = omega (arith, schedule_shorter s)
  basic_shorter cancelled_itself = omega arith
  basic_shorter (cancelled d) = omega (arith, names_shorter d)
  basic_shorter terminated_itself = omega arith
  basic_shorter (terminated d) = omega (arith, names_shorter d)
  basic_shorter (waits d) = omega (arith, expression_shorter d)
  basic_shorter (waits_until d) = omega (arith, expression_shorter d)
  basic_shorter waits_for_dependents = omega arith
  basic_shorter (waits_for d) = omega (arith, expression_shorter d)
  basic_shorter (acts e) = omega (arith, event_shorter e)
  basic_shorter (prioritizes n d) = omega (arith, name_option_shorter n, expression_shorter d)
  basic_shorter (handles x s) = omega (arith, selector_shorter x, statement_shorter s)
  basic_shorter (answers x r e) = omega (arith, selector_shorter x, response_shorter r, event_end_shorter e)
  basic_shorter (forgets x) = omega (arith, selector_shorter x)
  basic_shorter sends = omega arith

  pub alternative_shorter : {x : Alternative} {b a : Words} → SpellsAlternative x b a → length a ≤ length b
  alternative_shorter (no_alternative n) = omega arith
  alternative_shorter (otherwise s) = omega (arith, statement_shorter s)

  pub group_shorter : {g : Group} {b a : Words} → SpellsGroup g b a → length a < length b
  group_shorter (groups d n) = omega (arith, statements_shorter d, name_end_shorter n)

  pub statements_shorter : {ss : Statements} {b a : Words} → SpellsStatements ss b a → length a ≤ length b
  statements_shorter statements_end = omega arith
  statements_shorter statements_close = omega arith
  statements_shorter (statements_more d ds) = omega (arith, statement_shorter d, statements_shorter ds)
