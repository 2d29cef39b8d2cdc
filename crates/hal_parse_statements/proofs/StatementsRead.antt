-- Statements: what is read is spelled, and what is spelled is read.
use Rattle.std.proofs.Common.{◌≡◌, ℕ, zero, suc, ◌≤◌, List, [], ◌∷◌, Option, Some, None, refl, ap, ◌∙◌, arith}
use Rattle.hal_base.specs.declared.refusal.Place.{Place}
use Rattle.hal_words.specs.declared.reserved.Reserved.TheVariants as reserved
use Rattle.hal_words.specs.declared.word.Symbol.TheVariants as symbol
use Rattle.hal_words.specs.declared.word.Word.{Word}
use Rattle.hal_words.specs.declared.word.Word.TheVariants as word
use Rattle.hal_grammar.specs.Leaves.{Naming, naming}
use Rattle.hal_grammar.specs.Expressions.{Expression, nesting}
use Rattle.hal_grammar.specs.SpellsExpressions.{SpellsExpression}
use Rattle.hal_grammar.specs.Statements.{Signal, Set, Reset, Eventful, Statement, Labelled, Basic, Cancel, Terminate, Event, UpdatePriority, nesting_of_statement, nesting_of_basic}
use Rattle.hal_grammar.specs.Words.{Words, token, reserved_then, symbol_then}
use Rattle.hal_grammar.specs.SpellsStatements.{SpellsNameOption, SpellsEvent, pulses, raises, lowers, BeginsLabel, begins_label, SpellsLabels, no_labels, more_labels, SpellsStatement, labelled, SpellsBasic, empty, assigned, chosen, grouped, selected, looped_while, looped_until, ranged, left, repeated, returned, returned_value, calls, inputs, outputs_nothing, outputs, updates, scheduled, cancelled_itself, cancelled, terminated_itself, terminated, waits, waits_until, waits_for_dependents, waits_for, acts, prioritizes, handles, answers, forgets, sends}
use Rattle.hal_grammar.proofs.LeftOut.{basic_no_label}
use Rattle.hal_parse_expr.specs.Reading.{Reader, past, is_reserved, where_true, past_symbol, is_symbol, made_of}
use Rattle.hal_parse_expr.proofs.Shortening.{all_none}
use Rattle.hal_parse_declarations.specs.ReadingDeclarations.{where_left, label_at}
use Rattle.hal_parse_declarations.specs.ReadingNames.{labels_at}
use Rattle.hal_parse_statements.specs.ReadingStatements.{update_of, reserved_behind, basic_behind, basic_of, statement_of, statement_at, statement_below}
use Rattle.hal_parse_expr.proofs.Readings.{Holds, holds_none, holds, weaker_holds}
use Rattle.hal_parse_expr.proofs.Combining.{made_holds}
use Rattle.hal_parse_declarations.proofs.Decided.{nothing_read}
use Rattle.hal_parse_expr.proofs.Equations.{made_equals}
use Rattle.hal_parse_declarations.proofs.Becomes.{followed_is, decided_not}
use Rattle.hal_parse_declarations.proofs.Chains.{Chain, chain_end, chain_more, all_chain, all_first}
use Rattle.hal_parse_declarations.proofs.LeavesRead.{name_end_gives, name_end_is}
use Rattle.hal_parse_declarations.proofs.DeclarationsRead.{SpellsLabel, one_label, label_gives, label_is, label_shortens}
use Rattle.hal_parse_statements.proofs.SchedulesRead.{schedule_gives, schedule_is}
use Rattle.hal_parse_statements.proofs.SimpleRead.{BasicOf, NamesEnd, no_names, some_names, names_end_gives, names_end_is, assigned_gives, assigned_is, returned_gives, nothing_returned, value_returned, call_gives, call_is, read_gives, read_is, write_gives, nothing_written, items_written, wait_gives, time_waited, waited_until, dependents_waited, event_waited, Acting, acting, acts_gives, acts_is, prioritizes_is, forgets_gives, forgets_is, sends_gives, sends_is}
use Rattle.hal_parse_statements.proofs.GroupsRead.{Inside, if_gives, if_is, do_gives, group_done, case_done, while_done, until_done, for_done, update_gives, update_is, on_gives, statement_handled, response_handled}

cancels : {n : ℕ} {ns : List Naming} {p : Place} {b a : Words} → NamesEnd ns b a → BasicOf n (Cancel p ns) (reserved_then reserved.Cancel p b) a
cancels no_names = (cancelled_itself, omega arith)
cancels (some_names d) = (cancelled d, omega arith)

terminates : {n : ℕ} {ns : List Naming} {p : Place} {b a : Words} → NamesEnd ns b a → BasicOf n (Terminate p ns) (reserved_then reserved.Terminate p b) a
terminates no_names = (terminated_itself, omega arith)
terminates (some_names d) = (terminated d, omega arith)

signals : {n : ℕ} {x : Basic} {p : Place} {b a : Words} → Acting p Signal x b a → BasicOf n x (reserved_then reserved.Signal p b) a
signals acting = (acts pulses, omega arith)

sets : {n : ℕ} {x : Basic} {p : Place} {b a : Words} → Acting p Set x b a → BasicOf n x (reserved_then reserved.Set p b) a
sets acting = (acts raises, omega arith)

resets : {n : ℕ} {x : Basic} {p : Place} {b a : Words} → Acting p Reset x b a → BasicOf n x (reserved_then reserved.Reset p b) a
resets acting = (acts lowers, omega arith)

reserved_gives : {n : ℕ} {inner : Option (Reader Statement)} → Inside n inner → (p : Place) (w : Word) (words : Words) →
    Holds (λ x rest. BasicOf n x (token w p ∷ words) rest) (reserved_behind n inner p w words)
unfolding reserved_behind
reserved_gives ins p (word.Reserved reserved.If) words = if_gives ins p words
reserved_gives ins p (word.Reserved reserved.Do) words = do_gives ins p words
reserved_gives ins p (word.Reserved reserved.Exit) words = made_holds _ (name_end_gives words) (λ x rest d. (left d, omega arith))
reserved_gives ins p (word.Reserved reserved.Repeat) words = made_holds _ (name_end_gives words) (λ x rest d. (repeated d, omega arith))
reserved_gives {n = n} ins p (word.Reserved reserved.Return) words = returned_gives n p words
reserved_gives {n = n} ins p (word.Reserved reserved.Call) words = call_gives n p words
reserved_gives {n = n} ins p (word.Reserved reserved.Read) words = read_gives n p words
reserved_gives {n = n} ins p (word.Reserved reserved.Write) words = write_gives n p words
reserved_gives ins p (word.Reserved reserved.Update) words = update_gives ins p words
reserved_gives {n = n} ins p (word.Reserved reserved.Schedule) words = made_holds _ (schedule_gives n words) (λ s rest d. (scheduled d.0, d.1))
reserved_gives ins p (word.Reserved reserved.Cancel) words = made_holds _ (names_end_gives words) (λ ns rest d. cancels d)
reserved_gives ins p (word.Reserved reserved.Terminate) words = made_holds _ (names_end_gives words) (λ ns rest d. terminates d)
reserved_gives {n = n} ins p (word.Reserved reserved.Wait) words = wait_gives n p words
reserved_gives ins p (word.Reserved reserved.Signal) words = weaker_holds (acts_gives p Signal words) (λ x rest d. signals d)
reserved_gives ins p (word.Reserved reserved.Set) words = weaker_holds (acts_gives p Set words) (λ x rest d. sets d)
reserved_gives ins p (word.Reserved reserved.Reset) words = weaker_holds (acts_gives p Reset words) (λ x rest d. resets d)
reserved_gives ins p (word.Reserved reserved.On) words = on_gives ins p words
reserved_gives {n = n} ins p (word.Reserved reserved.Off) words = forgets_gives n p words
reserved_gives {n = n} ins p (word.Reserved reserved.Send) words = sends_gives n p words
reserved_gives ins p other words = holds_none

behind_gives : {n : ℕ} {inner : Option (Reader Statement)} → Inside n inner → (p : Place) (w : Word) (words : Words) →
    Holds (λ x rest. BasicOf n x (token w p ∷ words) rest) (basic_behind n inner (token w p ∷ words) p w words)
unfolding basic_behind
behind_gives ins p (word.Symbol symbol.Semicolon) words = holds (empty, omega arith)
behind_gives {n = n} ins p (word.Name m) words = assigned_gives n m p words
behind_gives ins p other words = reserved_gives ins p other words

basic_gives : {n : ℕ} {inner : Option (Reader Statement)} → Inside n inner → (words : Words) → Holds (λ x rest. BasicOf n x words rest) (basic_of n inner words)
unfolding basic_of
basic_gives ins [] = holds_none
basic_gives ins (first ∷ rest) = behind_gives ins first.place first.word rest

event_acts : (n : ℕ) (inner : Option (Reader Statement)) {e : Eventful} {b : Words} {q : Place} {a : Words} → SpellsEvent e b (symbol_then symbol.Semicolon q a) → basic_of n inner b ≡ Some (Event e, a)
unfolding basic_of basic_behind reserved_behind
event_acts n inner pulses = acts_is acting
event_acts n inner raises = acts_is acting
event_acts n inner lowers = acts_is acting

priority_done : (n : ℕ) (inner : Option (Reader Statement)) (p q : Place) {x : Option Naming} {t : Expression} {b : Words} {r : Place} {m : Words} {s : Place} {a : Words} →
    SpellsNameOption x b (reserved_then reserved.To r m) → SpellsExpression t m (symbol_then symbol.Semicolon s a) → nesting t ≤ n →
    update_of n inner p (reserved_then reserved.Priority q b) ≡ Some (UpdatePriority p x t, a)
unfolding update_of past is_reserved past_symbol is_symbol where_true
priority_done n inner p q d e h = decided_not _ _ refl ∙ followed_is _ refl ∙ prioritizes_is n p d e h

basic_is : {n : ℕ} {inner : Option (Reader Statement)} → Inside n inner → {x : Basic} {b a : Words} → SpellsBasic x b a → nesting_of_basic x ≤ n → basic_of n inner b ≡ Some (x, a)
unfolding basic_of basic_behind reserved_behind
basic_is ins empty h = refl
basic_is {n = n} ins (assigned {p = p} d e) h = assigned_is n p (d, omega arith) e (omega arith)
basic_is ins (chosen {p = p} d e f) h = if_is ins p d e f h
basic_is ins (grouped {p = p} {q = q} d) h = group_done ins p q d h
basic_is ins (selected {p = p} {q = q} d e f) h = case_done ins p q d e f h
basic_is ins (looped_while {p = p} {q = q} d e) h = while_done ins p q d e (omega arith) (omega arith)
basic_is ins (looped_until {p = p} {q = q} d e) h = until_done ins p q d e (omega arith) (omega arith)
basic_is ins (ranged {p = p} {q = q} {r = r} {n = m} t s c g) h = for_done ins p q (naming r m) t s c g h
basic_is ins (left d) h = made_equals _ (name_end_is d)
basic_is ins (repeated d) h = made_equals _ (name_end_is d)
basic_is {n = n} ins (returned {p = p} {q = q} {after = after}) h = nothing_returned n p q after
basic_is {n = n} ins (returned_value {p = p} d) h = value_returned n p d h
basic_is {n = n} ins (calls {p = p} {q = q} {n = m} d e) h = call_is n p q m d e (omega arith) (omega arith)
basic_is {n = n} ins (inputs {p = p} {q = q} d e) h = read_is n p q d (omega arith) (e, omega arith)
basic_is {n = n} ins (outputs_nothing {p = p} {q = q} d) h = nothing_written n p q d (omega arith)
basic_is {n = n} ins (outputs {p = p} {q = q} d e) h = items_written n p q d (omega arith) e (omega arith)
basic_is ins (updates {p = p} {q = q} d e) h = update_is ins p q d e h
basic_is {n = n} ins (scheduled d) h = made_equals _ (schedule_is n d h)
basic_is ins cancelled_itself h = made_equals _ (names_end_is no_names)
basic_is ins (cancelled d) h = made_equals _ (names_end_is (some_names d))
basic_is ins terminated_itself h = made_equals _ (names_end_is no_names)
basic_is ins (terminated d) h = made_equals _ (names_end_is (some_names d))
basic_is {n = n} ins (waits {p = p} d) h = time_waited n p d h
basic_is {n = n} ins (waits_until {p = p} {q = q} d) h = waited_until n p q d h
basic_is {n = n} ins (waits_for_dependents {p = p} {q = q} {r = r} {s = s} {after = after}) h = dependents_waited n p q r s after
basic_is {n = n} ins (waits_for {p = p} {q = q} d) h = event_waited n p q d h
basic_is {n = n} {inner = inner} ins (acts d) h = event_acts n inner d
basic_is {n = n} {inner = inner} ins (prioritizes {p = p} {q = q} d e) h = priority_done n inner p q d e h
basic_is ins (handles {p = p} {q = q} d e) h = statement_handled ins p q d e h
basic_is {inner = inner} ins (answers {p = p} {q = q} d e f) h = response_handled inner p q d e f
basic_is ins (forgets {p = p} {q = q} d) h = forgets_is p q d
basic_is ins (sends {p = p} {q = q} {d = d} {l = l} {g = g} {c = c} {m = m} {r = r} {s = s} {group = group} {number = number} {after = after}) h = sends_is p q d l g c m r s group number after

-- labels
labels_spelled : {ns : List Naming} {b a : Words} → Chain SpellsLabel ns b a → ¬ BeginsLabel a → SpellsLabels ns b a
labels_spelled chain_end h = no_labels h
labels_spelled (chain_more one_label c) h = more_labels (labels_spelled c h)

labels_chain : (words : Words) → Chain SpellsLabel (labels_at words).0 words (labels_at words).1
unfolding labels_at
labels_chain words = all_chain label_at label_gives words

label_begins : {x : Naming} {b a : Words} → SpellsLabel x b a → BeginsLabel b
label_begins one_label = begins_label

labels_are : {ns : List Naming} {b a : Words} → SpellsLabels ns b a → labels_at b ≡ (ns, a)
unfolding labels_at
labels_are (no_labels {after = after} h) = all_none label_at after (nothing_read (label_gives after) (λ x rest d. h (label_begins d)))
labels_are (more_labels ds) = all_first label_at label_shortens (label_is one_label) (labels_are ds)

-- a statement that is nested so deep at most
abbrev pub StatementOf : ℕ → Statement → Words → Words → Type 0
StatementOf n s b a = SpellsStatement s b a × (nesting_of_statement s ≤ n)

statement_so : {n : ℕ} {inner : Option (Reader Statement)} → Inside n inner → (words : Words) → Holds (λ s rest. StatementOf n s words rest) (statement_of n inner words)
unfolding statement_of
statement_so ins words =
    made_holds _ (basic_gives ins (labels_at words).1) (λ x rest d. (labelled (labels_spelled (labels_chain words) (λ l. basic_no_label d.0 l)) d.0, d.1))

statement_found : {n : ℕ} {inner : Option (Reader Statement)} → Inside n inner → {s : Statement} {b a : Words} → SpellsStatement s b a → nesting_of_statement s ≤ n →
    statement_of n inner b ≡ Some (s, a)
unfolding statement_of
statement_found {n = n} {inner = inner} ins (labelled ls d) h = ap (λ l. made_of (λ x. Labelled l.0 x) (basic_of n inner l.1)) (labels_are ls) ∙ made_equals _ (basic_is ins d h)

-- nothing stands inside at the last level
nothing_inside : Inside 0 None
unfolding where_left
nothing_inside = record { level = refl; sound = λ words. holds_none; full = λ s b a d. absurd (omega (arith, d.1)) }

-- both, of one depth
record Exactly (n : ℕ) : Type 0 where
  sound : (words : Words) → Holds (λ s rest. StatementOf n s words rest) (statement_at n words)
  full : (s : Statement) (b a : Words) → StatementOf n s b a → statement_at n b ≡ Some (s, a)

inside_of : (n : ℕ) → Exactly n → Inside (suc n) (Some (statement_at n))
unfolding where_left
inside_of n x = record {
  level = omega arith;
  sound = λ words. weaker_holds (x.sound words) (λ s rest d. (d.0, omega (arith, d.1)));
  full = λ s b a d. x.full s b a (d.0, omega (arith, d.1));
}

exactly : (n : ℕ) → Exactly n
unfolding statement_at
exactly zero = record { sound = λ words. statement_so nothing_inside words; full = λ s b a d. statement_found nothing_inside d.0 d.1 }
exactly (suc n) = let ins = inside_of n (exactly n) in record { sound = λ words. statement_so ins words; full = λ s b a d. statement_found ins d.0 d.1 }

-- what is read of a statement is spelled
pub statement_gives : (n : ℕ) (words : Words) → Holds (λ s rest. StatementOf n s words rest) (statement_at n words)
statement_gives n words = (exactly n).sound words

-- what is spelled as a statement is read
pub statement_is : (n : ℕ) {s : Statement} {b a : Words} → SpellsStatement s b a → nesting_of_statement s ≤ n → statement_at n b ≡ Some (s, a)
statement_is n {s = s} {b = b} {a = a} d h = (exactly n).full s b a (d, h)

-- each that may stand inside is read exactly
pub below_inside : (n : ℕ) → Inside n (statement_below n)
unfolding statement_below
below_inside zero = nothing_inside
below_inside (suc n) = inside_of n (exactly n)
