-- Statements that hold no others: what is read is spelled, and what is spelled is read.
use Rattle.std.proofs.Common.{◌≡◌, ℕ, ◌≤◌, List, [], Option, Some, None, Bool, refl, ◌∙◌, arith}
use Rattle.hal_base.specs.declared.refusal.Place.{Place}
use Rattle.hal_words.specs.declared.reserved.Reserved.TheVariants as reserved
use Rattle.hal_words.specs.declared.word.Symbol.TheVariants as symbol
use Rattle.hal_grammar.specs.Leaves.{Naming, naming}
use Rattle.hal_grammar.specs.Expressions.{Expression, Expressions, NoExpressions, Reference, nesting, nesting_of_all}
use Rattle.hal_grammar.specs.Statements.{Selector, EventAction, eventful, Basic, Assignment, Return, Call, Read, Write, Wait, WaitUntil, WaitForDependent, WaitFor, Event, UpdatePriority, OffError, SendError, nesting_of_arguments, nesting_of_receivers, nesting_of_basic}
use Rattle.hal_grammar.specs.Words.{Words, reserved_then, symbol_then, name_then, integer_then}
use Rattle.hal_grammar.specs.SpellsExpressions.{SpellsExpression, SpellsExpressions}
use Rattle.hal_grammar.specs.SpellsDeclarations.{SpellsNames, last_name, more_names}
use Rattle.hal_grammar.specs.SpellsStatements.{SpellsArguments, SpellsReceivers, SpellsSelector, SpellsTemporary, not_temporary, temporary, SpellsNameOption, no_name, one_name, SpellsBasic, assigned, returned, returned_value, calls, inputs, outputs_nothing, outputs, waits, waits_until, waits_for_dependents, waits_for, prioritizes, forgets, sends}
use Rattle.hal_grammar.proofs.Beginnings.{expression_strong, expressions_strong}
use Rattle.hal_parse_expr.specs.Reading.{past, is_reserved, where_true, past_symbol, is_symbol, name_at, integer_at, before_symbol, before, made_of}
use Rattle.hal_parse_expr.specs.ReadingExpressions.{expression_at}
use Rattle.hal_parse_declarations.specs.ReadingNames.{name_option_at, names_end_at}
use Rattle.hal_parse_statements.specs.ReadingStatements.{expression_end, references_at, temporary_at, assigned_at, returned_at, call_behind, call_at, read_at, items_end_at, write_at, wait_for_at, wait_at, acts_at, prioritizes_at, forgets_at, error_sent, sends_at}
use Rattle.hal_parse_expr.proofs.FirstWords.{past_none, past_symbol_here}
use Rattle.hal_parse_expr.proofs.Readings.{Holds, holds, weaker_holds}
use Rattle.hal_parse_expr.proofs.Combining.{followed_holds, made_holds}
use Rattle.hal_parse_declarations.proofs.Decided.{decided_holds}
use Rattle.hal_parse_declarations.proofs.Firsts.{name_gives, integer_gives, past_gives, symbol_gives, not_begun, gives_before, Enclosed, enclosed_so, gives_enclosed, Ended, ended, gives_ended}
use Rattle.hal_parse_declarations.proofs.FirstWeak.{no_weak_symbol, no_weak_reserved}
use Rattle.hal_parse_expr.proofs.Equations.{made_equals}
use Rattle.hal_parse_declarations.proofs.Becomes.{followed_is, decided_is, decided_not, before_symbol_is, before_is, past_is, enclosed_is}
use Rattle.hal_parse_declarations.proofs.LeavesRead.{SpellsName, a_name, name_spelled, names_give, names_are}
use Rattle.hal_parse_declarations.proofs.Below.{ExpressionOf, expression_gives, expressions_gives, expression_is, expressions_are}
use Rattle.hal_parse_statements.proofs.ConditionsRead.{ReferencesOf, references_give, references_are, arguments_give, arguments_are, receivers_give, receivers_are}
use Rattle.hal_parse_statements.proofs.ErrorsRead.{selector_gives, selector_is}

-- a statement without labels that is nested so deep at most
abbrev pub BasicOf : ℕ → Basic → Words → Words → Type 0
BasicOf n x b a = SpellsBasic x b a × (nesting_of_basic x ≤ n)

pub expression_end_gives : (n : ℕ) (words : Words) → Holds (λ t rest. Ended symbol.Semicolon (ExpressionOf n) t words rest) (expression_end n words)
unfolding expression_end
expression_end_gives n words = gives_ended symbol.Semicolon words (expression_gives n words)

pub expression_end_is : (n : ℕ) {t : Expression} {b : Words} {q : Place} {a : Words} → SpellsExpression t b (symbol_then symbol.Semicolon q a) → nesting t ≤ n → expression_end n b ≡ Some (t, a)
unfolding expression_end
expression_end_is n d l = before_symbol_is (expression_is n d l (omega arith))

references_end_is : (n : ℕ) {xs : List Reference} {b : Words} {q : Place} {a : Words} → ReferencesOf n xs b (symbol_then symbol.Semicolon q a) →
    before_symbol symbol.Semicolon (references_at n b) ≡ Some (xs, a)
references_end_is n d = before_symbol_is (references_are n d.0 d.1 (omega arith) (λ e. elim e [ ]))

pub temporary_gives : (words : Words) → Holds (λ b rest. SpellsTemporary b words rest) (temporary_at words)
unfolding temporary_at
temporary_gives words = decided_holds (past_gives reserved.Temporary words) (λ p rest e. holds (rw e temporary)) (λ e. holds (not_temporary (not_begun reserved.Temporary words e)))

pub temporary_is : {d : Bool} {b a : Words} → SpellsTemporary d b a → temporary_at b ≡ Some (d, a)
unfolding temporary_at past is_reserved where_true
temporary_is (not_temporary {after = after} h) = decided_not _ _ (past_none reserved.Temporary after h)
temporary_is temporary = decided_is _ _ refl

-- names and a semicolon, or a semicolon alone
pub data NamesEnd : List Naming → Words → Words → Type 0 where
  no_names : {q : Place} {a : Words} → NamesEnd [] (symbol_then symbol.Semicolon q a) a
  some_names : {ns : List Naming} {q : Place} {b a : Words} → SpellsNames ns b (symbol_then symbol.Semicolon q a) → NamesEnd ns b a

names_ended : {ns : List Naming} {b a : Words} → Ended symbol.Semicolon SpellsNames ns b a → NamesEnd ns b a
names_ended (ended d) = some_names d

pub names_end_gives : (words : Words) → Holds (λ ns rest. NamesEnd ns words rest) (names_end_at words)
unfolding names_end_at
names_end_gives words =
    decided_holds (symbol_gives symbol.Semicolon words) (λ p rest e. holds (rw e no_names)) (λ e. weaker_holds (gives_ended symbol.Semicolon words (names_give words)) (λ ns rest d. names_ended d))

names_not_ended : {ns : List Naming} {b a : Words} → SpellsNames ns b a → past_symbol symbol.Semicolon b ≡ None
unfolding past_symbol is_symbol where_true
names_not_ended last_name = refl
names_not_ended (more_names ds) = refl

pub names_end_is : {ns : List Naming} {b a : Words} → NamesEnd ns b a → names_end_at b ≡ Some (ns, a)
unfolding names_end_at
names_end_is (no_names {q = q} {a = a}) = decided_is _ _ (past_symbol_here symbol.Semicolon q a)
names_end_is (some_names d) = decided_not _ _ (names_not_ended d) ∙ before_symbol_is (names_are d (λ e. elim e [ ]))

assigned_spelled : {n : ℕ} {m : List ℕ} {xs : List Reference} {t : Expression} {p : Place} {b c a : Words} → Ended symbol.Equals (ReferencesOf n) xs (name_then m p b) c →
    Ended symbol.Semicolon (ExpressionOf n) t c a → BasicOf n (Assignment p xs t) (name_then m p b) a
assigned_spelled (ended d) (ended e) = (assigned d.0 e.0, omega (arith, d.1, e.1))

pub assigned_gives : (n : ℕ) (m : List ℕ) (p : Place) (words : Words) → Holds (λ x rest. BasicOf n x (name_then m p words) rest) (assigned_at n p (name_then m p words))
unfolding assigned_at
assigned_gives n m p words =
    followed_holds (gives_ended symbol.Equals (name_then m p words) (references_give n (name_then m p words)))
    (λ xs rest d. made_holds _ (expression_end_gives n rest) (λ t after e. assigned_spelled d e))

pub assigned_is : (n : ℕ) (p : Place) {xs : List Reference} {t : Expression} {b : Words} {q : Place} {m : Words} {r : Place} {a : Words} →
    ReferencesOf n xs b (symbol_then symbol.Equals q m) → SpellsExpression t m (symbol_then symbol.Semicolon r a) → nesting t ≤ n → assigned_at n p b ≡ Some (Assignment p xs t, a)
unfolding assigned_at
assigned_is n p d e l = followed_is _ (before_symbol_is (references_are n d.0 d.1 (omega arith) (λ e. elim e [ ]))) ∙ made_equals _ (expression_end_is n e l)

returned_spelled : {n : ℕ} {t : Expression} {p : Place} {b a : Words} → Ended symbol.Semicolon (ExpressionOf n) t b a → BasicOf n (Return p (Some t)) (reserved_then reserved.Return p b) a
returned_spelled (ended d) = (returned_value d.0, d.1)

pub returned_gives : (n : ℕ) (p : Place) (words : Words) → Holds (λ x rest. BasicOf n x (reserved_then reserved.Return p words) rest) (returned_at n p words)
unfolding returned_at
returned_gives n p words =
    decided_holds (symbol_gives symbol.Semicolon words) (λ q rest e. holds (rw e returned, omega arith)) (λ e. made_holds _ (expression_end_gives n words) (λ t rest d. returned_spelled d))

pub nothing_returned : (n : ℕ) (p q : Place) (words : Words) → returned_at n p (symbol_then symbol.Semicolon q words) ≡ Some (Return p None, words)
unfolding returned_at
nothing_returned n p q words = decided_is _ _ (past_symbol_here symbol.Semicolon q words)

pub value_returned : (n : ℕ) (p : Place) {t : Expression} {b : Words} {q : Place} {a : Words} → SpellsExpression t b (symbol_then symbol.Semicolon q a) → nesting t ≤ n →
    returned_at n p b ≡ Some (Return p (Some t), a)
unfolding returned_at
value_returned n p {b = b} d l = decided_not _ _ (no_weak_symbol symbol.Semicolon b (omega arith) (expression_strong d)) ∙ made_equals _ (expression_end_is n d l)

-- receivers that are nested so deep at most
abbrev ReceiversOf : ℕ → List Reference → Words → Words → Type 0
ReceiversOf n xs b a = SpellsReceivers xs b a × (nesting_of_receivers xs ≤ n)

call_spelled : {n : ℕ} {x : Naming} {ts : Expressions} {xs : List Reference} {p : Place} {b m a : Words} → SpellsArguments ts b m → nesting_of_arguments ts ≤ n →
    Ended symbol.Semicolon (ReceiversOf n) xs m a → BasicOf n (Call p x ts xs) (reserved_then reserved.Call p (name_then x.name x.place b)) a
call_spelled d l (ended e) = (calls d e.0, omega (arith, l, e.1))

call_behind_gives : (n : ℕ) (p : Place) (x : Naming) (words : Words) →
    Holds (λ y rest. BasicOf n y (reserved_then reserved.Call p (name_then x.name x.place words)) rest) (call_behind n p x words)
unfolding call_behind
call_behind_gives n p x words =
    followed_holds (arguments_give n words) (λ ts rest d. made_holds _ (gives_ended symbol.Semicolon rest (receivers_give n rest)) (λ xs after e. call_spelled d.0 d.1 e))

pub call_gives : (n : ℕ) (p : Place) (words : Words) → Holds (λ x rest. BasicOf n x (reserved_then reserved.Call p words) rest) (call_at n p words)
unfolding call_at
call_gives n p words = followed_holds (name_gives words) (λ x rest e. weaker_holds (call_behind_gives n p x rest) (λ y after d. rw e d))

pub call_is : (n : ℕ) (p q : Place) (m : List ℕ) {ts : Expressions} {xs : List Reference} {b c : Words} {r : Place} {a : Words} → SpellsArguments ts b c →
    SpellsReceivers xs c (symbol_then symbol.Semicolon r a) → nesting_of_arguments ts ≤ n → nesting_of_receivers xs ≤ n → call_at n p (name_then m q b) ≡ Some (Call p (naming q m) ts xs, a)
unfolding call_at call_behind name_at
call_is n p q m d e l k = followed_is _ refl ∙ followed_is _ (arguments_are n d l) ∙ made_equals _ (before_symbol_is (receivers_are n e k))

read_spelled : {n : ℕ} {t : Expression} {xs : List Reference} {p : Place} {b m a : Words} → Enclosed (ExpressionOf n) t b m → Ended symbol.Semicolon (ReferencesOf n) xs m a →
    BasicOf n (Read p t xs) (reserved_then reserved.Read p b) a
read_spelled (enclosed_so d) (ended e) = (inputs d.0 e.0, omega (arith, d.1, e.1))

pub read_gives : (n : ℕ) (p : Place) (words : Words) → Holds (λ x rest. BasicOf n x (reserved_then reserved.Read p words) rest) (read_at n p words)
unfolding read_at
read_gives n p words =
    followed_holds (gives_enclosed (expression_at n) words (expression_gives n))
    (λ t rest d. made_holds _ (gives_ended symbol.Semicolon rest (references_give n rest)) (λ xs after e. read_spelled d e))

pub read_is : (n : ℕ) (p q : Place) {t : Expression} {xs : List Reference} {b : Words} {r : Place} {m : Words} {s : Place} {a : Words} →
    SpellsExpression t b (symbol_then symbol.RightParenthesis r m) → nesting t ≤ n → ReferencesOf n xs m (symbol_then symbol.Semicolon s a) →
    read_at n p (symbol_then symbol.LeftParenthesis q b) ≡ Some (Read p t xs, a)
unfolding read_at
read_is n p q {b = b} d l e = followed_is _ (enclosed_is (expression_at n) q b (expression_is n d l (omega arith))) ∙ made_equals _ (references_end_is n e)

-- expressions and a semicolon, or a semicolon alone
data ItemsEnd (n : ℕ) : Expressions → Words → Words → Type 0 where
  no_items : {q : Place} {a : Words} → ItemsEnd n NoExpressions (symbol_then symbol.Semicolon q a) a
  some_items : {ts : Expressions} {q : Place} {b a : Words} → SpellsExpressions ts b (symbol_then symbol.Semicolon q a) → nesting_of_all ts ≤ n → ItemsEnd n ts b a

items_ended : {n : ℕ} {ts : Expressions} {b a : Words} → Ended symbol.Semicolon (λ ts b a. SpellsExpressions ts b a × (nesting_of_all ts ≤ n)) ts b a → ItemsEnd n ts b a
items_ended (ended d) = some_items d.0 d.1

items_end_gives : (n : ℕ) (words : Words) → Holds (λ ts rest. ItemsEnd n ts words rest) (items_end_at n words)
unfolding items_end_at
items_end_gives n words =
    decided_holds (symbol_gives symbol.Semicolon words) (λ p rest e. holds (rw e no_items))
    (λ e. weaker_holds (gives_ended symbol.Semicolon words (expressions_gives n words)) (λ ts rest d. items_ended d))

write_spelled : {n : ℕ} {t : Expression} {ts : Expressions} {p : Place} {b m a : Words} → Enclosed (ExpressionOf n) t b m → ItemsEnd n ts m a → BasicOf n (Write p t ts) (reserved_then reserved.Write p b) a
write_spelled (enclosed_so d) no_items = (outputs_nothing d.0, omega (arith, d.1))
write_spelled (enclosed_so d) (some_items e l) = (outputs d.0 e, omega (arith, d.1, l))

pub write_gives : (n : ℕ) (p : Place) (words : Words) → Holds (λ x rest. BasicOf n x (reserved_then reserved.Write p words) rest) (write_at n p words)
unfolding write_at
write_gives n p words =
    followed_holds (gives_enclosed (expression_at n) words (expression_gives n)) (λ t rest d. made_holds _ (items_end_gives n rest) (λ ts after e. write_spelled d e))

no_items_are : (n : ℕ) (q : Place) (words : Words) → items_end_at n (symbol_then symbol.Semicolon q words) ≡ Some (NoExpressions, words)
unfolding items_end_at
no_items_are n q words = decided_is _ _ (past_symbol_here symbol.Semicolon q words)

some_items_are : (n : ℕ) {ts : Expressions} {b : Words} {q : Place} {a : Words} → SpellsExpressions ts b (symbol_then symbol.Semicolon q a) → nesting_of_all ts ≤ n → items_end_at n b ≡ Some (ts, a)
unfolding items_end_at
some_items_are n {b = b} d l = decided_not _ _ (no_weak_symbol symbol.Semicolon b (omega arith) (expressions_strong d)) ∙ before_symbol_is (expressions_are n d l (omega arith))

pub nothing_written : (n : ℕ) (p q : Place) {t : Expression} {b : Words} {r s : Place} {a : Words} →
    SpellsExpression t b (symbol_then symbol.RightParenthesis r (symbol_then symbol.Semicolon s a)) → nesting t ≤ n →
    write_at n p (symbol_then symbol.LeftParenthesis q b) ≡ Some (Write p t NoExpressions, a)
unfolding write_at
nothing_written n p q {b = b} {s = s} {a = a} d l = followed_is _ (enclosed_is (expression_at n) q b (expression_is n d l (omega arith))) ∙ made_equals _ (no_items_are n s a)

pub items_written : (n : ℕ) (p q : Place) {t : Expression} {ts : Expressions} {b : Words} {r : Place} {m : Words} {s : Place} {a : Words} →
    SpellsExpression t b (symbol_then symbol.RightParenthesis r m) → nesting t ≤ n → SpellsExpressions ts m (symbol_then symbol.Semicolon s a) → nesting_of_all ts ≤ n →
    write_at n p (symbol_then symbol.LeftParenthesis q b) ≡ Some (Write p t ts, a)
unfolding write_at
items_written n p q {b = b} d l e k = followed_is _ (enclosed_is (expression_at n) q b (expression_is n d l (omega arith))) ∙ made_equals _ (some_items_are n e k)

waits_spelled : {n : ℕ} {t : Expression} {p : Place} {b a : Words} → Ended symbol.Semicolon (ExpressionOf n) t b a → BasicOf n (Wait p t) (reserved_then reserved.Wait p b) a
waits_spelled (ended d) = (waits d.0, d.1)

until_spelled : {n : ℕ} {t : Expression} {p q : Place} {b a : Words} → Ended symbol.Semicolon (ExpressionOf n) t b a →
    BasicOf n (WaitUntil p t) (reserved_then reserved.Wait p (reserved_then reserved.Until q b)) a
until_spelled (ended d) = (waits_until d.0, d.1)

for_spelled : {n : ℕ} {t : Expression} {p q : Place} {b a : Words} → Ended symbol.Semicolon (ExpressionOf n) t b a →
    BasicOf n (WaitFor p t) (reserved_then reserved.Wait p (reserved_then reserved.For q b)) a
for_spelled (ended d) = (waits_for d.0, d.1)

wait_for_gives : (n : ℕ) (p q : Place) (words : Words) → Holds (λ x rest. BasicOf n x (reserved_then reserved.Wait p (reserved_then reserved.For q words)) rest) (wait_for_at n p words)
unfolding wait_for_at
wait_for_gives n p q words =
    decided_holds (past_gives reserved.Dependent words) (λ r rest e. made_holds _ (symbol_gives symbol.Semicolon rest) (λ s after f. (rw (e, f) waits_for_dependents, omega arith)))
    (λ e. made_holds _ (expression_end_gives n words) (λ t rest d. for_spelled d))

pub wait_gives : (n : ℕ) (p : Place) (words : Words) → Holds (λ x rest. BasicOf n x (reserved_then reserved.Wait p words) rest) (wait_at n p words)
unfolding wait_at
wait_gives n p words =
    decided_holds (past_gives reserved.Until words) (λ q rest e. made_holds _ (expression_end_gives n rest) (λ t after d. rw e (until_spelled d)))
    (λ e. decided_holds (past_gives reserved.For words) (λ q rest f. weaker_holds (wait_for_gives n p q rest) (λ x after d. rw f d))
    (λ f. made_holds _ (expression_end_gives n words) (λ t rest d. waits_spelled d)))

pub time_waited : (n : ℕ) (p : Place) {t : Expression} {b : Words} {q : Place} {a : Words} → SpellsExpression t b (symbol_then symbol.Semicolon q a) → nesting t ≤ n → wait_at n p b ≡ Some (Wait p t, a)
unfolding wait_at
time_waited n p {b = b} d l =
    decided_not _ _ (no_weak_reserved reserved.Until b (omega arith) (expression_strong d)) ∙ decided_not _ _ (no_weak_reserved reserved.For b (omega arith) (expression_strong d))
    ∙ made_equals _ (expression_end_is n d l)

pub waited_until : (n : ℕ) (p q : Place) {t : Expression} {b : Words} {r : Place} {a : Words} → SpellsExpression t b (symbol_then symbol.Semicolon r a) → nesting t ≤ n →
    wait_at n p (reserved_then reserved.Until q b) ≡ Some (WaitUntil p t, a)
unfolding wait_at past is_reserved where_true
waited_until n p q d l = decided_is _ _ refl ∙ made_equals _ (expression_end_is n d l)

pub dependents_waited : (n : ℕ) (p q r s : Place) (words : Words) →
    wait_at n p (reserved_then reserved.For q (reserved_then reserved.Dependent r (symbol_then symbol.Semicolon s words))) ≡ Some (WaitForDependent p, words)
unfolding wait_at wait_for_at past is_reserved past_symbol is_symbol where_true
dependents_waited n p q r s words = decided_not _ _ refl ∙ decided_is _ _ refl ∙ decided_is _ _ refl ∙ made_equals _ refl

pub event_waited : (n : ℕ) (p q : Place) {t : Expression} {b : Words} {r : Place} {a : Words} → SpellsExpression t b (symbol_then symbol.Semicolon r a) → nesting t ≤ n →
    wait_at n p (reserved_then reserved.For q b) ≡ Some (WaitFor p t, a)
unfolding wait_at wait_for_at past is_reserved where_true
event_waited n p q {b = b} d l =
    decided_not _ _ refl ∙ decided_is _ _ refl ∙ decided_not _ _ (no_weak_reserved reserved.Dependent b (omega arith) (expression_strong d)) ∙ made_equals _ (expression_end_is n d l)

-- this happens to an event, and a semicolon follows
pub data Acting (p : Place) (c : EventAction) : Basic → Words → Words → Type 0 where
  acting : {q r : Place} {m : List ℕ} {a : Words} → Acting p c (Event (eventful p c (naming q m))) (name_then m q (symbol_then symbol.Semicolon r a)) a

acting_so : {p : Place} {c : EventAction} {x : Naming} {b a : Words} → Ended symbol.Semicolon SpellsName x b a → Acting p c (Event (eventful p c x)) b a
acting_so (ended a_name) = acting

pub acts_gives : (p : Place) (c : EventAction) (words : Words) → Holds (λ x rest. Acting p c x words rest) (acts_at p c words)
unfolding acts_at
acts_gives p c words = made_holds _ (gives_ended symbol.Semicolon words (name_spelled words)) (λ x rest d. acting_so d)

pub acts_is : {p : Place} {c : EventAction} {x : Basic} {b a : Words} → Acting p c x b a → acts_at p c b ≡ Some (x, a)
unfolding acts_at name_at
acts_is acting = made_equals _ (before_symbol_is refl)

-- a name or none
data NameOr : Option Naming → Words → Words → Type 0 where
  none_here : {a : Words} → NameOr None a a
  name_here : {p : Place} {m : List ℕ} {a : Words} → NameOr (Some (naming p m)) (name_then m p a) a

name_or_gives : (words : Words) → Holds (λ x rest. NameOr x words rest) (name_option_at words)
unfolding name_option_at
name_or_gives words = decided_holds (name_gives words) (λ x rest e. holds (rw e name_here)) (λ e. holds none_here)

-- a name or none before TO
data NameTo (x : Option Naming) (b a : Words) : Type 0 where
  name_to : {r : Place} → SpellsNameOption x b (reserved_then reserved.To r a) → NameTo x b a

option_spelled : {x : Option Naming} {b a : Words} {r : Place} → NameOr x b (reserved_then reserved.To r a) → SpellsNameOption x b (reserved_then reserved.To r a)
option_spelled none_here = no_name
option_spelled name_here = one_name

name_to_gives : (words : Words) → Holds (λ x rest. NameTo x words rest) (before reserved.To (name_option_at words))
name_to_gives words = gives_before reserved.To (name_or_gives words) (λ x r rest d. name_to (option_spelled d))

prioritizes_spelled : {n : ℕ} {x : Option Naming} {t : Expression} {p q : Place} {b m a : Words} → NameTo x b m → Ended symbol.Semicolon (ExpressionOf n) t m a →
    BasicOf n (UpdatePriority p x t) (reserved_then reserved.Update p (reserved_then reserved.Priority q b)) a
prioritizes_spelled (name_to d) (ended e) = (prioritizes d e.0, e.1)

pub prioritizes_gives : (n : ℕ) (p q : Place) (words : Words) →
    Holds (λ x rest. BasicOf n x (reserved_then reserved.Update p (reserved_then reserved.Priority q words)) rest) (prioritizes_at n p words)
unfolding prioritizes_at
prioritizes_gives n p q words = followed_holds (name_to_gives words) (λ x rest d. made_holds _ (expression_end_gives n rest) (λ t after e. prioritizes_spelled d e))

name_to_is : {x : Option Naming} {b : Words} {r : Place} {a : Words} → SpellsNameOption x b (reserved_then reserved.To r a) → before reserved.To (name_option_at b) ≡ Some (x, a)
unfolding name_option_at name_at
name_to_is no_name = before_is (decided_not _ _ refl)
name_to_is one_name = before_is (decided_is _ _ refl)

pub prioritizes_is : (n : ℕ) (p : Place) {x : Option Naming} {t : Expression} {b : Words} {r : Place} {m : Words} {s : Place} {a : Words} →
    SpellsNameOption x b (reserved_then reserved.To r m) → SpellsExpression t m (symbol_then symbol.Semicolon s a) → nesting t ≤ n → prioritizes_at n p b ≡ Some (UpdatePriority p x t, a)
unfolding prioritizes_at
prioritizes_is n p d e l = followed_is _ (name_to_is d) ∙ made_equals _ (expression_end_is n e l)

forgets_spelled : {n : ℕ} {x : Selector} {p q : Place} {b a : Words} → Ended symbol.Semicolon SpellsSelector x b a →
    BasicOf n (OffError p x) (reserved_then reserved.Off p (reserved_then reserved.Error q b)) a
forgets_spelled (ended d) = (forgets d, omega arith)

pub forgets_gives : (n : ℕ) (p : Place) (words : Words) → Holds (λ x rest. BasicOf n x (reserved_then reserved.Off p words) rest) (forgets_at p words)
unfolding forgets_at
forgets_gives n p words =
    followed_holds (past_gives reserved.Error words) (λ q rest e. made_holds _ (gives_ended symbol.Semicolon rest (selector_gives rest)) (λ x after d. rw e (forgets_spelled d)))

pub forgets_is : (p q : Place) {x : Selector} {b : Words} {r : Place} {a : Words} → SpellsSelector x b (symbol_then symbol.Semicolon r a) →
    forgets_at p (reserved_then reserved.Error q b) ≡ Some (OffError p x, a)
unfolding forgets_at
forgets_is p q {b = b} d = past_is reserved.Error q b _ ∙ made_equals _ (before_symbol_is (selector_is d))

-- an integer
data OneInteger (f : Place × ℕ) : Words → Words → Type 0 where
  is_integer : {a : Words} → OneInteger f (integer_then f.1 f.0 a) a

integer_given : (words : Words) → Holds (λ f rest. OneInteger f words rest) (integer_at words)
integer_given words = weaker_holds (integer_gives words) (λ f rest e. rw e is_integer)

-- the number of an error in a group
data NumberIn (p g : Place) (group : ℕ) : Basic → Words → Words → Type 0 where
  number_in : {m : Place} {number : ℕ} {a : Words} → NumberIn p g group (SendError p g group m number) (integer_then number m a) a

number_gives : (p g : Place) (group : ℕ) (words : Words) → Holds (λ x rest. NumberIn p g group x words rest) (made_of (λ number. SendError p g group number.0 number.1) (integer_at words))
number_gives p g group words = made_holds _ (integer_gives words) (λ f rest e. rw e number_in)

sends_spelled : {n : ℕ} {f : Place × ℕ} {x : Basic} {p q r s : Place} {b m a : Words} → Ended symbol.Colon OneInteger f b m →
    Ended symbol.Semicolon (Ended symbol.RightParenthesis (NumberIn p f.0 f.1)) x m a →
    BasicOf n x (reserved_then reserved.Send p (reserved_then reserved.Error q (symbol_then symbol.Dollar r (symbol_then symbol.LeftParenthesis s b)))) a
sends_spelled (ended is_integer) (ended (ended number_in)) = (sends, omega arith)

sent_gives : (n : ℕ) (p q r s : Place) (words : Words) →
    Holds (λ x rest. BasicOf n x (reserved_then reserved.Send p (reserved_then reserved.Error q (symbol_then symbol.Dollar r (symbol_then symbol.LeftParenthesis s words)))) rest) (error_sent p words)
unfolding error_sent
sent_gives n p q r s words =
    followed_holds (gives_ended symbol.Colon words (integer_given words))
    (λ f rest d. weaker_holds (gives_ended symbol.Semicolon rest (gives_ended symbol.RightParenthesis rest (number_gives p f.0 f.1 rest))) (λ x after e. sends_spelled d e))

pub sends_gives : (n : ℕ) (p : Place) (words : Words) → Holds (λ x rest. BasicOf n x (reserved_then reserved.Send p words) rest) (sends_at p words)
unfolding sends_at
sends_gives n p words =
    followed_holds (past_gives reserved.Error words) (λ q r1 e. followed_holds (symbol_gives symbol.Dollar r1) (λ r r2 f.
    followed_holds (symbol_gives symbol.LeftParenthesis r2) (λ s r3 g. weaker_holds (sent_gives n p q r s r3) (λ x rest d. rw (e, f, g) d))))

pub sends_is : (p q d l g c m r s : Place) (group number : ℕ) (words : Words) →
    sends_at p (reserved_then reserved.Error q (symbol_then symbol.Dollar d (symbol_then symbol.LeftParenthesis l (integer_then group g (symbol_then symbol.Colon c
    (integer_then number m (symbol_then symbol.RightParenthesis r (symbol_then symbol.Semicolon s words)))))))) ≡ Some (SendError p g group m number, words)
unfolding sends_at error_sent past is_reserved past_symbol is_symbol where_true integer_at
sends_is p q d l g c m r s group number words =
    followed_is _ refl ∙ followed_is _ refl ∙ followed_is _ refl ∙ followed_is _ (before_symbol_is refl) ∙ before_symbol_is (before_symbol_is (made_equals _ refl))
