-- The same words spell one statement at most.
use Rattle.std.proofs.Common.{◌≡◌, ℕ, List, [], ◌∷◌, refl, ap, ap₂, arith, Option, Some, Bool, false, ◌==◌}
use Rattle.std.proofs.Math.Dec.{lit≤}
use Rattle.std.proofs.lemmas.Bool.Decides.{nat_tests}
use Rattle.hal_base.specs.declared.refusal.Place.{Place}
use Rattle.hal_words.specs.declared.reserved.Reserved.{Reserved}
use Rattle.hal_words.specs.declared.reserved.Reserved.TheVariants as reserved
use Rattle.hal_words.specs.declared.word.Symbol.TheVariants as symbol
use Rattle.hal_words.specs.declared.word.Word.{Word}
use Rattle.hal_words.specs.declared.word.Word.TheVariants as word
use Rattle.hal_grammar.specs.Leaves.{Naming, naming}
use Rattle.hal_grammar.specs.Expressions.{Expression, NoExpressions}
use Rattle.hal_grammar.specs.Words.{Words, symbol_then, begins}
use Rattle.hal_grammar.specs.Statements.{Guard, While, Until, Span, Selector, Eventful, Response, Statement, Labelled, Basic, Assignment, If, Do, DoCase, DoLoop, DoFor, Exit, Repeat, Return, Call, Read, Write, Update, Scheduled, Cancel, Terminate, Wait, WaitUntil, WaitFor, Event, UpdatePriority, OnErrorStatement, OnErrorResponse, OffError, Alternative, Otherwise, Group, Groups, Statements, MoreStatements}
use Rattle.hal_grammar.specs.SpellsExpressions.{SpellsExpression, SpellsExpressions, SpellsReference}
use Rattle.hal_grammar.specs.SpellsDeclarations.{Parted, SpellsNames, last_name, more_names, SpellsNameEnd}
use Rattle.hal_grammar.specs.SpellsStatements.{SpellsReceivers, SpellsGuard, SpellsSpan, SpellsEvent, pulses, raises, lowers, SpellsResponse, by_system, ignored, SpellsEventEnd, no_labels, more_labels, SpellsStatement, labelled, SpellsBasic, empty, assigned, chosen, grouped, selected, looped_while, looped_until, ranged, left, repeated, returned, returned_value, calls, inputs, outputs_nothing, outputs, updates, scheduled, cancelled_itself, cancelled, terminated_itself, terminated, waits, waits_until, waits_for_dependents, waits_for, acts, prioritizes, handles, answers, forgets, sends, SpellsAlternative, no_alternative, otherwise, SpellsGroup, groups, SpellsStatements, statements_end, statements_close, statements_more}
use Rattle.hal_grammar.specs.GoesOn.{strength}
use Rattle.hal_grammar.proofs.Outcomes.{back, until, tail_same}
use Rattle.hal_grammar.proofs.Beginnings.{expression_strong, expressions_strong}
use Rattle.hal_grammar.proofs.Leaves.{name_same}
use Rattle.hal_grammar.proofs.OneExpression.{one_expressions}
use Rattle.hal_grammar.proofs.OneDeclaration.{exact, one_names, one_name_end}
use Rattle.hal_grammar.proofs.Options.{one_references, one_arguments, one_receivers, one_guard, guard_weak, one_span, one_selector, one_event, one_response, one_event_end, one_schedule, one_temporary, one_name_option, one_labels}

-- what a reserved word begins: 1 a statement, 2 the head of a unit, 3 SIGNAL, SET or RESET, 0 neither
abbrev pub reserved_starts : Reserved → ℕ
reserved_starts reserved.If = 1
reserved_starts reserved.Do = 1
reserved_starts reserved.Exit = 1
reserved_starts reserved.Repeat = 1
reserved_starts reserved.Return = 1
reserved_starts reserved.Call = 1
reserved_starts reserved.Read = 1
reserved_starts reserved.Write = 1
reserved_starts reserved.Update = 1
reserved_starts reserved.Schedule = 1
reserved_starts reserved.Cancel = 1
reserved_starts reserved.Terminate = 1
reserved_starts reserved.Wait = 1
reserved_starts reserved.On = 1
reserved_starts reserved.Off = 1
reserved_starts reserved.Send = 1
reserved_starts reserved.Program = 2
reserved_starts reserved.Compool = 2
reserved_starts reserved.Task = 2
reserved_starts reserved.Procedure = 2
reserved_starts reserved.Function = 2
reserved_starts reserved.Signal = 3
reserved_starts reserved.Set = 3
reserved_starts reserved.Reset = 3
reserved_starts other = 0

-- the same of a word
abbrev pub word_starts : Word → ℕ
word_starts (word.Reserved r) = reserved_starts r
word_starts (word.Name n) = 1
word_starts (word.Integer n) = 0
word_starts (word.Decimal n) = 0
word_starts (word.Text t) = 0
word_starts (word.Bits len pattern) = 0
word_starts (word.Symbol s) = 1

-- the same of the first of the words
abbrev pub starts : Words → ℕ
starts [] = 0
starts (first ∷ words) = word_starts first.word

event_starts : {e : Eventful} {b a : Words} → SpellsEvent e b a → starts b ≡ 3
event_starts pulses = refl
event_starts raises = refl
event_starts lowers = refl

pub response_starts : {r : Response} {b a : Words} → SpellsResponse r b a → starts b ≡ 0
response_starts by_system = refl
response_starts ignored = refl

-- words that begin with one thing don't begin with another
other_start : {m n : ℕ} → m ≡ n → (m == n) ≡ false → ⊥
other_start e f = absurd (grind (arith, nat_tests))

-- no statement begins a head, or with a word that ends statements
abbrev pub IsStart : ℕ → Type 0
IsStart n = (n ≡ 0 → ⊥) × (n ≡ 2 → ⊥)

pub basic_starts : {x : Basic} {b a : Words} → SpellsBasic x b a → IsStart (starts b)
basic_starts (acts e) = (λ h. absurd (omega (arith, event_starts e)), λ h. absurd (omega (arith, event_starts e)))
basic_starts d = (λ h. other_start h refl, λ h. other_start h refl)

pub statement_starts : {s : Statement} {b a : Words} → SpellsStatement s b a → IsStart (starts b)
statement_starts (labelled (no_labels n) d) = basic_starts d
statement_starts (labelled (more_labels ls) d) = (omega arith, omega arith)

names_not : {ns : List Naming} {p : Place} {b a : Words} → SpellsNames ns (symbol_then symbol.Semicolon p b) a → ⊥
names_not d = go d refl
  where
    go : {ns : List Naming} {p : Place} {w b a : Words} → SpellsNames ns w a → w ≡ symbol_then symbol.Semicolon p b → ⊥
    go last_name e = absurd (omega (arith, ap strength e))
    go (more_names d) e = absurd (omega (arith, ap strength e))

chosen_same : {p : Place} {t u : Expression} {s z : Statement} {x y : Alternative} → t ≡ u → s ≡ z → x ≡ y → If p t s x ≡ If p u z y
chosen_same e f g = cc

selected_same : {p : Place} {t u : Expression} {x y : Alternative} {g h : Group} → t ≡ u → x ≡ y → g ≡ h → DoCase p t x g ≡ DoCase p u y h
selected_same e f g = cc

ranged_same : {p q r : Place} {t u : Bool} {n m : List ℕ} {x y : Span} {k l : Option Guard} {g h : Group} → t ≡ u → q ≡ r → n ≡ m → x ≡ y → k ≡ l → g ≡ h →
    DoFor p t (naming q n) x k g ≡ DoFor p u (naming r m) y l h
ranged_same e f i j k l = cc

answers_same : {p : Place} {x y : Selector} {z w : Response} {d e : Option Eventful} → x ≡ y → z ≡ w → d ≡ e → OnErrorResponse p x z d ≡ OnErrorResponse p y w e
answers_same e f g = cc

mutual
  pub one_statement : {s t : Statement} {b a c : Words} → SpellsStatement s b a → SpellsStatement t b c → (s ≡ t) × (a ≡ c)
  one_statement (labelled ls d) (labelled ms e) =
      let r = one_labels ls ms in
      let s = one_basic d (back SpellsBasic r.1 e) in (ap₂ Labelled r.0 s.0, s.1)

  pub one_basic : {x y : Basic} {b a c : Words} → SpellsBasic x b a → SpellsBasic y b c → (x ≡ y) × (a ≡ c)
  one_basic empty empty = (refl, refl)
  one_basic (assigned {p = p} d f) (assigned e g) =
      let r = one_references d e (omega arith, omega arith) (omega arith, omega arith) in
      let s = exact f (back SpellsExpression (tail_same r.1) g) (lit≤ tt) (lit≤ tt) in (ap₂ (λ x t. Assignment p x t) r.0 s.0, tail_same s.1)
  one_basic (chosen {p = p} d s x) (chosen e t y) =
      let r = exact d e (lit≤ tt) (lit≤ tt) in
      let v = one_statement s (back SpellsStatement (tail_same r.1) t) in
      let w = one_alternative x (back SpellsAlternative v.1 y) in (chosen_same r.0 v.0 w.0, w.1)
  one_basic (grouped {p = p} g) (grouped h) = let r = one_group g h in (ap (λ g. Do p g) r.0, r.1)
  one_basic (selected {p = p} d x g) (selected e y h) =
      let r = exact d e (lit≤ tt) (lit≤ tt) in
      let v = one_alternative x (back SpellsAlternative (tail_same r.1) y) in
      let w = one_group g (back SpellsGroup v.1 h) in (selected_same r.0 v.0 w.0, w.1)
  one_basic (looped_while {p = p} {q = q} d g) (looped_while e h) =
      let r = exact d e (lit≤ tt) (lit≤ tt) in
      let w = one_group g (back SpellsGroup (tail_same r.1) h) in (ap₂ (λ t g. DoLoop p (While q t) g) r.0 w.0, w.1)
  one_basic (looped_until {p = p} {q = q} d g) (looped_until e h) =
      let r = exact d e (lit≤ tt) (lit≤ tt) in
      let w = one_group g (back SpellsGroup (tail_same r.1) h) in (ap₂ (λ t g. DoLoop p (Until q t) g) r.0 w.0, w.1)
  one_basic (ranged {p = p} t x k g) (ranged u y l h) =
      let r = one_temporary t u in
      let n = name_same r.1 in
      let s = one_span x (back SpellsSpan (tail_same n.2) y) (guard_weak k (omega arith)) (guard_weak l (omega arith)) in
      let v = one_guard k (back SpellsGuard s.1 l) (omega arith) (omega arith) in
      let w = one_group g (back SpellsGroup (tail_same v.1) h) in (ranged_same r.0 n.1 n.0 s.0 v.0 w.0, w.1)
  one_basic (left {p = p} n) (left m) = let r = one_name_end n m in (ap (λ n. Exit p n) r.0, r.1)
  one_basic (repeated {p = p} n) (repeated m) = let r = one_name_end n m in (ap (λ n. Repeat p n) r.0, r.1)
  one_basic returned returned = (refl, refl)
  one_basic returned (returned_value e) = absurd (omega (arith, expression_strong e))
  one_basic (returned_value d) returned = absurd (omega (arith, expression_strong d))
  one_basic (returned_value {p = p} d) (returned_value e) = let r = exact d e (lit≤ tt) (lit≤ tt) in (ap (λ t. Return p (Some t)) r.0, tail_same r.1)
  one_basic (calls {p = p} {q = q} {n = n} d f) (calls e g) =
      let r = one_arguments d e in
      let s = one_receivers f (back SpellsReceivers r.1 g) in (ap₂ (λ t x. Call p (naming q n) t x) r.0 s.0, tail_same s.1)
  one_basic (inputs {p = p} d f) (inputs e g) =
      let r = exact d e (lit≤ tt) (lit≤ tt) in
      let s = one_references f (back (Parted SpellsReference) (tail_same r.1) g) (omega arith, omega arith) (omega arith, omega arith) in
      (ap₂ (λ t x. Read p t x) r.0 s.0, tail_same s.1)
  one_basic (outputs_nothing {p = p} d) (outputs_nothing e) = let r = exact d e (lit≤ tt) (lit≤ tt) in (ap (λ t. Write p t NoExpressions) r.0, tail_same (tail_same r.1))
  one_basic (outputs_nothing d) (outputs e f) =
      let r = exact d e (lit≤ tt) (lit≤ tt) in absurd (omega (arith, expressions_strong f, ap strength (tail_same r.1)))
  one_basic (outputs d f) (outputs_nothing e) =
      let r = exact d e (lit≤ tt) (lit≤ tt) in absurd (omega (arith, expressions_strong f, ap strength (tail_same r.1)))
  one_basic (outputs {p = p} d f) (outputs e g) =
      let r = exact d e (lit≤ tt) (lit≤ tt) in
      let s = until (one_expressions f (back SpellsExpressions (tail_same r.1) g)) (omega arith) (omega arith) in (ap₂ (λ t x. Write p t x) r.0 s.0, tail_same s.1)
  one_basic (updates {p = p} b n) (updates c m) =
      let r = one_statements b c in
      let s = one_name_end n (back SpellsNameEnd (tail_same r.1) m) in (ap₂ (λ b n. Update p b n) r.0 s.0, s.1)
  one_basic (scheduled {p = p} d) (scheduled e) = let r = one_schedule d e in (ap (λ s. Scheduled p s) r.0, r.1)
  one_basic cancelled_itself cancelled_itself = (refl, refl)
  one_basic cancelled_itself (cancelled e) = absurd (names_not e)
  one_basic (cancelled d) cancelled_itself = absurd (names_not d)
  one_basic (cancelled {p = p} d) (cancelled e) = let r = until (one_names d e) (omega arith) (omega arith) in (ap (λ n. Cancel p n) r.0, tail_same r.1)
  one_basic terminated_itself terminated_itself = (refl, refl)
  one_basic terminated_itself (terminated e) = absurd (names_not e)
  one_basic (terminated d) terminated_itself = absurd (names_not d)
  one_basic (terminated {p = p} d) (terminated e) = let r = until (one_names d e) (omega arith) (omega arith) in (ap (λ n. Terminate p n) r.0, tail_same r.1)
  one_basic (waits {p = p} d) (waits e) = let r = exact d e (lit≤ tt) (lit≤ tt) in (ap (λ t. Wait p t) r.0, tail_same r.1)
  one_basic (waits d) (waits_until e) = absurd (omega (arith, expression_strong d))
  one_basic (waits d) waits_for_dependents = absurd (omega (arith, expression_strong d))
  one_basic (waits d) (waits_for e) = absurd (omega (arith, expression_strong d))
  one_basic (waits_until d) (waits e) = absurd (omega (arith, expression_strong e))
  one_basic (waits_until {p = p} d) (waits_until e) = let r = exact d e (lit≤ tt) (lit≤ tt) in (ap (λ t. WaitUntil p t) r.0, tail_same r.1)
  one_basic waits_for_dependents (waits e) = absurd (omega (arith, expression_strong e))
  one_basic waits_for_dependents waits_for_dependents = (refl, refl)
  one_basic waits_for_dependents (waits_for e) = absurd (omega (arith, expression_strong e))
  one_basic (waits_for d) (waits e) = absurd (omega (arith, expression_strong e))
  one_basic (waits_for d) waits_for_dependents = absurd (omega (arith, expression_strong d))
  one_basic (waits_for {p = p} d) (waits_for e) = let r = exact d e (lit≤ tt) (lit≤ tt) in (ap (λ t. WaitFor p t) r.0, tail_same r.1)
  one_basic (acts d) (acts e) = let r = one_event d e in (ap Event r.0, tail_same r.1)
  one_basic (acts d) e = absurd (other_start (event_starts d) refl)
  one_basic (prioritizes {p = p} n d) (prioritizes m e) =
      let r = one_name_option n m in
      let s = exact d (back SpellsExpression (tail_same r.1) e) (lit≤ tt) (lit≤ tt) in (ap₂ (λ n t. UpdatePriority p n t) r.0 s.0, tail_same s.1)
  one_basic (handles {p = p} x s) (handles y t) =
      let r = one_selector x y in
      let v = one_statement s (back SpellsStatement r.1 t) in (ap₂ (λ x s. OnErrorStatement p x s) r.0 v.0, v.1)
  one_basic (handles x s) (answers y z e) = let r = one_selector x y in absurd ((statement_starts s).0 (response_starts (back SpellsResponse r.1 z)))
  one_basic (answers x z e) (handles y s) = let r = one_selector x y in absurd ((statement_starts (back SpellsStatement r.1 s)).0 (response_starts z))
  one_basic (answers {p = p} x z d) (answers y w e) =
      let r = one_selector x y in
      let s = one_response z (back SpellsResponse r.1 w) in
      let v = one_event_end d (back SpellsEventEnd s.1 e) in (answers_same r.0 s.0 v.0, v.1)
  one_basic (forgets {p = p} x) (forgets y) = let r = one_selector x y in (ap (λ x. OffError p x) r.0, tail_same r.1)
  one_basic sends sends = (refl, refl)
  one_basic d (acts e) = absurd (other_start (event_starts e) refl)

  pub one_alternative : {x y : Alternative} {b a c : Words} → SpellsAlternative x b a → SpellsAlternative y b c → (x ≡ y) × (a ≡ c)
  one_alternative (no_alternative n) (no_alternative m) = (refl, refl)
  one_alternative (no_alternative n) (otherwise e) = absurd (n begins)
  one_alternative (otherwise d) (no_alternative n) = absurd (n begins)
  one_alternative (otherwise d) (otherwise e) = let r = one_statement d e in (ap Otherwise r.0, r.1)

  pub one_group : {x y : Group} {b a c : Words} → SpellsGroup x b a → SpellsGroup y b c → (x ≡ y) × (a ≡ c)
  one_group (groups d n) (groups e m) =
      let r = one_statements d e in
      let s = one_name_end n (back SpellsNameEnd (tail_same r.1) m) in (ap₂ Groups r.0 s.0, s.1)

  pub one_statements : {x y : Statements} {b a c : Words} → SpellsStatements x b a → SpellsStatements y b c → (x ≡ y) × (a ≡ c)
  one_statements statements_end statements_end = (refl, refl)
  one_statements statements_end (statements_more e es) = absurd ((statement_starts e).0 refl)
  one_statements statements_close statements_close = (refl, refl)
  one_statements statements_close (statements_more e es) = absurd ((statement_starts e).0 refl)
  one_statements (statements_more d ds) statements_end = absurd ((statement_starts d).0 refl)
  one_statements (statements_more d ds) statements_close = absurd ((statement_starts d).0 refl)
  one_statements (statements_more d ds) (statements_more e es) =
      let r = one_statement d e in
      let s = one_statements ds (back SpellsStatements r.1 es) in (ap₂ MoreStatements r.0 s.0, s.1)
