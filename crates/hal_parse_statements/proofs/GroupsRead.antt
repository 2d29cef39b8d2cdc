-- Statements that hold others, where those are read exactly.
use Rattle.std.proofs.Common.{◌≡◌, ℕ, ◌+◌, ◌≤◌, List, [], ◌∷◌, Option, Some, None, Bool, refl, ap, ◌∙◌, arith}
use Rattle.std.specs.Bool.{⊤}
use Rattle.hal_base.specs.declared.refusal.Place.{Place}
use Rattle.hal_words.specs.declared.reserved.Reserved.TheVariants as reserved
use Rattle.hal_words.specs.declared.word.Symbol.TheVariants as symbol
use Rattle.hal_words.specs.declared.word.Word.{Word}
use Rattle.hal_words.specs.declared.word.Word.TheVariants as word
use Rattle.hal_grammar.specs.Leaves.{Naming, if_any}
use Rattle.hal_grammar.specs.Expressions.{Expression, nesting}
use Rattle.hal_grammar.specs.Statements.{Guard, While, Until, Span, Selector, Response, Eventful, Statement, If, Do, DoCase, DoLoop, DoFor, Update, OnErrorStatement, OnErrorResponse, Alternative, Group, Groups, Statements, NoStatements, MoreStatements, nesting_of_guard, nesting_of_span, nesting_of_statement, nesting_of_basic, nesting_of_alternative, nesting_of_group, nesting_of_statements}
use Rattle.hal_grammar.specs.Words.{Words, token, reserved_then, symbol_then, name_then}
use Rattle.hal_grammar.specs.SpellsExpressions.{SpellsExpression}
use Rattle.hal_grammar.specs.SpellsDeclarations.{SpellsNameEnd}
use Rattle.hal_grammar.specs.SpellsStatements.{SpellsGuard, SpellsSpan, SpellsTemporary, SpellsSelector, SpellsResponse, SpellsEventEnd, SpellsStatement, chosen, grouped, selected, looped_while, looped_until, ranged, updates, handles, answers, SpellsAlternative, no_alternative, otherwise, SpellsGroup, groups, SpellsStatements, statements_end, statements_close, statements_more}
use Rattle.hal_grammar.proofs.Options.{guard_weak}
use Rattle.hal_grammar.proofs.OneStatement.{response_starts, statement_starts}
use Rattle.hal_grammar.proofs.ShorterStatements.{statement_shorter}
use Rattle.hal_parse_expr.specs.Reading.{Reader, past, name_at, before_symbol, before, followed, made_of, all}
use Rattle.hal_parse_expr.specs.ReadingExpressions.{expression_at}
use Rattle.hal_parse_expr.proofs.Shortening.{Shortens, all_none}
use Rattle.hal_parse_declarations.specs.ReadingDeclarations.{where_left, name_end_at}
use Rattle.hal_parse_statements.specs.ReadingStatements.{statements, alternative_of, statements_of, group_of, chosen_of, if_of, case_of, loop_of, range_of, for_of, do_behind, do_of, body_of, updates_of, update_of, handled_of, on_of}
use Rattle.hal_parse_expr.proofs.FirstWords.{past_here, past_none, past_symbol_here}
use Rattle.hal_parse_expr.proofs.Readings.{Holds, holds_none, holds, weaker_holds}
use Rattle.hal_parse_expr.proofs.Combining.{followed_holds, made_holds}
use Rattle.hal_parse_declarations.proofs.Decided.{decided_holds, nothing_read}
use Rattle.hal_parse_declarations.proofs.Firsts.{past_gives, symbol_gives, not_begun, gives_before, Ended, ended, gives_ended}
use Rattle.hal_parse_expr.proofs.Equations.{made_equals}
use Rattle.hal_parse_declarations.proofs.Becomes.{followed_is, decided_is, decided_not, before_symbol_is, before_is, past_is}
use Rattle.hal_parse_declarations.proofs.Chains.{Chain, chain_end, chain_more, all_chain, shortens, all_first}
use Rattle.hal_parse_declarations.proofs.LeavesRead.{SpellsName, a_name, name_spelled, name_end_gives, name_end_is}
use Rattle.hal_parse_declarations.proofs.Below.{ExpressionOf, expression_gives, expression_is}
use Rattle.hal_parse_statements.proofs.ConditionsRead.{guard_gives, guard_is, span_gives, span_is}
use Rattle.hal_parse_statements.proofs.ErrorsRead.{selector_gives, selector_is, response_gives, response_is, event_end_gives, event_end_is}
use Rattle.hal_parse_statements.proofs.SimpleRead.{BasicOf, expression_end_gives, expression_end_is, temporary_gives, temporary_is, prioritizes_gives}

-- a statement that may stand inside one that is nested so deep at most
abbrev pub StatementIn : ℕ → Statement → Words → Words → Type 0
StatementIn n s b a = SpellsStatement s b a × (nesting_of_statement s + 1 ≤ n)

-- a level is left where there is a reader of what stands inside, and only there
abbrev pub IsLeft : ℕ → Option (Reader Statement) → Type 0
IsLeft n None = n ≡ 0
IsLeft n (Some read) = 1 ≤ n

-- what stands inside is read exactly
pub record Inside (n : ℕ) (inner : Option (Reader Statement)) : Type 0 where
  pub level : IsLeft n inner
  pub sound : (words : Words) → Holds (λ s rest. StatementIn n s words rest) (where_left inner words)
  pub full : (s : Statement) (b a : Words) → StatementIn n s b a → where_left inner b ≡ Some (s, a)

pub inside_shortens : {n : ℕ} {inner : Option (Reader Statement)} → Inside n inner → Shortens (where_left inner)
inside_shortens ins = shortens ins.sound (λ s words rest d. statement_shorter d.0)

-- the words with which statements end
data EndsStatements : Words → Type 0 where
  ends_end : {p : Place} {a : Words} → EndsStatements (reserved_then reserved.End p a)
  ends_close : {p : Place} {a : Words} → EndsStatements (reserved_then reserved.Close p a)

ends_spelled : {a : Words} → EndsStatements a → SpellsStatements NoStatements a a
ends_spelled ends_end = statements_end
ends_spelled ends_close = statements_close

statements_spelled : {n : ℕ} {ss : List Statement} {b a : Words} → Chain (StatementIn n) ss b a → EndsStatements a → SpellsStatements (statements ss) b a
unfolding statements
statements_spelled chain_end e = ends_spelled e
statements_spelled (chain_more d c) e = statements_more d.0 (statements_spelled c e)

statements_depth : {n : ℕ} {ss : List Statement} {b a : Words} → Chain (StatementIn n) ss b a → 1 ≤ n → nesting_of_statements (statements ss) + 1 ≤ n
unfolding statements
statements_depth chain_end l = omega (arith, l)
statements_depth (chain_more d c) l = omega (arith, d.1, statements_depth c l)

group_depth : {n : ℕ} {ss : List Statement} (x : Option Naming) {b a : Words} → Chain (StatementIn n) ss b a → nesting_of_group (Groups (statements ss) x) ≤ n
unfolding statements
group_depth x chain_end = omega arith
group_depth x (chain_more d c) = omega (arith, d.1, statements_depth c (omega (arith, d.1)))

-- a group that is nested so deep at most
abbrev GroupOf : ℕ → Group → Words → Words → Type 0
GroupOf n g b a = SpellsGroup g b a × (nesting_of_group g ≤ n)

group_spelled : {n : ℕ} {ss : List Statement} {x : Option Naming} {p : Place} {b m a : Words} → Chain (StatementIn n) ss b (reserved_then reserved.End p m) → SpellsNameEnd x m a →
    GroupOf n (Groups (statements ss) x) b a
group_spelled c d = (groups (statements_spelled c ends_end) d, group_depth _ c)

inside_chain : {n : ℕ} {inner : Option (Reader Statement)} → Inside n inner → (words : Words) → Chain (StatementIn n) (statements_of inner words).0 words (statements_of inner words).1
unfolding statements_of
inside_chain {inner = inner} ins words = all_chain (where_left inner) ins.sound words

group_gives : {n : ℕ} {inner : Option (Reader Statement)} → Inside n inner → (words : Words) → Holds (λ g rest. GroupOf n g words rest) (group_of inner words)
unfolding group_of
group_gives {inner = inner} ins words =
    followed_holds (past_gives reserved.End (statements_of inner words).1) (λ p rest e. made_holds _ (name_end_gives rest) (λ x after d. group_spelled (rw e at (inside_chain ins words)) d))

-- each statement may stand inside
abbrev AllIn : ℕ → Statements → Type 0
AllIn n NoStatements = ⊤
AllIn n (MoreStatements s ss) = (nesting_of_statement s + 1 ≤ n) × AllIn n ss

all_in : {n : ℕ} (ss : Statements) → nesting_of_statements ss + 1 ≤ n → AllIn n ss
all_in NoStatements h = tt
all_in (MoreStatements s ss) h = (omega (arith, h), all_in ss (omega (arith, h)))

group_in : {n : ℕ} (ss : Statements) (x : Option Naming) → nesting_of_group (Groups ss x) ≤ n → AllIn n ss
group_in NoStatements x h = tt
group_in (MoreStatements s ss) x h = (omega (arith, h), all_in ss (omega (arith, h)))

-- these statements are read
data ReadsRow (read : Reader Statement) : Statements → Words → Words → Type 0 where
  reads_row : {ss : List Statement} {b a : Words} → all read b ≡ (ss, a) → ReadsRow read (statements ss) b a

no_row : (read : Reader Statement) {b a : Words} → all read b ≡ ([], a) → ReadsRow read NoStatements b a
unfolding statements
no_row read {b = b} {a = a} e = let r : ReadsRow read (statements []) b a = reads_row e in r

more_row : {read : Reader Statement} {s : Statement} {ss : Statements} {b m a : Words} → Shortens read → read b ≡ Some (s, m) → ReadsRow read ss m a → ReadsRow read (MoreStatements s ss) b a
unfolding statements
more_row {read = read} {s = s} {b = b} {a = a} short e (reads_row {ss = ss} f) = let r : ReadsRow read (statements (s ∷ ss)) b a = reads_row (all_first read short e f) in r

row_read : {n : ℕ} {inner : Option (Reader Statement)} → Inside n inner → {ss : Statements} {b a : Words} → SpellsStatements ss b a → AllIn n ss → ReadsRow (where_left inner) ss b a
row_read {inner = inner} ins (statements_end {p = p} {after = after}) h =
    no_row (where_left inner) (all_none (where_left inner) (reserved_then reserved.End p after) (nothing_read (ins.sound (reserved_then reserved.End p after)) (λ s rest d. (statement_starts d.0).0 refl)))
row_read {inner = inner} ins (statements_close {p = p} {after = after}) h =
    no_row (where_left inner) (all_none (where_left inner) (reserved_then reserved.Close p after) (nothing_read (ins.sound (reserved_then reserved.Close p after)) (λ s rest d. (statement_starts d.0).0 refl)))
row_read ins (statements_more {s = s} {before = before} {middle = middle} d ds) h = more_row (inside_shortens ins) (ins.full s before middle (d, h.0)) (row_read ins ds h.1)

row_group : (inner : Option (Reader Statement)) {ss : Statements} {x : Option Naming} {p : Place} {b m a : Words} → ReadsRow (where_left inner) ss b (reserved_then reserved.End p m) → SpellsNameEnd x m a →
    group_of inner b ≡ Some (Groups ss x, a)
unfolding group_of statements_of
row_group inner {p = p} {m = m} (reads_row e) d =
    ap (λ l. followed (past reserved.End l.1) (λ p rest. made_of (λ x. Groups (statements l.0) x) (name_end_at rest))) e ∙ past_is reserved.End p m _ ∙ made_equals _ (name_end_is d)

group_is : {n : ℕ} {inner : Option (Reader Statement)} → Inside n inner → {g : Group} {b a : Words} → SpellsGroup g b a → nesting_of_group g ≤ n → group_of inner b ≡ Some (g, a)
group_is {inner = inner} ins (groups {ss = ss} d e) h = row_group inner (row_read ins d (group_in ss _ h)) e

-- what stands behind ELSE, nested so deep at most
abbrev AlternativeOf : ℕ → Alternative → Words → Words → Type 0
AlternativeOf n x b a = SpellsAlternative x b a × (nesting_of_alternative x ≤ n)

alternative_gives : {n : ℕ} {inner : Option (Reader Statement)} → Inside n inner → (words : Words) → Holds (λ x rest. AlternativeOf n x words rest) (alternative_of inner words)
unfolding alternative_of
alternative_gives ins words =
    decided_holds (past_gives reserved.Else words) (λ p rest e. made_holds _ (ins.sound rest) (λ s after d. (rw e (otherwise d.0), d.1)))
    (λ e. holds (no_alternative (not_begun reserved.Else words e), omega arith))

alternative_is : {n : ℕ} {inner : Option (Reader Statement)} → Inside n inner → {x : Alternative} {b a : Words} → SpellsAlternative x b a → nesting_of_alternative x ≤ n → alternative_of inner b ≡ Some (x, a)
unfolding alternative_of
alternative_is ins (no_alternative {after = after} m) h = decided_not _ _ (past_none reserved.Else after m)
alternative_is ins (otherwise {p = p} {s = s} {before = before} {after = after} d) h = decided_is _ _ (past_here reserved.Else p before) ∙ made_equals _ (ins.full s before after (d, h))

-- a condition before THEN
data BeforeThen (n : ℕ) (t : Expression) (b a : Words) : Type 0 where
  before_then : {q : Place} → SpellsExpression t b (reserved_then reserved.Then q a) → nesting t ≤ n → BeforeThen n t b a

then_gives : (n : ℕ) (words : Words) → Holds (λ t rest. BeforeThen n t words rest) (before reserved.Then (expression_at n words))
then_gives n words = gives_before reserved.Then (expression_gives n words) (λ t q rest d. before_then d.0 d.1)

if_spelled : {n : ℕ} {t : Expression} {s : Statement} {x : Alternative} {p : Place} {b m c a : Words} → BeforeThen n t b m → StatementIn n s m c → AlternativeOf n x c a →
    BasicOf n (If p t s x) (reserved_then reserved.If p b) a
if_spelled (before_then d l) e f = (chosen d e.0 f.0, omega (arith, l, e.1, f.1))

pub if_gives : {n : ℕ} {inner : Option (Reader Statement)} → Inside n inner → (p : Place) (words : Words) → Holds (λ x rest. BasicOf n x (reserved_then reserved.If p words) rest) (if_of n inner p words)
unfolding if_of chosen_of
if_gives {n = n} ins p words =
    followed_holds (then_gives n words) (λ t r1 d. followed_holds (ins.sound r1) (λ s r2 e. made_holds _ (alternative_gives ins r2) (λ x rest f. if_spelled d e f)))

pub if_is : {n : ℕ} {inner : Option (Reader Statement)} → Inside n inner → (p : Place) {t : Expression} {s : Statement} {x : Alternative} {b : Words} {q : Place} {m c a : Words} →
    SpellsExpression t b (reserved_then reserved.Then q m) → SpellsStatement s m c → SpellsAlternative x c a → nesting_of_basic (If p t s x) ≤ n → if_of n inner p b ≡ Some (If p t s x, a)
unfolding if_of chosen_of
if_is {n = n} ins p {s = s} {m = m} {c = c} d e f h =
    followed_is _ (before_is (expression_is n d (omega arith) (omega arith))) ∙ followed_is _ (ins.full s m c (e, omega arith)) ∙ made_equals _ (alternative_is ins f (omega arith))

case_spelled : {n : ℕ} {t : Expression} {x : Alternative} {g : Group} {p q : Place} {b m c a : Words} → Ended symbol.Semicolon (ExpressionOf n) t b m → AlternativeOf n x m c → GroupOf n g c a →
    BasicOf n (DoCase p t x g) (reserved_then reserved.Do p (reserved_then reserved.Case q b)) a
case_spelled (ended d) e f = (selected d.0 e.0 f.0, omega (arith, d.1, e.1, f.1))

case_gives : {n : ℕ} {inner : Option (Reader Statement)} → Inside n inner → (p q : Place) (words : Words) →
    Holds (λ x rest. BasicOf n x (reserved_then reserved.Do p (reserved_then reserved.Case q words)) rest) (case_of n inner p words)
unfolding case_of
case_gives {n = n} ins p q words =
    followed_holds (expression_end_gives n words) (λ t r1 d. followed_holds (alternative_gives ins r1) (λ x r2 e. made_holds _ (group_gives ins r2) (λ g rest f. case_spelled d e f)))

case_is : {n : ℕ} {inner : Option (Reader Statement)} → Inside n inner → (p : Place) {t : Expression} {x : Alternative} {g : Group} {b : Words} {q : Place} {m c a : Words} →
    SpellsExpression t b (symbol_then symbol.Semicolon q m) → SpellsAlternative x m c → SpellsGroup g c a → nesting_of_basic (DoCase p t x g) ≤ n → case_of n inner p b ≡ Some (DoCase p t x g, a)
unfolding case_of
case_is {n = n} ins p d e f h = followed_is _ (expression_end_is n d (omega arith)) ∙ followed_is _ (alternative_is ins e (omega arith)) ∙ made_equals _ (group_is ins f (omega arith))

while_spelled : {n : ℕ} {t : Expression} {g : Group} {p q : Place} {b m a : Words} → Ended symbol.Semicolon (ExpressionOf n) t b m → GroupOf n g m a →
    BasicOf n (DoLoop p (While q t) g) (reserved_then reserved.Do p (reserved_then reserved.While q b)) a
while_spelled (ended d) e = (looped_while d.0 e.0, omega (arith, d.1, e.1))

while_gives : {n : ℕ} {inner : Option (Reader Statement)} → Inside n inner → (p q : Place) (words : Words) →
    Holds (λ x rest. BasicOf n x (reserved_then reserved.Do p (reserved_then reserved.While q words)) rest) (loop_of n inner p (λ t. While q t) words)
unfolding loop_of
while_gives {n = n} ins p q words = followed_holds (expression_end_gives n words) (λ t rest d. made_holds _ (group_gives ins rest) (λ g after e. while_spelled d e))

until_spelled : {n : ℕ} {t : Expression} {g : Group} {p q : Place} {b m a : Words} → Ended symbol.Semicolon (ExpressionOf n) t b m → GroupOf n g m a →
    BasicOf n (DoLoop p (Until q t) g) (reserved_then reserved.Do p (reserved_then reserved.Until q b)) a
until_spelled (ended d) e = (looped_until d.0 e.0, omega (arith, d.1, e.1))

until_gives : {n : ℕ} {inner : Option (Reader Statement)} → Inside n inner → (p q : Place) (words : Words) →
    Holds (λ x rest. BasicOf n x (reserved_then reserved.Do p (reserved_then reserved.Until q words)) rest) (loop_of n inner p (λ t. Until q t) words)
unfolding loop_of
until_gives {n = n} ins p q words = followed_holds (expression_end_gives n words) (λ t rest d. made_holds _ (group_gives ins rest) (λ g after e. until_spelled d e))

loop_is : {n : ℕ} {inner : Option (Reader Statement)} → Inside n inner → (p : Place) (make : Expression → Guard) {t : Expression} {g : Group} {b : Words} {q : Place} {m a : Words} →
    SpellsExpression t b (symbol_then symbol.Semicolon q m) → SpellsGroup g m a → nesting t ≤ n → nesting_of_group g ≤ n → loop_of n inner p make b ≡ Some (DoLoop p (make t) g, a)
unfolding loop_of
loop_is {n = n} ins p make d e h l = followed_is _ (expression_end_is n d h) ∙ made_equals _ (group_is ins e l)

-- a condition that is nested so deep at most
abbrev GuardOf : ℕ → Option Guard → Words → Words → Type 0
GuardOf n c b a = SpellsGuard c b a × (if_any nesting_of_guard c ≤ n)

-- the variable of DO FOR and `=`
data Variable (x : Naming) : Words → Words → Type 0 where
  variable : {e : Place} {a : Words} → Variable x (name_then x.name x.place (symbol_then symbol.Equals e a)) a

variable_so : {x : Naming} {b a : Words} → Ended symbol.Equals SpellsName x b a → Variable x b a
variable_so (ended a_name) = variable

variable_gives : (words : Words) → Holds (λ x rest. Variable x words rest) (before_symbol symbol.Equals (name_at words))
variable_gives words = weaker_holds (gives_ended symbol.Equals words (name_spelled words)) (λ x rest d. variable_so d)

range_spelled : {n : ℕ} {d : Bool} {x : Naming} {s : Span} {c : Option Guard} {g : Group} {p q : Place} {b m span guard body a : Words} → SpellsTemporary d b m → Variable x m span →
    SpellsSpan s span guard → nesting_of_span s ≤ n → Ended symbol.Semicolon (GuardOf n) c guard body → GroupOf n g body a →
    BasicOf n (DoFor p d x s c g) (reserved_then reserved.Do p (reserved_then reserved.For q b)) a
range_spelled t variable s l (ended c) g = (ranged t s c.0 g.0, omega (arith, l, c.1, g.1))

for_gives : {n : ℕ} {inner : Option (Reader Statement)} → Inside n inner → (p q : Place) (words : Words) →
    Holds (λ x rest. BasicOf n x (reserved_then reserved.Do p (reserved_then reserved.For q words)) rest) (for_of n inner p words)
unfolding for_of range_of
for_gives {n = n} ins p q words =
    followed_holds (temporary_gives words) (λ d r1 e1. followed_holds (variable_gives r1) (λ x r2 e2. followed_holds (span_gives n r2) (λ s r3 e3.
    followed_holds (gives_ended symbol.Semicolon r3 (guard_gives n r3)) (λ c r4 e4. made_holds _ (group_gives ins r4) (λ g r5 e5. range_spelled e1 e2 e3.0 e3.1 e4 e5)))))

for_is : {n : ℕ} {inner : Option (Reader Statement)} → Inside n inner → (p : Place) {d : Bool} (x : Naming) {s : Span} {c : Option Guard} {g : Group} {b : Words} {e : Place} {span guard : Words} {q : Place} {body a : Words} →
    SpellsTemporary d b (name_then x.name x.place (symbol_then symbol.Equals e span)) → SpellsSpan s span guard → SpellsGuard c guard (symbol_then symbol.Semicolon q body) → SpellsGroup g body a →
    nesting_of_basic (DoFor p d x s c g) ≤ n → for_of n inner p b ≡ Some (DoFor p d x s c g, a)
unfolding for_of range_of name_at
for_is {n = n} ins p x t s c g h =
    followed_is _ (temporary_is t) ∙ followed_is _ (before_symbol_is refl) ∙ followed_is _ (span_is n s (omega arith) (guard_weak c (omega arith)))
    ∙ followed_is _ (before_symbol_is (guard_is n c (omega arith) (omega arith))) ∙ made_equals _ (group_is ins g (omega arith))

-- a group is as deep as its statement
grouped_spelled : {n : ℕ} {g : Group} {p q : Place} {b a : Words} → GroupOf n g b a → BasicOf n (Do p g) (reserved_then reserved.Do p (symbol_then symbol.Semicolon q b)) a
grouped_spelled d = (grouped d.0, d.1)

do_behind_gives : {n : ℕ} {inner : Option (Reader Statement)} → Inside n inner → (p q : Place) (w : Word) (words : Words) →
    Holds (λ x rest. BasicOf n x (reserved_then reserved.Do p (token w q ∷ words)) rest) (do_behind n inner p q w words)
unfolding do_behind
do_behind_gives ins p q (word.Symbol symbol.Semicolon) words = made_holds _ (group_gives ins words) (λ g rest d. grouped_spelled d)
do_behind_gives ins p q (word.Reserved reserved.Case) words = case_gives ins p q words
do_behind_gives ins p q (word.Reserved reserved.While) words = while_gives ins p q words
do_behind_gives ins p q (word.Reserved reserved.Until) words = until_gives ins p q words
do_behind_gives ins p q (word.Reserved reserved.For) words = for_gives ins p q words
do_behind_gives ins p q other words = holds_none

pub do_gives : {n : ℕ} {inner : Option (Reader Statement)} → Inside n inner → (p : Place) (words : Words) → Holds (λ x rest. BasicOf n x (reserved_then reserved.Do p words) rest) (do_of n inner p words)
unfolding do_of
do_gives ins p [] = holds_none
do_gives ins p (first ∷ rest) = do_behind_gives ins p first.place first.word rest

pub group_done : {n : ℕ} {inner : Option (Reader Statement)} → Inside n inner → (p q : Place) {g : Group} {b a : Words} → SpellsGroup g b a → nesting_of_group g ≤ n →
    do_of n inner p (symbol_then symbol.Semicolon q b) ≡ Some (Do p g, a)
unfolding do_of do_behind
group_done ins p q d h = made_equals _ (group_is ins d h)

pub case_done : {n : ℕ} {inner : Option (Reader Statement)} → Inside n inner → (p q : Place) {t : Expression} {x : Alternative} {g : Group} {b : Words} {r : Place} {m c a : Words} →
    SpellsExpression t b (symbol_then symbol.Semicolon r m) → SpellsAlternative x m c → SpellsGroup g c a → nesting_of_basic (DoCase p t x g) ≤ n →
    do_of n inner p (reserved_then reserved.Case q b) ≡ Some (DoCase p t x g, a)
unfolding do_of do_behind
case_done ins p q d e f h = case_is ins p d e f h

pub while_done : {n : ℕ} {inner : Option (Reader Statement)} → Inside n inner → (p q : Place) {t : Expression} {g : Group} {b : Words} {r : Place} {m a : Words} →
    SpellsExpression t b (symbol_then symbol.Semicolon r m) → SpellsGroup g m a → nesting t ≤ n → nesting_of_group g ≤ n →
    do_of n inner p (reserved_then reserved.While q b) ≡ Some (DoLoop p (While q t) g, a)
unfolding do_of do_behind
while_done ins p q d e h l = loop_is ins p (λ t. While q t) d e h l

pub until_done : {n : ℕ} {inner : Option (Reader Statement)} → Inside n inner → (p q : Place) {t : Expression} {g : Group} {b : Words} {r : Place} {m a : Words} →
    SpellsExpression t b (symbol_then symbol.Semicolon r m) → SpellsGroup g m a → nesting t ≤ n → nesting_of_group g ≤ n →
    do_of n inner p (reserved_then reserved.Until q b) ≡ Some (DoLoop p (Until q t) g, a)
unfolding do_of do_behind
until_done ins p q d e h l = loop_is ins p (λ t. Until q t) d e h l

pub for_done : {n : ℕ} {inner : Option (Reader Statement)} → Inside n inner → (p q : Place) {d : Bool} (x : Naming) {s : Span} {c : Option Guard} {g : Group} {b : Words} {e : Place} {span guard : Words} {r : Place} {body a : Words} →
    SpellsTemporary d b (name_then x.name x.place (symbol_then symbol.Equals e span)) → SpellsSpan s span guard → SpellsGuard c guard (symbol_then symbol.Semicolon r body) → SpellsGroup g body a →
    nesting_of_basic (DoFor p d x s c g) ≤ n → do_of n inner p (reserved_then reserved.For q b) ≡ Some (DoFor p d x s c g, a)
unfolding do_of do_behind
for_done ins p q x t s c g h = for_is ins p x t s c g h

updates_spelled : {n : ℕ} {ss : List Statement} {x : Option Naming} {p q r : Place} {b m a : Words} → Chain (StatementIn n) ss b (reserved_then reserved.Close r m) → SpellsNameEnd x m a → 1 ≤ n →
    BasicOf n (Update p (statements ss) x) (reserved_then reserved.Update p (symbol_then symbol.Semicolon q b)) a
updates_spelled c d l = (updates (statements_spelled c ends_close) d, statements_depth c l)

body_gives : {n : ℕ} (read : Reader Statement) → 1 ≤ n → ((words : Words) → Holds (λ s rest. StatementIn n s words rest) (read words)) → (p q : Place) (words : Words) →
    Holds (λ x rest. BasicOf n x (reserved_then reserved.Update p (symbol_then symbol.Semicolon q words)) rest) (body_of read p words)
unfolding body_of
body_gives read l g p q words =
    followed_holds (past_gives reserved.Close (all read words).1) (λ r rest e. made_holds _ (name_end_gives rest) (λ x after d. updates_spelled (rw e at (all_chain read g words)) d l))

updates_gives : {n : ℕ} (inner : Option (Reader Statement)) → Inside n inner → (p q : Place) (words : Words) →
    Holds (λ x rest. BasicOf n x (reserved_then reserved.Update p (symbol_then symbol.Semicolon q words)) rest) (updates_of inner p words)
unfolding updates_of where_left
updates_gives None ins p q words = holds_none
updates_gives (Some read) ins p q words = body_gives read ins.level ins.sound p q words

pub update_gives : {n : ℕ} {inner : Option (Reader Statement)} → Inside n inner → (p : Place) (words : Words) →
    Holds (λ x rest. BasicOf n x (reserved_then reserved.Update p words) rest) (update_of n inner p words)
unfolding update_of
update_gives {n = n} {inner = inner} ins p words =
    decided_holds (symbol_gives symbol.Semicolon words) (λ q rest e. weaker_holds (updates_gives inner ins p q rest) (λ x after d. rw e d))
    (λ e. followed_holds (past_gives reserved.Priority words) (λ q rest f. weaker_holds (prioritizes_gives n p q rest) (λ x after d. rw f d)))

row_body : {read : Reader Statement} {ss : Statements} {x : Option Naming} (p : Place) {r : Place} {b m a : Words} → ReadsRow read ss b (reserved_then reserved.Close r m) → SpellsNameEnd x m a →
    body_of read p b ≡ Some (Update p ss x, a)
unfolding body_of
row_body p {r = r} {m = m} (reads_row e) d =
    ap (λ l. followed (past reserved.Close l.1) (λ q rest. made_of (λ x. Update p (statements l.0) x) (name_end_at rest))) e ∙ past_is reserved.Close r m _ ∙ made_equals _ (name_end_is d)

updates_are : {n : ℕ} (inner : Option (Reader Statement)) → Inside n inner → (p : Place) {ss : Statements} {x : Option Naming} {r : Place} {b m a : Words} →
    SpellsStatements ss b (reserved_then reserved.Close r m) → SpellsNameEnd x m a → nesting_of_statements ss + 1 ≤ n → updates_of inner p b ≡ Some (Update p ss x, a)
unfolding updates_of where_left
updates_are None ins p d e h = absurd (omega (arith, h, ins.level))
updates_are (Some read) ins p {ss = ss} d e h = row_body p (row_read ins d (all_in ss h)) e

pub update_is : {n : ℕ} {inner : Option (Reader Statement)} → Inside n inner → (p q : Place) {ss : Statements} {x : Option Naming} {r : Place} {b m a : Words} →
    SpellsStatements ss b (reserved_then reserved.Close r m) → SpellsNameEnd x m a → nesting_of_statements ss + 1 ≤ n →
    update_of n inner p (symbol_then symbol.Semicolon q b) ≡ Some (Update p ss x, a)
unfolding update_of
update_is {inner = inner} ins p q {b = b} d e h = decided_is _ _ (past_symbol_here symbol.Semicolon q b) ∙ updates_are inner ins p d e h

handled_gives : {n : ℕ} {inner : Option (Reader Statement)} → Inside n inner → (p q : Place) (x : Selector) (before words : Words) → SpellsSelector x before words →
    Holds (λ y rest. BasicOf n y (reserved_then reserved.On p (reserved_then reserved.Error q before)) rest) (handled_of inner p x words)
unfolding handled_of
handled_gives ins p q x before words d =
    decided_holds (response_gives words) (λ r rest e. made_holds _ (event_end_gives rest) (λ f after g. (answers d e g, omega arith)))
    (λ e. made_holds _ (ins.sound words) (λ s rest f. (handles d f.0, f.1)))

pub on_gives : {n : ℕ} {inner : Option (Reader Statement)} → Inside n inner → (p : Place) (words : Words) → Holds (λ x rest. BasicOf n x (reserved_then reserved.On p words) rest) (on_of inner p words)
unfolding on_of
on_gives ins p words =
    followed_holds (past_gives reserved.Error words) (λ q r1 e. followed_holds (selector_gives r1) (λ x r2 d. weaker_holds (handled_gives ins p q x r1 r2 d) (λ y rest f. rw e f)))

no_response : {s : Statement} {b a : Words} → SpellsStatement s b a → {r : Response} {c : Words} → SpellsResponse r b c → ⊥
no_response d e = (statement_starts d).0 (response_starts e)

pub statement_handled : {n : ℕ} {inner : Option (Reader Statement)} → Inside n inner → (p q : Place) {x : Selector} {s : Statement} {b m a : Words} → SpellsSelector x b m → SpellsStatement s m a →
    nesting_of_statement s + 1 ≤ n → on_of inner p (reserved_then reserved.Error q b) ≡ Some (OnErrorStatement p x s, a)
unfolding on_of handled_of
statement_handled ins p q {s = s} {b = b} {m = m} {a = a} d e h =
    past_is reserved.Error q b _ ∙ followed_is _ (selector_is d) ∙ decided_not _ _ (nothing_read (response_gives m) (λ r rest f. no_response e f)) ∙ made_equals _ (ins.full s m a (e, h))

pub response_handled : (inner : Option (Reader Statement)) (p q : Place) {x : Selector} {r : Response} {e : Option Eventful} {b m c a : Words} → SpellsSelector x b m → SpellsResponse r m c → SpellsEventEnd e c a →
    on_of inner p (reserved_then reserved.Error q b) ≡ Some (OnErrorResponse p x r e, a)
unfolding on_of handled_of
response_handled inner p q {b = b} d e f = past_is reserved.Error q b _ ∙ followed_is _ (selector_is d) ∙ decided_is _ _ (response_is e) ∙ made_equals _ (event_end_is f)
