-- References, arguments, receivers, conditions and ranges: what is read is spelled, and what is spelled is read.
use Rattle.std.proofs.Common.{◌≡◌, ℕ, zero, suc, ◌+◌, ◌≤◌, List, [], ◌∷◌, Option, Some, refl, ap, ◌∙◌, arith}
use Rattle.hal_base.specs.declared.refusal.Place.{Place}
use Rattle.hal_words.specs.declared.reserved.Reserved.TheVariants as reserved
use Rattle.hal_words.specs.declared.word.Symbol.TheVariants as symbol
use Rattle.hal_grammar.specs.Leaves.{most, if_any}
use Rattle.hal_grammar.specs.Expressions.{Expression, Expressions, NoExpressions, MoreExpressions, Reference, nesting, nesting_of_all, nesting_of_reference}
use Rattle.hal_grammar.specs.Statements.{Guard, Span, Listed, nesting_of_guard, nesting_of_span, nesting_of_arguments, nesting_of_receivers}
use Rattle.hal_grammar.specs.Words.{Words, reserved_then, symbol_then, BeginsReserved, BeginsSymbol, begins}
use Rattle.hal_grammar.specs.GoesOn.{strength}
use Rattle.hal_grammar.specs.SpellsExpressions.{SpellsExpressions, last_expression, more_expressions, SpellsReference}
use Rattle.hal_grammar.specs.SpellsDeclarations.{Parted, last, more}
use Rattle.hal_grammar.specs.SpellsStatements.{SpellsArguments, no_arguments, arguments, SpellsReceivers, no_receivers, receivers, SpellsGuard, no_guard, as_long, unless, SpellsStep, no_step, step, SpellsSpan, stepped, listed}
use Rattle.hal_grammar.proofs.Options.{step_weak}
use Rattle.hal_parse_expr.specs.Reading.{past, is_reserved, where_true, after_comma}
use Rattle.hal_parse_expr.specs.ReadingExpressions.{closed, expressions, expressions_of, deeper_than, expression_at, expressions_at, reference_at}
use Rattle.hal_parse_expr.proofs.Shortening.{all_none, Shortens}
use Rattle.hal_parse_expr.proofs.ShorteningExpressions.{expression_shortens}
use Rattle.hal_parse_expr.proofs.ShorteningPrimaries.{primary_shortens, reference_shortens}
use Rattle.hal_parse_statements.specs.ReadingStatements.{references_at, references_closed, arguments_at, receivers_at, until_at, guard_at, step_at, stepped_from, listed_from, span_at}
use Rattle.hal_parse_expr.proofs.FirstWords.{past_here, past_none, past_symbol_here, past_symbol_none}
use Rattle.hal_parse_expr.proofs.Readings.{Holds, holds_none, holds, weaker_holds}
use Rattle.hal_parse_expr.proofs.Combining.{followed_holds, made_holds}
use Rattle.hal_parse_declarations.proofs.Decided.{decided_holds}
use Rattle.hal_parse_declarations.proofs.Firsts.{past_gives, symbol_gives, not_begun, not_begun_symbol, gives_before_symbol}
use Rattle.hal_parse_expr.proofs.Equations.{made_equals}
use Rattle.hal_parse_declarations.proofs.Becomes.{followed_is, decided_is, decided_not, before_symbol_is, symbol_is}
use Rattle.hal_parse_declarations.proofs.PartedLists.{list_gives, list_is, others_give, others_are, comma_none, parted_shallow, parted_deep}
use Rattle.hal_parse_declarations.proofs.Below.{ExpressionOf, expression_gives, expressions_gives, reference_gives, expression_is, expressions_are, reference_is}

-- references that are nested so deep at most
abbrev pub ReferencesOf : ℕ → List Reference → Words → Words → Type 0
ReferencesOf n xs b a = Parted SpellsReference xs b a × (most nesting_of_reference xs ≤ n)

pub references_give : (n : ℕ) (words : Words) → Holds (λ xs rest. ReferencesOf n xs words rest) (references_at n words)
unfolding references_at
references_give n words = weaker_holds (list_gives (reference_at n) (reference_gives n) words) (λ xs rest d. parted_deep nesting_of_reference n d)

pub references_are : (n : ℕ) {xs : List Reference} {b a : Words} → Parted SpellsReference xs b a → most nesting_of_reference xs ≤ n → strength a ≤ 9 → ¬ BeginsSymbol symbol.Comma a →
    references_at n b ≡ Some (xs, a)
unfolding references_at
references_are n d h l k =
    list_is {E = λ w. strength w ≤ 9} (reference_at n) (reference_shortens n) (λ x b a e w. reference_is n e.0 e.1 w) (λ p words. omega arith)
    (parted_shallow nesting_of_reference n d h) l k

-- arguments and their parenthesis, one level deeper
data ClosedList (n : ℕ) (ts : Expressions) (b a : Words) : Type 0 where
  closed_list : {q : Place} → SpellsExpressions ts b (symbol_then symbol.RightParenthesis q a) → nesting_of_all ts + 1 ≤ n → ClosedList n ts b a

closed_gives : (n : ℕ) (words : Words) → Holds (λ ts rest. ClosedList n ts words rest) (closed expressions_of (deeper_than n) words)
unfolding closed deeper_than expressions_at
closed_gives zero words = holds_none
closed_gives (suc n) words = gives_before_symbol symbol.RightParenthesis (expressions_gives n words) (λ ts q after d. closed_list d.0 (omega (arith, d.1)))

closed_are : (n : ℕ) {ts : Expressions} {b : Words} {q : Place} {a : Words} → SpellsExpressions ts b (symbol_then symbol.RightParenthesis q a) → nesting_of_all ts + 1 ≤ n →
    closed expressions_of (deeper_than n) b ≡ Some (ts, a)
unfolding closed deeper_than expressions_at
closed_are zero d h = absurd (omega (arith, h))
closed_are (suc n) d h = before_symbol_is (expressions_are n d (omega (arith, h)) (omega arith))

arguments_depth : {ts : Expressions} {b a : Words} → SpellsExpressions ts b a → nesting_of_arguments ts ≡ nesting_of_all ts + 1
arguments_depth (last_expression d) = refl
arguments_depth (more_expressions d ds) = refl

arguments_spelled : {n : ℕ} {ts : Expressions} {p : Place} {b a : Words} → ClosedList n ts b a → SpellsArguments ts (symbol_then symbol.LeftParenthesis p b) a × (nesting_of_arguments ts ≤ n)
arguments_spelled (closed_list d h) = (arguments d, omega (arith, arguments_depth d, h))

pub arguments_give : (n : ℕ) (words : Words) → Holds (λ ts rest. SpellsArguments ts words rest × (nesting_of_arguments ts ≤ n)) (arguments_at n words)
unfolding arguments_at
arguments_give n words =
    decided_holds (symbol_gives symbol.LeftParenthesis words) (λ p rest e. weaker_holds (closed_gives n rest) (λ ts after d. rw e (arguments_spelled d)))
    (λ e. holds (no_arguments (not_begun_symbol symbol.LeftParenthesis words e), omega arith))

pub arguments_are : (n : ℕ) {ts : Expressions} {b a : Words} → SpellsArguments ts b a → nesting_of_arguments ts ≤ n → arguments_at n b ≡ Some (ts, a)
unfolding arguments_at
arguments_are n (no_arguments {after = after} m) h = decided_not _ _ (past_symbol_none symbol.LeftParenthesis after m)
arguments_are n (arguments {p = p} {before = before} d) h = decided_is _ _ (past_symbol_here symbol.LeftParenthesis p before) ∙ closed_are n d (omega (arith, arguments_depth d, h))

-- references and their parenthesis, one level deeper
data ClosedReferences (n : ℕ) (xs : List Reference) (b a : Words) : Type 0 where
  closed_references : {q : Place} → Parted SpellsReference xs b (symbol_then symbol.RightParenthesis q a) → most nesting_of_reference xs + 1 ≤ n → ClosedReferences n xs b a

references_closed_give : (n : ℕ) (words : Words) → Holds (λ xs rest. ClosedReferences n xs words rest) (references_closed n words)
unfolding references_closed
references_closed_give zero words = holds_none
references_closed_give (suc n) words = gives_before_symbol symbol.RightParenthesis (references_give n words) (λ xs q after d. closed_references d.0 (omega (arith, d.1)))

references_closed_are : (n : ℕ) {xs : List Reference} {b : Words} {q : Place} {a : Words} → Parted SpellsReference xs b (symbol_then symbol.RightParenthesis q a) →
    most nesting_of_reference xs + 1 ≤ n → references_closed n b ≡ Some (xs, a)
unfolding references_closed
references_closed_are zero d h = absurd (omega (arith, h))
references_closed_are (suc n) d h = before_symbol_is (references_are n d (omega (arith, h)) (omega arith) (λ e. elim e [ ]))

receivers_depth : {xs : List Reference} {b a : Words} → Parted SpellsReference xs b a → nesting_of_receivers xs ≡ most nesting_of_reference xs + 1
receivers_depth (last d) = refl
receivers_depth (more d ds) = refl

receivers_spelled : {n : ℕ} {xs : List Reference} {p q : Place} {b a : Words} → ClosedReferences n xs b a →
    SpellsReceivers xs (reserved_then reserved.Assign p (symbol_then symbol.LeftParenthesis q b)) a × (nesting_of_receivers xs ≤ n)
receivers_spelled (closed_references d h) = (receivers d, omega (arith, receivers_depth d, h))

pub receivers_give : (n : ℕ) (words : Words) → Holds (λ xs rest. SpellsReceivers xs words rest × (nesting_of_receivers xs ≤ n)) (receivers_at n words)
unfolding receivers_at
receivers_give n words =
    decided_holds (past_gives reserved.Assign words)
    (λ p rest e. followed_holds (symbol_gives symbol.LeftParenthesis rest) (λ q after f. weaker_holds (references_closed_give n after) (λ xs end d. rw (e, f) (receivers_spelled d))))
    (λ e. holds (no_receivers (not_begun reserved.Assign words e), omega arith))

pub receivers_are : (n : ℕ) {xs : List Reference} {b a : Words} → SpellsReceivers xs b a → nesting_of_receivers xs ≤ n → receivers_at n b ≡ Some (xs, a)
unfolding receivers_at
receivers_are n (no_receivers {after = after} m) h = decided_not _ _ (past_none reserved.Assign after m)
receivers_are n (receivers {p = p} {q = q} {before = before} d) h =
    decided_is _ _ (past_here reserved.Assign p (symbol_then symbol.LeftParenthesis q before)) ∙ symbol_is symbol.LeftParenthesis q before _
    ∙ references_closed_are n d (omega (arith, receivers_depth d, h))

until_gives : (n : ℕ) (words : Words) → ¬ BeginsReserved reserved.While words → Holds (λ g rest. SpellsGuard g words rest × (if_any nesting_of_guard g ≤ n)) (until_at n words)
unfolding until_at
until_gives n words m =
    decided_holds (past_gives reserved.Until words) (λ p rest e. made_holds _ (expression_gives n rest) (λ t after d. (rw e (unless d.0), d.1)))
    (λ e. holds (no_guard m (not_begun reserved.Until words e), omega arith))

pub guard_gives : (n : ℕ) (words : Words) → Holds (λ g rest. SpellsGuard g words rest × (if_any nesting_of_guard g ≤ n)) (guard_at n words)
unfolding guard_at
guard_gives n words =
    decided_holds (past_gives reserved.While words) (λ p rest e. made_holds _ (expression_gives n rest) (λ t after d. (rw e (as_long d.0), d.1)))
    (λ e. until_gives n words (not_begun reserved.While words e))

pub guard_is : (n : ℕ) {g : Option Guard} {b a : Words} → SpellsGuard g b a → if_any nesting_of_guard g ≤ n → strength a ≤ 2 → guard_at n b ≡ Some (g, a)
unfolding guard_at until_at past is_reserved where_true
guard_is n (no_guard {after = after} m o) h l = decided_not _ _ (past_none reserved.While after m) ∙ decided_not _ _ (past_none reserved.Until after o)
guard_is n (as_long d) h l = decided_is _ _ refl ∙ made_equals _ (expression_is n d h l)
guard_is n (unless d) h l = decided_not _ _ refl ∙ decided_is _ _ refl ∙ made_equals _ (expression_is n d h l)

step_gives : (n : ℕ) (words : Words) → Holds (λ s rest. SpellsStep s words rest × (if_any nesting s ≤ n)) (step_at n words)
unfolding step_at
step_gives n words =
    decided_holds (past_gives reserved.By words) (λ p rest e. made_holds _ (expression_gives n rest) (λ t after d. (rw e (step d.0), d.1)))
    (λ e. holds (no_step (not_begun reserved.By words e), omega arith))

step_is : (n : ℕ) {s : Option Expression} {b a : Words} → SpellsStep s b a → if_any nesting s ≤ n → strength a ≤ 2 → step_at n b ≡ Some (s, a)
unfolding step_at past is_reserved where_true
step_is n (no_step {after = after} m) h l = decided_not _ _ (past_none reserved.By after m)
step_is n (step d) h l = decided_is _ _ refl ∙ made_equals _ (expression_is n d h l)

list_spelled : (n : ℕ) {ts : List Expression} {b a : Words} → Parted (ExpressionOf n) ts b a → SpellsExpressions (expressions ts) b a × (nesting_of_all (expressions ts) ≤ n)
unfolding expressions
list_spelled n (last d) = (last_expression d.0, omega (arith, d.1))
list_spelled n (more d ds) = let r = list_spelled n ds in (more_expressions d.0 r.0, omega (arith, d.1, r.1))

listed_spelled : (n : ℕ) {t : Expression} {ts : List Expression} {b a : Words} → Parted (ExpressionOf n) (t ∷ ts) b a →
    SpellsSpan (Listed (MoreExpressions t (expressions ts))) b a × (nesting_of_span (Listed (MoreExpressions t (expressions ts))) ≤ n)
unfolding expressions
listed_spelled n d = let r = list_spelled n d in (listed r.0, r.1)

pub span_gives : (n : ℕ) (words : Words) → Holds (λ x rest. SpellsSpan x words rest × (nesting_of_span x ≤ n)) (span_at n words)
unfolding span_at stepped_from listed_from
span_gives n words =
    followed_holds (expression_gives n words) (λ t rest d. decided_holds (past_gives reserved.To rest)
    (λ p after e. followed_holds (expression_gives n after) (λ u last f. made_holds _ (step_gives n last) (λ s end g. (stepped (rw e at d.0) f.0 g.0, omega (arith, d.1, f.1, g.1)))))
    (λ e. holds (listed_spelled n (others_give (expression_at n) (expression_gives n) d))))

-- expressions as a list
data ListOf (n : ℕ) : Expressions → Words → Words → Type 0 where
  list_of : {ts : List Expression} {b a : Words} → Parted (ExpressionOf n) ts b a → ListOf n (expressions ts) b a

list_more : (n : ℕ) {p : Place} {t : Expression} {ts : Expressions} {b m a : Words} → ExpressionOf n t b (symbol_then symbol.Comma p m) → ListOf n ts m a → ListOf n (MoreExpressions t ts) b a
unfolding expressions
list_more n d (list_of {ts = ts} ds) = let l : Parted (ExpressionOf n) (_ ∷ ts) _ _ = more d ds in list_of l

list_last : (n : ℕ) {t : Expression} {b a : Words} → ExpressionOf n t b a → ListOf n (MoreExpressions t NoExpressions) b a
unfolding expressions
list_last n {t = t} {b = b} {a = a} d = let l : Parted (ExpressionOf n) (t ∷ []) b a = last d in list_of l

listing : (n : ℕ) {ts : Expressions} {b a : Words} → SpellsExpressions ts b a → nesting_of_all ts ≤ n → ListOf n ts b a
listing n (last_expression d) h = list_last n (d, omega arith)
listing n (more_expressions d ds) h = list_more n (d, omega arith) (listing n ds (omega arith))

no_comma : {a : Words} → strength a ≤ 0 → ¬ BeginsSymbol symbol.Comma a
no_comma h begins = omega (arith, h)

no_to : {a : Words} → strength a ≤ 1 → ¬ BeginsReserved reserved.To a
no_to h begins = omega (arith, h)

expression_reads_shorter : (n : ℕ) → Shortens (expression_at n)
unfolding expression_at
expression_reads_shorter n = expression_shortens _ (primary_shortens n)

listed_is : (n : ℕ) (p : Place) {t : Expression} {ts : Expressions} {b a : Words} → ListOf n ts b a → strength a ≤ 0 → listed_from n t (symbol_then symbol.Comma p b) ≡ Some (Listed (MoreExpressions t ts), a)
unfolding listed_from
listed_is n p {t = t} (list_of ds) h =
    ap (λ l. Some (Listed (MoreExpressions t (expressions l.0)), l.1))
    (others_are {E = λ w. strength w ≤ 2} (expression_at n) (expression_reads_shorter n) (λ x b a e w. expression_is n e.0 e.1 w) (λ q words. omega arith) p ds (omega (arith, h)) (no_comma h))

alone_is : (n : ℕ) {t : Expression} {a : Words} → strength a ≤ 0 → listed_from n t a ≡ Some (Listed (MoreExpressions t NoExpressions), a)
unfolding listed_from expressions
alone_is n {t = t} {a = a} h = ap (λ l. Some (Listed (MoreExpressions t (expressions l.0)), l.1)) (all_none (after_comma (expression_at n)) a (comma_none (expression_at n) a (no_comma h)))

listed_span : (n : ℕ) {ts : Expressions} {b a : Words} → SpellsExpressions ts b a → nesting_of_all ts ≤ n → strength a ≤ 0 → span_at n b ≡ Some (Listed ts, a)
unfolding span_at
listed_span n {a = a} (last_expression d) h l =
    followed_is _ (expression_is n d (omega arith) (omega arith)) ∙ decided_not _ _ (past_none reserved.To a (no_to (omega arith))) ∙ alone_is n l
listed_span n (more_expressions {p = p} {middle = middle} d ds) h l =
    followed_is _ (expression_is n d (omega arith) (omega arith)) ∙ decided_not _ _ (past_none reserved.To (symbol_then symbol.Comma p middle) (λ e. elim e [ ]))
    ∙ listed_is n p (listing n ds (omega arith)) l

pub span_is : (n : ℕ) {x : Span} {b a : Words} → SpellsSpan x b a → nesting_of_span x ≤ n → strength a ≤ 0 → span_at n b ≡ Some (x, a)
unfolding span_at stepped_from
span_is n (stepped {p = p} {left = left} d e s) h l =
    followed_is _ (expression_is n d (omega arith) (omega arith)) ∙ decided_is _ _ (past_here reserved.To p left)
    ∙ followed_is _ (expression_is n e (omega arith) (omega (arith, step_weak s l))) ∙ made_equals _ (step_is n s (omega arith) (omega (arith, l)))
span_is n (listed d) h l = listed_span n d h l
