-- Heads of units: what is read is spelled, and what is spelled is read.
use Rattle.std.proofs.Common.{◌≡◌, ℕ, ◌≤◌, List, [], ◌∷◌, Option, Some, None, refl, ◌∙◌, arith}
use Rattle.hal_base.specs.declared.refusal.Place.{Place}
use Rattle.hal_words.specs.declared.reserved.Reserved.TheVariants as reserved
use Rattle.hal_words.specs.declared.word.Symbol.TheVariants as symbol
use Rattle.hal_words.specs.declared.word.Word.{Word}
use Rattle.hal_words.specs.declared.word.Word.TheVariants as word
use Rattle.hal_grammar.specs.Leaves.{Naming}
use Rattle.hal_grammar.specs.Declarations.{Kind, nesting_of_kind}
use Rattle.hal_grammar.specs.Units.{Mode, Reentrant, Exclusive, Precision, SinglePrecision, DoublePrecision, Returns, NoKind, HasKind, Head, nesting_of_returns, nesting_of_head}
use Rattle.hal_grammar.specs.Words.{Words, token, reserved_then, symbol_then}
use Rattle.hal_grammar.specs.SpellsDeclarations.{SpellsNames, SpellsKind}
use Rattle.hal_grammar.specs.SpellsFiles.{SpellsInputs, no_inputs, input_names, SpellsOutputs, no_outputs, output_names, SpellsModeEnd, no_mode_end, reenters_end, excludes_end, SpellsPrecisionEnd, no_precision, single_precision, double_precision, SpellsReturnsEnd, no_kind, has_kind, SpellsHead, program_head, compool_head, task_head, procedure_head, function_head}
use Rattle.hal_parse_expr.specs.Reading.{decided, past, is_reserved, where_true, past_symbol, is_symbol, made_of}
use Rattle.hal_parse_declarations.specs.ReadingDeclarations.{names_at, kind_behind, kind_at}
use Rattle.hal_parse.specs.ReadingFiles.{inputs_at, outputs_at, mode_at, mode_end_at, precision_at, precision_option, returns_at, procedure_behind, returns_end_at, function_behind, head_behind, head_at}
use Rattle.hal_parse_expr.proofs.FirstWords.{past_here, past_none, past_symbol_here, past_symbol_none}
use Rattle.hal_parse_expr.proofs.Readings.{Holds, holds_none, holds, weaker_holds}
use Rattle.hal_parse_expr.proofs.Combining.{followed_holds, made_holds}
use Rattle.hal_parse_declarations.proofs.Decided.{decided_holds}
use Rattle.hal_parse_declarations.proofs.Firsts.{past_gives, symbol_gives, not_begun, not_begun_symbol, Enclosed, enclosed_so, gives_enclosed, Ended, ended, gives_ended}
use Rattle.hal_parse_expr.proofs.Equations.{made_equals}
use Rattle.hal_parse_declarations.proofs.Becomes.{followed_is, decided_is, decided_not, before_symbol_is, enclosed_is}
use Rattle.hal_parse_declarations.proofs.LeavesRead.{names_give, names_are}
use Rattle.hal_parse_declarations.proofs.KindsRead.{kind_gives, kind_is}

inputs_spelled : {ns : List Naming} {p : Place} {b a : Words} → Ended symbol.RightParenthesis SpellsNames ns b a → SpellsInputs ns (symbol_then symbol.LeftParenthesis p b) a
inputs_spelled (ended d) = input_names d

inputs_give : (words : Words) → Holds (λ ns rest. SpellsInputs ns words rest) (inputs_at words)
unfolding inputs_at
inputs_give words =
    decided_holds (symbol_gives symbol.LeftParenthesis words) (λ p rest e. weaker_holds (gives_ended symbol.RightParenthesis rest (names_give rest)) (λ ns after d. rw e (inputs_spelled d)))
    (λ e. holds (no_inputs (not_begun_symbol symbol.LeftParenthesis words e)))

inputs_are : {ns : List Naming} {b a : Words} → SpellsInputs ns b a → inputs_at b ≡ Some (ns, a)
unfolding inputs_at
inputs_are (no_inputs {after = after} h) = decided_not _ _ (past_symbol_none symbol.LeftParenthesis after h)
inputs_are (input_names {p = p} {before = before} d) = decided_is _ _ (past_symbol_here symbol.LeftParenthesis p before) ∙ before_symbol_is (names_are d (λ e. elim e [ ]))

outputs_spelled : {ns : List Naming} {p : Place} {b a : Words} → Enclosed SpellsNames ns b a → SpellsOutputs ns (reserved_then reserved.Assign p b) a
outputs_spelled (enclosed_so d) = output_names d

outputs_give : (words : Words) → Holds (λ ns rest. SpellsOutputs ns words rest) (outputs_at words)
unfolding outputs_at
outputs_give words =
    decided_holds (past_gives reserved.Assign words) (λ p rest e. weaker_holds (gives_enclosed names_at rest names_give) (λ ns after d. rw e (outputs_spelled d)))
    (λ e. holds (no_outputs (not_begun reserved.Assign words e)))

outputs_are : {ns : List Naming} {b a : Words} → SpellsOutputs ns b a → outputs_at b ≡ Some (ns, a)
unfolding outputs_at
outputs_are (no_outputs {after = after} h) = decided_not _ _ (past_none reserved.Assign after h)
outputs_are (output_names {p = p} {q = q} {before = before} d) =
    decided_is _ _ (past_here reserved.Assign p (symbol_then symbol.LeftParenthesis q before)) ∙ enclosed_is names_at q before (names_are d (λ e. elim e [ ]))

-- REENTRANT or EXCLUSIVE
data SpellsMode : Mode → Words → Words → Type 0 where
  reenters : {p : Place} {a : Words} → SpellsMode (Reentrant p) (reserved_then reserved.Reentrant p a) a
  excludes : {p : Place} {a : Words} → SpellsMode (Exclusive p) (reserved_then reserved.Exclusive p a) a

mode_gives : (words : Words) → Holds (λ m rest. SpellsMode m words rest) (mode_at words)
unfolding mode_at
mode_gives words = decided_holds (past_gives reserved.Reentrant words) (λ p rest e. holds (rw e reenters)) (λ e. made_holds _ (past_gives reserved.Exclusive words) (λ p rest f. rw f excludes))

mode_ended : {m : Mode} {b : Words} {q : Place} {a : Words} → SpellsMode m b (symbol_then symbol.Semicolon q a) → SpellsModeEnd (Some m) b a
mode_ended reenters = reenters_end
mode_ended excludes = excludes_end

mode_end_gives : (words : Words) → Holds (λ m rest. SpellsModeEnd m words rest) (mode_end_at words)
unfolding mode_end_at
mode_end_gives words =
    decided_holds (mode_gives words) (λ m rest d. made_holds _ (symbol_gives symbol.Semicolon rest) (λ p after e. mode_ended (rw e at d)))
    (λ e. made_holds _ (symbol_gives symbol.Semicolon words) (λ p rest f. rw f no_mode_end))

mode_end_is : {m : Option Mode} {b a : Words} → SpellsModeEnd m b a → mode_end_at b ≡ Some (m, a)
unfolding mode_end_at mode_at decided made_of past is_reserved past_symbol is_symbol where_true
mode_end_is no_mode_end = refl
mode_end_is reenters_end = refl
mode_end_is excludes_end = refl

-- SINGLE or DOUBLE or none
data PrecisionOr : Option Precision → Words → Words → Type 0 where
  no_digits : {a : Words} → PrecisionOr None a a
  single_digits : {p : Place} {a : Words} → PrecisionOr (Some (SinglePrecision p)) (reserved_then reserved.Single p a) a
  double_digits : {p : Place} {a : Words} → PrecisionOr (Some (DoublePrecision p)) (reserved_then reserved.Double p a) a

precision_given : (words : Words) → Holds (λ x rest. PrecisionOr (Some x) words rest) (precision_at words)
unfolding precision_at
precision_given words =
    decided_holds (past_gives reserved.Single words) (λ p rest e. holds (rw e single_digits)) (λ e. made_holds _ (past_gives reserved.Double words) (λ p rest f. rw f double_digits))

precision_gives : (words : Words) → Holds (λ x rest. PrecisionOr x words rest) (precision_option words)
unfolding precision_option
precision_gives words = decided_holds (precision_given words) (λ x rest d. holds d) (λ e. holds no_digits)

precision_ended : {x : Option Precision} {m : Option Mode} {b c a : Words} → PrecisionOr x b c → SpellsModeEnd m c a → SpellsPrecisionEnd x m b a
precision_ended no_digits d = no_precision d
precision_ended single_digits d = single_precision d
precision_ended double_digits d = double_precision d

-- a type and its precision, or none
data ReturnsOf (n : ℕ) : Returns → Words → Words → Type 0 where
  none_of : {a : Words} → ReturnsOf n NoKind a a
  kind_of : {k : Kind} {x : Option Precision} {b m a : Words} → SpellsKind k b m → nesting_of_kind k ≤ n → PrecisionOr x m a → ReturnsOf n (HasKind k x) b a

returns_gives : (n : ℕ) (words : Words) → Holds (λ r rest. ReturnsOf n r words rest) (returns_at n words)
unfolding returns_at
returns_gives n words = decided_holds (kind_gives n words) (λ k rest d. made_holds _ (precision_gives rest) (λ x after e. kind_of d.0 d.1 e)) (λ e. holds none_of)

returns_ended : {n : ℕ} {r : Returns} {m : Option Mode} {b c a : Words} → ReturnsOf n r b c → SpellsModeEnd m c a → SpellsReturnsEnd r m b a × (nesting_of_returns r ≤ n)
returns_ended none_of d = (no_kind d, omega arith)
returns_ended (kind_of e l f) d = (has_kind e (precision_ended f d), l)

returns_end_gives : (n : ℕ) (words : Words) → Holds (λ f rest. SpellsReturnsEnd f.0 f.1 words rest × (nesting_of_returns f.0 ≤ n)) (returns_end_at n words)
unfolding returns_end_at
returns_end_gives n words = followed_holds (returns_gives n words) (λ r rest d. made_holds _ (mode_end_gives rest) (λ m after e. returns_ended d e))

mode_no_kind : (n : ℕ) {m : Option Mode} {b a : Words} → SpellsModeEnd m b a → kind_at n b ≡ None
unfolding kind_at kind_behind
mode_no_kind n no_mode_end = refl
mode_no_kind n reenters_end = refl
mode_no_kind n excludes_end = refl

mode_no_precision : {m : Option Mode} {b a : Words} → SpellsModeEnd m b a → precision_option b ≡ Some (None, b)
unfolding precision_option precision_at decided made_of past is_reserved where_true
mode_no_precision no_mode_end = refl
mode_no_precision reenters_end = refl
mode_no_precision excludes_end = refl

single_is : (p : Place) (words : Words) → precision_option (reserved_then reserved.Single p words) ≡ Some (Some (SinglePrecision p), words)
unfolding precision_option precision_at decided made_of past is_reserved where_true
single_is p words = refl

double_is : (p : Place) (words : Words) → precision_option (reserved_then reserved.Double p words) ≡ Some (Some (DoublePrecision p), words)
unfolding precision_option precision_at decided made_of past is_reserved where_true
double_is p words = refl

kind_ended : (n : ℕ) {k : Kind} {x : Option Precision} {m : Option Mode} {b c w a : Words} → SpellsKind k b c → nesting_of_kind k ≤ n → precision_option c ≡ Some (x, w) → SpellsModeEnd m w a →
    returns_end_at n b ≡ Some ((HasKind k x, m), a)
unfolding returns_end_at returns_at
kind_ended n d l e f = followed_is _ (decided_is _ _ (kind_is n d l) ∙ made_equals _ e) ∙ made_equals _ (mode_end_is f)

kind_end_is : (n : ℕ) {k : Kind} {x : Option Precision} {m : Option Mode} {b c a : Words} → SpellsKind k b c → nesting_of_kind k ≤ n → SpellsPrecisionEnd x m c a →
    returns_end_at n b ≡ Some ((HasKind k x, m), a)
kind_end_is n d l (no_precision e) = kind_ended n d l (mode_no_precision e) e
kind_end_is n d l (single_precision {p = p} {before = before} e) = kind_ended n d l (single_is p before) e
kind_end_is n d l (double_precision {p = p} {before = before} e) = kind_ended n d l (double_is p before) e

returns_end_is : (n : ℕ) {r : Returns} {m : Option Mode} {b a : Words} → SpellsReturnsEnd r m b a → nesting_of_returns r ≤ n → returns_end_at n b ≡ Some ((r, m), a)
unfolding returns_end_at returns_at
returns_end_is n (no_kind d) h = followed_is _ (decided_not _ _ (mode_no_kind n d)) ∙ made_equals _ (mode_end_is d)
returns_end_is n (has_kind d e) h = kind_end_is n d h e

-- a head that is nested so deep at most
abbrev pub HeadOf : ℕ → Head → Words → Words → Type 0
HeadOf n h b a = SpellsHead h b a × (nesting_of_head h ≤ n)

procedure_gives : (n : ℕ) (p : Place) (words : Words) → Holds (λ h rest. HeadOf n h (reserved_then reserved.Procedure p words) rest) (procedure_behind p words)
unfolding procedure_behind
procedure_gives n p words =
    followed_holds (inputs_give words) (λ ins r1 d. followed_holds (outputs_give r1) (λ outs r2 e. made_holds _ (mode_end_gives r2) (λ m rest f. (procedure_head d e f, omega arith))))

function_gives : (n : ℕ) (p : Place) (words : Words) → Holds (λ h rest. HeadOf n h (reserved_then reserved.Function p words) rest) (function_behind n p words)
unfolding function_behind
function_gives n p words = followed_holds (inputs_give words) (λ ins r1 d. made_holds _ (returns_end_gives n r1) (λ f rest g. (function_head d g.0, g.1)))

behind_gives : (n : ℕ) (p : Place) (w : Word) (words : Words) → Holds (λ h rest. HeadOf n h (token w p ∷ words) rest) (head_behind n p w words)
unfolding head_behind
behind_gives n p (word.Reserved reserved.Program) words = made_holds _ (symbol_gives symbol.Semicolon words) (λ q rest e. (rw e program_head, omega arith))
behind_gives n p (word.Reserved reserved.Compool) words = made_holds _ (symbol_gives symbol.Semicolon words) (λ q rest e. (rw e compool_head, omega arith))
behind_gives n p (word.Reserved reserved.Task) words = made_holds _ (symbol_gives symbol.Semicolon words) (λ q rest e. (rw e task_head, omega arith))
behind_gives n p (word.Reserved reserved.Procedure) words = procedure_gives n p words
behind_gives n p (word.Reserved reserved.Function) words = function_gives n p words
behind_gives n p other words = holds_none

-- what is read of a head is spelled
pub head_gives : (n : ℕ) (words : Words) → Holds (λ h rest. HeadOf n h words rest) (head_at n words)
unfolding head_at
head_gives n [] = holds_none
head_gives n (first ∷ rest) = behind_gives n first.place first.word rest

-- what is spelled as a head is read
pub head_is : (n : ℕ) {h : Head} {b a : Words} → SpellsHead h b a → nesting_of_head h ≤ n → head_at n b ≡ Some (h, a)
unfolding head_at head_behind procedure_behind function_behind past_symbol is_symbol where_true
head_is n program_head h = made_equals _ refl
head_is n compool_head h = made_equals _ refl
head_is n task_head h = made_equals _ refl
head_is n (procedure_head d e f) h = followed_is _ (inputs_are d) ∙ followed_is _ (outputs_are e) ∙ made_equals _ (mode_end_is f)
head_is n (function_head d e) h = followed_is _ (inputs_are d) ∙ made_equals _ (returns_end_is n e h)
