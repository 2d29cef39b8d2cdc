-- Types: what is read is spelled, and what is spelled is read.
use Rattle.std.proofs.Common.{◌≡◌, ℕ, ◌≤◌, List, [], ◌∷◌, Option, Some, refl, ◌∙◌, arith}
use Rattle.hal_base.specs.declared.refusal.Place.{Place}
use Rattle.hal_words.specs.declared.reserved.Reserved.TheVariants as reserved
use Rattle.hal_words.specs.declared.word.Symbol.TheVariants as symbol
use Rattle.hal_words.specs.declared.word.Word.{Word}
use Rattle.hal_words.specs.declared.word.Word.TheVariants as word
use Rattle.hal_grammar.specs.Leaves.{if_any}
use Rattle.hal_grammar.specs.Expressions.{Expression, nesting}
use Rattle.hal_grammar.specs.Declarations.{Kind, BitKind, CharacterKind, StructureKind, nesting_of_kind}
use Rattle.hal_grammar.specs.Words.{Words, token, reserved_then, name_then}
use Rattle.hal_grammar.specs.SpellsDeclarations.{SpellsCopyCount, no_copy_count, copy_count, SpellsKind, integer_kind, bit_kind, boolean_kind, character_kind, event_kind, structure_kind}
use Rattle.hal_parse_expr.specs.ReadingExpressions.{expression_at}
use Rattle.hal_parse_declarations.specs.ReadingDeclarations.{copy_count_at, structure_behind, kind_behind, kind_at}
use Rattle.hal_parse_expr.proofs.FirstWords.{past_symbol_here, past_symbol_none}
use Rattle.hal_parse_expr.proofs.Readings.{Holds, holds_none, holds}
use Rattle.hal_parse_expr.proofs.Combining.{followed_holds, made_holds}
use Rattle.hal_parse_declarations.proofs.Decided.{decided_holds}
use Rattle.hal_parse_declarations.proofs.Firsts.{past_gives, symbol_gives, not_begun_symbol, gives_before_symbol, Enclosed, enclosed_so, gives_enclosed}
use Rattle.hal_parse_expr.proofs.Equations.{made_equals}
use Rattle.hal_parse_declarations.proofs.Becomes.{decided_is, decided_not, before_symbol_is, past_is, symbol_is, enclosed_is}
use Rattle.hal_parse_declarations.proofs.Below.{ExpressionOf, expression_gives, expression_is}

pub copy_count_gives : (n : ℕ) (words : Words) → Holds (λ c rest. SpellsCopyCount c words rest × (if_any nesting c ≤ n)) (copy_count_at n words)
unfolding copy_count_at
copy_count_gives n words =
    decided_holds (symbol_gives symbol.LeftParenthesis words)
    (λ p rest e. made_holds _ (gives_before_symbol {Q = λ t after. SpellsCopyCount (Some t) words after × (nesting t ≤ n)} symbol.RightParenthesis (expression_gives n rest)
    (λ t q after d. (rw e (copy_count d.0), d.1))) (λ t after d. d))
    (λ e. holds (no_copy_count (not_begun_symbol symbol.LeftParenthesis words e), omega arith))

pub copy_count_is : (n : ℕ) {c : Option Expression} {b a : Words} → SpellsCopyCount c b a → if_any nesting c ≤ n → copy_count_at n b ≡ Some (c, a)
unfolding copy_count_at
copy_count_is n (no_copy_count {after = after} m) h = decided_not _ _ (past_symbol_none symbol.LeftParenthesis after m)
copy_count_is n (copy_count {p = p} {before = before} d) h = decided_is _ _ (past_symbol_here symbol.LeftParenthesis p before) ∙ made_equals _ (before_symbol_is (expression_is n d h (omega arith)))

bit_spelled : {n : ℕ} {t : Expression} {p : Place} {b a : Words} → Enclosed (ExpressionOf n) t b a →
    SpellsKind (BitKind p t) (reserved_then reserved.Bit p b) a × (nesting t ≤ n)
bit_spelled (enclosed_so d) = (bit_kind d.0, d.1)

character_spelled : {n : ℕ} {t : Expression} {p : Place} {b a : Words} → Enclosed (ExpressionOf n) t b a →
    SpellsKind (CharacterKind p t) (reserved_then reserved.Character p b) a × (nesting t ≤ n)
character_spelled (enclosed_so d) = (character_kind d.0, d.1)

structure_gives : (n : ℕ) (p : Place) (m : List ℕ) (words : Words) → Holds (λ k rest. SpellsKind k (name_then m p words) rest × (nesting_of_kind k ≤ n)) (structure_behind n p m words)
unfolding structure_behind
structure_gives n p m words =
    followed_holds (symbol_gives symbol.Minus words) (λ q rest e. followed_holds (past_gives reserved.Structure rest) (λ r after f.
    made_holds _ (copy_count_gives n after) (λ c last d. (rw (e, f) (structure_kind d.0), d.1))))

-- the first word and what stands behind it are a type
pub kind_behind_gives : (n : ℕ) (p : Place) (w : Word) (words : Words) → Holds (λ k rest. SpellsKind k (token w p ∷ words) rest × (nesting_of_kind k ≤ n)) (kind_behind n p w words)
unfolding kind_behind
kind_behind_gives n p (word.Reserved reserved.Integer) words = holds (integer_kind, omega arith)
kind_behind_gives n p (word.Reserved reserved.Bit) words = made_holds _ (gives_enclosed (expression_at n) words (expression_gives n)) (λ t rest d. bit_spelled d)
kind_behind_gives n p (word.Reserved reserved.Boolean) words = holds (boolean_kind, omega arith)
kind_behind_gives n p (word.Reserved reserved.Character) words = made_holds _ (gives_enclosed (expression_at n) words (expression_gives n)) (λ t rest d. character_spelled d)
kind_behind_gives n p (word.Reserved reserved.Event) words = holds (event_kind, omega arith)
kind_behind_gives n p (word.Name m) words = structure_gives n p m words
kind_behind_gives n p other words = holds_none

pub kind_gives : (n : ℕ) (words : Words) → Holds (λ k rest. SpellsKind k words rest × (nesting_of_kind k ≤ n)) (kind_at n words)
unfolding kind_at
kind_gives n [] = holds_none
kind_gives n (first ∷ rest) = kind_behind_gives n first.place first.word rest

pub structure_is : (n : ℕ) (p q r : Place) (m : List ℕ) {c : Option Expression} {b a : Words} → SpellsCopyCount c b a → if_any nesting c ≤ n →
    structure_behind n p m (token (word.Symbol symbol.Minus) q ∷ reserved_then reserved.Structure r b) ≡ Some (StructureKind p m c, a)
unfolding structure_behind
structure_is n p q r m {b = b} d h = symbol_is symbol.Minus q (reserved_then reserved.Structure r b) _ ∙ past_is reserved.Structure r b _ ∙ made_equals _ (copy_count_is n d h)

pub kind_is : (n : ℕ) {k : Kind} {b a : Words} → SpellsKind k b a → nesting_of_kind k ≤ n → kind_at n b ≡ Some (k, a)
unfolding kind_at kind_behind
kind_is n integer_kind h = refl
kind_is n (bit_kind {q = q} {before = before} d) h = made_equals _ (enclosed_is (expression_at n) q before (expression_is n d h (omega arith)))
kind_is n boolean_kind h = refl
kind_is n (character_kind {q = q} {before = before} d) h = made_equals _ (enclosed_is (expression_at n) q before (expression_is n d h (omega arith)))
kind_is n event_kind h = refl
kind_is n (structure_kind {p = p} {q = q} {r = r} {n = m} d) h = structure_is n p q r m d h
