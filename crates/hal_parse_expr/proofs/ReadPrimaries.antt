-- The readers of primaries and references, level by level.
use Rattle.std.proofs.Common.{ℕ, zero, suc, ◌≤◌, ◌+◌, List, length, Option, Some, None, sym, subst, arith}
use Rattle.hal_base.specs.declared.refusal.Place.{Place}
use Rattle.hal_words.specs.declared.word.Symbol.TheVariants as symbol
use Rattle.hal_grammar.specs.Leaves.{Naming, Conversion, ToInteger, ToBits, ToText, LiteralValue}
use Rattle.hal_grammar.specs.Expressions.{Expression, Referred, Called, Expressions, Reference, Refers, Subscript, nesting, nesting_of_all, nesting_of_reference}
use Rattle.hal_grammar.specs.Words.{Words, symbol_then, name_then, BeginsSymbol}
use Rattle.hal_grammar.specs.SpellsExpressions.{SpellsLiteral, integer, text, bits, true_bit, false_bit, on_bit, off_bit, SpellsFurther, no_further, further, IsNameAlone, name_alone, SpellsExpression, SpellsPrimary, negated, literal, thousandths, referred, called, to_integer, to_bits, to_text, enclosed, SpellsExpressions, SpellsReference, refers, SpellsSubscript, unsubscripted, by_name, by_integer, by_parts}
use Rattle.hal_grammar.proofs.OneExpression.{one_primary, one_reference}
use Rattle.hal_parse_expr.specs.Reading.{Reader, made_of}
use Rattle.hal_parse_expr.specs.ReadingExpressions.{expressions_of, reference_behind, closed, named_at, converted_at, negated_at, literal_of, conversion_of, primary_behind, primary_of, primary_at, deeper_than, reference_at}
use Rattle.hal_parse_expr.proofs.FirstWords.{past_symbol_none, past_symbol_here}
use Rattle.hal_parse_expr.proofs.ShorteningPrimaries.{primary_shortens, reference_shortens}
use Rattle.hal_parse_expr.proofs.Readings.{Reaches, reaches, Reads}
use Rattle.hal_parse_expr.proofs.Combining.{followed_at, made_reaches}
use Rattle.hal_parse_expr.proofs.ReadFactors.{Primaries}
use Rattle.hal_parse_expr.proofs.ReadReferences.{Lower, lowest, lower, reference_behind_reach, reference_sound, reference_reach}
use Rattle.hal_parse_expr.proofs.ReadClosed.{expression_closed, expressions_closed}
use Rattle.hal_parse_expr.proofs.FoundPrimaries.{of_sound}

literal_reach : (deeper : Option (Reader Expression)) {l : LiteralValue} {p : Place} {b a : Words} → SpellsLiteral l p b a → Reaches (length a) (primary_of deeper b)
unfolding primary_of primary_behind literal_of
literal_reach deeper integer = reaches (omega arith)
literal_reach deeper text = reaches (omega arith)
literal_reach deeper bits = reaches (omega arith)
literal_reach deeper true_bit = reaches (omega arith)
literal_reach deeper false_bit = reaches (omega arith)
literal_reach deeper on_bit = reaches (omega arith)
literal_reach deeper off_bit = reaches (omega arith)

not_open : {p : Place} {n : List ℕ} {ns : List Naming} {s : Subscript} {b m a : Words} → SpellsFurther ns b m → SpellsSubscript s m a → (IsNameAlone (Refers p n ns s) → ¬ BeginsSymbol symbol.LeftParenthesis a) →
    BeginsSymbol symbol.LeftParenthesis b → ⊥
not_open no_further unsubscripted w k = w name_alone k
not_open no_further by_name w k = elim k [ ]
not_open no_further by_integer w k = elim k [ ]
not_open no_further (by_parts i d) w k = elim k [ ]
not_open (further d) x w k = elim k [ ]

named_reach : {n : ℕ} {deeper : Option (Reader Expression)} → Lower n deeper → (p : Place) (w : List ℕ) {r : Reference} {b a : Words} → SpellsReference r (name_then w p b) a →
    (IsNameAlone r → ¬ BeginsSymbol symbol.LeftParenthesis a) → nesting_of_reference r ≤ n → Reaches (length a) (named_at deeper p w b)
unfolding named_at
named_reach {deeper = deeper} h p w {b = b} {a = a} (refers d x) g l =
    subst (λ z. Reaches (length a) (elim z [ None ↦ made_of Referred (reference_behind deeper p w b) | Some f ↦ made_of (λ ts. Called p w ts) (closed expressions_of deeper f.1) ]))
    (sym (past_symbol_none symbol.LeftParenthesis b (not_open d x g))) (made_reaches Referred (reference_behind_reach h p w d x l))

called_reach : {n : ℕ} {deeper : Option (Reader Expression)} → Lower n deeper → (p q : Place) (w : List ℕ) {ts : Expressions} {r : Place} {b a : Words} →
    SpellsExpressions ts b (symbol_then symbol.RightParenthesis r a) → nesting_of_all ts + 1 ≤ n → Reaches (length a) (named_at deeper p w (symbol_then symbol.LeftParenthesis q b))
unfolding named_at
called_reach {deeper = deeper} h p q w {b = b} {a = a} d l =
    subst (λ z. Reaches (length a) (elim z [ None ↦ made_of Referred (reference_behind deeper p w (symbol_then symbol.LeftParenthesis q b)) | Some f ↦ made_of (λ ts. Called p w ts) (closed expressions_of deeper f.1) ]))
    (sym (past_symbol_here symbol.LeftParenthesis q b)) (made_reaches _ (expressions_closed h d l))

converted_reach : {n : ℕ} {deeper : Option (Reader Expression)} → Lower n deeper → (p q : Place) (c : Conversion) {t : Expression} {r : Place} {b a : Words} →
    SpellsExpression t b (symbol_then symbol.RightParenthesis r a) → nesting t + 1 ≤ n → Reaches (length a) (converted_at deeper p c (symbol_then symbol.LeftParenthesis q b))
unfolding converted_at
converted_reach h p q c {b = b} d l = followed_at _ (past_symbol_here symbol.LeftParenthesis q b) (made_reaches _ (expression_closed h d l))

negated_reach : {n : ℕ} {deeper : Option (Reader Expression)} → Lower n deeper → (p : Place) {t : Expression} {b a : Words} → SpellsPrimary t b a → nesting t + 1 ≤ n → Reaches (length a) (negated_at deeper p b)
unfolding negated_at
negated_reach lowest p d l = absurd (omega arith)
negated_reach (lower h) p d l = made_reaches _ (h.reach _ _ _ d (omega arith))

of_reach : {n : ℕ} {deeper : Option (Reader Expression)} → Lower n deeper → {t : Expression} {b a : Words} → SpellsPrimary t b a → nesting t ≤ n → Reaches (length a) (primary_of deeper b)
unfolding primary_of primary_behind literal_of conversion_of
of_reach h (negated {p = p} d) l = negated_reach h p d l
of_reach {deeper = deeper} h (literal d) l = literal_reach deeper d
of_reach h thousandths l = reaches (omega arith)
of_reach h (referred {p = p} {n = w} d g) l = named_reach h p w d g l
of_reach h (called {p = p} {q = q} {n = w} d) l = called_reach h p q w d l
of_reach h (to_integer {p = p} {q = q} d) l = converted_reach h p q ToInteger d l
of_reach h (to_bits {p = p} {q = q} d) l = converted_reach h p q ToBits d l
of_reach h (to_text {p = p} {q = q} d) l = converted_reach h p q ToText d l
of_reach h (enclosed d) l = made_reaches _ (expression_closed h d l)

-- primaries of each nesting
pub primary_reads : (n : ℕ) → Primaries n (primary_at n)
unfolding primary_at
primary_reads zero = record {
  sound = λ words. of_sound lowest words;
  reach = λ t b a d l. of_reach lowest d l;
  one = λ t u w a b d e. one_primary d e;
  short = primary_shortens zero;
}
primary_reads (suc n) = record {
  sound = λ words. of_sound (lower (primary_reads n)) words;
  reach = λ t b a d l. of_reach (lower (primary_reads n)) d l;
  one = λ t u w a b d e. one_primary d e;
  short = primary_shortens (suc n);
}

deeper_reads : (n : ℕ) → Lower n (deeper_than n)
unfolding deeper_than
deeper_reads zero = lowest
deeper_reads (suc n) = lower (primary_reads n)

-- references of each nesting
pub reference_reads : (n : ℕ) → Reads SpellsReference nesting_of_reference n 9 (reference_at n)
unfolding reference_at
reference_reads n = record {
  sound = λ words. reference_sound (deeper_reads n) words;
  reach = λ r b a d l. reference_reach (deeper_reads n) d l;
  one = λ r s w a b d e. one_reference d e;
  short = reference_shortens n;
}
