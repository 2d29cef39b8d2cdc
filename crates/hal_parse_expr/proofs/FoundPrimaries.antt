-- What is read of a primary is one.
use Rattle.std.proofs.Common.{◌≡◌, ℕ, ◌≤◌, ◌+◌, List, [], ◌∷◌, Option, Some, None, refl, subst, arith}
use Rattle.hal_base.specs.declared.refusal.Place.{Place}
use Rattle.hal_words.specs.declared.reserved.Reserved.TheVariants as reserved
use Rattle.hal_words.specs.declared.word.Symbol.TheVariants as symbol
use Rattle.hal_words.specs.declared.word.Word.{Word}
use Rattle.hal_words.specs.declared.word.Word.TheVariants as word
use Rattle.hal_grammar.specs.Leaves.{Conversion, LiteralValue}
use Rattle.hal_grammar.specs.Expressions.{Expression, Literal, Referred, Called, Convert, Parenthesis, Expressions, Reference, nesting, nesting_of_all}
use Rattle.hal_grammar.specs.Words.{Words, token, reserved_then, symbol_then, name_then, BeginsSymbol}
use Rattle.hal_grammar.specs.SpellsExpressions.{no_further, IsNameAlone, name_alone, SpellsExpression, SpellsPrimary, negated, literal, thousandths, referred, called, to_integer, to_bits, to_text, enclosed, SpellsExpressions, SpellsReference, refers, unsubscripted}
use Rattle.hal_parse_expr.specs.Reading.{Read, Reader, followed, made_of}
use Rattle.hal_parse_expr.specs.ReadingExpressions.{expression_of, expressions_of, reference_behind, closed, named_at, converted_at, negated_at, conversion_of, primary_behind, primary_of}
use Rattle.hal_parse_expr.proofs.FirstWords.{PastOf, is_past, not_past, past_symbol_of}
use Rattle.hal_parse_expr.proofs.Readings.{Holds, holds_none, holds, Phrase}
use Rattle.hal_parse_expr.proofs.Combining.{made_holds}
use Rattle.hal_parse_expr.proofs.ReadLeaves.{LiteralOf, no_literal, is_literal, literal_sound}
use Rattle.hal_parse_expr.proofs.ReadBefore.{Before, before_it}
use Rattle.hal_parse_expr.proofs.ReadReferences.{Lower, lowest, lower, reference_behind_sound}
use Rattle.hal_parse_expr.proofs.ReadClosed.{closed_expression, closed_expressions}

alone_rest : {r : Reference} {n : List ℕ} {p : Place} {b a : Words} → IsNameAlone r → SpellsReference r (name_then n p b) a → b ≡ a
alone_rest name_alone (refers no_further unsubscripted) = refl

called_in : {n : ℕ} {p q : Place} {w : List ℕ} {ts : Expressions} {b a : Words} → Before (word.Symbol symbol.RightParenthesis) SpellsExpressions ts b a → nesting_of_all ts + 1 ≤ n →
    Phrase SpellsPrimary nesting n (name_then w p (symbol_then symbol.LeftParenthesis q b)) (Called p w ts) a
called_in (before_it d) l = record { spells = called d; shallow = l }

named_in : {n : ℕ} {deeper : Option (Reader Expression)} → Lower n deeper → (p : Place) (w : List ℕ) {words : Words} {o : Read Place} → PastOf (word.Symbol symbol.LeftParenthesis) words o →
    Holds (Phrase SpellsPrimary nesting n (name_then w p words))
    (elim o [ None ↦ made_of Referred (reference_behind deeper p w words) | Some f ↦ made_of (λ ts. Called p w ts) (closed expressions_of deeper f.1) ])
named_in h p w (is_past {rest = rest}) = made_holds _ (closed_expressions h rest) (λ ts a q. called_in q.spells q.shallow)
named_in h p w {words = words} (not_past m) = made_holds Referred (reference_behind_sound h p w words)
    (λ r a q. record { spells = referred q.spells (λ i. subst (λ z. ¬ BeginsSymbol symbol.LeftParenthesis z) (alone_rest i q.spells) m); shallow = q.shallow })

enclosed_in : {n : ℕ} {p : Place} {t : Expression} {b a : Words} → Before (word.Symbol symbol.RightParenthesis) SpellsExpression t b a → nesting t + 1 ≤ n →
    Phrase SpellsPrimary nesting n (symbol_then symbol.LeftParenthesis p b) (Parenthesis p t) a
enclosed_in (before_it d) l = record { spells = enclosed d; shallow = l }

negated_sound : {n : ℕ} {deeper : Option (Reader Expression)} → Lower n deeper → (p : Place) (words : Words) → Holds (Phrase SpellsPrimary nesting n (reserved_then reserved.Not p words)) (negated_at deeper p words)
unfolding negated_at
negated_sound lowest p words = holds_none
negated_sound (lower h) p words = made_holds _ (h.sound words) (λ t a q. record { spells = negated q.spells; shallow = omega (arith, q.shallow) })

-- the conversion that a word begins
data ConversionOf (w : Word) : Option Conversion → Type 0 where
  no_conversion : ConversionOf w None
  is_conversion : {c : Conversion} → ((p q r : Place) (t : Expression) (b a : Words) → SpellsExpression t b (symbol_then symbol.RightParenthesis r a) →
      SpellsPrimary (Convert p c t) (token w p ∷ symbol_then symbol.LeftParenthesis q b) a) → ConversionOf w (Some c)

conversion_sound : (w : Word) → ConversionOf w (conversion_of w)
unfolding conversion_of
conversion_sound (word.Reserved reserved.Integer) = is_conversion (λ p q r t b a d. to_integer d)
conversion_sound (word.Reserved reserved.Bit) = is_conversion (λ p q r t b a d. to_bits d)
conversion_sound (word.Reserved reserved.Character) = is_conversion (λ p q r t b a d. to_text d)
conversion_sound (word.Reserved r) = no_conversion
conversion_sound other = no_conversion

converted_then : {n : ℕ} {w : Word} {c : Conversion} {p q : Place} {t : Expression} {b a : Words} →
    ((r : Place) → SpellsExpression t b (symbol_then symbol.RightParenthesis r a) → SpellsPrimary (Convert p c t) (token w p ∷ symbol_then symbol.LeftParenthesis q b) a) →
    Before (word.Symbol symbol.RightParenthesis) SpellsExpression t b a → nesting t + 1 ≤ n → Phrase SpellsPrimary nesting n (token w p ∷ symbol_then symbol.LeftParenthesis q b) (Convert p c t) a
converted_then f (before_it d) l = record { spells = f _ d; shallow = l }

converted_in : {n : ℕ} {deeper : Option (Reader Expression)} → Lower n deeper → {w : Word} {c : Conversion} {p : Place} → ((q r : Place) (t : Expression) (b a : Words) →
    SpellsExpression t b (symbol_then symbol.RightParenthesis r a) → SpellsPrimary (Convert p c t) (token w p ∷ symbol_then symbol.LeftParenthesis q b) a) →
    {words : Words} {o : Read Place} → PastOf (word.Symbol symbol.LeftParenthesis) words o →
    Holds (Phrase SpellsPrimary nesting n (token w p ∷ words)) (followed o (λ q rest. made_of (λ t. Convert p c t) (closed expression_of deeper rest)))
unfolding followed
converted_in h f (is_past {p = q} {rest = rest}) = made_holds _ (closed_expression h rest) (λ t a e. converted_then (λ r. f q r t rest a) e.spells e.shallow)
converted_in h f (not_past m) = holds_none

conversion_in : {n : ℕ} {deeper : Option (Reader Expression)} → Lower n deeper → (w : Word) (p : Place) (rest : Words) {o : Option Conversion} → ConversionOf w o →
    Holds (Phrase SpellsPrimary nesting n (token w p ∷ rest)) (elim o [ None ↦ None | Some c ↦ converted_at deeper p c rest ])
unfolding converted_at
conversion_in h w p rest no_conversion = holds_none
conversion_in h w p rest (is_conversion f) = converted_in h (f p) (past_symbol_of symbol.LeftParenthesis rest)

literal_in : {n : ℕ} {deeper : Option (Reader Expression)} → Lower n deeper → (w : Word) (p : Place) (rest : Words) {l : Option LiteralValue} {o : Option Conversion} → LiteralOf w l → ConversionOf w o →
    Holds (Phrase SpellsPrimary nesting n (token w p ∷ rest))
    (elim l [ Some x ↦ Some (Literal p x, rest) | None ↦ elim o [ None ↦ None | Some c ↦ converted_at deeper p c rest ] ])
literal_in h w p rest (is_literal f) g = holds (record { spells = literal (f p rest); shallow = omega arith })
literal_in h w p rest no_literal g = conversion_in h w p rest g

behind_sound : {n : ℕ} {deeper : Option (Reader Expression)} → Lower n deeper → (w : Word) (p : Place) (rest : Words) → Holds (Phrase SpellsPrimary nesting n (token w p ∷ rest)) (primary_behind deeper p w rest)
unfolding primary_behind named_at
behind_sound h (word.Name n) p rest = named_in h p n (past_symbol_of symbol.LeftParenthesis rest)
behind_sound h (word.Decimal n) p rest = holds (record { spells = thousandths; shallow = omega arith })
behind_sound h (word.Symbol symbol.LeftParenthesis) p rest = made_holds _ (closed_expression h rest) (λ t a q. enclosed_in q.spells q.shallow)
behind_sound h (word.Reserved reserved.Not) p rest = negated_sound h p rest
behind_sound h (word.Reserved r) p rest = literal_in h _ p rest (literal_sound (word.Reserved r)) (conversion_sound (word.Reserved r))
behind_sound h (word.Symbol s) p rest = literal_in h _ p rest (literal_sound (word.Symbol s)) (conversion_sound (word.Symbol s))
behind_sound h other p rest = literal_in h _ p rest (literal_sound other) (conversion_sound other)

pub of_sound : {n : ℕ} {deeper : Option (Reader Expression)} → Lower n deeper → (words : Words) → Holds (Phrase SpellsPrimary nesting n words) (primary_of deeper words)
unfolding primary_of
of_sound h [] = holds_none
of_sound h (first ∷ rest) = behind_sound h first.word first.place rest
