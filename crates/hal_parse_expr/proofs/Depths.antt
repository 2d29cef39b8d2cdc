-- The reader one level deeper, by the number of levels that are left.
use Rattle.std.proofs.Common.{◌≡◌, ◌≢◌, ℕ, zero, suc, ◌-◌, [], ◌∷◌, length, Option, Some, None, refl, ap, sym, ◌∙◌, arith}
use Rattle.hal_base.specs.declared.refusal.Place.{Place}
use Rattle.hal_words.specs.declared.reserved.Reserved.TheVariants as reserved
use Rattle.hal_words.specs.declared.word.Symbol.TheVariants as symbol
use Rattle.hal_words.specs.declared.word.Word.{Word}
use Rattle.hal_words.specs.declared.word.Word.TheVariants as word
use Rattle.hal_words.specs.declared.word.Token.{Token}
use Rattle.hal_grammar.specs.Words.{Words}
use Rattle.hal_parse_expr.specs.ReadingExpressions.{deeper_than, literal_of, conversion_of, primary_at, primary_behind, primary_of}
use Rattle.hal_grammar.specs.Expressions.{Expression}
use Rattle.hal_parse_expr.specs.Reading.{Reader}
use Rattle.hal_parse_expr.specs.Openings.{opens, opened_at}
use Rattle.hal_parse_expr.specs.declared.opening.Opening.{Opening}

pub deeper_none : (n : ℕ) → n ≡ 0 → deeper_than n ≡ None
unfolding deeper_than
deeper_none zero e = refl
deeper_none (suc n) e = absurd (omega (arith, e))

pub deeper_some : (n : ℕ) → n ≢ 0 → deeper_than n ≡ Some (primary_at (n - 1))
unfolding deeper_than
deeper_some zero h = absurd (h refl)
deeper_some (suc n) h = let e : n ≡ suc n - 1 = omega arith in ap (λ k. Some (primary_at k)) e

-- a primary is read by its first word
pub no_words : (n : ℕ) (words : Words) → length words ≡ 0 → primary_at n words ≡ None
unfolding primary_at primary_of
no_words zero [] e = refl
no_words (suc n) [] e = refl
no_words n (first ∷ rest) e = absurd (omega (arith, e))

at_first : (n : ℕ) (first : Token) (rest : Words) → primary_at n (first ∷ rest) ≡ primary_behind (deeper_than n) first.place first.word rest
unfolding primary_at primary_of deeper_than
at_first zero first rest = refl
at_first (suc n) first rest = refl

-- the primary that a word opens, or none
opened : Option (Reader Expression) → Place → Option Opening → Reader Expression
opened deeper p None rest = None
opened deeper p (Some o) rest = opened_at deeper p o rest

behind_is : (deeper : Option (Reader Expression)) (p : Place) (w : Word) (rest : Words) → primary_behind deeper p w rest ≡ opened deeper p (opens w) rest
unfolding primary_behind opened opened_at opens literal_of conversion_of
behind_is deeper p (word.Name n) rest = refl
behind_is deeper p (word.Symbol symbol.LeftParenthesis) rest = refl
behind_is deeper p (word.Reserved reserved.Not) rest = refl
behind_is deeper p (word.Reserved r) rest = refl
behind_is deeper p (word.Symbol s) rest = refl
behind_is deeper p other rest = refl

-- a primary is read by what its first word opens
pub primary_opened : (n : ℕ) {words : Words} {first : Token} {rest : Words} {o : Opening} → words ≡ first ∷ rest → Some o ≡ opens first.word → opened_at (deeper_than n) first.place o rest ≡ primary_at n words
unfolding opened
primary_opened n {first = first} {rest = rest} e h =
    ap (λ o. opened (deeper_than n) first.place o rest) h ∙ sym (behind_is (deeper_than n) first.place first.word rest) ∙ sym (at_first n first rest) ∙ ap (λ w. primary_at n w) (sym e)

pub nothing_opened : (n : ℕ) {words : Words} {first : Token} {rest : Words} → words ≡ first ∷ rest → None ≡ opens first.word → None ≡ primary_at n words
unfolding opened
nothing_opened n {first = first} {rest = rest} e h =
    ap (λ o. opened (deeper_than n) first.place o rest) h ∙ sym (behind_is (deeper_than n) first.place first.word rest) ∙ sym (at_first n first rest) ∙ ap (λ w. primary_at n w) (sym e)
