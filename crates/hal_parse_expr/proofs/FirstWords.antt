-- What the first words are.
use denote.Enum.Bare.{sameb, same_true, true_same}
use Rattle.std.proofs.Common.{◌≡◌, Bool, true, false, [], ◌∷◌, Some, None, refl, ap, sym, ◌∙◌, subst}
use Rattle.hal_base.specs.declared.refusal.Place.{Place}
use Rattle.hal_words.specs.contracts.reserved.Reserved.{the_type as reserved_type}
use Rattle.hal_words.specs.contracts.word.Symbol.{the_type as symbol_type}
use Rattle.hal_words.specs.declared.reserved.Reserved.{Reserved}
use Rattle.hal_words.specs.declared.word.Symbol.{Symbol}
use Rattle.hal_words.specs.declared.word.Word.{Word}
use Rattle.hal_words.specs.declared.word.Word.TheVariants as word
use Rattle.hal_grammar.specs.Words.{Words, token, reserved_then, symbol_then, BeginsWith, begins, BeginsReserved, BeginsSymbol}
use Rattle.hal_parse_expr.specs.Reading.{Read, is_reserved, is_symbol, past, past_symbol, where_true}

-- a reserved word is itself
pub itself : (r : Reserved) → sameb reserved_type r r ≡ true
itself r = true_same reserved_type r r refl

-- one that is told to be another is that one
pub same_word : (r s : Reserved) → sameb reserved_type s r ≡ true → s ≡ r
same_word r s e = same_true reserved_type tt s r e

-- the same of symbols
pub symbol_itself : (r : Symbol) → sameb symbol_type r r ≡ true
symbol_itself r = true_same symbol_type r r refl

pub same_symbol : (r s : Symbol) → sameb symbol_type s r ≡ true → s ≡ r
same_symbol r s e = same_true symbol_type tt s r e

-- what `past` gives: the word's place and the words behind it, or nothing, where they don't begin with it
pub data PastOf (w : Word) : Words → Read Place → Type 0 where
  is_past : {p : Place} {rest : Words} → PastOf w (token w p ∷ rest) (Some (p, rest))
  not_past : {words : Words} → ¬ BeginsWith w words → PastOf w words None

-- words that begin with a word have it as the first one
pub begins_same : {v w : Word} {p : Place} {rest : Words} → BeginsWith w (token v p ∷ rest) → w ≡ v
begins_same begins = refl

not_first : (v w : Word) → (w ≡ v → ⊥) → (p : Place) (rest : Words) → PastOf w (token v p ∷ rest) None
not_first v w n p rest = not_past (λ d. n (begins_same d))

reserved_first : (r s : Reserved) (p : Place) (rest : Words) (b : Bool) → sameb reserved_type s r ≡ b →
    PastOf (word.Reserved r) (reserved_then s p rest) (where_true b (Some (p, rest)))
unfolding where_true
reserved_first r s p rest true e = subst (λ t. PastOf (word.Reserved r) (reserved_then t p rest) (Some (p, rest))) (sym (same_word r s e)) is_past
reserved_first r s p rest false e = not_first (word.Reserved s) (word.Reserved r) (λ q. let h : r ≡ s = cc in let t : true ≡ false = sym (itself s) ∙ ap (λ z. sameb reserved_type s z) (sym h) ∙ e in cc) p rest

word_past : (r : Reserved) (w : Word) (p : Place) (rest : Words) → PastOf (word.Reserved r) (token w p ∷ rest) (past r (token w p ∷ rest))
unfolding past is_reserved where_true
word_past r (word.Reserved s) p rest = reserved_first r s p rest (sameb reserved_type s r) refl
word_past r other p rest = not_past (λ d. elim d [ ])

pub past_of : (r : Reserved) (words : Words) → PastOf (word.Reserved r) words (past r words)
unfolding past
past_of r [] = not_past (λ d. elim d [ ])
past_of r (first ∷ rest) = word_past r first.word first.place rest

symbol_first : (r s : Symbol) (p : Place) (rest : Words) (b : Bool) → sameb symbol_type s r ≡ b →
    PastOf (word.Symbol r) (symbol_then s p rest) (where_true b (Some (p, rest)))
unfolding where_true
symbol_first r s p rest true e = subst (λ t. PastOf (word.Symbol r) (symbol_then t p rest) (Some (p, rest))) (sym (same_symbol r s e)) is_past
symbol_first r s p rest false e = not_first (word.Symbol s) (word.Symbol r) (λ q. let h : r ≡ s = cc in let t : true ≡ false = sym (symbol_itself s) ∙ ap (λ z. sameb symbol_type s z) (sym h) ∙ e in cc) p rest

word_past_symbol : (s : Symbol) (w : Word) (p : Place) (rest : Words) → PastOf (word.Symbol s) (token w p ∷ rest) (past_symbol s (token w p ∷ rest))
unfolding past_symbol is_symbol where_true
word_past_symbol s (word.Symbol t) p rest = symbol_first s t p rest (sameb symbol_type t s) refl
word_past_symbol s other p rest = not_past (λ d. elim d [ ])

pub past_symbol_of : (s : Symbol) (words : Words) → PastOf (word.Symbol s) words (past_symbol s words)
unfolding past_symbol
past_symbol_of s [] = not_past (λ d. elim d [ ])
past_symbol_of s (first ∷ rest) = word_past_symbol s first.word first.place rest

-- the first word is passed
pub past_here : (r : Reserved) (p : Place) (rest : Words) → past r (reserved_then r p rest) ≡ Some (p, rest)
unfolding past is_reserved where_true
past_here r p rest = ap (λ b. where_true b (Some (p, rest))) (itself r)

pub past_symbol_here : (s : Symbol) (p : Place) (rest : Words) → past_symbol s (symbol_then s p rest) ≡ Some (p, rest)
unfolding past_symbol is_symbol where_true
past_symbol_here s p rest = ap (λ b. where_true b (Some (p, rest))) (symbol_itself s)

no_past : {w : Word} {words : Words} {o : Read Place} → PastOf w words o → ¬ BeginsWith w words → o ≡ None
no_past is_past n = absurd (n begins)
no_past (not_past m) n = refl

-- nothing is passed where the words don't begin so
pub past_none : (r : Reserved) (words : Words) → ¬ BeginsReserved r words → past r words ≡ None
past_none r words n = no_past (past_of r words) n

pub past_symbol_none : (s : Symbol) (words : Words) → ¬ BeginsSymbol s words → past_symbol s words ≡ None
past_symbol_none s words n = no_past (past_symbol_of s words) n

passed : {w : Word} {words : Words} {o : Read Place} {p : Place} {rest : Words} → PastOf w words o → o ≡ Some (p, rest) → words ≡ token w p ∷ rest
passed {w = w} is_past e = ap {A = Read Place} (λ o. elim o [ None ↦ [] | Some f ↦ token w f.0 ∷ f.1 ]) e
passed (not_past m) e = cc

-- what is passed was the first word
pub past_back : (r : Reserved) (words : Words) (p : Place) (rest : Words) → past r words ≡ Some (p, rest) → words ≡ reserved_then r p rest
past_back r words p rest e = passed (past_of r words) e

pub past_symbol_back : (s : Symbol) (words : Words) (p : Place) (rest : Words) → past_symbol s words ≡ Some (p, rest) → words ≡ symbol_then s p rest
past_symbol_back s words p rest e = passed (past_symbol_of s words) e
