-- Words spell one leaf at most.
use Rattle.std.proofs.Common.{◌≡◌, ℕ, List, [], ◌∷◌, refl, ap, arith}
use Rattle.hal_base.specs.declared.refusal.Place.{Place}
use Rattle.hal_words.specs.declared.reserved.Reserved.TheVariants as reserved
use Rattle.hal_words.specs.declared.word.Symbol.TheVariants as symbol
use Rattle.hal_words.specs.declared.reserved.Reserved.{Reserved}
use Rattle.hal_words.specs.declared.word.Word.{Word}
use Rattle.hal_words.specs.declared.word.Word.TheVariants as word
use Rattle.hal_grammar.specs.Leaves.{Naming, naming, Sign, Relation, LiteralValue}
use Rattle.hal_grammar.specs.Words.{Words, token, reserved_then, symbol_then, name_then}
use Rattle.hal_grammar.specs.SpellsExpressions.{SpellsSign, plus, minus, SpellsRelation, equal, less, greater, at_most, at_least, not_equal, not_less, not_greater, SpellsLiteral, integer, text, bits, true_bit, false_bit, on_bit, off_bit, SpellsFurther, no_further, further}
use Rattle.hal_grammar.specs.GoesOn.{Outcome, same, sooner, later}
use Rattle.hal_grammar.proofs.Outcomes.{made}
use Rattle.hal_grammar.proofs.Shorter.{further_shorter}

pub one_sign : {s s' : Sign} {p p' : Place} {b a a' : Words} → SpellsSign s p b a → SpellsSign s' p' b a' → (s ≡ s') × (p ≡ p') × (a ≡ a')
one_sign plus plus = (refl, refl, refl)
one_sign minus minus = (refl, refl, refl)

pub one_relation : {r r' : Relation} {b a a' : Words} → SpellsRelation r b a → SpellsRelation r' b a' → (r ≡ r') × (a ≡ a')
one_relation equal equal = (refl, refl)
one_relation less less = (refl, refl)
one_relation greater greater = (refl, refl)
one_relation at_most at_most = (refl, refl)
one_relation at_least at_least = (refl, refl)
one_relation not_equal not_equal = (refl, refl)
one_relation not_less not_less = (refl, refl)
one_relation not_greater not_greater = (refl, refl)

pub one_literal : {l l' : LiteralValue} {p p' : Place} {b a a' : Words} → SpellsLiteral l p b a → SpellsLiteral l' p' b a' → (l ≡ l') × (p ≡ p') × (a ≡ a')
one_literal integer integer = (refl, refl, refl)
one_literal text text = (refl, refl, refl)
one_literal bits bits = (refl, refl, refl)
one_literal true_bit true_bit = (refl, refl, refl)
one_literal false_bit false_bit = (refl, refl, refl)
one_literal on_bit on_bit = (refl, refl, refl)
one_literal off_bit off_bit = (refl, refl, refl)

pub one_further : {ns ns' : List Naming} {b a a' : Words} → SpellsFurther ns b a → SpellsFurther ns' b a' → Outcome 10 ns a ns' a'
one_further no_further no_further = same refl refl
one_further no_further (further e) = sooner (omega arith) (omega (arith, further_shorter e))
one_further (further d) no_further = later (omega arith) (omega (arith, further_shorter d))
one_further (further {n = n} {q = q} d) (further e) = made (omega arith) (λ r. ap (λ l. naming q n ∷ l) r) (one_further d e)

-- the reserved words that literals begin with
abbrev pub IsLiteralReserved : Reserved → Type 0
IsLiteralReserved reserved.True = Unit {0}
IsLiteralReserved reserved.False = Unit {0}
IsLiteralReserved reserved.On = Unit {0}
IsLiteralReserved reserved.Off = Unit {0}
IsLiteralReserved other = ⊥

-- the words that literals begin with
abbrev pub IsLiteralWord : Word → Type 0
IsLiteralWord (word.Reserved r) = IsLiteralReserved r
IsLiteralWord (word.Name n) = ⊥
IsLiteralWord (word.Integer n) = Unit {0}
IsLiteralWord (word.Decimal n) = ⊥
IsLiteralWord (word.Text t) = Unit {0}
IsLiteralWord (word.Bits len word) = Unit {0}
IsLiteralWord (word.Symbol s) = ⊥

abbrev pub BeginsLiteral : Words → Type 0
BeginsLiteral [] = ⊥
BeginsLiteral (first ∷ words) = IsLiteralWord first.word

pub literal_begins : {l : LiteralValue} {p : Place} {b a : Words} → SpellsLiteral l p b a → BeginsLiteral b
literal_begins integer = tt
literal_begins text = tt
literal_begins bits = tt
literal_begins true_bit = tt
literal_begins false_bit = tt
literal_begins on_bit = tt
literal_begins off_bit = tt

-- words that are the same begin with the same word
pub word_same : {v w : Word} {p q : Place} {a b : Words} → token v p ∷ a ≡ token w q ∷ b → v ≡ w
word_same {v = v} {w = w} {p = p} {q = q} e = let h : token v p ≡ token w q = cc in ap (λ t. t.word) h

pub semicolon_colon : {p q : Place} {a b : Words} → symbol_then symbol.Semicolon p a ≡ symbol_then symbol.Colon q b → ⊥
semicolon_colon e = let h : word.Symbol symbol.Semicolon ≡ word.Symbol symbol.Colon = word_same e in cc

pub semicolon_right : {p q : Place} {a b : Words} → symbol_then symbol.Semicolon p a ≡ symbol_then symbol.RightParenthesis q b → ⊥
semicolon_right e = let h : word.Symbol symbol.Semicolon ≡ word.Symbol symbol.RightParenthesis = word_same e in cc

pub colon_right : {p q : Place} {a b : Words} → symbol_then symbol.Colon p a ≡ symbol_then symbol.RightParenthesis q b → ⊥
colon_right e = let h : word.Symbol symbol.Colon ≡ word.Symbol symbol.RightParenthesis = word_same e in cc

pub to_at : {p q : Place} {a b : Words} → reserved_then reserved.To p a ≡ reserved_then reserved.At q b → ⊥
to_at e = let h : word.Reserved reserved.To ≡ word.Reserved reserved.At = word_same e in cc

-- names that are the same
pub name_same : {m n : List ℕ} {p q : Place} {a b : Words} → name_then m p a ≡ name_then n q b → (m ≡ n) × (p ≡ q) × (a ≡ b)
name_same {m = m} {n = n} {p = p} {q = q} e =
    let h : token (word.Name m) p ≡ token (word.Name n) q = cc in
    let w : word.Name m ≡ word.Name n = ap (λ t. t.word) h in
    (cc, ap (λ t. t.place) h, cc)
