-- Heads by what their first word says, and units by the number of levels that are left.
use Rattle.std.proofs.Common.{◌≡◌, ◌≢◌, ℕ, zero, suc, ◌-◌, [], ◌∷◌, length, Option, Some, None, refl, ap, sym, ◌∙◌, arith}
use Rattle.hal_base.specs.declared.refusal.Place.{Place}
use Rattle.hal_words.specs.declared.reserved.Reserved.TheVariants as reserved
use Rattle.hal_words.specs.declared.word.Word.{Word}
use Rattle.hal_words.specs.declared.word.Word.TheVariants as word
use Rattle.hal_words.specs.declared.word.Token.{Token}
use Rattle.hal_grammar.specs.Units.{Head}
use Rattle.hal_grammar.specs.Words.{Words}
use Rattle.hal_parse_expr.specs.Reading.{Reader}
use Rattle.hal_parse.specs.Headings.{heads, headed_at}
use Rattle.hal_parse.specs.ReadingFiles.{head_behind, head_at, block_of, block_at}
use Rattle.hal_parse.specs.declared.heading.Heading.{Heading}

-- the head that a word begins, or none
headed : ℕ → Place → Option Heading → Reader Head
headed n p None rest = None
headed n p (Some h) rest = headed_at n p h rest

head_is : (n : ℕ) (p : Place) (w : Word) (rest : Words) → head_behind n p w rest ≡ headed n p (heads w) rest
unfolding head_behind headed headed_at heads
head_is n p (word.Reserved reserved.Program) rest = refl
head_is n p (word.Reserved reserved.Compool) rest = refl
head_is n p (word.Reserved reserved.Task) rest = refl
head_is n p (word.Reserved reserved.Procedure) rest = refl
head_is n p (word.Reserved reserved.Function) rest = refl
head_is n p (word.Reserved r) rest = refl
head_is n p other rest = refl

-- a head is read by its first word
pub head_none : (n : ℕ) (words : Words) → length words ≡ 0 → head_at n words ≡ None
unfolding head_at
head_none n [] e = refl
head_none n (first ∷ rest) e = absurd (omega (arith, e))

at_first : (n : ℕ) {words : Words} {first : Token} {rest : Words} → words ≡ first ∷ rest → headed n first.place (heads first.word) rest ≡ head_at n words
unfolding head_at
at_first n {first = first} {rest = rest} e = sym (head_is n first.place first.word rest) ∙ ap (λ w. head_at n w) (sym e)

pub nothing_headed : (n : ℕ) {words : Words} {first : Token} {rest : Words} → words ≡ first ∷ rest → None ≡ heads first.word → None ≡ head_at n words
unfolding headed
nothing_headed n {first = first} {rest = rest} e h = ap (λ o. headed n first.place o rest) h ∙ at_first n e

pub head_read : (n : ℕ) {words : Words} {first : Token} {rest : Words} {h : Heading} → words ≡ first ∷ rest → Some h ≡ heads first.word → headed_at n first.place h rest ≡ head_at n words
unfolding headed
head_read n {first = first} {rest = rest} e h = ap (λ o. headed n first.place o rest) h ∙ at_first n e

-- units by the number of levels that are left
pub unit_none : (n : ℕ) (words : Words) → n ≡ 0 → block_at n words ≡ None
unfolding block_at
unit_none zero words e = refl
unit_none (suc n) words e = absurd (omega (arith, e))

pub unit_some : (n : ℕ) (words : Words) → n ≢ 0 → block_at n words ≡ block_of (n - 1) (block_at (n - 1)) words
unfolding block_at
unit_some zero words h = absurd (h refl)
unit_some (suc n) words h = let e : n ≡ suc n - 1 = omega arith in ap (λ k. block_of k (block_at k) words) e
