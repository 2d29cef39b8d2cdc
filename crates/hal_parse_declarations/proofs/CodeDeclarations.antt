-- Types and attributes by what their first word begins.
use Rattle.std.proofs.Common.{◌≡◌, ℕ, [], ◌∷◌, length, Option, Some, None, refl, ap, sym, ◌∙◌, arith}
use Rattle.hal_base.specs.declared.refusal.Place.{Place}
use Rattle.hal_words.specs.declared.reserved.Reserved.TheVariants as reserved
use Rattle.hal_words.specs.declared.word.Word.{Word}
use Rattle.hal_words.specs.declared.word.Word.TheVariants as word
use Rattle.hal_words.specs.declared.word.Token.{Token}
use Rattle.hal_grammar.specs.Declarations.{Kind, Attribute}
use Rattle.hal_grammar.specs.Words.{Words}
use Rattle.hal_parse_expr.specs.Reading.{Reader, made_of}
use Rattle.hal_parse_declarations.specs.DeclarationWords.{attribute_begun, attribute_word_of, type_begun, type_word_of}
use Rattle.hal_parse_declarations.specs.ReadingDeclarations.{attribute_at, attribute_behind, kind_at, kind_behind, mark_of, marked_or_typed}
use Rattle.hal_parse_declarations.specs.declared.attribute_words.AttributeWord.{AttributeWord}
use Rattle.hal_parse_declarations.specs.declared.attribute_words.TypeWord.{TypeWord}

-- the type that a word begins, or none
type_or_none : ℕ → Place → Option TypeWord → Reader Kind
type_or_none n p None rest = None
type_or_none n p (Some t) rest = type_begun n p t rest

type_by_word : (n : ℕ) (p : Place) (w : Word) (rest : Words) → kind_behind n p w rest ≡ type_or_none n p (type_word_of w) rest
unfolding kind_behind type_or_none type_begun type_word_of
type_by_word n p (word.Reserved reserved.Integer) rest = refl
type_by_word n p (word.Reserved reserved.Bit) rest = refl
type_by_word n p (word.Reserved reserved.Boolean) rest = refl
type_by_word n p (word.Reserved reserved.Character) rest = refl
type_by_word n p (word.Reserved reserved.Event) rest = refl
type_by_word n p (word.Name m) rest = refl
type_by_word n p (word.Reserved r) rest = refl
type_by_word n p other rest = refl

-- a type is read by its first word
pub kind_none : (n : ℕ) (words : Words) → length words ≡ 0 → kind_at n words ≡ None
unfolding kind_at
kind_none n [] e = refl
kind_none n (first ∷ rest) e = absurd (omega (arith, e))

type_at_first : (n : ℕ) {words : Words} {first : Token} {rest : Words} → words ≡ first ∷ rest → type_or_none n first.place (type_word_of first.word) rest ≡ kind_at n words
unfolding kind_at
type_at_first n {first = first} {rest = rest} e = sym (type_by_word n first.place first.word rest) ∙ ap (λ w. kind_at n w) (sym e)

pub no_type : (n : ℕ) {words : Words} {first : Token} {rest : Words} → words ≡ first ∷ rest → None ≡ type_word_of first.word → None ≡ kind_at n words
unfolding type_or_none
no_type n {first = first} {rest = rest} e h = ap (λ o. type_or_none n first.place o rest) h ∙ type_at_first n e

pub type_read : (n : ℕ) {words : Words} {first : Token} {rest : Words} {t : TypeWord} → words ≡ first ∷ rest → Some t ≡ type_word_of first.word → type_begun n first.place t rest ≡ kind_at n words
unfolding type_or_none
type_read n {first = first} {rest = rest} e h = ap (λ o. type_or_none n first.place o rest) h ∙ type_at_first n e

-- the attribute that a word begins, or none
attribute_or_none : ℕ → Place → Option AttributeWord → Reader Attribute
attribute_or_none n p None rest = None
attribute_or_none n p (Some a) rest = attribute_begun n p a rest

attribute_by_word : (n : ℕ) (p : Place) (w : Word) (rest : Words) → attribute_behind n p w rest ≡ attribute_or_none n p (attribute_word_of w) rest
unfolding attribute_behind marked_or_typed mark_of kind_behind made_of attribute_or_none attribute_begun type_begun attribute_word_of
attribute_by_word n p (word.Reserved reserved.Array) rest = refl
attribute_by_word n p (word.Reserved reserved.Lock) rest = refl
attribute_by_word n p (word.Reserved reserved.Initial) rest = refl
attribute_by_word n p (word.Reserved reserved.Constant) rest = refl
attribute_by_word n p (word.Reserved reserved.Single) rest = refl
attribute_by_word n p (word.Reserved reserved.Double) rest = refl
attribute_by_word n p (word.Reserved reserved.Latched) rest = refl
attribute_by_word n p (word.Reserved reserved.Static) rest = refl
attribute_by_word n p (word.Reserved reserved.Automatic) rest = refl
attribute_by_word n p (word.Reserved reserved.Dense) rest = refl
attribute_by_word n p (word.Reserved reserved.Aligned) rest = refl
attribute_by_word n p (word.Reserved reserved.Integer) rest = refl
attribute_by_word n p (word.Reserved reserved.Bit) rest = refl
attribute_by_word n p (word.Reserved reserved.Boolean) rest = refl
attribute_by_word n p (word.Reserved reserved.Character) rest = refl
attribute_by_word n p (word.Reserved reserved.Event) rest = refl
attribute_by_word n p (word.Name m) rest = refl
attribute_by_word n p (word.Reserved r) rest = refl
attribute_by_word n p other rest = refl

-- an attribute is read by its first word
pub attribute_none : (n : ℕ) (words : Words) → length words ≡ 0 → attribute_at n words ≡ None
unfolding attribute_at
attribute_none n [] e = refl
attribute_none n (first ∷ rest) e = absurd (omega (arith, e))

attribute_at_first : (n : ℕ) {words : Words} {first : Token} {rest : Words} → words ≡ first ∷ rest →
    attribute_or_none n first.place (attribute_word_of first.word) rest ≡ attribute_at n words
unfolding attribute_at
attribute_at_first n {first = first} {rest = rest} e = sym (attribute_by_word n first.place first.word rest) ∙ ap (λ w. attribute_at n w) (sym e)

pub no_attribute : (n : ℕ) {words : Words} {first : Token} {rest : Words} → words ≡ first ∷ rest → None ≡ attribute_word_of first.word → None ≡ attribute_at n words
unfolding attribute_or_none
no_attribute n {first = first} {rest = rest} e h = ap (λ o. attribute_or_none n first.place o rest) h ∙ attribute_at_first n e

pub attribute_read : (n : ℕ) {words : Words} {first : Token} {rest : Words} {a : AttributeWord} → words ≡ first ∷ rest → Some a ≡ attribute_word_of first.word →
    attribute_begun n first.place a rest ≡ attribute_at n words
unfolding attribute_or_none
attribute_read n {first = first} {rest = rest} e h = ap (λ o. attribute_or_none n first.place o rest) h ∙ attribute_at_first n e
