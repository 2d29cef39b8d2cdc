-- What the first word of a type or of an attribute begins.
use Rattle.std.specs.Prelude.{ℕ, Option, Some, None}
use Rattle.hal_base.specs.declared.refusal.Place.{Place}
use Rattle.hal_words.specs.declared.reserved.Reserved.TheVariants as reserved
use Rattle.hal_words.specs.declared.word.Word.{Word}
use Rattle.hal_words.specs.declared.word.Word.TheVariants as word
use Rattle.hal_grammar.specs.Declarations.{Kind, IntegerKind, BooleanKind, EventKind, BitKind, CharacterKind, Attribute, Dimensions, Typed, Marked, InitialValues, ConstantValues}
use Rattle.hal_tree.specs.declared.declaration.Mark.TheVariants as mark
use Rattle.hal_tree.specs.SeenDeclarations.{seen_mark}
use Rattle.hal_parse_expr.specs.Reading.{Reader, made_of}
use Rattle.hal_parse_expr.specs.ReadingExpressions.{expression_at, expressions_at}
use Rattle.hal_parse_declarations.specs.ReadingDeclarations.{in_parentheses, initials_at, lock_inside, structure_behind}
use Rattle.hal_parse_declarations.specs.declared.attribute_words.TypeWord.{TypeWord}
use Rattle.hal_parse_declarations.specs.declared.attribute_words.TypeWord.TheVariants as type
use Rattle.hal_parse_declarations.specs.declared.attribute_words.AttributeWord.{AttributeWord}
use Rattle.hal_parse_declarations.specs.declared.attribute_words.AttributeWord.TheVariants as attribute

-- the type that a word begins
unfoldable pub type_word_of : Word → Option TypeWord
type_word_of (word.Reserved reserved.Integer) = Some type.Integer
type_word_of (word.Reserved reserved.Bit) = Some type.Bit
type_word_of (word.Reserved reserved.Boolean) = Some type.Boolean
type_word_of (word.Reserved reserved.Character) = Some type.Character
type_word_of (word.Reserved reserved.Event) = Some type.Event
type_word_of (word.Name m) = Some (type.Template m)
type_word_of other = None

-- the type, behind that word
unfoldable pub type_begun : ℕ → Place → TypeWord → Reader Kind
type_begun n p type.Integer rest = Some (IntegerKind p, rest)
type_begun n p type.Bit rest = made_of (λ t. BitKind p t) (in_parentheses (expression_at n) rest)
type_begun n p type.Boolean rest = Some (BooleanKind p, rest)
type_begun n p type.Character rest = made_of (λ t. CharacterKind p t) (in_parentheses (expression_at n) rest)
type_begun n p type.Event rest = Some (EventKind p, rest)
type_begun n p (type.Template m) rest = structure_behind n p m rest

-- the attribute that a word begins
unfoldable pub attribute_word_of : Word → Option AttributeWord
attribute_word_of (word.Reserved reserved.Array) = Some attribute.Array
attribute_word_of (word.Reserved reserved.Lock) = Some attribute.Lock
attribute_word_of (word.Reserved reserved.Initial) = Some attribute.Initial
attribute_word_of (word.Reserved reserved.Constant) = Some attribute.Constant
attribute_word_of (word.Reserved reserved.Single) = Some (attribute.Marked mark.Single)
attribute_word_of (word.Reserved reserved.Double) = Some (attribute.Marked mark.Double)
attribute_word_of (word.Reserved reserved.Latched) = Some (attribute.Marked mark.Latched)
attribute_word_of (word.Reserved reserved.Static) = Some (attribute.Marked mark.Static)
attribute_word_of (word.Reserved reserved.Automatic) = Some (attribute.Marked mark.Automatic)
attribute_word_of (word.Reserved reserved.Dense) = Some (attribute.Marked mark.Dense)
attribute_word_of (word.Reserved reserved.Aligned) = Some (attribute.Marked mark.Aligned)
attribute_word_of (word.Reserved reserved.Integer) = Some (attribute.Typed type.Integer)
attribute_word_of (word.Reserved reserved.Bit) = Some (attribute.Typed type.Bit)
attribute_word_of (word.Reserved reserved.Boolean) = Some (attribute.Typed type.Boolean)
attribute_word_of (word.Reserved reserved.Character) = Some (attribute.Typed type.Character)
attribute_word_of (word.Reserved reserved.Event) = Some (attribute.Typed type.Event)
attribute_word_of (word.Name m) = Some (attribute.Typed (type.Template m))
attribute_word_of other = None

-- the attribute, behind that word
unfoldable pub attribute_begun : ℕ → Place → AttributeWord → Reader Attribute
attribute_begun n p attribute.Array rest = made_of (λ ts. Dimensions p ts) (in_parentheses (expressions_at n) rest)
attribute_begun n p attribute.Lock rest = in_parentheses (lock_inside n p) rest
attribute_begun n p attribute.Initial rest = made_of (λ ts. InitialValues p ts) (in_parentheses (initials_at n) rest)
attribute_begun n p attribute.Constant rest = made_of (λ ts. ConstantValues p ts) (in_parentheses (initials_at n) rest)
attribute_begun n p (attribute.Marked m) rest = Some (Marked p (seen_mark m), rest)
attribute_begun n p (attribute.Typed t) rest = made_of (λ k. Typed k) (type_begun n p t rest)
