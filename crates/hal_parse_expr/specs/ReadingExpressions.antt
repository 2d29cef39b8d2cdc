-- The reading of expressions: each function gives the longest phrase that the words begin with, nested at most so deep. A reader takes the reader of what
-- it stands above; only that of primaries calls itself, with one level less.
use Rattle.std.specs.Prelude.{ℕ, zero, suc, List, [], ◌∷◌, Option, Some, None}
use Rattle.hal_base.specs.declared.refusal.Place.{Place}
use Rattle.hal_words.specs.declared.reserved.Reserved.{Reserved}
use Rattle.hal_words.specs.declared.reserved.Reserved.TheVariants as reserved
use Rattle.hal_words.specs.declared.word.Symbol.TheVariants as symbol
use Rattle.hal_words.specs.declared.word.Word.{Word}
use Rattle.hal_words.specs.declared.word.Word.TheVariants as word
use Rattle.hal_grammar.specs.Leaves.{Naming, Sign, Plus, Minus, Relation, Equal, Less, Greater, AtMost, AtLeast, NotEqual, NotLess, NotGreater, Conversion, ToInteger, ToBits, ToText, LiteralValue, Integer, Text, Bits, True, False, On, Off}
use Rattle.hal_grammar.specs.Expressions.{Expression, Or, And, Compare, Cat, Sum, Product, Power, Not, Literal, Decimal, Referred, Called, Convert, Parenthesis, Expressions, MoreExpressions, Reference, Refers, Subscript, Unsubscripted, ByName, ByInteger, ByParts, Subscripts, NoSubscripts, MoreSubscripts, Sub, Every, One, Range, Portion, Position, FromBeginning, FromEnd, place_of}
unfoldable pub use Rattle.hal_tree.specs.Rows.{expressions, terms, subscripts}
pub use Rattle.hal_tree.specs.Rows.{SignedTerm}
use Rattle.hal_parse_expr.specs.Reading.{Reader, followed, made_of, with_tail, or_else, decided, past, past_symbol, name_at, integer_at, before_symbol, all, parted}

-- the sign that a word is
unfoldable pub sign_of : Word → Option Sign
sign_of (word.Symbol symbol.Plus) = Some Plus
sign_of (word.Symbol symbol.Minus) = Some Minus
sign_of other = None

-- a sign and its place
unfoldable pub sign_at : Reader (Place × Sign)
sign_at [] = None
sign_at (first ∷ rest) = elim (sign_of first.word) [ None ↦ None | Some s ↦ Some ((first.place, s), rest) ]

-- the relation that a symbol is
unfoldable pub plain_relation : Word → Option Relation
plain_relation (word.Symbol symbol.Equals) = Some Equal
plain_relation (word.Symbol symbol.Less) = Some Less
plain_relation (word.Symbol symbol.Greater) = Some Greater
plain_relation (word.Symbol symbol.AtMost) = Some AtMost
plain_relation (word.Symbol symbol.AtLeast) = Some AtLeast
plain_relation other = None

-- the relation that a symbol behind NOT is
unfoldable pub negated_relation : Word → Option Relation
negated_relation (word.Symbol symbol.Equals) = Some NotEqual
negated_relation (word.Symbol symbol.Less) = Some NotLess
negated_relation (word.Symbol symbol.Greater) = Some NotGreater
negated_relation other = None

-- what the first word says
unfoldable pub said : {X : Type 0} → (Word → Option X) → Reader X
said says [] = None
said says (first ∷ rest) = elim (says first.word) [ None ↦ None | Some x ↦ Some (x, rest) ]

-- a relation
unfoldable pub relation_at : Reader Relation
relation_at words = or_else (said plain_relation words) (followed (past reserved.Not words) (λ p rest. said negated_relation rest))

-- the literal that a word is
unfoldable pub literal_of : Word → Option LiteralValue
literal_of (word.Integer n) = Some (Integer n)
literal_of (word.Text t) = Some (Text t)
literal_of (word.Bits len bits) = Some (Bits len bits)
literal_of (word.Reserved reserved.True) = Some True
literal_of (word.Reserved reserved.False) = Some False
literal_of (word.Reserved reserved.On) = Some On
literal_of (word.Reserved reserved.Off) = Some Off
literal_of other = None

-- the conversion that a word begins
unfoldable pub conversion_of : Word → Option Conversion
conversion_of (word.Reserved reserved.Integer) = Some ToInteger
conversion_of (word.Reserved reserved.Bit) = Some ToBits
conversion_of (word.Reserved reserved.Character) = Some ToText
conversion_of other = None

-- a point and a name
unfoldable pub further_at : Reader Naming
further_at words = followed (past_symbol symbol.Point words) (λ p rest. name_at rest)

-- `**` and a primary
unfoldable pub exponent_of : Reader Expression → Reader Expression
exponent_of primary words = followed (past_symbol symbol.Power words) (λ p after. primary after)

-- a factor: a primary, or a primary to the power of a primary
unfoldable pub factor_of : Reader Expression → Reader Expression
factor_of primary words =
    followed (primary words) (λ t rest. with_tail (λ base exponent. Power (place_of base) base exponent) t rest (followed (past_symbol symbol.Power rest) (λ p after. primary after)))

-- a factor behind another one
unfoldable pub further_factor : Reader Expression → Reader Expression
further_factor primary words = elim (past reserved.Not words) [ None ↦ factor_of primary words | Some f ↦ None ]

-- one phrase, or a phrase and the ones behind it
unfoldable pub row_of : (Place → Expression → Expressions → Expression) → Expression → List Expression → Expression
row_of make t [] = t
row_of make t (u ∷ us) = make (place_of t) t (expressions (u ∷ us))

-- a phrase and as many as can be read behind it
unfoldable pub row_at : (Place → Expression → Expressions → Expression) → Reader Expression → Reader Expression → Reader Expression
row_at make first_read more_read words =
    followed (first_read words) (λ t rest. Some (row_of make t (all more_read rest).0, (all more_read rest).1))

-- a term: factors one after another
unfoldable pub term_of : Reader Expression → Reader Expression
term_of primary words = row_at Product (factor_of primary) (further_factor primary) words

-- a sign and a term
unfoldable pub signed_term : Reader Expression → Reader SignedTerm
signed_term primary words = followed (sign_at words) (λ s rest. made_of (λ t. (s.0, s.1, t)) (term_of primary rest))

-- a sum without an opening sign: a term alone, or terms
unfoldable pub sum_from : Expression → List SignedTerm → Expression
sum_from t [] = t
sum_from t (u ∷ us) = Sum (place_of t) None t (terms (u ∷ us))

-- a sum: terms with a sign before each of them, but for the first one, which may have none
unfoldable pub unsigned_sum : Reader Expression → Reader Expression
unsigned_sum primary words = followed (term_of primary words) (λ t rest. Some (sum_from t (all (signed_term primary) rest).0, (all (signed_term primary) rest).1))

unfoldable pub signed_sum : Reader Expression → Reader Expression
signed_sum primary words =
    followed (signed_term primary words) (λ t rest. Some (Sum t.0 (Some t.1) t.2 (terms (all (signed_term primary) rest).0), (all (signed_term primary) rest).1))

unfoldable pub sum_of : Reader Expression → Reader Expression
sum_of primary words = elim (sign_at words) [ None ↦ unsigned_sum primary words | Some s ↦ signed_sum primary words ]

-- a phrase behind this reserved word
unfoldable pub behind : Reserved → Reader Expression → Reader Expression
behind r read words = followed (past r words) (λ p rest. read rest)

-- sums with CAT between them
unfoldable pub cat_of : Reader Expression → Reader Expression
cat_of primary words = row_at Cat (sum_of primary) (behind reserved.Cat (sum_of primary)) words

-- a relation and what stands behind it
unfoldable pub related : Reader Expression → Reader (Relation × Expression)
related primary words = followed (relation_at words) (λ r rest. made_of (λ t. (r, t)) (cat_of primary rest))

-- two chains of CAT with a relation between them, or one alone
unfoldable pub comparison_of : Reader Expression → Reader Expression
comparison_of primary words = followed (cat_of primary words) (λ t rest. with_tail (λ left r. Compare (place_of left) left r.0 r.1) t rest (related primary rest))

-- comparisons with AND between them
unfoldable pub both_of : Reader Expression → Reader Expression
both_of primary words = row_at And (comparison_of primary) (behind reserved.And (comparison_of primary)) words

-- an expression: conjunctions with OR between them
unfoldable pub expression_of : Reader Expression → Reader Expression
expression_of primary words = row_at Or (both_of primary) (behind reserved.Or (both_of primary)) words

-- expressions parted by commas
unfoldable pub expressions_of : Reader Expression → Reader Expressions
expressions_of primary words = made_of (λ f. MoreExpressions f.0 (expressions f.1)) (parted (expression_of primary) words)

-- `#` and signed terms
unfoldable pub from_end : Reader Expression → Reader Position
from_end primary words = followed (past_symbol symbol.Number words) (λ p rest. Some (FromEnd p (terms (all (signed_term primary) rest).0), (all (signed_term primary) rest).1))

-- a place as it is counted from the beginning or from the end
unfoldable pub position_of : Reader Expression → Reader Position
position_of primary words = or_else (from_end primary words) (made_of FromBeginning (sum_of primary words))

-- TO and a place
unfoldable pub to_position : Reader Expression → Reader Position
to_position primary words = followed (past reserved.To words) (λ p rest. position_of primary rest)

-- AT and a place
unfoldable pub at_position : Reader Expression → Reader Position
at_position primary words = followed (past reserved.At words) (λ p rest. position_of primary rest)

-- a place that stands from the end, alone or as the first of a range
unfoldable pub range_from : Reader Expression → Position → Reader Sub
range_from primary x rest = with_tail (λ alone last. Range x last) (One x) rest (to_position primary rest)

-- a sum AT a place, or as `range_from`
unfoldable pub portion_from : Reader Expression → Position → Reader Sub
portion_from primary (FromEnd p ts) rest = range_from primary (FromEnd p ts) rest
portion_from primary (FromBeginning t) rest = or_else (made_of (λ x. Portion t x) (at_position primary rest)) (range_from primary (FromBeginning t) rest)

-- `*`
unfoldable pub every_at : Reader Sub
every_at words = made_of Every (past_symbol symbol.Star words)

-- one subscript
unfoldable pub sub_of : Reader Expression → Reader Sub
sub_of primary words = or_else (every_at words) (followed (position_of primary words) (λ x rest. portion_from primary x rest))

-- the three parts of a subscript
abbrev pub Parts : Type 0
Parts = Subscripts × Subscripts × Subscripts

-- one subscript or more, parted by commas
unfoldable pub subs_of : Reader Expression → Reader Subscripts
subs_of primary words = made_of (λ f. MoreSubscripts f.0 (subscripts f.1)) (parted (sub_of primary) words)

-- the third part and the parenthesis, or the parenthesis alone
unfoldable pub components_of : Reader Expression → Reader Subscripts
components_of primary words =
    or_else (made_of (λ p. NoSubscripts) (past_symbol symbol.RightParenthesis words)) (before_symbol symbol.RightParenthesis (subs_of primary words))

-- behind subscripts that the first part, behind its semicolon, doesn't have: a colon and the third part, or the parenthesis
unfoldable pub arrays_then : Reader Expression → Subscripts → Subscripts → Reader Parts
arrays_then primary copies xs rest =
    decided (past_symbol symbol.Colon rest) (λ p after. made_of (λ ys. (copies, xs, ys)) (components_of primary after))
    (made_of (λ p. (copies, NoSubscripts, xs)) (past_symbol symbol.RightParenthesis rest))

-- the second and the third part and the parenthesis
unfoldable pub arrays_of : Reader Expression → Subscripts → Reader Parts
arrays_of primary copies words =
    or_else (made_of (λ p. (copies, NoSubscripts, NoSubscripts)) (past_symbol symbol.RightParenthesis words))
    (followed (subs_of primary words) (λ xs rest. arrays_then primary copies xs rest))

-- behind the first subscripts: a semicolon and the other parts, or they are of a later part
unfoldable pub copies_then : Reader Expression → Subscripts → Reader Parts
copies_then primary xs rest =
    decided (past_symbol symbol.Semicolon rest) (λ p after. arrays_of primary xs after) (arrays_then primary NoSubscripts xs rest)

-- the three parts and the parenthesis
unfoldable pub parts_of : Reader Expression → Reader Parts
parts_of primary words = followed (subs_of primary words) (λ xs rest. copies_then primary xs rest)

-- a list of subscripts in parentheses
unfoldable pub enclosed_parts : Reader Expression → Place → Reader Subscript
enclosed_parts primary p words =
    followed (past_symbol symbol.LeftParenthesis words) (λ q rest. made_of (λ parts. ByParts p parts.0 parts.1 parts.2) (parts_of primary rest))

-- what stands behind `$`
unfoldable pub subscript_behind : Reader Expression → Place → Reader Subscript
subscript_behind primary p words =
    or_else (made_of (λ n. ByName p n) (name_at words)) (or_else (made_of (λ n. ByInteger p n.0 n.1) (integer_at words)) (enclosed_parts primary p words))

-- a subscript, where one level more is left
unfoldable pub subscript_of : Option (Reader Expression) → Reader Subscript
subscript_of None words = None
subscript_of (Some primary) words = followed (past_symbol symbol.Dollar words) (λ p rest. subscript_behind primary p rest)

-- a subscript, or none
unfoldable pub subscript_or_none : Option (Reader Expression) → Reader Subscript
subscript_or_none deeper words = or_else (subscript_of deeper words) (Some (Unsubscripted, words))

-- what stands behind the first name of a reference
unfoldable pub reference_behind : Option (Reader Expression) → Place → List ℕ → Reader Reference
reference_behind deeper p n words = made_of (λ s. Refers p n (all further_at words).0 s) (subscript_or_none deeper (all further_at words).1)

-- a reference
unfoldable pub reference_of : Option (Reader Expression) → Reader Reference
reference_of deeper words = followed (name_at words) (λ n rest. reference_behind deeper n.place n.name rest)

-- one phrase with a parenthesis behind it, where one level more is left
unfoldable pub closed : {X : Type 0} → (Reader Expression → Reader X) → Option (Reader Expression) → Reader X
closed read None words = None
closed read (Some primary) words = before_symbol symbol.RightParenthesis (read primary words)

-- behind a name: the arguments, where `(` follows, else the rest of a reference
unfoldable pub named_at : Option (Reader Expression) → Place → List ℕ → Reader Expression
named_at deeper p n words = elim (past_symbol symbol.LeftParenthesis words) [
  | None ↦ made_of Referred (reference_behind deeper p n words)
  | Some f ↦ made_of (λ ts. Called p n ts) (closed expressions_of deeper f.1)
]

-- a conversion
unfoldable pub converted_at : Option (Reader Expression) → Place → Conversion → Reader Expression
converted_at deeper p c words =
    followed (past_symbol symbol.LeftParenthesis words) (λ q rest. made_of (λ t. Convert p c t) (closed expression_of deeper rest))

-- NOT and a primary, where one level more is left
unfoldable pub negated_at : Option (Reader Expression) → Place → Reader Expression
negated_at None p words = None
negated_at (Some primary) p words = made_of (λ t. Not p t) (primary words)

-- what the first word of a primary begins
unfoldable pub primary_behind : Option (Reader Expression) → Place → Word → Reader Expression
primary_behind deeper p (word.Name n) rest = named_at deeper p n rest
primary_behind deeper p (word.Decimal n) rest = Some (Decimal p n, rest)
primary_behind deeper p (word.Symbol symbol.LeftParenthesis) rest = made_of (λ t. Parenthesis p t) (closed expression_of deeper rest)
primary_behind deeper p (word.Reserved reserved.Not) rest = negated_at deeper p rest
primary_behind deeper p other rest = elim (literal_of other) [
  | Some l ↦ Some (Literal p l, rest)
  | None ↦ elim (conversion_of other) [ None ↦ None | Some c ↦ converted_at deeper p c rest ]
]

-- a primary
unfoldable pub primary_of : Option (Reader Expression) → Reader Expression
primary_of deeper [] = None
primary_of deeper (first ∷ rest) = primary_behind deeper first.place first.word rest

-- a primary that is nested at most so deep
unfoldable pub primary_at : ℕ → Reader Expression
primary_at zero words = primary_of None words
primary_at (suc n) words = primary_of (Some (primary_at n)) words

-- the reader one level deeper, where there is one
unfoldable pub deeper_than : ℕ → Option (Reader Expression)
deeper_than zero = None
deeper_than (suc n) = Some (primary_at n)

-- the longest expression that is nested at most so deep
unfoldable pub expression_at : ℕ → Reader Expression
expression_at n words = expression_of (primary_at n) words

-- the longest list of expressions
unfoldable pub expressions_at : ℕ → Reader Expressions
expressions_at n words = expressions_of (primary_at n) words

-- the longest reference
unfoldable pub reference_at : ℕ → Reader Reference
reference_at n words = reference_of (deeper_than n) words
