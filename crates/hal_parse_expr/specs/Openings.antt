-- What the first word of a primary opens.
use Rattle.std.specs.Prelude.{Option, Some, None}
use Rattle.hal_base.specs.declared.refusal.Place.{Place}
use Rattle.hal_words.specs.declared.reserved.Reserved.TheVariants as reserved
use Rattle.hal_words.specs.declared.word.Symbol.TheVariants as symbol
use Rattle.hal_words.specs.declared.word.Word.{Word}
use Rattle.hal_words.specs.declared.word.Word.TheVariants as word
use Rattle.hal_grammar.specs.Expressions.{Expression, Literal, Decimal, Parenthesis}
use Rattle.hal_tree.specs.declared.leaf.Conversion.TheVariants as conversion
use Rattle.hal_tree.specs.declared.leaf.LiteralValue.TheVariants as literal
use Rattle.hal_tree.specs.SeenLeaves.{seen_conversion, seen_literal}
use Rattle.hal_parse_expr.specs.Reading.{Reader, made_of}
use Rattle.hal_parse_expr.specs.ReadingExpressions.{closed, converted_at, expression_of, named_at, negated_at}
use Rattle.hal_parse_expr.specs.declared.opening.Opening.{Opening}
use Rattle.hal_parse_expr.specs.declared.opening.Opening.TheVariants as opening

-- what a word opens
unfoldable pub opens : Word → Option Opening
opens (word.Name n) = Some (opening.Name n)
opens (word.Decimal n) = Some (opening.Decimal n)
opens (word.Symbol symbol.LeftParenthesis) = Some opening.Parenthesis
opens (word.Reserved reserved.Not) = Some opening.Not
opens (word.Integer n) = Some (opening.Literal (literal.Integer n))
opens (word.Text t) = Some (opening.Literal (literal.Text t))
opens (word.Bits len bits) = Some (opening.Literal (literal.Bits len bits))
opens (word.Reserved reserved.True) = Some (opening.Literal literal.True)
opens (word.Reserved reserved.False) = Some (opening.Literal literal.False)
opens (word.Reserved reserved.On) = Some (opening.Literal literal.On)
opens (word.Reserved reserved.Off) = Some (opening.Literal literal.Off)
opens (word.Reserved reserved.Integer) = Some (opening.Conversion conversion.Integer)
opens (word.Reserved reserved.Bit) = Some (opening.Conversion conversion.Bit)
opens (word.Reserved reserved.Character) = Some (opening.Conversion conversion.Character)
opens other = None

-- the primary that it opens
unfoldable pub opened_at : Option (Reader Expression) → Place → Opening → Reader Expression
opened_at deeper p (opening.Name n) rest = named_at deeper p n rest
opened_at deeper p (opening.Decimal n) rest = Some (Decimal p n, rest)
opened_at deeper p opening.Parenthesis rest = made_of (λ t. Parenthesis p t) (closed expression_of deeper rest)
opened_at deeper p opening.Not rest = negated_at deeper p rest
opened_at deeper p (opening.Literal l) rest = Some (Literal p (seen_literal l), rest)
opened_at deeper p (opening.Conversion c) rest = converted_at deeper p (seen_conversion c) rest
