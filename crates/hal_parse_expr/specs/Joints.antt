-- The four kinds of rows: OR, AND, CAT, and factors one after another.
use Rattle.hal_base.specs.declared.refusal.Place.{Place}
use Rattle.hal_words.specs.declared.reserved.Reserved.TheVariants as reserved
use Rattle.hal_grammar.specs.Expressions.{Expression, Or, And, Cat, Product, Expressions}
use Rattle.hal_parse_expr.specs.Reading.{Reader}
use Rattle.hal_parse_expr.specs.ReadingExpressions.{behind, both_of, comparison_of, sum_of, further_factor}
use Rattle.hal_parse_expr.specs.declared.joint.Joint.{Joint}
use Rattle.hal_parse_expr.specs.declared.joint.Joint.TheVariants as joint

-- a further operand
unfoldable pub more_of : Joint → Reader Expression → Reader Expression
more_of joint.Or primary = behind reserved.Or (both_of primary)
more_of joint.And primary = behind reserved.And (comparison_of primary)
more_of joint.Cat primary = behind reserved.Cat (sum_of primary)
more_of joint.Product primary = further_factor primary

-- the row's tree
unfoldable pub make_of : Joint → Place → Expression → Expressions → Expression
make_of joint.Or = Or
make_of joint.And = And
make_of joint.Cat = Cat
make_of joint.Product = Product
