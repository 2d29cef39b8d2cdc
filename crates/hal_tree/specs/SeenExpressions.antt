-- Which expression of the grammar each expression of the program is: one level, where what stands below is seen already, and the fold of it.
use Rattle.std.specs.Prelude.{map}
use Rattle.std.specs.Option.{option_map}
use Rattle.hal_tree.specs.declared.expression.Expr.{Expr, fold-Expr}
use Rattle.hal_tree.specs.declared.expression.Position.{fold-Position}
use Rattle.hal_tree.specs.declared.expression.Position as rust-position
use Rattle.hal_tree.specs.declared.expression.Sub.{fold-Sub}
use Rattle.hal_tree.specs.declared.expression.Sub as rust-sub
use Rattle.hal_tree.specs.declared.expression.Subscript.{fold-Subscript}
use Rattle.hal_tree.specs.declared.expression.Subscript as rust-subscript
use Rattle.hal_tree.specs.declared.expression.Reference.{fold-Reference}
use Rattle.hal_tree.specs.declared.expression.Reference as rust-reference
use Rattle.hal_tree.specs.declared.expression.SignedTerm.{fold-SignedTerm}
use Rattle.hal_tree.specs.declared.expression.SignedTerm as rust-term
use Rattle.hal_tree.specs.declared.expression.Expr.TheOpen.{Expr-F, Position-F, Sub-F, Subscript-F, Reference-F, SignedTerm-F}
use Rattle.hal_grammar.specs.Expressions.{Expression, Or, And, Compare, Cat, Sum, Product, Power, Not, Literal, Decimal, Referred, Called, Convert, Parenthesis, Reference, Refers, Subscript, Unsubscripted, ByName, ByInteger, ByParts, Sub, Every, One, Range, Portion, Position, FromBeginning, FromEnd}
use Rattle.hal_tree.specs.Rows.{expressions, SignedTerm, terms, subscripts}
use Rattle.hal_tree.specs.SeenLeaves.{seen_name, seen_sign, seen_relation, seen_conversion, seen_literal}

-- an expression
abbrev pub expression_step : Expr-F Expression Position Sub Subscript Reference SignedTerm → Expression
expression_step (Expr-F.Or place first others) = Or place first.value (expressions others.items)
expression_step (Expr-F.And place first others) = And place first.value (expressions others.items)
expression_step (Expr-F.Compare place left relation right) = Compare place left.value (seen_relation relation) right.value
expression_step (Expr-F.Cat place first others) = Cat place first.value (expressions others.items)
expression_step (Expr-F.Sum place opening first others) = Sum place (option_map seen_sign opening) first.value (terms others.items)
expression_step (Expr-F.Product place first others) = Product place first.value (expressions others.items)
expression_step (Expr-F.Power place base exponent) = Power place base.value exponent.value
expression_step (Expr-F.Not place operand) = Not place operand.value
expression_step (Expr-F.Literal place literal) = Literal place (seen_literal literal)
expression_step (Expr-F.Decimal place thousandths) = Decimal place thousandths
expression_step (Expr-F.Reference reference) = Referred reference
expression_step (Expr-F.Call place name arguments) = Called place name (expressions arguments.items)
expression_step (Expr-F.Convert place conversion operand) = Convert place (seen_conversion conversion) operand.value
expression_step (Expr-F.Parenthesis place inner) = Parenthesis place inner.value

-- a place
abbrev pub position_step : Position-F Expression Position Sub Subscript Reference SignedTerm → Position
position_step (Position-F.FromBeginning position) = FromBeginning position
position_step (Position-F.FromEnd place list) = FromEnd place (terms list.items)

-- one subscript
abbrev pub sub_step : Sub-F Expression Position Sub Subscript Reference SignedTerm → Sub
sub_step (Sub-F.Every place) = Every place
sub_step (Sub-F.One position) = One position
sub_step (Sub-F.Range first last) = Range first last
sub_step (Sub-F.Portion count first) = Portion count first

-- a subscript
abbrev pub subscript_step : Subscript-F Expression Position Sub Subscript Reference SignedTerm → Subscript
subscript_step Subscript-F.None = Unsubscripted
subscript_step (Subscript-F.Name place name) = ByName place (seen_name name)
subscript_step (Subscript-F.Integer place at number) = ByInteger place at number
subscript_step (Subscript-F.Parts place copies arrays components) = ByParts place (subscripts copies.items) (subscripts arrays.items) (subscripts components.items)

-- a reference
abbrev pub reference_step : Reference-F Expression Position Sub Subscript Reference SignedTerm → Reference
reference_step r = Refers r.place r.name (map seen_name r.further.items) r.subscript

-- a signed term
abbrev pub signed_step : SignedTerm-F Expression Position Sub Subscript Reference SignedTerm → SignedTerm
signed_step t = (t.place, seen_sign t.sign, t.term)

-- the expression of the grammar that this one is
unfoldable pub seen_expression : Expr → Expression
seen_expression = fold-Expr Expression Position Sub Subscript Reference SignedTerm expression_step position_step sub_step subscript_step reference_step signed_step

-- the place
unfoldable pub seen_position : rust-position.Position → Position
seen_position = fold-Position Expression Position Sub Subscript Reference SignedTerm expression_step position_step sub_step subscript_step reference_step signed_step

-- the subscript of a part
unfoldable pub seen_sub : rust-sub.Sub → Sub
seen_sub = fold-Sub Expression Position Sub Subscript Reference SignedTerm expression_step position_step sub_step subscript_step reference_step signed_step

-- the subscript
unfoldable pub seen_subscript : rust-subscript.Subscript → Subscript
seen_subscript = fold-Subscript Expression Position Sub Subscript Reference SignedTerm expression_step position_step sub_step subscript_step reference_step signed_step

-- the reference
unfoldable pub seen_reference : rust-reference.Reference → Reference
seen_reference = fold-Reference Expression Position Sub Subscript Reference SignedTerm expression_step position_step sub_step subscript_step reference_step signed_step

-- the signed term
unfoldable pub seen_signed : rust-term.SignedTerm → SignedTerm
seen_signed = fold-SignedTerm Expression Position Sub Subscript Reference SignedTerm expression_step position_step sub_step subscript_step reference_step signed_step
