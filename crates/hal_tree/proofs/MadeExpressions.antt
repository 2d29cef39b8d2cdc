-- How the nodes of expressions are seen, as code makes them.
use Rattle.std.proofs.Common.{rules, ◌≡◌, ℕ, List, map, Option, Box, Vec}
use Rattle.std.specs.Option.{option_map}
use Rattle.std.specs.declared.alloc.Global.{Global}
use Rattle.hal_base.specs.declared.refusal.Place.{Place}
use Rattle.hal_tree.specs.declared.leaf.Identifier.{Identifier}
use Rattle.hal_tree.specs.declared.leaf.Sign.{Sign}
use Rattle.hal_tree.specs.declared.leaf.Relation.{Relation}
use Rattle.hal_tree.specs.declared.leaf.Conversion.{Conversion}
use Rattle.hal_tree.specs.declared.leaf.LiteralValue.{LiteralValue}
use Rattle.hal_tree.specs.declared.expression.Expr.{Expr, the_lemmas}
use Rattle.hal_tree.specs.declared.expression.Expr.TheVariants as expr
use Rattle.hal_tree.specs.declared.expression.Position.{Position}
use Rattle.hal_tree.specs.declared.expression.Position.TheVariants as position
use Rattle.hal_tree.specs.declared.expression.Sub.{Sub}
use Rattle.hal_tree.specs.declared.expression.Sub.TheVariants as sub
use Rattle.hal_tree.specs.declared.expression.Subscript.TheVariants as subscript
use Rattle.hal_tree.specs.declared.expression.Reference.{Reference}
use Rattle.hal_tree.specs.declared.expression.SignedTerm.{SignedTerm}
use Rattle.hal_grammar.specs.Expressions as plain
use Rattle.hal_tree.specs.Rows.{expressions, terms, subscripts}
use Rattle.hal_tree.specs.SeenLeaves.{seen_name, seen_sign, seen_relation, seen_conversion, seen_literal}
use Rattle.hal_tree.specs.SeenExpressions.{seen_expression, seen_position, seen_sub, seen_subscript, seen_reference, seen_signed}

pub made_or : (place : Place) (first : Box Expr Global) (others : Vec Expr Global) → seen_expression (expr.Or place first others) ≡ plain.Or place (seen_expression first.value) (expressions (map seen_expression others.items))
unfolding seen_expression seen_position seen_sub seen_subscript seen_reference seen_signed
made_or place first others = search (rules, the_lemmas)

pub made_and : (place : Place) (first : Box Expr Global) (others : Vec Expr Global) → seen_expression (expr.And place first others) ≡ plain.And place (seen_expression first.value) (expressions (map seen_expression others.items))
unfolding seen_expression seen_position seen_sub seen_subscript seen_reference seen_signed
made_and place first others = search (rules, the_lemmas)

pub made_cat : (place : Place) (first : Box Expr Global) (others : Vec Expr Global) → seen_expression (expr.Cat place first others) ≡ plain.Cat place (seen_expression first.value) (expressions (map seen_expression others.items))
unfolding seen_expression seen_position seen_sub seen_subscript seen_reference seen_signed
made_cat place first others = search (rules, the_lemmas)

pub made_product : (place : Place) (first : Box Expr Global) (others : Vec Expr Global) → seen_expression (expr.Product place first others) ≡ plain.Product place (seen_expression first.value) (expressions (map seen_expression others.items))
unfolding seen_expression seen_position seen_sub seen_subscript seen_reference seen_signed
made_product place first others = search (rules, the_lemmas)

pub made_compare : (place : Place) (left : Box Expr Global) (relation : Relation) (right : Box Expr Global) → seen_expression (expr.Compare place left relation right) ≡ plain.Compare place (seen_expression left.value) (seen_relation relation) (seen_expression right.value)
unfolding seen_expression seen_position seen_sub seen_subscript seen_reference seen_signed
made_compare place left relation right = search (rules, the_lemmas)

pub made_sum : (place : Place) (opening : Option Sign) (first : Box Expr Global) (others : Vec SignedTerm Global) → seen_expression (expr.Sum place opening first others) ≡ plain.Sum place (option_map seen_sign opening) (seen_expression first.value) (terms (map seen_signed others.items))
unfolding seen_expression seen_position seen_sub seen_subscript seen_reference seen_signed
made_sum place opening first others = search (rules, the_lemmas)

pub made_power : (place : Place) (base exponent : Box Expr Global) → seen_expression (expr.Power place base exponent) ≡ plain.Power place (seen_expression base.value) (seen_expression exponent.value)
unfolding seen_expression seen_position seen_sub seen_subscript seen_reference seen_signed
made_power place base exponent = search (rules, the_lemmas)

pub made_not : (place : Place) (operand : Box Expr Global) → seen_expression (expr.Not place operand) ≡ plain.Not place (seen_expression operand.value)
unfolding seen_expression seen_position seen_sub seen_subscript seen_reference seen_signed
made_not place operand = search (rules, the_lemmas)

pub made_literal : (place : Place) (literal : LiteralValue) → seen_expression (expr.Literal place literal) ≡ plain.Literal place (seen_literal literal)
unfolding seen_expression seen_position seen_sub seen_subscript seen_reference seen_signed
made_literal place literal = search (rules, the_lemmas)

pub made_decimal : (place : Place) (thousandths : ℕ) → seen_expression (expr.Decimal place thousandths) ≡ plain.Decimal place thousandths
unfolding seen_expression seen_position seen_sub seen_subscript seen_reference seen_signed
made_decimal place thousandths = search (rules, the_lemmas)

pub made_referred : (reference : Reference) → seen_expression (expr.Reference reference) ≡ plain.Referred (seen_reference reference)
unfolding seen_expression seen_position seen_sub seen_subscript seen_reference seen_signed
made_referred reference = search (rules, the_lemmas)

pub made_call : (place : Place) (name : List ℕ) (arguments : Vec Expr Global) → seen_expression (expr.Call place name arguments) ≡ plain.Called place name (expressions (map seen_expression arguments.items))
unfolding seen_expression seen_position seen_sub seen_subscript seen_reference seen_signed
made_call place name arguments = search (rules, the_lemmas)

pub made_convert : (place : Place) (conversion : Conversion) (operand : Box Expr Global) → seen_expression (expr.Convert place conversion operand) ≡ plain.Convert place (seen_conversion conversion) (seen_expression operand.value)
unfolding seen_expression seen_position seen_sub seen_subscript seen_reference seen_signed
made_convert place conversion operand = search (rules, the_lemmas)

pub made_parenthesis : (place : Place) (inner : Box Expr Global) → seen_expression (expr.Parenthesis place inner) ≡ plain.Parenthesis place (seen_expression inner.value)
unfolding seen_expression seen_position seen_sub seen_subscript seen_reference seen_signed
made_parenthesis place inner = search (rules, the_lemmas)

pub made_from_beginning : (e : Expr) → seen_position (position.FromBeginning e) ≡ plain.FromBeginning (seen_expression e)
unfolding seen_expression seen_position seen_sub seen_subscript seen_reference seen_signed
made_from_beginning e = search (rules, the_lemmas)

pub made_from_end : (place : Place) (list : Vec SignedTerm Global) → seen_position (position.FromEnd place list) ≡ plain.FromEnd place (terms (map seen_signed list.items))
unfolding seen_expression seen_position seen_sub seen_subscript seen_reference seen_signed
made_from_end place list = search (rules, the_lemmas)

pub made_every : (place : Place) → seen_sub (sub.Every place) ≡ plain.Every place
unfolding seen_expression seen_position seen_sub seen_subscript seen_reference seen_signed
made_every place = search (rules, the_lemmas)

pub made_one : (x : Position) → seen_sub (sub.One x) ≡ plain.One (seen_position x)
unfolding seen_expression seen_position seen_sub seen_subscript seen_reference seen_signed
made_one x = search (rules, the_lemmas)

pub made_range : (first last : Position) → seen_sub (sub.Range first last) ≡ plain.Range (seen_position first) (seen_position last)
unfolding seen_expression seen_position seen_sub seen_subscript seen_reference seen_signed
made_range first last = search (rules, the_lemmas)

pub made_portion : (count : Expr) (first : Position) → seen_sub (sub.Portion count first) ≡ plain.Portion (seen_expression count) (seen_position first)
unfolding seen_expression seen_position seen_sub seen_subscript seen_reference seen_signed
made_portion count first = search (rules, the_lemmas)

pub made_unsubscripted : seen_subscript subscript.None ≡ plain.Unsubscripted
unfolding seen_expression seen_position seen_sub seen_subscript seen_reference seen_signed
made_unsubscripted = search (rules, the_lemmas)

pub made_by_name : (place : Place) (name : Identifier) → seen_subscript (subscript.Name place name) ≡ plain.ByName place (seen_name name)
unfolding seen_expression seen_position seen_sub seen_subscript seen_reference seen_signed
made_by_name place name = search (rules, the_lemmas)

pub made_by_integer : (place at : Place) (number : ℕ) → seen_subscript (subscript.Integer place at number) ≡ plain.ByInteger place at number
unfolding seen_expression seen_position seen_sub seen_subscript seen_reference seen_signed
made_by_integer place at number = search (rules, the_lemmas)

pub made_by_parts : (place : Place) (copies arrays components : Vec Sub Global) → seen_subscript (subscript.Parts place copies arrays components) ≡ plain.ByParts place (subscripts (map seen_sub copies.items)) (subscripts (map seen_sub arrays.items)) (subscripts (map seen_sub components.items))
unfolding seen_expression seen_position seen_sub seen_subscript seen_reference seen_signed
made_by_parts place copies arrays components = search (rules, the_lemmas)

pub made_reference : (r : Reference) → seen_reference r ≡ plain.Refers r.place r.name (map seen_name r.further.items) (seen_subscript r.subscript)
unfolding seen_expression seen_position seen_sub seen_subscript seen_reference seen_signed
made_reference r = search (rules, the_lemmas)

pub made_signed : (t : SignedTerm) → seen_signed t ≡ (t.place, seen_sign t.sign, seen_expression t.term)
unfolding seen_expression seen_position seen_sub seen_subscript seen_reference seen_signed
made_signed t = search (rules, the_lemmas)
