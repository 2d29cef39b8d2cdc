-- The values of constant expressions, as far as they have one: where each operation takes its operands and none raises an error.
use Rattle.std.specs.Prelude.{ℕ, nat_le, ℤ, pos, List, length, Option, Some, None, if◌then◌else◌}
use Rattle.std.specs.Option.{option_and_then}
use Rattle.std.specs.Result.{result_ok}
use Rattle.hal_grammar.specs.Leaves.{Sign, Minus, LiteralValue, Integer, Text}
use Rattle.hal_grammar.specs.Expressions.{Expression, Or, And, Compare, Cat, Sum, Product, Power, Not, Literal, Decimal, Referred, Called, Convert, Parenthesis, Expressions, NoExpressions, MoreExpressions, Terms, NoTerms, MoreTerms, Reference, Refers, Subscript, Unsubscripted, ByName, ByInteger, ByParts, Subscripts, NoSubscripts, MoreSubscripts, Sub, Every, Range, Portion, One as OnePlace, Position, FromBeginning, FromEnd}
use Rattle.hal_tree.specs.Rows.{SignedTerm}
use Rattle.hal_kinds.specs.Attributes.{no_more}
use Rattle.hal_operations.specs.declared.operation.Op1.{Op1}
use Rattle.hal_operations.specs.declared.operation.Op1.TheVariants as op1
use Rattle.hal_operations.specs.declared.operation.Op2.{Op2}
use Rattle.hal_operations.specs.declared.operation.Op2.TheVariants as op2
use Rattle.hal_operations.specs.declared.part.Part.{Part}
use Rattle.hal_operations.specs.declared.part.Part.TheVariants as part
use Rattle.hal_operations.specs.Parts.{picked, place_count}
use Rattle.hal_operations.specs.Values.{value_of_one, value_of_two}
use Rattle.hal_values.specs.declared.value.Value.{Value}
use Rattle.hal_values.specs.declared.value.Value.TheVariants as value
use Rattle.hal_constants.specs.declared.operation.Operation.{Operation}
use Rattle.hal_constants.specs.declared.operation.Operation.TheVariants as operation
use Rattle.hal_constants.specs.Naming.{operation_of}
use Rattle.hal_constants.specs.Operands.{takes_one, takes_two, has_components}
use Rattle.hal_meaning.specs.Expressions.{literal_value, operation_of_sign, operation_of_conversion}
use Rattle.hal_storage.specs.referents.Referents.{Referent, ConstantOf, BuiltinOf}
use Rattle.hal_agreement.specs.Sites.{Site}
use Rattle.hal_gen_expr.specs.Referents.{referent}

-- an integer of 31 bits
abbrev pub whole : ℕ → Option Value
whole number = if nat_le number 2147483647 then Some (value.Int (pos number)) else None

-- a text of at most 255 bytes
abbrev pub literal_text : List ℕ → Option Value
literal_text text = if nat_le (length text) 255 then Some (value.Text text) else None

-- a literal
abbrev pub literal_of : LiteralValue → Option Value
literal_of (Integer number) = whole number
literal_of (Text text) = literal_text text
literal_of other = Some (literal_value other)

-- an exponent; another one than an integer literal is none
abbrev pub exponent_in : LiteralValue → Option Value
exponent_in (Integer number) = whole number
exponent_in other = None

abbrev pub exponent : Expression → Option Value
exponent (Literal place literal) = exponent_in literal
exponent other = None

-- a CONSTANT
abbrev pub referent_value : Referent → Option Value
referent_value (ConstantOf v) = Some v
referent_value other = None

-- what a name is worth where it has no subscript
abbrev pub named : Site → List ℕ → Option Value
named site name = referent_value (referent site name)

-- an operation with one operand, where it is known
abbrev pub apply_one : Op1 → Option Value → Option Value
apply_one op (Some v) = if takes_one op v then result_ok (value_of_one op v) else None
apply_one op None = None

-- an operation with two operands, where both are known
abbrev pub apply_two : Op2 → Option Value → Option Value → Option Value
apply_two op (Some v) (Some w) = if takes_two op v w then result_ok (value_of_two op v w) else None
apply_two op (Some v) None = None
apply_two op None other = None

-- a value with the sign of a sum's first term
abbrev pub signed : Option Sign → Option Value → Option Value
signed (Some Minus) v = apply_one op1.Minus v
signed other v = v

-- the integer that a value is
abbrev pub value_integer : Value → Option ℤ
value_integer (value.Int a) = Some a
value_integer other = None

abbrev pub integer_in : Option Value → Option ℤ
integer_in v = option_and_then value_integer v

-- a component of a value, where its places are known
abbrev pub part_of : Value → Option Part → Option Value
part_of v (Some p) = if has_components v then result_ok (picked v p) else None
part_of v None = None

-- one place; places from one to another; and so many places at one
abbrev pub one_place : Option ℤ → Option Part
one_place (Some i) = Some (part.One i)
one_place None = None

abbrev pub places_to : Option ℤ → Option ℤ → Option Part
places_to (Some first) (Some last) = Some (part.To first last)
places_to (Some first) None = None
places_to None last = None

abbrev pub places_at : Option ℤ → Option ℤ → Option Part
places_at (Some count) (Some first) = Some (part.At count first)
places_at (Some count) None = None
places_at None first = None

-- a name with a list, of which the value is given as the operands of a product behind the name's value, and as those of a built-in function
abbrev pub called : (Option Value → Option Value) → (Operation → Option Value) → Referent → Option Value
called multiplied built (ConstantOf v) = multiplied (Some v)
called multiplied built (BuiltinOf b) = built (operation_of b)
called multiplied built other = None

abbrev mutual
  -- an expression
  pub value_of : Site → Expression → Option Value
  value_of site (Or place first others) = folded site op2.Or (value_of site first) others
  value_of site (And place first others) = folded site op2.And (value_of site first) others
  value_of site (Compare place left relation right) = None
  value_of site (Cat place first others) = folded site op2.Cat (value_of site first) others
  value_of site (Sum place opening first others) = summed site (signed opening (value_of site first)) others
  value_of site (Product place first others) = folded site op2.Product (value_of site first) others
  value_of site (Power place base raised) = apply_two op2.Power (value_of site base) (exponent raised)
  value_of site (Not place operand) = apply_one op1.Not (value_of site operand)
  value_of site (Literal place literal) = literal_of literal
  value_of site (Decimal place number) = None
  value_of site (Referred reference) = referred site reference
  value_of site (Called place name arguments) = called (λ v. folded site op2.Product v arguments) (λ op. built site op arguments) (referent site name)
  value_of site (Convert place conversion operand) = apply_one (operation_of_conversion conversion) (value_of site operand)
  value_of site (Parenthesis place inner) = value_of site inner

  -- an operation between a value and each of these in turn
  pub folded : Site → Op2 → Option Value → Expressions → Option Value
  folded site op v NoExpressions = v
  folded site op v (MoreExpressions first others) = folded site op (apply_two op v (value_of site first)) others

  -- terms that are added to a value or taken from it
  pub summed : Site → Option Value → Terms → Option Value
  summed site v NoTerms = v
  summed site v (MoreTerms place sign term others) = summed site (apply_two (operation_of_sign sign) v (value_of site term)) others

  -- a built-in function of these arguments
  pub built : Site → Operation → Expressions → Option Value
  built site (operation.One op) (MoreExpressions x others) = if no_more others then apply_one op (value_of site x) else None
  built site (operation.Two op) (MoreExpressions x others) = built_second site op (value_of site x) others
  built site other arguments = None

  -- a built-in function of an argument and one more
  pub built_second : Site → Op2 → Option Value → Expressions → Option Value
  built_second site op v NoExpressions = None
  built_second site op v (MoreExpressions y others) = if no_more others then apply_two op v (value_of site y) else None

  -- a reference
  pub referred : Site → Reference → Option Value
  referred site (Refers place name path subscript) = option_and_then (λ v. component site v subscript) (named site name)

  -- the component of a value that a subscript chooses
  pub component : Site → Value → Subscript → Option Value
  component site v Unsubscripted = Some v
  component site v (ByName place name) = part_of v (one_place (integer_in (named site name.name)))
  component site v (ByInteger place mark number) = part_of v (one_place (integer_in (whole number)))
  component site v (ByParts place copies arrays components) = parts_of site v components

  pub parts_of : Site → Value → Subscripts → Option Value
  parts_of site v NoSubscripts = None
  parts_of site v (MoreSubscripts first others) = part_of v (part_chosen site (place_count v) first)

  -- the places of a component that a subscript chooses
  pub part_chosen : Site → ℕ → Sub → Option Part
  part_chosen site size (Every there) = Some (part.To (pos 1) (pos size))
  part_chosen site size (OnePlace one) = one_place (place_of site size one)
  part_chosen site size (Range first last) = places_to (place_of site size first) (place_of site size last)
  part_chosen site size (Portion count first) = places_at (integer_in (value_of site count)) (place_of site size first)

  -- a place of so many; `#` is the last one
  pub place_of : Site → ℕ → Position → Option ℤ
  place_of site size (FromBeginning one) = integer_in (value_of site one)
  place_of site size (FromEnd there terms) = integer_in (summed site (Some (value.Int (pos size))) terms)

-- a name with a list that refers to this
abbrev pub of_call : Site → Expressions → Referent → Option Value
of_call site arguments r = called (λ v. folded site op2.Product v arguments) (λ op. built site op arguments) r

-- one term, as a list of terms has it
abbrev pub with_term : Site → Option Value → SignedTerm → Option Value
with_term site v t = apply_two (operation_of_sign t.1) v (value_of site t.2)

-- the integer that a constant expression is
abbrev pub integer_of : Site → Expression → Option ℤ
integer_of site tree = integer_in (value_of site tree)
