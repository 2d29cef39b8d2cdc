-- Constant expressions.
use Rattle.std.specs.Prelude.{ℕ, Bool, true, false, ◌&&◌, List, [], Option, Some, None, slice_get, if◌then◌else◌}
use Rattle.std.specs.Option.{option_and_then}
use Rattle.hal_grammar.specs.Leaves.{Naming, Sign, Plus, Minus, LiteralValue, Integer, Conversion, ToInteger, ToBits, ToText}
use Rattle.hal_grammar.specs.Expressions.{Expression, Or, And, Compare, Cat, Sum, Product, Power, Not, Literal, Decimal, Referred, Called, Convert, Parenthesis, Expressions, NoExpressions, MoreExpressions, Terms, NoTerms, MoreTerms, Reference, Refers, Subscript, Unsubscripted, ByName, ByInteger, ByParts, Subscripts, NoSubscripts, MoreSubscripts, Sub, Every, One, Range, Portion, Position, FromBeginning, FromEnd}
use Rattle.hal_phrases.specs.Phrases.{Node, Phrase, OfTemplate, OfUnit, OfItem, OfTemporaryGroup}
use Rattle.hal_names.specs.Means.{means}
use Rattle.hal_scope.specs.Builtins.{builtin_named}
use Rattle.hal_kinds.specs.Attributes.{no_more}
use Rattle.hal_values.specs.declared.value.Value.{Value}
use Rattle.hal_operations.specs.declared.operation.Op1.{Op1}
use Rattle.hal_operations.specs.declared.operation.Op1.TheVariants as op1
use Rattle.hal_operations.specs.declared.operation.Op2.{Op2}
use Rattle.hal_operations.specs.declared.operation.Op2.TheVariants as op2
use Rattle.hal_operations.specs.Parts.{place_count}
use Rattle.hal_constants.specs.declared.constant.Constant.{Constant}
use Rattle.hal_constants.specs.declared.constant.Constant.TheVariants as constant
use Rattle.hal_constants.specs.declared.operation.Operation.{Operation}
use Rattle.hal_constants.specs.declared.operation.Operation.TheVariants as operation
use Rattle.hal_constants.specs.Results.{worse, apply_one, apply_two, whole, picked_one, picked_to, picked_from, picked_all}
use Rattle.hal_constants.specs.Naming.{constant_at, constant_named, literal_constant, operation_named}

-- the operation of a sign between two terms
unfoldable pub operation_of_sign : Sign → Op2
operation_of_sign Plus = op2.Plus
operation_of_sign Minus = op2.Minus

-- a sign before a term
unfoldable pub signed : Option Sign → Constant → Constant
signed (Some Minus) c = apply_one op1.Minus c
signed other c = c

unfoldable pub operation_of_conversion : Conversion → Op1
operation_of_conversion ToInteger = op1.Integer
operation_of_conversion ToBits = op1.Bit
operation_of_conversion ToText = op1.Character

-- a power; another exponent than an integer literal is none
unfoldable pub raised_to : Constant → LiteralValue → Constant
raised_to c (Integer n) = apply_two op2.Power c (whole n)
raised_to c other = constant.Unfit

unfoldable pub raised : Constant → Expression → Constant
raised c (Literal place literal) = raised_to c literal
raised c other = constant.Unfit

-- whether there is no subscript
unfoldable pub is_none : Subscripts → Bool
is_none NoSubscripts = true
is_none other = false

-- what the call form of a declared name may be: the product of a constant and a parenthesis
unfoldable pub factor_at : List Phrase → List (Option Value) → Phrase → Phrase → Node → Constant
factor_at ps vs p q (OfItem common item) = constant_at ps vs p q [] (OfItem common item)
factor_at ps vs p q (OfTemporaryGroup labels variable) = constant.Open
factor_at ps vs p q (OfTemplate name head declarations) = constant.Open
factor_at ps vs p q (OfUnit name head declarations) = constant.Open
factor_at ps vs p q other = constant.Unfit

-- what is called by a name
abbrev pub called_at : List Phrase → List (Option Value) → Phrase → ℕ → Constant
called_at ps vs p k = elim (slice_get ps k) [ None ↦ constant.Unfit | Some q ↦ factor_at ps vs p q q.node ]

unfoldable mutual
  -- an expression in this phrase
  pub constant_of : List Phrase → List (Option Value) → Phrase → Expression → Constant
  constant_of ps vs p (Or place first others) = folded ps vs p op2.Or (constant_of ps vs p first) others
  constant_of ps vs p (And place first others) = folded ps vs p op2.And (constant_of ps vs p first) others
  constant_of ps vs p (Compare place left relation right) = constant.Open
  constant_of ps vs p (Cat place first others) = folded ps vs p op2.Cat (constant_of ps vs p first) others
  constant_of ps vs p (Sum place opening first others) = summed ps vs p (signed opening (constant_of ps vs p first)) others
  constant_of ps vs p (Product place first others) = folded ps vs p op2.Product (constant_of ps vs p first) others
  constant_of ps vs p (Power place base exponent) = raised (constant_of ps vs p base) exponent
  constant_of ps vs p (Not place operand) = apply_one op1.Not (constant_of ps vs p operand)
  constant_of ps vs p (Literal place literal) = literal_constant literal
  constant_of ps vs p (Decimal place number) = constant.Unfit
  constant_of ps vs p (Referred reference) = referred ps vs p reference
  constant_of ps vs p (Called place name arguments) =
      elim (means ps p.around.block name) [ None ↦ computed ps vs p (operation_named name) arguments | Some k ↦ multiplied ps vs p (called_at ps vs p k) arguments ]
  constant_of ps vs p (Convert place conversion operand) = apply_one (operation_of_conversion conversion) (constant_of ps vs p operand)
  constant_of ps vs p (Parenthesis place inner) = constant_of ps vs p inner

  -- an operation between a constant and each of these in turn
  pub folded : List Phrase → List (Option Value) → Phrase → Op2 → Constant → Expressions → Constant
  folded ps vs p op c NoExpressions = c
  folded ps vs p op c (MoreExpressions first others) = folded ps vs p op (apply_two op c (constant_of ps vs p first)) others

  -- terms that are added to a constant or taken from it
  pub summed : List Phrase → List (Option Value) → Phrase → Constant → Terms → Constant
  summed ps vs p c NoTerms = c
  summed ps vs p c (MoreTerms place sign term others) = summed ps vs p (apply_two (operation_of_sign sign) c (constant_of ps vs p term)) others

  -- a built-in function of these arguments
  pub computed : List Phrase → List (Option Value) → Phrase → Operation → Expressions → Constant
  computed ps vs p operation.Size arguments = constant.Open
  computed ps vs p (operation.One op) (MoreExpressions x others) = if no_more others then apply_one op (constant_of ps vs p x) else constant.Unfit
  computed ps vs p (operation.Two op) (MoreExpressions x others) = computed_second ps vs p op (constant_of ps vs p x) others
  computed ps vs p other arguments = constant.Unfit

  -- a built-in function of this argument and one more
  pub computed_second : List Phrase → List (Option Value) → Phrase → Op2 → Constant → Expressions → Constant
  computed_second ps vs p op c NoExpressions = constant.Unfit
  computed_second ps vs p op c (MoreExpressions y others) = if no_more others then apply_two op c (constant_of ps vs p y) else constant.Unfit

  -- the product of a constant and a parenthesis; with another list it is none of a constant, and no constant of anything else, as of a FUNCTION
  pub multiplied : List Phrase → List (Option Value) → Phrase → Constant → Expressions → Constant
  multiplied ps vs p c NoExpressions = worse c constant.Unfit
  multiplied ps vs p c (MoreExpressions x others) = if no_more others then apply_two op2.Product c (constant_of ps vs p x) else worse c constant.Unfit

  -- a reference
  pub referred : List Phrase → List (Option Value) → Phrase → Reference → Constant
  referred ps vs p (Refers place name path subscript) = elim (constant_named ps vs p name path) [
    | constant.Worth v ↦ subscripted ps vs p v subscript
    | constant.Failed ↦ constant.Failed
    | constant.Open ↦ constant.Open
    | constant.Unfit ↦ constant.Unfit
  ]

  -- a value with a subscript
  pub subscripted : List Phrase → List (Option Value) → Phrase → Value → Subscript → Constant
  subscripted ps vs p v Unsubscripted = constant.Worth v
  subscripted ps vs p v (ByName place name) = picked_one v (constant_named ps vs p name.name [])
  subscripted ps vs p v (ByInteger place at number) = picked_one v (whole number)
  subscripted ps vs p v (ByParts place copies arrays components) = if is_none copies && is_none arrays then component_of ps vs p v components else constant.Unfit

  -- the component of a value that a subscript chooses
  pub component_of : List Phrase → List (Option Value) → Phrase → Value → Subscripts → Constant
  component_of ps vs p v NoSubscripts = constant.Unfit
  component_of ps vs p v (MoreSubscripts sub others) = if is_none others then component_by ps vs p v sub else constant.Unfit

  pub component_by : List Phrase → List (Option Value) → Phrase → Value → Sub → Constant
  component_by ps vs p v (Every place) = picked_all v
  component_by ps vs p v (One position) = picked_one v (place_of ps vs p v position)
  component_by ps vs p v (Range first last) = picked_to v (place_of ps vs p v first) (place_of ps vs p v last)
  component_by ps vs p v (Portion count first) = picked_from v (constant_of ps vs p count) (place_of ps vs p v first)

  -- a place of a value; `#` is its last one
  pub place_of : List Phrase → List (Option Value) → Phrase → Value → Position → Constant
  place_of ps vs p v (FromBeginning position) = constant_of ps vs p position
  place_of ps vs p v (FromEnd place terms) = summed ps vs p (whole (place_count v)) terms
