-- The trees of expressions, and how deep they are nested. A tree's place is that of its first word.
use Rattle.std.specs.Prelude.{ℕ, ◌+◌, List, max, Option}
use Rattle.hal_base.specs.declared.refusal.Place.{Place}
use Rattle.hal_grammar.specs.Leaves.{Naming, Sign, Relation, Conversion, LiteralValue}

mutual
  -- of OR, AND, CAT and a product the parts after the first one are at least one; of a sum they are so where it has no opening sign
  pub data Expression : Type 0 where
    Or : (place : Place) (first : Expression) (others : Expressions) → Expression
    And : (place : Place) (first : Expression) (others : Expressions) → Expression
    Compare : (place : Place) (left : Expression) (relation : Relation) (right : Expression) → Expression
    Cat : (place : Place) (first : Expression) (others : Expressions) → Expression
    Sum : (place : Place) (opening : Option Sign) (first : Expression) (others : Terms) → Expression
    Product : (place : Place) (first : Expression) (others : Expressions) → Expression
    Power : (place : Place) (base exponent : Expression) → Expression
    Not : (place : Place) (operand : Expression) → Expression
    Literal : (place : Place) (literal : LiteralValue) → Expression
    Decimal : (place : Place) (number : ℕ) → Expression
    Referred : (reference : Reference) → Expression
    Called : (place : Place) (name : List ℕ) (arguments : Expressions) → Expression
    Convert : (place : Place) (conversion : Conversion) (operand : Expression) → Expression
    Parenthesis : (place : Place) (inner : Expression) → Expression

  -- expressions one after another
  pub data Expressions : Type 0 where
    NoExpressions : Expressions
    MoreExpressions : (first : Expression) (others : Expressions) → Expressions

  -- signed terms one after another; the place is the sign's
  pub data Terms : Type 0 where
    NoTerms : Terms
    MoreTerms : (place : Place) (sign : Sign) (term : Expression) (others : Terms) → Terms

  -- a name, the names after its points, and its subscript
  pub data Reference : Type 0 where
    Refers : (place : Place) (name : List ℕ) (further : List Naming) (subscript : Subscript) → Reference

  -- no subscript, or one: a name, an integer, or a list in three parts, of copies, of array places and of places of the component; the place is the sign's
  pub data Subscript : Type 0 where
    Unsubscripted : Subscript
    ByName : (place : Place) (name : Naming) → Subscript
    ByInteger : (place : Place) (at : Place) (number : ℕ) → Subscript
    ByParts : (place : Place) (copies arrays components : Subscripts) → Subscript

  -- the subscripts of a part, none where the part is left out
  pub data Subscripts : Type 0 where
    NoSubscripts : Subscripts
    MoreSubscripts : (first : Sub) (others : Subscripts) → Subscripts

  -- `*`, one place, `a TO b`, `n AT a`
  pub data Sub : Type 0 where
    Every : (place : Place) → Sub
    One : (position : Position) → Sub
    Range : (first last : Position) → Sub
    Portion : (count : Expression) (first : Position) → Sub

  -- a place as it is counted from the beginning, or `#` with signed terms
  pub data Position : Type 0 where
    FromBeginning : (position : Expression) → Position
    FromEnd : (place : Place) (terms : Terms) → Position

-- NOT, a parenthesis, an argument list and a subscript are one deeper than what they stand in
abbrev mutual
  -- how deep an expression is nested
  pub nesting : Expression → ℕ
  nesting (Or place first others) = max (nesting first) (nesting_of_all others)
  nesting (And place first others) = max (nesting first) (nesting_of_all others)
  nesting (Compare place left relation right) = max (nesting left) (nesting right)
  nesting (Cat place first others) = max (nesting first) (nesting_of_all others)
  nesting (Sum place opening first others) = max (nesting first) (nesting_of_terms others)
  nesting (Product place first others) = max (nesting first) (nesting_of_all others)
  nesting (Power place base exponent) = max (nesting base) (nesting exponent)
  nesting (Not place operand) = nesting operand + 1
  nesting (Literal place literal) = 0
  nesting (Decimal place number) = 0
  nesting (Referred reference) = nesting_of_reference reference
  nesting (Called place name arguments) = nesting_of_all arguments + 1
  nesting (Convert place conversion operand) = nesting operand + 1
  nesting (Parenthesis place inner) = nesting inner + 1

  -- the deepest of expressions
  pub nesting_of_all : Expressions → ℕ
  nesting_of_all NoExpressions = 0
  nesting_of_all (MoreExpressions first others) = max (nesting first) (nesting_of_all others)

  -- the deepest of terms
  pub nesting_of_terms : Terms → ℕ
  nesting_of_terms NoTerms = 0
  nesting_of_terms (MoreTerms place sign term others) = max (nesting term) (nesting_of_terms others)

  -- a reference is as deep as its subscript
  pub nesting_of_reference : Reference → ℕ
  nesting_of_reference (Refers place name further subscript) = nesting_of_subscript subscript

  -- each subscript counts 1
  pub nesting_of_subscript : Subscript → ℕ
  nesting_of_subscript Unsubscripted = 0
  nesting_of_subscript (ByName place name) = 1
  nesting_of_subscript (ByInteger place at number) = 1
  nesting_of_subscript (ByParts place copies arrays components) =
      max (nesting_of_subscripts copies) (max (nesting_of_subscripts arrays) (nesting_of_subscripts components)) + 1

  -- the deepest of a part's subscripts
  pub nesting_of_subscripts : Subscripts → ℕ
  nesting_of_subscripts NoSubscripts = 0
  nesting_of_subscripts (MoreSubscripts first others) = max (nesting_of_sub first) (nesting_of_subscripts others)

  -- one subscript
  pub nesting_of_sub : Sub → ℕ
  nesting_of_sub (Every place) = 0
  nesting_of_sub (One position) = nesting_of_position position
  nesting_of_sub (Range first last) = max (nesting_of_position first) (nesting_of_position last)
  nesting_of_sub (Portion count first) = max (nesting count) (nesting_of_position first)

  -- one place
  pub nesting_of_position : Position → ℕ
  nesting_of_position (FromBeginning position) = nesting position
  nesting_of_position (FromEnd place terms) = nesting_of_terms terms

-- where a reference stands
abbrev pub place_of_reference : Reference → Place
place_of_reference (Refers place name further subscript) = place

-- where an expression stands
abbrev pub place_of : Expression → Place
place_of (Or place first others) = place
place_of (And place first others) = place
place_of (Compare place left relation right) = place
place_of (Cat place first others) = place
place_of (Sum place opening first others) = place
place_of (Product place first others) = place
place_of (Power place base exponent) = place
place_of (Not place operand) = place
place_of (Literal place literal) = place
place_of (Decimal place number) = place
place_of (Referred reference) = place_of_reference reference
place_of (Called place name arguments) = place
place_of (Convert place conversion operand) = place
place_of (Parenthesis place inner) = place
