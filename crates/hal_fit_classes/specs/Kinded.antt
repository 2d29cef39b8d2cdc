-- Expressions whose operands break no rule of kinds: 702, 703, 708 and 720.
use Rattle.std.specs.Prelude.{◌≡◌, ℕ, true, List, Option, Some, None}
use Rattle.hal_grammar.specs.Leaves.{Conversion, ToInteger, ToBits, ToText, LiteralValue, Bits}
use Rattle.hal_grammar.specs.Expressions.{Expression, Or, And, Compare, Cat, Sum, Product, Power, Not, Literal, Decimal, Referred, Called, Convert, Parenthesis, Expressions, NoExpressions, MoreExpressions, Terms, NoTerms, MoreTerms, place_of}
use Rattle.hal_phrases.specs.Phrases.{Phrase}
use Rattle.hal_kinds.specs.declared.class.Class.{Class}
use Rattle.hal_kinds.specs.declared.class.Class.TheVariants as class
use Rattle.hal_kinds.specs.Classes.{class_of, class_of_reference, class_of_call}
use Rattle.hal_operands.specs.declared.want.Want.{Want}
use Rattle.hal_operands.specs.declared.want.Want.TheVariants as want
use Rattle.hal_operands.specs.Pairs.{compared_fault, joined_fault}
use Rattle.hal_operands.specs.Wants.{misfit}
use Rattle.hal_code.specs.Sorts.{Sort, I, B, T}
use Rattle.hal_agreement.specs.Sites.{Site}
use Rattle.hal_fit_expr.specs.Uses.{Uses}
use Rattle.hal_fit_expr.specs.Sorted.{are_bits, sort_of_reference, sort_of_expression}

-- the sort of the values of a class; a structure or an array has none
abbrev pub sort_of_class : Class → Option Sort
sort_of_class class.Integer = Some I
sort_of_class class.Bits = Some B
sort_of_class class.Condition = Some B
sort_of_class class.Text = Some T
sort_of_class class.Structure = None
sort_of_class class.Array = None

-- where an expression of a class has a sort, this is that of the class
abbrev pub IsSorted : Option Class → Option Sort → Type 0
IsSorted c sort = (one : Class) (s : Sort) → c ≡ Some one → sort_of_class one ≡ Some s → sort ≡ Some s

-- a literal's bits are as many as it has places for
abbrev pub IsFitLiteral : LiteralValue → Type 0
IsFitLiteral (Bits len bits) = are_bits len bits ≡ true
IsFitLiteral other = Unit {0}

-- what a conversion takes
abbrev pub converted : Conversion → Want
converted ToInteger = want.String
converted ToBits = want.Integer
converted ToText = want.Value

-- an expression of this class is what is wanted
pub record IsOf (ps : List Phrase) (block : ℕ) (w : Want) (tree : Expression) : Type 0 where
  pub found : Class
  pub known : class_of ps block tree ≡ Some found
  pub fits : misfit w found ≡ None

abbrev mutual
  -- each operand in an expression is what is wanted there, and operands go together. Names and calls have the sorts of their classes
  pub IsKinded : Uses → Site → List Phrase → ℕ → Expression → Type 0
  IsKinded u site ps block (Or place first others) = IsKinded u site ps block first × IsOf ps block want.Truth first × AreOperands u site ps block want.Truth others
  IsKinded u site ps block (And place first others) = IsKinded u site ps block first × IsOf ps block want.Truth first × AreOperands u site ps block want.Truth others
  IsKinded u site ps block (Compare place left relation right) =
      IsKinded u site ps block left × IsOf ps block want.Value left × IsKinded u site ps block right × IsOf ps block want.Value right × (compared_fault place relation (place_of right) (class_of ps block left) (class_of ps block right) ≡ None)
  IsKinded u site ps block (Cat place first others) =
      IsKinded u site ps block first × IsOf ps block want.Value first × AreOperands u site ps block want.Value others × (joined_fault ps block (class_of ps block first) others ≡ None)
  IsKinded u site ps block (Sum place opening first others) = IsKinded u site ps block first × IsOf ps block want.Integer first × AreTerms u site ps block others
  IsKinded u site ps block (Product place first others) = IsKinded u site ps block first × IsOf ps block want.Integer first × AreOperands u site ps block want.Integer others
  IsKinded u site ps block (Power place base exponent) = IsKinded u site ps block base × IsOf ps block want.Integer base
  IsKinded u site ps block (Not place operand) = IsKinded u site ps block operand × IsOf ps block want.Bits operand
  IsKinded u site ps block (Literal place literal) = IsFitLiteral literal
  IsKinded u site ps block (Decimal place number) = Unit {0}
  IsKinded u site ps block (Referred reference) = IsSorted (class_of_reference ps block reference) (sort_of_reference u site reference)
  IsKinded u site ps block (Called place name arguments) = IsSorted (class_of_call ps block name) (sort_of_expression u site (Called place name arguments))
  IsKinded u site ps block (Convert place conversion operand) = IsKinded u site ps block operand × IsOf ps block (converted conversion) operand
  IsKinded u site ps block (Parenthesis place inner) = IsKinded u site ps block inner × IsOf ps block want.Single inner

  -- operands
  pub AreOperands : Uses → Site → List Phrase → ℕ → Want → Expressions → Type 0
  AreOperands u site ps block w NoExpressions = Unit {0}
  AreOperands u site ps block w (MoreExpressions first others) = IsKinded u site ps block first × IsOf ps block w first × AreOperands u site ps block w others

  pub AreTerms : Uses → Site → List Phrase → ℕ → Terms → Type 0
  AreTerms u site ps block NoTerms = Unit {0}
  AreTerms u site ps block (MoreTerms place sign term others) = IsKinded u site ps block term × IsOf ps block want.Integer term × AreTerms u site ps block others
