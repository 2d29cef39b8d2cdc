-- What has to be known of the leaves of an expression: of its literals, names and calls.
use Rattle.std.specs.Prelude.{◌≡◌, ℕ, Bool, true, false, List, Option, Some}
use Rattle.hal_grammar.specs.Expressions.{Expression, Or, And, Compare, Cat, Sum, Product, Power, Not, Literal, Decimal, Referred, Called, Convert, Parenthesis, Expressions, NoExpressions, MoreExpressions, Terms, NoTerms, MoreTerms}
use Rattle.hal_phrases.specs.declared.role.Role.{Role}
use Rattle.hal_phrases.specs.declared.role.Role.TheVariants as role
use Rattle.hal_phrases.specs.Phrases.{Phrase}
use Rattle.hal_kinds.specs.declared.class.Class.{Class}
use Rattle.hal_kinds.specs.Classes.{class_of_reference, class_of_call}
use Rattle.hal_code.specs.Sorts.{Sort}
use Rattle.hal_agreement.specs.Sites.{Site}
use Rattle.hal_fit_expr.specs.Uses.{Uses}
use Rattle.hal_fit_expr.specs.Sorted.{sort_of_reference, sort_of_expression}
use Rattle.hal_fit_classes.specs.Kinded.{IsSorted, IsFitLiteral}

-- whether an expression of this role is a value, and no time or event expression
abbrev pub is_value_role : Role → Bool
is_value_role role.Time = false
is_value_role role.Event = false
is_value_role role.EventOrTime = false
is_value_role other = true

-- what has a class has the sort of it, where that has one
pub record IsKnown (c : Option Class) (sort : Option Sort) : Type 0 where
  pub found : Class
  pub known : c ≡ Some found
  pub sorted : IsSorted c sort

abbrev mutual
  -- the names and calls among the operands of an expression are known, and its literals have as many bits as they have places for
  pub HasKnownLeaves : Uses → Site → List Phrase → ℕ → Expression → Type 0
  HasKnownLeaves u site ps block (Or place first others) = HasKnownLeaves u site ps block first × HaveKnownLeaves u site ps block others
  HasKnownLeaves u site ps block (And place first others) = HasKnownLeaves u site ps block first × HaveKnownLeaves u site ps block others
  HasKnownLeaves u site ps block (Compare place left relation right) = HasKnownLeaves u site ps block left × HasKnownLeaves u site ps block right
  HasKnownLeaves u site ps block (Cat place first others) = HasKnownLeaves u site ps block first × HaveKnownLeaves u site ps block others
  HasKnownLeaves u site ps block (Sum place opening first others) = HasKnownLeaves u site ps block first × TermsHaveKnownLeaves u site ps block others
  HasKnownLeaves u site ps block (Product place first others) = HasKnownLeaves u site ps block first × HaveKnownLeaves u site ps block others
  HasKnownLeaves u site ps block (Power place base exponent) = HasKnownLeaves u site ps block base
  HasKnownLeaves u site ps block (Not place operand) = HasKnownLeaves u site ps block operand
  HasKnownLeaves u site ps block (Literal place literal) = IsFitLiteral literal
  HasKnownLeaves u site ps block (Decimal place number) = Unit {0}
  HasKnownLeaves u site ps block (Referred reference) = IsKnown (class_of_reference ps block reference) (sort_of_reference u site reference)
  HasKnownLeaves u site ps block (Called place name arguments) = IsKnown (class_of_call ps block name) (sort_of_expression u site (Called place name arguments))
  HasKnownLeaves u site ps block (Convert place conversion operand) = HasKnownLeaves u site ps block operand
  HasKnownLeaves u site ps block (Parenthesis place inner) = HasKnownLeaves u site ps block inner

  -- the same of expressions
  pub HaveKnownLeaves : Uses → Site → List Phrase → ℕ → Expressions → Type 0
  HaveKnownLeaves u site ps block NoExpressions = Unit {0}
  HaveKnownLeaves u site ps block (MoreExpressions first others) = HasKnownLeaves u site ps block first × HaveKnownLeaves u site ps block others

  -- and of signed terms
  pub TermsHaveKnownLeaves : Uses → Site → List Phrase → ℕ → Terms → Type 0
  TermsHaveKnownLeaves u site ps block NoTerms = Unit {0}
  TermsHaveKnownLeaves u site ps block (MoreTerms place sign term others) = HasKnownLeaves u site ps block term × TermsHaveKnownLeaves u site ps block others
