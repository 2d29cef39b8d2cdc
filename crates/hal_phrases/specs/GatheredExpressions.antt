-- The phrases of expressions, behind those so far. Each function gives the phrases so far and those of the tree, in the order of the words.
use Rattle.std.specs.Prelude.{List, length}
use Rattle.hal_grammar.specs.Expressions.{Expression, Or, And, Compare, Cat, Sum, Product, Power, Not, Literal, Decimal, Referred, Called, Convert, Parenthesis, Expressions, NoExpressions, MoreExpressions, Terms, NoTerms, MoreTerms, Reference, Refers, Subscript, Unsubscripted, ByName, ByInteger, ByParts, Subscripts, NoSubscripts, MoreSubscripts, Sub, Every, One, Range, Portion, Position, FromBeginning, FromEnd}
use Rattle.hal_phrases.specs.declared.around.Around.{Around}
use Rattle.hal_phrases.specs.declared.role.Role.{Role}
use Rattle.hal_phrases.specs.declared.role.Role.TheVariants as role
use Rattle.hal_phrases.specs.Surroundings.{under}
use Rattle.hal_phrases.specs.Roles as roles
use Rattle.hal_phrases.specs.Phrases.{Phrase, add, OfExpression, OfDecimal, OfCallForm, OfReference, OfSubscriptName}

-- around the parts of the phrase that comes next
abbrev pub below : List Phrase → Around → Around
below d a = under (length d) a

unfoldable mutual
  -- an expression
  pub gathered : List Phrase → Around → Role → Expression → List Phrase
  gathered d a r (Or p first others) =
      gathered_all (gathered (add d a (OfExpression r (Or p first others))) (below d a) (roles.under r role.Disjunct) first) (below d a) (roles.under r role.Disjunct) others
  gathered d a r (And p first others) =
      gathered_all (gathered (add d a (OfExpression r (And p first others))) (below d a) (roles.under r role.Conjunct) first) (below d a) (roles.under r role.Conjunct) others
  gathered d a r (Compare p left relation right) =
      gathered (gathered (add d a (OfExpression r (Compare p left relation right))) (below d a) role.Compared left) (below d a) role.Compared right
  gathered d a r (Cat p first others) =
      gathered_all (gathered (add d a (OfExpression r (Cat p first others))) (below d a) role.Joined first) (below d a) role.Joined others
  gathered d a r (Sum p opening first others) =
      gathered_terms (gathered (add d a (OfExpression r (Sum p opening first others))) (below d a) role.Summand first) (below d a) others
  gathered d a r (Product p first others) =
      gathered_all (gathered (add d a (OfExpression r (Product p first others))) (below d a) role.Factor first) (below d a) role.Factor others
  gathered d a r (Power p base exponent) =
      gathered (gathered (add d a (OfExpression r (Power p base exponent))) (below d a) role.Base base) (below d a) role.Exponent exponent
  gathered d a r (Not p operand) = gathered (add d a (OfExpression r (Not p operand))) (below d a) (roles.under r role.Negated) operand
  gathered d a r (Literal p literal) = add d a (OfExpression r (Literal p literal))
  gathered d a r (Decimal p number) = add (add d a (OfExpression r (Decimal p number))) (below d a) (OfDecimal r p)
  gathered d a r (Referred reference) = gathered_reference (add d a (OfExpression r (Referred reference))) (below d a) r reference
  gathered d a r (Called p name arguments) =
      gathered_all (add (add d a (OfExpression r (Called p name arguments))) (below d a) (OfCallForm p name arguments)) (below d a) role.Argument arguments
  gathered d a r (Convert p conversion operand) =
      gathered (add d a (OfExpression r (Convert p conversion operand))) (below d a) (roles.of_conversion conversion) operand
  gathered d a r (Parenthesis p inner) = gathered (add d a (OfExpression r (Parenthesis p inner))) (below d a) (roles.under r role.Enclosed) inner

  -- expressions of one role
  pub gathered_all : List Phrase → Around → Role → Expressions → List Phrase
  gathered_all d a r NoExpressions = d
  gathered_all d a r (MoreExpressions first others) = gathered_all (gathered d a r first) a r others

  -- signed terms
  pub gathered_terms : List Phrase → Around → Terms → List Phrase
  gathered_terms d a NoTerms = d
  gathered_terms d a (MoreTerms p sign term others) = gathered_terms (gathered d a role.Summand term) a others

  -- a reference
  pub gathered_reference : List Phrase → Around → Role → Reference → List Phrase
  gathered_reference d a r (Refers p name further subscript) =
      gathered_subscript (add d a (OfReference r (Refers p name further subscript))) (below d a) subscript

  -- a subscript
  pub gathered_subscript : List Phrase → Around → Subscript → List Phrase
  gathered_subscript d a Unsubscripted = d
  gathered_subscript d a (ByName p name) = add d a (OfSubscriptName name)
  gathered_subscript d a (ByInteger p at number) = d
  gathered_subscript d a (ByParts p copies arrays components) =
      gathered_subs (gathered_subs (gathered_subs d a role.CopySubscript copies) a role.ArraySubscript arrays) a role.ComponentSubscript components

  -- the subscripts of a part
  pub gathered_subs : List Phrase → Around → Role → Subscripts → List Phrase
  gathered_subs d a r NoSubscripts = d
  gathered_subs d a r (MoreSubscripts first others) = gathered_subs (gathered_sub d a r first) a r others

  -- one subscript
  pub gathered_sub : List Phrase → Around → Role → Sub → List Phrase
  gathered_sub d a r (Every p) = d
  gathered_sub d a r (One position) = gathered_position d a r position
  gathered_sub d a r (Range first last) = gathered_position (gathered_position d a r first) a r last
  gathered_sub d a r (Portion count first) = gathered_position (gathered d a r count) a r first

  -- a place
  pub gathered_position : List Phrase → Around → Role → Position → List Phrase
  gathered_position d a r (FromBeginning position) = gathered d a r position
  gathered_position d a r (FromEnd p terms) = gathered_terms d a terms
