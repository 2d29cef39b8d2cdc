-- The phrases of an expression begin with its own.
use Rattle.std.proofs.Common.{List}
use Rattle.hal_grammar.specs.Expressions.{Expression, Or, And, Compare, Cat, Sum, Product, Power, Not, Literal, Decimal, Referred, Called, Convert, Parenthesis, Expressions, NoExpressions, MoreExpressions, Terms, NoTerms, MoreTerms, Reference, Refers, Subscript, Unsubscripted, ByName, ByInteger, ByParts, Subscripts, NoSubscripts, MoreSubscripts, Sub, Every, One, Range, Portion, Position, FromBeginning, FromEnd}
use Rattle.hal_phrases.specs.declared.around.Around.{Around}
use Rattle.hal_phrases.specs.declared.role.Role.{Role}
use Rattle.hal_phrases.specs.Phrases.{Phrase, OfExpression, add}
use Rattle.hal_phrases.specs.GatheredExpressions.{below, gathered, gathered_all, gathered_terms, gathered_reference, gathered_subscript, gathered_subs, gathered_sub, gathered_position}
use Rattle.hal_fit_rules.specs.Begun.{AreFirst}
use Rattle.hal_fit_rules.proofs.Beginning.{no_step, then_, one}

-- a phrase and what is added behind it
behind_own : (d : List Phrase) (a : Around) (r : Role) (t : Expression) (e : List Phrase) → AreFirst (add d a (OfExpression r t)) e → AreFirst d e
behind_own d a r t e more = then_ (one d a (OfExpression r t)) more

mutual
  unfolding gathered gathered_all gathered_terms gathered_reference gathered_subscript gathered_subs gathered_sub gathered_position

  -- an expression's own phrase
  pub own_first : (d : List Phrase) (a : Around) (r : Role) (t : Expression) → AreFirst (add d a (OfExpression r t)) (gathered d a r t)
  own_first d a r (Or p first others) = then_ (behind_own _ (below d a) _ first _ (own_first _ (below d a) _ first)) (expressions_first _ (below d a) _ others)
  own_first d a r (And p first others) = then_ (behind_own _ (below d a) _ first _ (own_first _ (below d a) _ first)) (expressions_first _ (below d a) _ others)
  own_first d a r (Compare p left relation right) =
      then_ (behind_own _ (below d a) _ left _ (own_first _ (below d a) _ left)) (behind_own _ (below d a) _ right _ (own_first _ (below d a) _ right))
  own_first d a r (Cat p first others) = then_ (behind_own _ (below d a) _ first _ (own_first _ (below d a) _ first)) (expressions_first _ (below d a) _ others)
  own_first d a r (Sum p opening first others) = then_ (behind_own _ (below d a) _ first _ (own_first _ (below d a) _ first)) (terms_first _ (below d a) others)
  own_first d a r (Product p first others) = then_ (behind_own _ (below d a) _ first _ (own_first _ (below d a) _ first)) (expressions_first _ (below d a) _ others)
  own_first d a r (Power p base exponent) =
      then_ (behind_own _ (below d a) _ base _ (own_first _ (below d a) _ base)) (behind_own _ (below d a) _ exponent _ (own_first _ (below d a) _ exponent))
  own_first d a r (Not p operand) = behind_own _ (below d a) _ operand _ (own_first _ (below d a) _ operand)
  own_first d a r (Literal p literal) = no_step _
  own_first d a r (Decimal p number) = one _ (below d a) _
  own_first d a r (Referred reference) = reference_first _ (below d a) r reference
  own_first d a r (Called p name arguments) = then_ (one _ (below d a) _) (expressions_first _ (below d a) _ arguments)
  own_first d a r (Convert p conversion operand) = behind_own _ (below d a) _ operand _ (own_first _ (below d a) _ operand)
  own_first d a r (Parenthesis p inner) = behind_own _ (below d a) _ inner _ (own_first _ (below d a) _ inner)

  pub expressions_first : (d : List Phrase) (a : Around) (r : Role) (ts : Expressions) → AreFirst d (gathered_all d a r ts)
  expressions_first d a r NoExpressions = no_step d
  expressions_first d a r (MoreExpressions first others) = then_ (behind_own d a r first _ (own_first d a r first)) (expressions_first _ a r others)

  pub terms_first : (d : List Phrase) (a : Around) (ts : Terms) → AreFirst d (gathered_terms d a ts)
  terms_first d a NoTerms = no_step d
  terms_first d a (MoreTerms p sign term others) = then_ (behind_own d a _ term _ (own_first d a _ term)) (terms_first _ a others)

  pub reference_first : (d : List Phrase) (a : Around) (r : Role) (t : Reference) → AreFirst d (gathered_reference d a r t)
  reference_first d a r (Refers p name further subscript) = then_ (one d a _) (subscript_first _ (below d a) subscript)

  pub subscript_first : (d : List Phrase) (a : Around) (s : Subscript) → AreFirst d (gathered_subscript d a s)
  subscript_first d a Unsubscripted = no_step d
  subscript_first d a (ByName p name) = one d a _
  subscript_first d a (ByInteger p at number) = no_step d
  subscript_first d a (ByParts p copies arrays components) = then_ (subs_first d a _ copies) (then_ (subs_first _ a _ arrays) (subs_first _ a _ components))

  pub subs_first : (d : List Phrase) (a : Around) (r : Role) (ss : Subscripts) → AreFirst d (gathered_subs d a r ss)
  subs_first d a r NoSubscripts = no_step d
  subs_first d a r (MoreSubscripts first others) = then_ (sub_first d a r first) (subs_first _ a r others)

  pub sub_first : (d : List Phrase) (a : Around) (r : Role) (s : Sub) → AreFirst d (gathered_sub d a r s)
  sub_first d a r (Every p) = no_step d
  sub_first d a r (One position) = position_first d a r position
  sub_first d a r (Range first last) = then_ (position_first d a r first) (position_first _ a r last)
  sub_first d a r (Portion count first) = then_ (behind_own d a r count _ (own_first d a r count)) (position_first _ a r first)

  pub position_first : (d : List Phrase) (a : Around) (r : Role) (p : Position) → AreFirst d (gathered_position d a r p)
  position_first d a r (FromBeginning position) = behind_own d a r position _ (own_first d a r position)
  position_first d a r (FromEnd p terms) = terms_first d a terms

-- an expression
pub expression_first : (d : List Phrase) (a : Around) (r : Role) (t : Expression) → AreFirst d (gathered d a r t)
expression_first d a r t = behind_own d a r t _ (own_first d a r t)
