-- The phrases of an expression open nothing.
use Rattle.std.proofs.Common.{List, refl}
use Rattle.hal_grammar.specs.Expressions.{Expression, Or, And, Compare, Cat, Sum, Product, Power, Not, Literal, Decimal, Referred, Called, Convert, Parenthesis, Expressions, NoExpressions, MoreExpressions, Terms, NoTerms, MoreTerms, Reference, Refers, Subscript, Unsubscripted, ByName, ByInteger, ByParts, Subscripts, NoSubscripts, MoreSubscripts, Sub, Every, One, Range, Portion, Position, FromBeginning, FromEnd}
use Rattle.hal_phrases.specs.declared.around.Around.{Around}
use Rattle.hal_phrases.specs.declared.role.Role.{Role}
use Rattle.hal_phrases.specs.Phrases.{Phrase, OfCallForm, OfDecimal, OfExpression, OfReference, OfSubscriptName}
use Rattle.hal_phrases.specs.GatheredExpressions.{below, gathered, gathered_all, gathered_terms, gathered_reference, gathered_subscript, gathered_subs, gathered_sub, gathered_position}
use Rattle.hal_names.specs.Keys.{declared_at}
use Rattle.hal_templates.proofs.Followed.{Adds, nothing, then_, one}

mutual
  unfolding gathered gathered_all gathered_terms gathered_reference gathered_subscript gathered_subs gathered_sub gathered_position declared_at

  pub expression_adds : (d : List Phrase) (a : Around) (r : Role) (t : Expression) → Adds d (gathered d a r t)
  expression_adds d a r (Or p first others) = then_ (one d a (OfExpression r (Or p first others)) (refl, refl)) (then_ (expression_adds _ (below d a) _ first) (expressions_adds _ (below d a) _ others))
  expression_adds d a r (And p first others) = then_ (one d a (OfExpression r (And p first others)) (refl, refl)) (then_ (expression_adds _ (below d a) _ first) (expressions_adds _ (below d a) _ others))
  expression_adds d a r (Compare p left relation right) = then_ (one d a (OfExpression r (Compare p left relation right)) (refl, refl)) (then_ (expression_adds _ (below d a) _ left) (expression_adds _ (below d a) _ right))
  expression_adds d a r (Cat p first others) = then_ (one d a (OfExpression r (Cat p first others)) (refl, refl)) (then_ (expression_adds _ (below d a) _ first) (expressions_adds _ (below d a) _ others))
  expression_adds d a r (Sum p opening first others) = then_ (one d a (OfExpression r (Sum p opening first others)) (refl, refl)) (then_ (expression_adds _ (below d a) _ first) (terms_adds _ (below d a) others))
  expression_adds d a r (Product p first others) = then_ (one d a (OfExpression r (Product p first others)) (refl, refl)) (then_ (expression_adds _ (below d a) _ first) (expressions_adds _ (below d a) _ others))
  expression_adds d a r (Power p base exponent) = then_ (one d a (OfExpression r (Power p base exponent)) (refl, refl)) (then_ (expression_adds _ (below d a) _ base) (expression_adds _ (below d a) _ exponent))
  expression_adds d a r (Not p operand) = then_ (one d a (OfExpression r (Not p operand)) (refl, refl)) (expression_adds _ (below d a) _ operand)
  expression_adds d a r (Literal p literal) = one d a (OfExpression r (Literal p literal)) (refl, refl)
  expression_adds d a r (Decimal p number) = then_ (one d a (OfExpression r (Decimal p number)) (refl, refl)) (one _ (below d a) (OfDecimal r p) (refl, refl))
  expression_adds d a r (Referred reference) = then_ (one d a (OfExpression r (Referred reference)) (refl, refl)) (reference_adds _ (below d a) r reference)
  expression_adds d a r (Called p name arguments) = then_ (one d a (OfExpression r (Called p name arguments)) (refl, refl)) (then_ (one _ (below d a) (OfCallForm p name arguments) (refl, refl)) (expressions_adds _ (below d a) _ arguments))
  expression_adds d a r (Convert p conversion operand) = then_ (one d a (OfExpression r (Convert p conversion operand)) (refl, refl)) (expression_adds _ (below d a) _ operand)
  expression_adds d a r (Parenthesis p inner) = then_ (one d a (OfExpression r (Parenthesis p inner)) (refl, refl)) (expression_adds _ (below d a) _ inner)

  pub expressions_adds : (d : List Phrase) (a : Around) (r : Role) (ts : Expressions) → Adds d (gathered_all d a r ts)
  expressions_adds d a r NoExpressions = nothing d
  expressions_adds d a r (MoreExpressions first others) = then_ (expression_adds d a r first) (expressions_adds _ a r others)

  pub terms_adds : (d : List Phrase) (a : Around) (ts : Terms) → Adds d (gathered_terms d a ts)
  terms_adds d a NoTerms = nothing d
  terms_adds d a (MoreTerms p sign term others) = then_ (expression_adds d a _ term) (terms_adds _ a others)

  pub reference_adds : (d : List Phrase) (a : Around) (r : Role) (t : Reference) → Adds d (gathered_reference d a r t)
  reference_adds d a r (Refers p name further subscript) = then_ (one d a (OfReference r (Refers p name further subscript)) (refl, refl)) (subscript_adds _ (below d a) subscript)

  pub subscript_adds : (d : List Phrase) (a : Around) (s : Subscript) → Adds d (gathered_subscript d a s)
  subscript_adds d a Unsubscripted = nothing d
  subscript_adds d a (ByName p name) = one d a (OfSubscriptName name) (refl, refl)
  subscript_adds d a (ByInteger p at number) = nothing d
  subscript_adds d a (ByParts p copies arrays components) = then_ (subs_adds d a _ copies) (then_ (subs_adds _ a _ arrays) (subs_adds _ a _ components))

  pub subs_adds : (d : List Phrase) (a : Around) (r : Role) (ss : Subscripts) → Adds d (gathered_subs d a r ss)
  subs_adds d a r NoSubscripts = nothing d
  subs_adds d a r (MoreSubscripts first others) = then_ (sub_adds d a r first) (subs_adds _ a r others)

  pub sub_adds : (d : List Phrase) (a : Around) (r : Role) (s : Sub) → Adds d (gathered_sub d a r s)
  sub_adds d a r (Every p) = nothing d
  sub_adds d a r (One position) = position_adds d a r position
  sub_adds d a r (Range first last) = then_ (position_adds d a r first) (position_adds _ a r last)
  sub_adds d a r (Portion count first) = then_ (expression_adds d a r count) (position_adds _ a r first)

  pub position_adds : (d : List Phrase) (a : Around) (r : Role) (p : Position) → Adds d (gathered_position d a r p)
  position_adds d a r (FromBeginning position) = expression_adds d a r position
  position_adds d a r (FromEnd p terms) = terms_adds d a terms
