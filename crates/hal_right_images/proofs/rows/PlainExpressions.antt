-- The phrases of an expression are no units, templates, parameters or items.
use Rattle.std.proofs.Common.{List, refl}
use Rattle.hal_grammar.specs.Expressions.{Expression, Or, And, Compare, Cat, Sum, Product, Power, Not, Literal, Decimal, Referred, Called, Convert, Parenthesis, Expressions, NoExpressions, MoreExpressions, Terms, NoTerms, MoreTerms, Reference, Refers, Subscript, Unsubscripted, ByName, ByInteger, ByParts, Subscripts, NoSubscripts, MoreSubscripts, Sub, Every, One, Range, Portion, Position, FromBeginning, FromEnd}
use Rattle.hal_phrases.specs.declared.around.Around.{Around}
use Rattle.hal_phrases.specs.declared.role.Role.{Role}
use Rattle.hal_phrases.specs.Phrases.{Phrase}
use Rattle.hal_phrases.specs.GatheredExpressions.{below, gathered, gathered_all, gathered_terms, gathered_reference, gathered_subscript, gathered_subs, gathered_sub, gathered_position}
use Rattle.hal_right_images.proofs.rows.Plain.{Adds, no_step, then_, one}

mutual
  unfolding gathered gathered_all gathered_terms gathered_reference gathered_subscript gathered_subs gathered_sub gathered_position

  pub expression_step : (d : List Phrase) (a : Around) (r : Role) (t : Expression) → Adds d (gathered d a r t)
  expression_step d a r (Or p first others) = then_ (one d a _ refl) (then_ (expression_step _ (below d a) _ first) (expressions_step _ (below d a) _ others))
  expression_step d a r (And p first others) = then_ (one d a _ refl) (then_ (expression_step _ (below d a) _ first) (expressions_step _ (below d a) _ others))
  expression_step d a r (Compare p left relation right) = then_ (one d a _ refl) (then_ (expression_step _ (below d a) _ left) (expression_step _ (below d a) _ right))
  expression_step d a r (Cat p first others) = then_ (one d a _ refl) (then_ (expression_step _ (below d a) _ first) (expressions_step _ (below d a) _ others))
  expression_step d a r (Sum p opening first others) = then_ (one d a _ refl) (then_ (expression_step _ (below d a) _ first) (terms_step _ (below d a) others))
  expression_step d a r (Product p first others) = then_ (one d a _ refl) (then_ (expression_step _ (below d a) _ first) (expressions_step _ (below d a) _ others))
  expression_step d a r (Power p base exponent) = then_ (one d a _ refl) (then_ (expression_step _ (below d a) _ base) (expression_step _ (below d a) _ exponent))
  expression_step d a r (Not p operand) = then_ (one d a _ refl) (expression_step _ (below d a) _ operand)
  expression_step d a r (Literal p literal) = one d a _ refl
  expression_step d a r (Decimal p number) = then_ (one d a _ refl) (one _ (below d a) _ refl)
  expression_step d a r (Referred reference) = then_ (one d a _ refl) (reference_step _ (below d a) r reference)
  expression_step d a r (Called p name arguments) = then_ (one d a _ refl) (then_ (one _ (below d a) _ refl) (expressions_step _ (below d a) _ arguments))
  expression_step d a r (Convert p conversion operand) = then_ (one d a _ refl) (expression_step _ (below d a) _ operand)
  expression_step d a r (Parenthesis p inner) = then_ (one d a _ refl) (expression_step _ (below d a) _ inner)

  pub expressions_step : (d : List Phrase) (a : Around) (r : Role) (ts : Expressions) → Adds d (gathered_all d a r ts)
  expressions_step d a r NoExpressions = no_step d
  expressions_step d a r (MoreExpressions first others) = then_ (expression_step d a r first) (expressions_step _ a r others)

  pub terms_step : (d : List Phrase) (a : Around) (ts : Terms) → Adds d (gathered_terms d a ts)
  terms_step d a NoTerms = no_step d
  terms_step d a (MoreTerms p sign term others) = then_ (expression_step d a _ term) (terms_step _ a others)

  pub reference_step : (d : List Phrase) (a : Around) (r : Role) (t : Reference) → Adds d (gathered_reference d a r t)
  reference_step d a r (Refers p name further subscript) = then_ (one d a _ refl) (subscript_step _ (below d a) subscript)

  pub subscript_step : (d : List Phrase) (a : Around) (s : Subscript) → Adds d (gathered_subscript d a s)
  subscript_step d a Unsubscripted = no_step d
  subscript_step d a (ByName p name) = one d a _ refl
  subscript_step d a (ByInteger p at number) = no_step d
  subscript_step d a (ByParts p copies arrays components) = then_ (subs_step d a _ copies) (then_ (subs_step _ a _ arrays) (subs_step _ a _ components))

  pub subs_step : (d : List Phrase) (a : Around) (r : Role) (ss : Subscripts) → Adds d (gathered_subs d a r ss)
  subs_step d a r NoSubscripts = no_step d
  subs_step d a r (MoreSubscripts first others) = then_ (sub_step d a r first) (subs_step _ a r others)

  pub sub_step : (d : List Phrase) (a : Around) (r : Role) (s : Sub) → Adds d (gathered_sub d a r s)
  sub_step d a r (Every p) = no_step d
  sub_step d a r (One position) = position_step d a r position
  sub_step d a r (Range first last) = then_ (position_step d a r first) (position_step _ a r last)
  sub_step d a r (Portion count first) = then_ (expression_step d a r count) (position_step _ a r first)

  pub position_step : (d : List Phrase) (a : Around) (r : Role) (p : Position) → Adds d (gathered_position d a r p)
  position_step d a r (FromBeginning position) = expression_step d a r position
  position_step d a r (FromEnd p terms) = terms_step d a terms
