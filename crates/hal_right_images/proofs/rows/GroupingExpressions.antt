-- The phrases of an expression say nothing of groups, but for the number of a DO CASE.
use Rattle.std.proofs.Common.{◌≡◌, List, false, refl}
use Rattle.hal_grammar.specs.Leaves.{Conversion, ToInteger, ToBits, ToText}
use Rattle.hal_grammar.specs.Expressions.{Expression, Or, And, Compare, Cat, Sum, Product, Power, Not, Literal, Decimal, Referred, Called, Convert, Parenthesis, Expressions, NoExpressions, MoreExpressions, Terms, NoTerms, MoreTerms, Reference, Refers, Subscript, Unsubscripted, ByName, ByInteger, ByParts, Subscripts, NoSubscripts, MoreSubscripts, Sub, Every, One, Range, Portion, Position, FromBeginning, FromEnd}
use Rattle.hal_phrases.specs.declared.around.Around.{Around}
use Rattle.hal_phrases.specs.declared.role.Role.{Role}
use Rattle.hal_phrases.specs.declared.role.Role.TheVariants as role
use Rattle.hal_phrases.specs.Roles as roles
use Rattle.hal_phrases.specs.Phrases.{Phrase, add, OfExpression}
use Rattle.hal_phrases.specs.GatheredExpressions.{below, gathered, gathered_all, gathered_terms, gathered_reference, gathered_subscript, gathered_subs, gathered_sub, gathered_position}
use Rattle.hal_right_images.proofs.rows.Grouping.{Puts, no_case, under_none, is_case, no_step, then_, one}

conversion_none : (conversion : Conversion) → is_case (roles.of_conversion conversion) ≡ false
conversion_none ToInteger = refl
conversion_none ToBits = refl
conversion_none ToText = refl

mutual
  unfolding gathered gathered_all gathered_terms gathered_reference gathered_subscript gathered_subs gathered_sub gathered_position

  pub expression_step : (d : List Phrase) (a : Around) (r : Role) (t : Expression) → is_case r ≡ false → Puts d (gathered d a r t)
  expression_step d a r (Or p first others) plain = then_ (one d a _ (no_case r _ plain) refl) (then_ (expression_step _ (below d a) _ first (under_none r role.Disjunct refl)) (expressions_step _ (below d a) _ others (under_none r role.Disjunct refl)))
  expression_step d a r (And p first others) plain = then_ (one d a _ (no_case r _ plain) refl) (then_ (expression_step _ (below d a) _ first (under_none r role.Conjunct refl)) (expressions_step _ (below d a) _ others (under_none r role.Conjunct refl)))
  expression_step d a r (Compare p left relation right) plain = then_ (one d a _ (no_case r _ plain) refl) (then_ (expression_step _ (below d a) _ left refl) (expression_step _ (below d a) _ right refl))
  expression_step d a r (Cat p first others) plain = then_ (one d a _ (no_case r _ plain) refl) (then_ (expression_step _ (below d a) _ first refl) (expressions_step _ (below d a) _ others refl))
  expression_step d a r (Sum p opening first others) plain = then_ (one d a _ (no_case r _ plain) refl) (then_ (expression_step _ (below d a) _ first refl) (terms_step _ (below d a) others))
  expression_step d a r (Product p first others) plain = then_ (one d a _ (no_case r _ plain) refl) (then_ (expression_step _ (below d a) _ first refl) (expressions_step _ (below d a) _ others refl))
  expression_step d a r (Power p base exponent) plain = then_ (one d a _ (no_case r _ plain) refl) (then_ (expression_step _ (below d a) _ base refl) (expression_step _ (below d a) _ exponent refl))
  expression_step d a r (Not p operand) plain = then_ (one d a _ (no_case r _ plain) refl) (expression_step _ (below d a) _ operand (under_none r role.Negated refl))
  expression_step d a r (Literal p literal) plain = one d a _ (no_case r _ plain) refl
  expression_step d a r (Decimal p number) plain = then_ (one d a _ (no_case r _ plain) refl) (one _ (below d a) _ refl refl)
  expression_step d a r (Referred reference) plain = then_ (one d a _ (no_case r _ plain) refl) (reference_step _ (below d a) r reference plain)
  expression_step d a r (Called p name arguments) plain = then_ (one d a _ (no_case r _ plain) refl) (then_ (one _ (below d a) _ refl refl) (expressions_step _ (below d a) _ arguments refl))
  expression_step d a r (Convert p conversion operand) plain = then_ (one d a _ (no_case r _ plain) refl) (expression_step _ (below d a) _ operand (conversion_none conversion))
  expression_step d a r (Parenthesis p inner) plain = then_ (one d a _ (no_case r _ plain) refl) (expression_step _ (below d a) _ inner (under_none r role.Enclosed refl))

  pub expressions_step : (d : List Phrase) (a : Around) (r : Role) (ts : Expressions) → is_case r ≡ false → Puts d (gathered_all d a r ts)
  expressions_step d a r NoExpressions plain = no_step d
  expressions_step d a r (MoreExpressions first others) plain = then_ (expression_step d a r first plain) (expressions_step _ a r others plain)

  pub terms_step : (d : List Phrase) (a : Around) (ts : Terms) → Puts d (gathered_terms d a ts)
  terms_step d a NoTerms = no_step d
  terms_step d a (MoreTerms p sign term others) = then_ (expression_step d a _ term refl) (terms_step _ a others)

  pub reference_step : (d : List Phrase) (a : Around) (r : Role) (t : Reference) → is_case r ≡ false → Puts d (gathered_reference d a r t)
  reference_step d a r (Refers p name further subscript) plain = then_ (one d a _ refl refl) (subscript_step _ (below d a) subscript)

  pub subscript_step : (d : List Phrase) (a : Around) (s : Subscript) → Puts d (gathered_subscript d a s)
  subscript_step d a Unsubscripted = no_step d
  subscript_step d a (ByName p name) = one d a _ refl refl
  subscript_step d a (ByInteger p at number) = no_step d
  subscript_step d a (ByParts p copies arrays components) = then_ (subs_step d a _ copies refl) (then_ (subs_step _ a _ arrays refl) (subs_step _ a _ components refl))

  pub subs_step : (d : List Phrase) (a : Around) (r : Role) (ss : Subscripts) → is_case r ≡ false → Puts d (gathered_subs d a r ss)
  subs_step d a r NoSubscripts plain = no_step d
  subs_step d a r (MoreSubscripts first others) plain = then_ (sub_step d a r first plain) (subs_step _ a r others plain)

  pub sub_step : (d : List Phrase) (a : Around) (r : Role) (s : Sub) → is_case r ≡ false → Puts d (gathered_sub d a r s)
  sub_step d a r (Every p) plain = no_step d
  sub_step d a r (One position) plain = position_step d a r position plain
  sub_step d a r (Range first last) plain = then_ (position_step d a r first plain) (position_step _ a r last plain)
  sub_step d a r (Portion count first) plain = then_ (expression_step d a r count plain) (position_step _ a r first plain)

  pub position_step : (d : List Phrase) (a : Around) (r : Role) (p : Position) → is_case r ≡ false → Puts d (gathered_position d a r p)
  position_step d a r (FromBeginning position) plain = expression_step d a r position plain
  position_step d a r (FromEnd p terms) plain = terms_step d a terms

-- a reference for the number of a DO CASE
case_reference : (d : List Phrase) (a : Around) (t : Reference) → Puts d (gathered_reference d a role.Case t)
unfolding gathered_reference
case_reference d a (Refers p name further subscript) = then_ (one d a _ refl refl) (subscript_step _ (below d a) subscript)

-- the number of a DO CASE
pub case_step : (d : List Phrase) (a : Around) (t : Expression) → Puts d (add d a (OfExpression role.Case t)) → Puts d (gathered d a role.Case t)
unfolding gathered
case_step d a (Or p first others) top = then_ top (then_ (expression_step _ (below d a) _ first (under_none role.Case role.Disjunct refl)) (expressions_step _ (below d a) _ others (under_none role.Case role.Disjunct refl)))
case_step d a (And p first others) top = then_ top (then_ (expression_step _ (below d a) _ first (under_none role.Case role.Conjunct refl)) (expressions_step _ (below d a) _ others (under_none role.Case role.Conjunct refl)))
case_step d a (Compare p left relation right) top = then_ top (then_ (expression_step _ (below d a) _ left refl) (expression_step _ (below d a) _ right refl))
case_step d a (Cat p first others) top = then_ top (then_ (expression_step _ (below d a) _ first refl) (expressions_step _ (below d a) _ others refl))
case_step d a (Sum p opening first others) top = then_ top (then_ (expression_step _ (below d a) _ first refl) (terms_step _ (below d a) others))
case_step d a (Product p first others) top = then_ top (then_ (expression_step _ (below d a) _ first refl) (expressions_step _ (below d a) _ others refl))
case_step d a (Power p base exponent) top = then_ top (then_ (expression_step _ (below d a) _ base refl) (expression_step _ (below d a) _ exponent refl))
case_step d a (Not p operand) top = then_ top (expression_step _ (below d a) _ operand (under_none role.Case role.Negated refl))
case_step d a (Literal p literal) top = top
case_step d a (Decimal p number) top = then_ top (one _ (below d a) _ refl refl)
case_step d a (Referred reference) top = then_ top (case_reference _ (below d a) reference)
case_step d a (Called p name arguments) top = then_ top (then_ (one _ (below d a) _ refl refl) (expressions_step _ (below d a) _ arguments refl))
case_step d a (Convert p conversion operand) top = then_ top (expression_step _ (below d a) _ operand (conversion_none conversion))
case_step d a (Parenthesis p inner) top = then_ top (expression_step _ (below d a) _ inner (under_none role.Case role.Enclosed refl))
