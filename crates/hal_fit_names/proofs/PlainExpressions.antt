-- The phrases of an expression have no sizes.
use Rattle.std.proofs.Common.{List, refl}
use Rattle.hal_grammar.specs.Expressions.{Expression, Or, And, Compare, Cat, Sum, Product, Power, Not, Literal, Decimal, Referred, Called, Convert, Parenthesis, Expressions, NoExpressions, MoreExpressions, Terms, NoTerms, MoreTerms, Reference, Refers, Subscript, Unsubscripted, ByName, ByInteger, ByParts, Subscripts, NoSubscripts, MoreSubscripts, Sub, Every, One, Range, Portion, Position, FromBeginning, FromEnd}
use Rattle.hal_phrases.specs.declared.around.Around.{Around}
use Rattle.hal_phrases.specs.declared.role.Role.{Role}
use Rattle.hal_phrases.specs.Phrases.{Phrase, OfExpression, OfDecimal, OfCallForm, OfReference, OfSubscriptName, add}
use Rattle.hal_phrases.specs.GatheredExpressions.{below, gathered, gathered_all, gathered_terms, gathered_reference, gathered_subscript, gathered_subs, gathered_sub, gathered_position}
use Rattle.hal_fit_names.proofs.Plain.{IsPlain, no_step, then_, one}

-- a phrase and what is added behind it
behind_own : (d : List Phrase) (a : Around) (r : Role) (t : Expression) (e : List Phrase) → IsPlain a.home (add d a (OfExpression r t)) e → IsPlain a.home d e
behind_own d a r t e more = then_ (one d a (OfExpression r t) refl) more

mutual
  unfolding gathered gathered_all gathered_terms gathered_reference gathered_subscript gathered_subs gathered_sub gathered_position

  -- an expression's own phrase
  pub own_plain : (d : List Phrase) (a : Around) (r : Role) (t : Expression) → IsPlain a.home (add d a (OfExpression r t)) (gathered d a r t)
  own_plain d a r (Or p first others) = then_ (behind_own _ (below d a) _ first _ (own_plain _ (below d a) _ first)) (expressions_plain _ (below d a) _ others)
  own_plain d a r (And p first others) = then_ (behind_own _ (below d a) _ first _ (own_plain _ (below d a) _ first)) (expressions_plain _ (below d a) _ others)
  own_plain d a r (Compare p left relation right) =
      then_ (behind_own _ (below d a) _ left _ (own_plain _ (below d a) _ left)) (behind_own _ (below d a) _ right _ (own_plain _ (below d a) _ right))
  own_plain d a r (Cat p first others) = then_ (behind_own _ (below d a) _ first _ (own_plain _ (below d a) _ first)) (expressions_plain _ (below d a) _ others)
  own_plain d a r (Sum p opening first others) = then_ (behind_own _ (below d a) _ first _ (own_plain _ (below d a) _ first)) (terms_plain _ (below d a) others)
  own_plain d a r (Product p first others) = then_ (behind_own _ (below d a) _ first _ (own_plain _ (below d a) _ first)) (expressions_plain _ (below d a) _ others)
  own_plain d a r (Power p base exponent) =
      then_ (behind_own _ (below d a) _ base _ (own_plain _ (below d a) _ base)) (behind_own _ (below d a) _ exponent _ (own_plain _ (below d a) _ exponent))
  own_plain d a r (Not p operand) = behind_own _ (below d a) _ operand _ (own_plain _ (below d a) _ operand)
  own_plain d a r (Literal p literal) = no_step _
  own_plain d a r (Decimal p number) = one _ (below d a) (OfDecimal r p) refl
  own_plain d a r (Referred reference) = reference_plain _ (below d a) r reference
  own_plain d a r (Called p name arguments) = then_ (one _ (below d a) (OfCallForm p name arguments) refl) (expressions_plain _ (below d a) _ arguments)
  own_plain d a r (Convert p conversion operand) = behind_own _ (below d a) _ operand _ (own_plain _ (below d a) _ operand)
  own_plain d a r (Parenthesis p inner) = behind_own _ (below d a) _ inner _ (own_plain _ (below d a) _ inner)

  pub expressions_plain : (d : List Phrase) (a : Around) (r : Role) (ts : Expressions) → IsPlain a.home d (gathered_all d a r ts)
  expressions_plain d a r NoExpressions = no_step d
  expressions_plain d a r (MoreExpressions first others) = then_ (behind_own d a r first _ (own_plain d a r first)) (expressions_plain _ a r others)

  pub terms_plain : (d : List Phrase) (a : Around) (ts : Terms) → IsPlain a.home d (gathered_terms d a ts)
  terms_plain d a NoTerms = no_step d
  terms_plain d a (MoreTerms p sign term others) = then_ (behind_own d a _ term _ (own_plain d a _ term)) (terms_plain _ a others)

  pub reference_plain : (d : List Phrase) (a : Around) (r : Role) (t : Reference) → IsPlain a.home d (gathered_reference d a r t)
  reference_plain d a r (Refers p name further subscript) = then_ (one d a (OfReference r (Refers p name further subscript)) refl) (subscript_plain _ (below d a) subscript)

  pub subscript_plain : (d : List Phrase) (a : Around) (s : Subscript) → IsPlain a.home d (gathered_subscript d a s)
  subscript_plain d a Unsubscripted = no_step d
  subscript_plain d a (ByName p name) = one d a (OfSubscriptName name) refl
  subscript_plain d a (ByInteger p at number) = no_step d
  subscript_plain d a (ByParts p copies arrays components) = then_ (subs_plain d a _ copies) (then_ (subs_plain _ a _ arrays) (subs_plain _ a _ components))

  pub subs_plain : (d : List Phrase) (a : Around) (r : Role) (ss : Subscripts) → IsPlain a.home d (gathered_subs d a r ss)
  subs_plain d a r NoSubscripts = no_step d
  subs_plain d a r (MoreSubscripts first others) = then_ (sub_plain d a r first) (subs_plain _ a r others)

  pub sub_plain : (d : List Phrase) (a : Around) (r : Role) (s : Sub) → IsPlain a.home d (gathered_sub d a r s)
  sub_plain d a r (Every p) = no_step d
  sub_plain d a r (One position) = position_plain d a r position
  sub_plain d a r (Range first last) = then_ (position_plain d a r first) (position_plain _ a r last)
  sub_plain d a r (Portion count first) = then_ (behind_own d a r count _ (own_plain d a r count)) (position_plain _ a r first)

  pub position_plain : (d : List Phrase) (a : Around) (r : Role) (p : Position) → IsPlain a.home d (gathered_position d a r p)
  position_plain d a r (FromBeginning position) = behind_own d a r position _ (own_plain d a r position)
  position_plain d a r (FromEnd p terms) = terms_plain d a terms

-- an expression
pub expression_plain : (d : List Phrase) (a : Around) (r : Role) (t : Expression) → IsPlain a.home d (gathered d a r t)
expression_plain d a r t = behind_own d a r t _ (own_plain d a r t)
