-- The phrases of an expression look up its names in its block.
use Rattle.std.proofs.Common.{◌==◌, ℕ, List, [], ◌∷◌, Option, None, Some, refl}
use Rattle.hal_base.specs.declared.refusal.Place.{Place}
use Rattle.hal_grammar.specs.Leaves.{Naming}
use Rattle.hal_grammar.specs.Expressions.{Expression, Or, And, Compare, Cat, Sum, Product, Power, Not, Literal, Decimal, Referred, Called, Convert, Parenthesis, Expressions, NoExpressions, MoreExpressions, Terms, NoTerms, MoreTerms, Reference, Refers, Subscript, Unsubscripted, ByName, ByInteger, ByParts, Subscripts, NoSubscripts, MoreSubscripts, Sub, Every, One, Range, Portion, Position, FromBeginning, FromEnd}
use Rattle.hal_phrases.specs.declared.around.Around.{Around}
use Rattle.hal_phrases.specs.declared.role.Role.{Role}
use Rattle.hal_phrases.specs.Phrases.{Phrase, OfExpression, OfDecimal, OfCallForm, OfReference, OfSubscriptName, add}
use Rattle.hal_phrases.specs.GatheredDeclarations.{gathered_optional}
use Rattle.hal_phrases.specs.GatheredExpressions.{below, gathered, gathered_all, gathered_terms, gathered_reference, gathered_subscript, gathered_subs, gathered_sub, gathered_position}
use Rattle.hal_scope.specs.Sorts.{used, use_of_reference}
use Rattle.hal_sound_names.specs.LookedUp.{looked, all_looked, terms_looked, reference_looked, subscript_looked, subs_looked, sub_looked, position_looked, any_looked}
use Rattle.hal_sound_names.proofs.LookingUp.{Goes, no_step, then_, one}

-- an expression's own phrase looks up nothing
own : (unit m : ℕ) (d : List Phrase) (a : Around) (r : Role) (t : Expression) → Goes unit (a.home == unit) m m (λ all. []) d (add d a (OfExpression r t))
unfolding used
own unit m d a r t = one unit m d a (OfExpression r t) [] refl refl refl

decimal : (unit m : ℕ) (d : List Phrase) (a : Around) (r : Role) (p : Place) → Goes unit (a.home == unit) m m (λ all. []) d (add d a (OfDecimal r p))
unfolding used
decimal unit m d a r p = one unit m d a (OfDecimal r p) [] refl refl refl

call_form : (unit m : ℕ) (d : List Phrase) (a : Around) (p : Place) (name : List ℕ) (arguments : Expressions) → Goes unit (a.home == unit) m m (λ all. (a.block, name) ∷ []) d (add d a (OfCallForm p name arguments))
unfolding used
call_form unit m d a p name arguments = one unit m d a (OfCallForm p name arguments) ((a.block, name) ∷ []) refl refl refl

referring : (unit m : ℕ) (d : List Phrase) (a : Around) (r : Role) (p : Place) (name : List ℕ) (further : List Naming) (subscript : Subscript)
    → Goes unit (a.home == unit) m m (λ all. (a.block, name) ∷ []) d (add d a (OfReference r (Refers p name further subscript)))
unfolding used use_of_reference
referring unit m d a r p name further subscript = one unit m d a (OfReference r (Refers p name further subscript)) ((a.block, name) ∷ []) refl refl refl

naming : (unit m : ℕ) (d : List Phrase) (a : Around) (name : Naming) → Goes unit (a.home == unit) m m (λ all. (a.block, name.name) ∷ []) d (add d a (OfSubscriptName name))
unfolding used
naming unit m d a name = one unit m d a (OfSubscriptName name) ((a.block, name.name) ∷ []) refl refl refl

mutual
  unfolding gathered gathered_all gathered_terms gathered_reference gathered_subscript gathered_subs gathered_sub gathered_position

  pub expression_goes : (unit m : ℕ) (d : List Phrase) (a : Around) (r : Role) (t : Expression) → Goes unit (a.home == unit) m m (λ all. looked a.block t) d (gathered d a r t)
  expression_goes unit m d a r (Or p first others) = then_ (own unit m d a r _) (then_ (expression_goes unit m _ (below d a) _ first) (expressions_goes unit m _ (below d a) _ others))
  expression_goes unit m d a r (And p first others) = then_ (own unit m d a r _) (then_ (expression_goes unit m _ (below d a) _ first) (expressions_goes unit m _ (below d a) _ others))
  expression_goes unit m d a r (Compare p left relation right) = then_ (own unit m d a r _) (then_ (expression_goes unit m _ (below d a) _ left) (expression_goes unit m _ (below d a) _ right))
  expression_goes unit m d a r (Cat p first others) = then_ (own unit m d a r _) (then_ (expression_goes unit m _ (below d a) _ first) (expressions_goes unit m _ (below d a) _ others))
  expression_goes unit m d a r (Sum p opening first others) = then_ (own unit m d a r _) (then_ (expression_goes unit m _ (below d a) _ first) (terms_goes unit m _ (below d a) others))
  expression_goes unit m d a r (Product p first others) = then_ (own unit m d a r _) (then_ (expression_goes unit m _ (below d a) _ first) (expressions_goes unit m _ (below d a) _ others))
  expression_goes unit m d a r (Power p base exponent) = then_ (own unit m d a r _) (then_ (expression_goes unit m _ (below d a) _ base) (expression_goes unit m _ (below d a) _ exponent))
  expression_goes unit m d a r (Not p operand) = then_ (own unit m d a r _) (expression_goes unit m _ (below d a) _ operand)
  expression_goes unit m d a r (Literal p literal) = own unit m d a r _
  expression_goes unit m d a r (Decimal p number) = then_ (own unit m d a r _) (decimal unit m _ (below d a) r p)
  expression_goes unit m d a r (Referred reference) = then_ (own unit m d a r _) (reference_goes unit m _ (below d a) r reference)
  expression_goes unit m d a r (Called p name arguments) = then_ (own unit m d a r _) (then_ (call_form unit m _ (below d a) p name arguments) (expressions_goes unit m _ (below d a) _ arguments))
  expression_goes unit m d a r (Convert p conversion operand) = then_ (own unit m d a r _) (expression_goes unit m _ (below d a) _ operand)
  expression_goes unit m d a r (Parenthesis p inner) = then_ (own unit m d a r _) (expression_goes unit m _ (below d a) _ inner)

  pub expressions_goes : (unit m : ℕ) (d : List Phrase) (a : Around) (r : Role) (ts : Expressions) → Goes unit (a.home == unit) m m (λ all. all_looked a.block ts) d (gathered_all d a r ts)
  expressions_goes unit m d a r NoExpressions = no_step unit (a.home == unit) m d
  expressions_goes unit m d a r (MoreExpressions first others) = then_ (expression_goes unit m d a r first) (expressions_goes unit m _ a r others)

  pub terms_goes : (unit m : ℕ) (d : List Phrase) (a : Around) (ts : Terms) → Goes unit (a.home == unit) m m (λ all. terms_looked a.block ts) d (gathered_terms d a ts)
  terms_goes unit m d a NoTerms = no_step unit (a.home == unit) m d
  terms_goes unit m d a (MoreTerms p sign term others) = then_ (expression_goes unit m d a _ term) (terms_goes unit m _ a others)

  pub reference_goes : (unit m : ℕ) (d : List Phrase) (a : Around) (r : Role) (t : Reference) → Goes unit (a.home == unit) m m (λ all. reference_looked a.block t) d (gathered_reference d a r t)
  reference_goes unit m d a r (Refers p name further subscript) = then_ (referring unit m d a r p name further subscript) (subscript_goes unit m _ (below d a) subscript)

  pub subscript_goes : (unit m : ℕ) (d : List Phrase) (a : Around) (s : Subscript) → Goes unit (a.home == unit) m m (λ all. subscript_looked a.block s) d (gathered_subscript d a s)
  subscript_goes unit m d a Unsubscripted = no_step unit (a.home == unit) m d
  subscript_goes unit m d a (ByName p name) = naming unit m d a name
  subscript_goes unit m d a (ByInteger p at number) = no_step unit (a.home == unit) m d
  subscript_goes unit m d a (ByParts p copies arrays components) = then_ (subs_goes unit m d a _ copies) (then_ (subs_goes unit m _ a _ arrays) (subs_goes unit m _ a _ components))

  pub subs_goes : (unit m : ℕ) (d : List Phrase) (a : Around) (r : Role) (ss : Subscripts) → Goes unit (a.home == unit) m m (λ all. subs_looked a.block ss) d (gathered_subs d a r ss)
  subs_goes unit m d a r NoSubscripts = no_step unit (a.home == unit) m d
  subs_goes unit m d a r (MoreSubscripts first others) = then_ (sub_goes unit m d a r first) (subs_goes unit m _ a r others)

  pub sub_goes : (unit m : ℕ) (d : List Phrase) (a : Around) (r : Role) (s : Sub) → Goes unit (a.home == unit) m m (λ all. sub_looked a.block s) d (gathered_sub d a r s)
  sub_goes unit m d a r (Every p) = no_step unit (a.home == unit) m d
  sub_goes unit m d a r (One position) = position_goes unit m d a r position
  sub_goes unit m d a r (Range first last) = then_ (position_goes unit m d a r first) (position_goes unit m _ a r last)
  sub_goes unit m d a r (Portion count first) = then_ (expression_goes unit m d a r count) (position_goes unit m _ a r first)

  pub position_goes : (unit m : ℕ) (d : List Phrase) (a : Around) (r : Role) (p : Position) → Goes unit (a.home == unit) m m (λ all. position_looked a.block p) d (gathered_position d a r p)
  position_goes unit m d a r (FromBeginning position) = expression_goes unit m d a r position
  position_goes unit m d a r (FromEnd p terms) = terms_goes unit m d a terms

-- an expression that may be there
pub optional_goes : (unit m : ℕ) (d : List Phrase) (a : Around) (r : Role) (o : Option Expression) → Goes unit (a.home == unit) m m (λ all. any_looked (looked a.block) o) d (gathered_optional d a r o)
optional_goes unit m d a r None = no_step unit (a.home == unit) m d
optional_goes unit m d a r (Some t) = expression_goes unit m d a r t
