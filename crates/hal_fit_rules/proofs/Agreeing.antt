-- Expressions whose names agree are known, where the set that they stand in breaks no rule of types.
use Rattle.std.proofs.Common.{◌≡◌, ℕ, true, List, [], length, Option, Some, None, inl, inr, refl, sym, ap, ◌∙◌}
use Rattle.std.specs.Option.{option_and_then}
use Rattle.std.proofs.lemmas.Bool.{and_from}
use Rattle.hal_base.specs.declared.refusal.Place.{Place}
use Rattle.hal_grammar.specs.Leaves.{Naming}
use Rattle.hal_grammar.specs.Expressions.{Expression, Or, And, Compare, Cat, Sum, Product, Power, Not, Literal, Decimal, Referred, Called, Convert, Parenthesis, Expressions, NoExpressions, MoreExpressions, Terms, NoTerms, MoreTerms, Reference, Refers, Subscript, Unsubscripted, ByName, ByInteger, ByParts, Subscripts, NoSubscripts, MoreSubscripts, Sub, Every, Range, Portion, One as OnePlace, Position, FromBeginning, FromEnd}
use Rattle.hal_phrases.specs.declared.around.Around.{Around}
use Rattle.hal_phrases.specs.declared.role.Role.{Role}
use Rattle.hal_phrases.specs.declared.role.Role.TheVariants as role
use Rattle.hal_phrases.specs.Roles as roles
use Rattle.hal_phrases.specs.Phrases.{Phrase, phrase, add, OfExpression, OfReference, OfSubscriptName, OfCallForm}
use Rattle.hal_phrases.specs.GatheredExpressions.{below, gathered, gathered_all, gathered_terms, gathered_reference, gathered_subscript, gathered_subs, gathered_sub, gathered_position}
use Rattle.hal_scope.specs.Rules.{IsSound}
use Rattle.hal_kinds.specs.declared.class.Class.{Class}
use Rattle.hal_kinds.specs.Classes.{class_of, class_of_name, class_of_reference}
use Rattle.hal_operands.specs.declared.want.Want.TheVariants as want
use Rattle.hal_operands.specs.Wants.{at, misfit, unfit, wanted}
use Rattle.hal_uses.specs.Subscripts.{missubscripted, reference_fault}
use Rattle.hal_types.specs.Rules.{operand_rows, use_rows, type_rows}
use Rattle.hal_code.specs.Sorts.{Sort, I}
use Rattle.hal_agreement.specs.Sites.{Site}
use Rattle.hal_fit_expr.specs.Uses.{Uses}
use Rattle.hal_fit_expr.specs.Sorted.{is_integer, sort_of_name, sort_of_reference, sort_of_expression, terms_fit, position_fits, part_fits}
use Rattle.hal_fit_classes.specs.Kinded.{IsOf, AreTerms}
use Rattle.hal_fit_classes.proofs.Pairing.{integer_sort}
use Rattle.hal_fit_classes.proofs.Sorting as sorting
use Rattle.hal_fit_rules.specs.Begun.{AreFirst}
use Rattle.hal_fit_rules.specs.Leaves.{is_value_role, IsKnown, HasKnownLeaves, HaveKnownLeaves, TermsHaveKnownLeaves}
use Rattle.hal_fit_rules.specs.Agreeing.{Agrees, AllAgree, TermsAgree, ReferenceAgrees, SubscriptAgrees, SubscriptsAgree, SubAgrees, PositionAgrees}
use Rattle.hal_fit_rules.proofs.Beginning.{then_, among}
use Rattle.hal_fit_rules.proofs.BegunExpressions.{expression_first, expressions_first, terms_first, subscript_first, subs_first, position_first}
use Rattle.hal_fit_rules.proofs.Unbroken.{no_rule, unbroken, of_operands, of_uses, value_eventless}
use Rattle.hal_fit_rules.proofs.Kinding.{kinded, wanted_of, terms}
use Rattle.hal_fit_rules.proofs.Choosing.{AreRight, SubscriptRight}
use Rattle.hal_fit_rules.proofs.Passing.{IsArea, AreAreas}
use Rattle.hal_fit_rules.proofs.Areas.{area_right}
use Rattle.hal_fit_rules.proofs.Forming.{call_known}
use Rattle.hal_fit_rules.proofs.Referring.{reference_known, name_known}

copy_wanted : wanted role.CopySubscript ≡ want.Integer
unfolding wanted
copy_wanted = refl

array_wanted : wanted role.ArraySubscript ≡ want.Integer
unfolding wanted
array_wanted = refl

component_wanted : wanted role.ComponentSubscript ≡ want.Integer
unfolding wanted
component_wanted = refl

-- a known name that breaks no rule where an integer is wanted is one
integer_name : (c : Option Class) (sort : Option Sort) (place : Place) → IsKnown c sort → at place (option_and_then (misfit want.Integer) c) ≡ None → is_integer sort ≡ true
integer_name c sort place known none =
    ap is_integer (known.sorted known.found I known.known (integer_sort known.found (ap (option_and_then (misfit want.Integer)) (sym known.known) ∙ no_rule place (option_and_then (misfit want.Integer) c) none)))

module _ (u : Uses) (site : Site) (ps : List Phrase) (sound : IsSound type_rows ps) where
  terms_right : (block : ℕ) (ts : Terms) → AreTerms u site ps block ts → terms_fit u site ts ≡ true
  terms_right block NoTerms are = refl
  terms_right block (MoreTerms place sign term others) are =
      and_from (is_integer (sort_of_expression u site term)) (terms_fit u site others)
      (ap is_integer (sorting.kinded u site ps block term are.0 are.1.found I are.1.known (integer_sort are.1.found are.1.fits))) (terms_right block others are.2)

  -- an expression that has to be an integer is one
  integer_of : (d : List Phrase) (a : Around) (r : Role) (t : Expression) → is_value_role r ≡ true → wanted r ≡ want.Integer → AreFirst (gathered d a r t) ps → HasKnownLeaves u site ps a.block t
      → sort_of_expression u site t ≡ Some I
  integer_of d a r t value wants begun leaves =
      let is = kinded u site ps sound d a r t (value_eventless r value) begun leaves in
      let of = wanted_of u site ps sound d a r want.Integer t value wants begun leaves is in
      sorting.kinded u site ps a.block t is of.found I of.known (integer_sort of.found of.fits)

  pub subscripted_right : (d : List Phrase) (a : Around) (r : Role) (t : Reference) → AreFirst (add d a (OfReference r t)) ps → reference_fault ps a.block t ≡ None
  unfolding use_rows missubscripted
  subscripted_right d a r t first =
      unbroken type_rows ps sound (phrase (length d) a (OfReference r t)) (among ps d a (OfReference r t) first) (λ qs q. missubscripted qs q q.node)
      (of_uses (λ qs q. missubscripted qs q q.node) (inr (inr (inr (inr (inr (inr (inl refl))))))))

  subscript_name : (d : List Phrase) (a : Around) (name : Naming) → AreFirst (add d a (OfSubscriptName name)) ps → at name.place (option_and_then (misfit want.Integer) (class_of_name ps a.block name.name)) ≡ None
  unfolding operand_rows unfit
  subscript_name d a name first =
      unbroken type_rows ps sound (phrase (length d) a (OfSubscriptName name)) (among ps d a (OfSubscriptName name) first) (λ qs q. unfit qs q q.node) (of_operands (λ qs q. unfit qs q q.node) (inr (inr (inl refl))))

  mutual
    unfolding gathered gathered_all gathered_terms gathered_reference gathered_subscript gathered_subs gathered_sub gathered_position

    pub known_leaves : (d : List Phrase) (a : Around) (r : Role) (t : Expression) → AreFirst (gathered d a r t) ps → Agrees u site ps a.block t → HasKnownLeaves u site ps a.block t
    known_leaves d a r (Or p first others) begun agree =
        let e : List Phrase = add d a (OfExpression r (Or p first others)) in
        let one_role : Role = roles.under r role.Disjunct in (
          known_leaves e (below d a) one_role first (then_ (expressions_first (gathered e (below d a) one_role first) (below d a) one_role others) begun) agree.0,
          all_known (gathered e (below d a) one_role first) (below d a) one_role others begun agree.1,
        )
    known_leaves d a r (And p first others) begun agree =
        let e : List Phrase = add d a (OfExpression r (And p first others)) in
        let one_role : Role = roles.under r role.Conjunct in (
          known_leaves e (below d a) one_role first (then_ (expressions_first (gathered e (below d a) one_role first) (below d a) one_role others) begun) agree.0,
          all_known (gathered e (below d a) one_role first) (below d a) one_role others begun agree.1,
        )
    known_leaves d a r (Compare p left relation right) begun agree =
        let e : List Phrase = add d a (OfExpression r (Compare p left relation right)) in
        let f : List Phrase = gathered e (below d a) role.Compared left in (
          known_leaves e (below d a) role.Compared left (then_ (expression_first f (below d a) role.Compared right) begun) agree.0,
          known_leaves f (below d a) role.Compared right begun agree.1,
        )
    known_leaves d a r (Cat p first others) begun agree =
        let e : List Phrase = add d a (OfExpression r (Cat p first others)) in (
          known_leaves e (below d a) role.Joined first (then_ (expressions_first (gathered e (below d a) role.Joined first) (below d a) role.Joined others) begun) agree.0,
          all_known (gathered e (below d a) role.Joined first) (below d a) role.Joined others begun agree.1,
        )
    known_leaves d a r (Sum p opening first others) begun agree =
        let e : List Phrase = add d a (OfExpression r (Sum p opening first others)) in (
          known_leaves e (below d a) role.Summand first (then_ (terms_first (gathered e (below d a) role.Summand first) (below d a) others) begun) agree.0,
          terms_known (gathered e (below d a) role.Summand first) (below d a) others begun agree.1,
        )
    known_leaves d a r (Product p first others) begun agree =
        let e : List Phrase = add d a (OfExpression r (Product p first others)) in (
          known_leaves e (below d a) role.Factor first (then_ (expressions_first (gathered e (below d a) role.Factor first) (below d a) role.Factor others) begun) agree.0,
          all_known (gathered e (below d a) role.Factor first) (below d a) role.Factor others begun agree.1,
        )
    known_leaves d a r (Power p base exponent) begun agree =
        let e : List Phrase = add d a (OfExpression r (Power p base exponent)) in
        known_leaves e (below d a) role.Base base (then_ (expression_first (gathered e (below d a) role.Base base) (below d a) role.Exponent exponent) begun) agree
    known_leaves d a r (Not p operand) begun agree =
        let e : List Phrase = add d a (OfExpression r (Not p operand)) in
        known_leaves e (below d a) (roles.under r role.Negated) operand begun agree
    known_leaves d a r (Literal p literal) begun agree = agree
    known_leaves d a r (Decimal p number) begun agree = tt
    known_leaves d a r (Referred reference) begun agree = referred_known (add d a (OfExpression r (Referred reference))) (below d a) r reference begun agree
    known_leaves d a r (Called p name arguments) begun agree =
        let e : List Phrase = add d a (OfExpression r (Called p name arguments)) in
        let f : List Phrase = add e (below d a) (OfCallForm p name arguments) in
        call_known u site ps sound e (below d a) p name arguments begun agree.0 (all_known f (below d a) role.Argument arguments begun agree.1) (areas_known f (below d a) role.Argument arguments begun agree.1)
    known_leaves d a r (Convert p conversion operand) begun agree =
        let e : List Phrase = add d a (OfExpression r (Convert p conversion operand)) in
        known_leaves e (below d a) (roles.of_conversion conversion) operand begun agree
    known_leaves d a r (Parenthesis p inner) begun agree =
        let e : List Phrase = add d a (OfExpression r (Parenthesis p inner)) in
        known_leaves e (below d a) (roles.under r role.Enclosed) inner begun agree

    pub all_known : (d : List Phrase) (a : Around) (r : Role) (ts : Expressions) → AreFirst (gathered_all d a r ts) ps → AllAgree u site ps a.block ts → HaveKnownLeaves u site ps a.block ts
    all_known d a r NoExpressions begun agree = tt
    all_known d a r (MoreExpressions first others) begun agree =
        (known_leaves d a r first (then_ (expressions_first (gathered d a r first) a r others) begun) agree.0, all_known (gathered d a r first) a r others begun agree.1)

    -- arguments that are several elements
    pub areas_known : (d : List Phrase) (a : Around) (r : Role) (ts : Expressions) → AreFirst (gathered_all d a r ts) ps → AllAgree u site ps a.block ts → AreAreas u site ps a.block ts
    areas_known d a r NoExpressions begun agree = tt
    areas_known d a r (MoreExpressions first others) begun agree =
        (area_known d a r first (then_ (expressions_first (gathered d a r first) a r others) begun) agree.0, areas_known (gathered d a r first) a r others begun agree.1)

    area_known : (d : List Phrase) (a : Around) (r : Role) (t : Expression) → AreFirst (gathered d a r t) ps → Agrees u site ps a.block t → IsArea u site ps a.block t
    area_known d a r (Referred reference) begun agree = referred_area (add d a (OfExpression r (Referred reference))) (below d a) r reference begun agree
    area_known d a r other begun agree = tt

    referred_area : (d : List Phrase) (a : Around) (r : Role) (t : Reference) → AreFirst (gathered_reference d a r t) ps → ReferenceAgrees u site ps a.block t → IsArea u site ps a.block (Referred t)
    referred_area d a r (Refers place name path x) begun agree =
        area_right u site ps a.block place name path x agree.0 (subscript_known (add d a (OfReference r (Refers place name path x))) (below d a) x begun agree.1)

    terms_known : (d : List Phrase) (a : Around) (ts : Terms) → AreFirst (gathered_terms d a ts) ps → TermsAgree u site ps a.block ts → TermsHaveKnownLeaves u site ps a.block ts
    terms_known d a NoTerms begun agree = tt
    terms_known d a (MoreTerms p sign term others) begun agree = (
      known_leaves d a role.Summand term (then_ (terms_first (gathered d a role.Summand term) a others) begun) agree.0,
      terms_known (gathered d a role.Summand term) a others begun agree.1,
    )

    pub referred_known : (d : List Phrase) (a : Around) (r : Role) (t : Reference) → AreFirst (gathered_reference d a r t) ps → ReferenceAgrees u site ps a.block t
        → IsKnown (class_of_reference ps a.block t) (sort_of_reference u site t)
    referred_known d a r (Refers place name path x) begun agree =
        let e : List Phrase = add d a (OfReference r (Refers place name path x)) in
        reference_known u site ps a.block place name path x agree.0 (subscripted_right d a r (Refers place name path x) (then_ (subscript_first e (below d a) x) begun))
        (subscript_known e (below d a) x begun agree.1)

    pub subscript_known : (d : List Phrase) (a : Around) (x : Subscript) → AreFirst (gathered_subscript d a x) ps → SubscriptAgrees u site ps a.block x → SubscriptRight u site x
    subscript_known d a Unsubscripted begun agree = tt
    subscript_known d a (ByName p name) begun agree =
        integer_name (class_of_name ps a.block name.name) (sort_of_name u site name.name []) name.place (name_known u site ps a.block name.name agree) (subscript_name d a name begun)
    subscript_known d a (ByInteger p spot number) begun agree = tt
    subscript_known d a (ByParts p copies arrays components) begun agree =
        let e : List Phrase = gathered_subs d a role.CopySubscript copies in
        let f : List Phrase = gathered_subs e a role.ArraySubscript arrays in
        let arrays_begun = then_ (subs_first f a role.ComponentSubscript components) begun in (
          subs_known d a role.CopySubscript copies refl copy_wanted (then_ (subs_first e a role.ArraySubscript arrays) arrays_begun) agree.0,
          subs_known e a role.ArraySubscript arrays refl array_wanted arrays_begun agree.1,
          subs_known f a role.ComponentSubscript components refl component_wanted begun agree.2,
        )

    subs_known : (d : List Phrase) (a : Around) (r : Role) (ss : Subscripts) → is_value_role r ≡ true → wanted r ≡ want.Integer → AreFirst (gathered_subs d a r ss) ps → SubscriptsAgree u site ps a.block ss
        → AreRight u site ss
    subs_known d a r NoSubscripts value wants begun agree = tt
    subs_known d a r (MoreSubscripts first others) value wants begun agree =
        (sub_known d a r first value wants (then_ (subs_first (gathered_sub d a r first) a r others) begun) agree.0, subs_known (gathered_sub d a r first) a r others value wants begun agree.1)

    sub_known : (d : List Phrase) (a : Around) (r : Role) (s : Sub) → is_value_role r ≡ true → wanted r ≡ want.Integer → AreFirst (gathered_sub d a r s) ps → SubAgrees u site ps a.block s → part_fits u site s ≡ true
    sub_known d a r (Every p) value wants begun agree = refl
    sub_known d a r (OnePlace position) value wants begun agree = position_known d a r position value wants begun agree
    sub_known d a r (Range first last) value wants begun agree =
        and_from (position_fits u site first) (position_fits u site last) (position_known d a r first value wants (then_ (position_first (gathered_position d a r first) a r last) begun) agree.0)
        (position_known (gathered_position d a r first) a r last value wants begun agree.1)
    sub_known d a r (Portion count first) value wants begun agree =
        let count_begun = then_ (position_first (gathered d a r count) a r first) begun in
        and_from (is_integer (sort_of_expression u site count)) (position_fits u site first)
        (ap is_integer (integer_of d a r count value wants count_begun (known_leaves d a r count count_begun agree.0)))
        (position_known (gathered d a r count) a r first value wants begun agree.1)

    position_known : (d : List Phrase) (a : Around) (r : Role) (p : Position) → is_value_role r ≡ true → wanted r ≡ want.Integer → AreFirst (gathered_position d a r p) ps → PositionAgrees u site ps a.block p
        → position_fits u site p ≡ true
    position_known d a r (FromBeginning one) value wants begun agree = ap is_integer (integer_of d a r one value wants begun (known_leaves d a r one begun agree))
    position_known d a r (FromEnd p ts) value wants begun agree = terms_right a.block ts (terms u site ps sound d a ts begun (terms_known d a ts begun agree))

  -- an expression is of the class that its role wants
  pub of_role : (d : List Phrase) (a : Around) (r : Role) (t : Expression) → is_value_role r ≡ true → AreFirst (gathered d a r t) ps → Agrees u site ps a.block t → IsOf ps a.block (wanted r) t
  of_role d a r t value begun agree =
      let leaves = known_leaves d a r t begun agree in
      wanted_of u site ps sound d a r (wanted r) t value refl begun leaves (kinded u site ps sound d a r t (value_eventless r value) begun leaves)

  -- and has the sort of it
  pub sorted_of : (d : List Phrase) (a : Around) (r : Role) (t : Expression) → is_value_role r ≡ true → AreFirst (gathered d a r t) ps → Agrees u site ps a.block t
      → IsKnown (class_of ps a.block t) (sort_of_expression u site t)
  sorted_of d a r t value begun agree =
      let of = of_role d a r t value begun agree in
      record {
        found = of.found;
        known = of.known;
        sorted = sorting.kinded u site ps a.block t (kinded u site ps sound d a r t (value_eventless r value) begun (known_leaves d a r t begun agree));
      }
