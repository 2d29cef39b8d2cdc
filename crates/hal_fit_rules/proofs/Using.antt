-- Expressions of a unit agree where what their phrases name is known.
use Rattle.std.proofs.Common.{◌≡◌, ℕ, Bool, false, List, length, refl}
use Rattle.std.specs.Option.{is_some}
use Rattle.hal_base.specs.declared.refusal.Place.{Place}
use Rattle.hal_grammar.specs.Leaves.{Naming}
use Rattle.hal_grammar.specs.Expressions.{Expression, Or, And, Compare, Cat, Sum, Product, Power, Not, Literal, Decimal, Referred, Called, Convert, Parenthesis, Expressions, NoExpressions, MoreExpressions, Terms, NoTerms, MoreTerms, Reference, Refers, Subscript, Unsubscripted, ByName, ByInteger, ByParts, Subscripts, NoSubscripts, MoreSubscripts, Sub, Every, Range, Portion, One as OnePlace, Position, FromBeginning, FromEnd}
use Rattle.hal_phrases.specs.declared.around.Around.{Around}
use Rattle.hal_phrases.specs.declared.role.Role.{Role}
use Rattle.hal_phrases.specs.declared.role.Role.TheVariants as role
use Rattle.hal_phrases.specs.Roles as roles
use Rattle.hal_grammar.specs.Leaves.{Conversion, ToInteger, ToBits, ToText}
use Rattle.hal_phrases.specs.Phrases.{Node, Phrase, phrase, add, OfExpression, OfReference, OfSubscriptName, OfCallForm}
use Rattle.hal_phrases.specs.GatheredExpressions.{below, gathered, gathered_all, gathered_terms, gathered_reference, gathered_subscript, gathered_subs, gathered_sub, gathered_position}
use Rattle.hal_scope.specs.Uses.{holds_event, hold_event, refers_to_event}
use Rattle.hal_operands.specs.Pairs.{is_eventual}
use Rattle.hal_code.specs.declared.image.ImageParts.{ImageParts}
use Rattle.hal_agreement.specs.Sites.{Site, within_block}
use Rattle.hal_fitting.specs.Fitting.{Ground}
use Rattle.hal_fit_expr.specs.Uses.{Uses}
use Rattle.hal_fit_rules.specs.Begun.{AreFirst}
use Rattle.hal_fit_rules.specs.Agreeing.{NameAgrees, Agrees, AllAgree, TermsAgree, ReferenceAgrees, SubscriptAgrees, SubscriptsAgree, SubAgrees, PositionAgrees}
use Rattle.hal_fit_rules.specs.Used.{is_taking, NameKnown, NodeKnown, UnitKnown}
use Rattle.hal_fit_rules.proofs.Beginning.{then_, among}
use Rattle.hal_fit_rules.proofs.BegunExpressions.{own_first, expression_first, expressions_first, terms_first, subscript_first, subs_first, position_first}
use Rattle.hal_fit_rules.proofs.Limiting.{IsRuled, plain_ruled}
use Rattle.hal_fit_rules.proofs.Ruling.{AreRuled, all_ruled_below, converted_ruled, first_eventless, first_ruled, itself_ruled, others_eventless, others_ruled, ruled_below}

-- what stands below what takes no value takes none
untaking : (r own : Role) → is_taking r ≡ false → is_taking own ≡ false → is_taking (roles.under r own) ≡ false
untaking role.Event own plain is = refl
untaking role.EventOrTime own plain is = refl
untaking other own plain is = is

untaking_conversion : (conversion : Conversion) → is_taking (roles.of_conversion conversion) ≡ false
untaking_conversion ToInteger = refl
untaking_conversion ToBits = refl
untaking_conversion ToText = refl

-- a name that takes no value, and is no operand of an event expression
name_read : (u : Uses) (site : Site) (ps : List Phrase) (p : Phrase) (r : Role) (place : Place) (name : List ℕ) (path : List Naming) (x : Subscript) → is_taking r ≡ false
    → IsRuled ps p.around r (Referred (Refers place name path x)) → NameKnown u site ps p r name path → NameAgrees u site ps p.around.block name path
unfolding holds_event refers_to_event
name_read u site ps p role.Receiver place name path x plain ruled is = absurd (cc)
name_read u site ps p role.Output place name path x plain ruled is = absurd (cc)
name_read u site ps p role.Event place name path x plain ruled is = absurd ruled
name_read u site ps p role.EventOrTime place name path x plain ruled is = is (ruled.1 (length ps)) ruled.0
name_read u site ps p other place name path x plain ruled is = is

module _ (image : ImageParts) (g : Ground) (u : Bool → Uses) (site : Site) (home : ℕ) (known : UnitKnown image g u site home) where
  -- what is known of a phrase that was added
  pub node_known : (d : List Phrase) (a : Around) (n : Node) → a.home ≡ home → AreFirst (add d a n) site.set.phrases
      → NodeKnown image g (u (is_some a.update)) (within_block a.block site) site.set.phrases (phrase (length d) a n) n
  node_known d a n here first = known (phrase (length d) a n) (among site.set.phrases d a n first) here

  mutual
    unfolding holds_event is_eventual gathered gathered_all gathered_terms gathered_reference gathered_subscript gathered_subs gathered_sub gathered_position

    pub tree_agrees : (d : List Phrase) (a : Around) (r : Role) (t : Expression) → is_taking r ≡ false → IsRuled site.set.phrases a r t → a.home ≡ home → AreFirst (gathered d a r t) site.set.phrases
        → Agrees (u (is_some a.update)) (within_block a.block site) site.set.phrases a.block t
    tree_agrees d a r (Or p first others) plain ruled here begun =
        let e : List Phrase = add d a (OfExpression r (Or p first others)) in
        let one_role : Role = roles.under r role.Disjunct in
        let own_begun = then_ (own_first d a r (Or p first others)) begun in
        let value = untaking r role.Disjunct plain refl in (
          tree_agrees e (below d a) one_role first value
              (ruled_below site.set.phrases d a r (Or p first others) ruled own_begun role.Disjunct first refl
              (first_eventless (holds_event site.set.phrases a.block first) (hold_event site.set.phrases a.block others))) here (then_ (expressions_first (gathered e (below d a) one_role first) (below d a) one_role others) begun),
          trees_agree (gathered e (below d a) one_role first) (below d a) one_role others value
              (all_ruled_below site.set.phrases d a r (Or p first others) ruled own_begun role.Disjunct others refl
              (others_eventless (holds_event site.set.phrases a.block first) (hold_event site.set.phrases a.block others))) here begun,
        )
    tree_agrees d a r (And p first others) plain ruled here begun =
        let e : List Phrase = add d a (OfExpression r (And p first others)) in
        let one_role : Role = roles.under r role.Conjunct in
        let own_begun = then_ (own_first d a r (And p first others)) begun in
        let value = untaking r role.Conjunct plain refl in (
          tree_agrees e (below d a) one_role first value
              (ruled_below site.set.phrases d a r (And p first others) ruled own_begun role.Conjunct first refl
              (first_eventless (holds_event site.set.phrases a.block first) (hold_event site.set.phrases a.block others))) here (then_ (expressions_first (gathered e (below d a) one_role first) (below d a) one_role others) begun),
          trees_agree (gathered e (below d a) one_role first) (below d a) one_role others value
              (all_ruled_below site.set.phrases d a r (And p first others) ruled own_begun role.Conjunct others refl
              (others_eventless (holds_event site.set.phrases a.block first) (hold_event site.set.phrases a.block others))) here begun,
        )
    tree_agrees d a r (Compare p left relation right) plain ruled here begun =
        let e : List Phrase = add d a (OfExpression r (Compare p left relation right)) in
        let f : List Phrase = gathered e (below d a) role.Compared left in (
          tree_agrees e (below d a) role.Compared left refl tt here (then_ (expression_first f (below d a) role.Compared right) begun),
          tree_agrees f (below d a) role.Compared right refl tt here begun,
        )
    tree_agrees d a r (Cat p first others) plain ruled here begun =
        let e : List Phrase = add d a (OfExpression r (Cat p first others)) in
        let f : List Phrase = gathered e (below d a) role.Joined first in
        (tree_agrees e (below d a) role.Joined first refl tt here (then_ (expressions_first f (below d a) role.Joined others) begun), trees_agree f (below d a) role.Joined others refl tt here begun)
    tree_agrees d a r (Sum p opening first others) plain ruled here begun =
        let e : List Phrase = add d a (OfExpression r (Sum p opening first others)) in
        let f : List Phrase = gathered e (below d a) role.Summand first in
        (tree_agrees e (below d a) role.Summand first refl tt here (then_ (terms_first f (below d a) others) begun), terms_agree f (below d a) others here begun)
    tree_agrees d a r (Product p first others) plain ruled here begun =
        let e : List Phrase = add d a (OfExpression r (Product p first others)) in
        let f : List Phrase = gathered e (below d a) role.Factor first in
        (tree_agrees e (below d a) role.Factor first refl tt here (then_ (expressions_first f (below d a) role.Factor others) begun), trees_agree f (below d a) role.Factor others refl tt here begun)
    tree_agrees d a r (Power p base exponent) plain ruled here begun =
        let e : List Phrase = add d a (OfExpression r (Power p base exponent)) in
        tree_agrees e (below d a) role.Base base refl tt here (then_ (expression_first (gathered e (below d a) role.Base base) (below d a) role.Exponent exponent) begun)
    tree_agrees d a r (Not p operand) plain ruled here begun =
        tree_agrees (add d a (OfExpression r (Not p operand))) (below d a) (roles.under r role.Negated) operand (untaking r role.Negated plain refl)
        (ruled_below site.set.phrases d a r (Not p operand) ruled (then_ (own_first d a r (Not p operand)) begun) role.Negated operand refl (λ is. is)) here begun
    tree_agrees d a r (Literal p literal) plain ruled here begun = (node_known d a (OfExpression r (Literal p literal)) here begun).0
    tree_agrees d a r (Decimal p number) plain ruled here begun = tt
    tree_agrees d a r (Referred reference) plain ruled here begun =
        reference_agrees (add d a (OfExpression r (Referred reference))) (below d a) r reference plain
        (itself_ruled site.set.phrases d a r (Referred reference) ruled (then_ (own_first d a r (Referred reference)) begun)) here begun
    tree_agrees d a r (Called p name arguments) plain ruled here begun =
        let e : List Phrase = add d a (OfExpression r (Called p name arguments)) in
        let f : List Phrase = add e (below d a) (OfCallForm p name arguments) in (
          node_known e (below d a) (OfCallForm p name arguments) here (then_ (expressions_first f (below d a) role.Argument arguments) begun),
          trees_agree f (below d a) role.Argument arguments refl tt here begun,
        )
    tree_agrees d a r (Convert p conversion operand) plain ruled here begun =
        tree_agrees (add d a (OfExpression r (Convert p conversion operand))) (below d a) (roles.of_conversion conversion) operand (untaking_conversion conversion)
        (converted_ruled site.set.phrases (below d a) conversion operand) here begun
    tree_agrees d a r (Parenthesis p inner) plain ruled here begun =
        tree_agrees (add d a (OfExpression r (Parenthesis p inner))) (below d a) (roles.under r role.Enclosed) inner (untaking r role.Enclosed plain refl)
        (ruled_below site.set.phrases d a r (Parenthesis p inner) ruled (then_ (own_first d a r (Parenthesis p inner)) begun) role.Enclosed inner refl (λ is. is)) here begun

    pub trees_agree : (d : List Phrase) (a : Around) (r : Role) (ts : Expressions) → is_taking r ≡ false → AreRuled site.set.phrases a r ts → a.home ≡ home → AreFirst (gathered_all d a r ts) site.set.phrases
        → AllAgree (u (is_some a.update)) (within_block a.block site) site.set.phrases a.block ts
    trees_agree d a r NoExpressions plain ruled here begun = tt
    trees_agree d a r (MoreExpressions first others) plain ruled here begun = (
      tree_agrees d a r first plain (first_ruled site.set.phrases a r first others ruled) here (then_ (expressions_first (gathered d a r first) a r others) begun),
      trees_agree (gathered d a r first) a r others plain (others_ruled site.set.phrases a r first others ruled) here begun,
    )

    terms_agree : (d : List Phrase) (a : Around) (ts : Terms) → a.home ≡ home → AreFirst (gathered_terms d a ts) site.set.phrases
        → TermsAgree (u (is_some a.update)) (within_block a.block site) site.set.phrases a.block ts
    terms_agree d a NoTerms here begun = tt
    terms_agree d a (MoreTerms p sign term others) here begun = (
      tree_agrees d a role.Summand term refl tt here (then_ (terms_first (gathered d a role.Summand term) a others) begun),
      terms_agree (gathered d a role.Summand term) a others here begun,
    )

    reference_agrees : (d : List Phrase) (a : Around) (r : Role) (t : Reference) → is_taking r ≡ false → IsRuled site.set.phrases a r (Referred t) → a.home ≡ home → AreFirst (gathered_reference d a r t) site.set.phrases
        → ReferenceAgrees (u (is_some a.update)) (within_block a.block site) site.set.phrases a.block t
    reference_agrees d a r (Refers place name path x) plain ruled here begun =
        let e : List Phrase = add d a (OfReference r (Refers place name path x)) in (
          name_read (u (is_some a.update)) (within_block a.block site) site.set.phrases (phrase (length d) a (OfReference r (Refers place name path x))) r place name path x plain ruled
              (node_known d a (OfReference r (Refers place name path x)) here (then_ (subscript_first e (below d a) x) begun)),
          subscript_agrees e (below d a) x here begun,
        )

    pub subscript_agrees : (d : List Phrase) (a : Around) (x : Subscript) → a.home ≡ home → AreFirst (gathered_subscript d a x) site.set.phrases
        → SubscriptAgrees (u (is_some a.update)) (within_block a.block site) site.set.phrases a.block x
    subscript_agrees d a Unsubscripted here begun = tt
    subscript_agrees d a (ByName p name) here begun = node_known d a (OfSubscriptName name) here begun
    subscript_agrees d a (ByInteger p spot number) here begun = tt
    subscript_agrees d a (ByParts p copies arrays components) here begun =
        let e : List Phrase = gathered_subs d a role.CopySubscript copies in
        let f : List Phrase = gathered_subs e a role.ArraySubscript arrays in
        let arrays_begun = then_ (subs_first f a role.ComponentSubscript components) begun in (
          subs_agree d a role.CopySubscript copies refl refl here (then_ (subs_first e a role.ArraySubscript arrays) arrays_begun),
          subs_agree e a role.ArraySubscript arrays refl refl here arrays_begun,
          subs_agree f a role.ComponentSubscript components refl refl here begun,
        )

    subs_agree : (d : List Phrase) (a : Around) (r : Role) (ss : Subscripts) → is_taking r ≡ false → is_eventual r ≡ false → a.home ≡ home → AreFirst (gathered_subs d a r ss) site.set.phrases
        → SubscriptsAgree (u (is_some a.update)) (within_block a.block site) site.set.phrases a.block ss
    subs_agree d a r NoSubscripts plain eventless here begun = tt
    subs_agree d a r (MoreSubscripts first others) plain eventless here begun =
        (sub_agrees d a r first plain eventless here (then_ (subs_first (gathered_sub d a r first) a r others) begun), subs_agree (gathered_sub d a r first) a r others plain eventless here begun)

    sub_agrees : (d : List Phrase) (a : Around) (r : Role) (s : Sub) → is_taking r ≡ false → is_eventual r ≡ false → a.home ≡ home → AreFirst (gathered_sub d a r s) site.set.phrases
        → SubAgrees (u (is_some a.update)) (within_block a.block site) site.set.phrases a.block s
    sub_agrees d a r (Every p) plain eventless here begun = tt
    sub_agrees d a r (OnePlace position) plain eventless here begun = position_agrees d a r position plain eventless here begun
    sub_agrees d a r (Range first last) plain eventless here begun = (
      position_agrees d a r first plain eventless here (then_ (position_first (gathered_position d a r first) a r last) begun),
      position_agrees (gathered_position d a r first) a r last plain eventless here begun,
    )
    sub_agrees d a r (Portion count first) plain eventless here begun =
        (tree_agrees d a r count plain (plain_ruled site.set.phrases a r count eventless) here (then_ (position_first (gathered d a r count) a r first) begun), position_agrees (gathered d a r count) a r first plain eventless here begun)

    position_agrees : (d : List Phrase) (a : Around) (r : Role) (p : Position) → is_taking r ≡ false → is_eventual r ≡ false → a.home ≡ home → AreFirst (gathered_position d a r p) site.set.phrases
        → PositionAgrees (u (is_some a.update)) (within_block a.block site) site.set.phrases a.block p
    position_agrees d a r (FromBeginning one) plain eventless here begun = tree_agrees d a r one plain (plain_ruled site.set.phrases a r one eventless) here begun
    position_agrees d a r (FromEnd p ts) plain eventless here begun = terms_agree d a ts here begun
