-- Each operand of an expression is what is wanted, where the set that it stands in breaks no rule of types.
use Rattle.std.proofs.Common.{◌≡◌, ℕ, Bool, true, false, ◌||◌, List, refl}
use Rattle.hal_base.specs.declared.refusal.Place.{Place}
use Rattle.hal_grammar.specs.Leaves.{Conversion, ToInteger, ToBits, ToText}
use Rattle.hal_grammar.specs.Expressions.{Expression, Or, And, Compare, Cat, Sum, Product, Power, Not, Literal, Decimal, Referred, Called, Convert, Parenthesis, Expressions, NoExpressions, MoreExpressions, Terms, NoTerms, MoreTerms}
use Rattle.hal_phrases.specs.declared.around.Around.{Around}
use Rattle.hal_phrases.specs.declared.role.Role.{Role}
use Rattle.hal_phrases.specs.declared.role.Role.TheVariants as role
use Rattle.hal_phrases.specs.Roles as roles
use Rattle.hal_phrases.specs.Phrases.{Phrase, OfExpression, add}
use Rattle.hal_phrases.specs.GatheredExpressions.{below, gathered, gathered_all, gathered_terms}
use Rattle.hal_scope.specs.Rules.{IsSound}
use Rattle.hal_scope.specs.Uses.{holds_event, hold_event}
use Rattle.hal_operands.specs.declared.want.Want.{Want}
use Rattle.hal_operands.specs.declared.want.Want.TheVariants as want
use Rattle.hal_operands.specs.Pairs.{is_eventual, pair_fault}
use Rattle.hal_operands.specs.Times.{wanted_within}
use Rattle.hal_operands.specs.Wants.{wanted}
use Rattle.hal_types.specs.Rules.{type_rows}
use Rattle.hal_agreement.specs.Sites.{Site}
use Rattle.hal_fit_expr.specs.Uses.{Uses}
use Rattle.hal_fit_classes.specs.Kinded.{IsKinded, AreOperands, AreTerms, IsOf, converted}
use Rattle.hal_fit_rules.specs.Begun.{AreFirst}
use Rattle.hal_fit_rules.specs.Leaves.{is_value_role, HasKnownLeaves, HaveKnownLeaves, TermsHaveKnownLeaves}
use Rattle.hal_fit_rules.proofs.Beginning.{then_}
use Rattle.hal_fit_rules.proofs.BegunExpressions.{own_first, expression_first, expressions_first, terms_first}
use Rattle.hal_fit_rules.proofs.Unbroken.{value_eventless}
use Rattle.hal_fit_rules.proofs.Classes.{is_of, class_known}
use Rattle.hal_fit_rules.proofs.Limiting.{IsRuled, IsOperand, plain_ruled, ruled_matched, plain_operand, operand_below}

-- operands of these roles
disjunct : wanted role.Disjunct ≡ want.Truth
unfolding wanted
disjunct = refl

conjunct : wanted role.Conjunct ≡ want.Truth
unfolding wanted
conjunct = refl

compared : wanted role.Compared ≡ want.Value
unfolding wanted
compared = refl

joined : wanted role.Joined ≡ want.Value
unfolding wanted
joined = refl

summand : wanted role.Summand ≡ want.Integer
unfolding wanted
summand = refl

factor : wanted role.Factor ≡ want.Integer
unfolding wanted
factor = refl

base_ : wanted role.Base ≡ want.Integer
unfolding wanted
base_ = refl

negated : wanted role.Negated ≡ want.Bits
unfolding wanted
negated = refl

within : wanted role.Enclosed ≡ want.Single
unfolding wanted
within = refl

of_conversion : (conversion : Conversion) → wanted (roles.of_conversion conversion) ≡ converted conversion
unfolding wanted
of_conversion ToInteger = refl
of_conversion ToBits = refl
of_conversion ToText = refl

pub value_converted : (conversion : Conversion) → is_value_role (roles.of_conversion conversion) ≡ true
value_converted ToInteger = refl
value_converted ToBits = refl
value_converted ToText = refl

-- the same behind UNTIL of SCHEDULE
or_within : (p : Place) (first : Expression) (others : Expressions) → wanted_within (Or p first others) ≡ want.Truth
unfolding wanted_within
or_within p first others = refl

and_within : (p : Place) (first : Expression) (others : Expressions) → wanted_within (And p first others) ≡ want.Truth
unfolding wanted_within
and_within p first others = refl

not_within : (p : Place) (operand : Expression) → wanted_within (Not p operand) ≡ want.Bits
unfolding wanted_within
not_within p operand = refl

enclosed_within : (p : Place) (inner : Expression) → wanted_within (Parenthesis p inner) ≡ want.Single
unfolding wanted_within
enclosed_within p inner = refl

neither : (b c : Bool) → b || c ≡ false → (b ≡ false) × (c ≡ false)
neither false false none = (refl, refl)
neither true c none = absurd (cc)
neither false true none = absurd (cc)

-- operands of what is no event expression are none
listed_eventless : (ps : List Phrase) (block : ℕ) (first : Expression) (others : Expressions) → hold_event ps block (MoreExpressions first others) ≡ false
    → (holds_event ps block first ≡ false) × (hold_event ps block others ≡ false)
unfolding hold_event
listed_eventless ps block first others none = neither (holds_event ps block first) (hold_event ps block others) none

or_eventless : (ps : List Phrase) (block : ℕ) (p : Place) (first : Expression) (others : Expressions) → holds_event ps block (Or p first others) ≡ false
    → (holds_event ps block first ≡ false) × (hold_event ps block others ≡ false)
unfolding holds_event
or_eventless ps block p first others none = neither (holds_event ps block first) (hold_event ps block others) none

and_eventless : (ps : List Phrase) (block : ℕ) (p : Place) (first : Expression) (others : Expressions) → holds_event ps block (And p first others) ≡ false
    → (holds_event ps block first ≡ false) × (hold_event ps block others ≡ false)
unfolding holds_event
and_eventless ps block p first others none = neither (holds_event ps block first) (hold_event ps block others) none

not_eventless : (ps : List Phrase) (block : ℕ) (p : Place) (operand : Expression) → holds_event ps block (Not p operand) ≡ false → holds_event ps block operand ≡ false
unfolding holds_event
not_eventless ps block p operand none = none

enclosed_eventless : (ps : List Phrase) (block : ℕ) (p : Place) (inner : Expression) → holds_event ps block (Parenthesis p inner) ≡ false → holds_event ps block inner ≡ false
unfolding holds_event
enclosed_eventless ps block p inner none = none

module _ (u : Uses) (site : Site) (ps : List Phrase) (sound : IsSound type_rows ps) where
  -- an operand whose own operands are what is wanted is what is wanted itself
  operand_of : (d : List Phrase) (a : Around) (r : Role) (w : Want) (t : Expression) → IsOperand ps a r w t → AreFirst (gathered d a r t) ps → HasKnownLeaves u site ps a.block t → IsKinded u site ps a.block t
      → IsOf ps a.block w t
  operand_of d a r w t operand first leaves is =
      is_of ps a.block w t (class_known u site ps a.block t leaves is (ruled_matched ps sound d a r t operand.ruled (then_ (own_first d a r t) first)) operand.timeless) operand.fits

  -- so it is where it is of a role of values
  pub wanted_of : (d : List Phrase) (a : Around) (r : Role) (w : Want) (t : Expression) → is_value_role r ≡ true → wanted r ≡ w → AreFirst (gathered d a r t) ps → HasKnownLeaves u site ps a.block t
      → IsKinded u site ps a.block t → IsOf ps a.block w t
  wanted_of d a r w t value wants first leaves is = operand_of d a r w t (plain_operand ps sound d a r w t value wants first) first leaves is

  mutual
    unfolding gathered gathered_all gathered_terms pair_fault

    pub ruled_kinded : (d : List Phrase) (a : Around) (r : Role) (t : Expression) → IsRuled ps a r t → AreFirst (gathered d a r t) ps → HasKnownLeaves u site ps a.block t → IsKinded u site ps a.block t
    ruled_kinded d a r (Or p first others) ruled begun leaves =
        let t : Expression = Or p first others in
        let e : List Phrase = add d a (OfExpression r t) in
        let one_role : Role = roles.under r role.Disjunct in
        let f : List Phrase = gathered e (below d a) one_role first in
        let own = then_ (own_first d a r t) begun in
        let first_begun = then_ (expressions_first f (below d a) one_role others) begun in
        let operand = operand_below ps sound d e a r role.Disjunct want.Truth t first ruled own refl disjunct (or_within p first others) (λ none. (or_eventless ps a.block p first others none).0) first_begun in
        let is = ruled_kinded e (below d a) one_role first operand.ruled first_begun leaves.0 in (
          is,
          operand_of e (below d a) one_role want.Truth first operand first_begun leaves.0 is,
          operands_below f (below d a) one_role want.Truth others
              (λ h one in_ one_begun. operand_below ps sound d h a r role.Disjunct want.Truth t one ruled own refl disjunct (or_within p first others) (λ none. in_ (or_eventless ps a.block p first others none).1) one_begun) begun leaves.1,
        )
    ruled_kinded d a r (And p first others) ruled begun leaves =
        let t : Expression = And p first others in
        let e : List Phrase = add d a (OfExpression r t) in
        let one_role : Role = roles.under r role.Conjunct in
        let f : List Phrase = gathered e (below d a) one_role first in
        let own = then_ (own_first d a r t) begun in
        let first_begun = then_ (expressions_first f (below d a) one_role others) begun in
        let operand = operand_below ps sound d e a r role.Conjunct want.Truth t first ruled own refl conjunct (and_within p first others) (λ none. (and_eventless ps a.block p first others none).0) first_begun in
        let is = ruled_kinded e (below d a) one_role first operand.ruled first_begun leaves.0 in (
          is,
          operand_of e (below d a) one_role want.Truth first operand first_begun leaves.0 is,
          operands_below f (below d a) one_role want.Truth others
              (λ h one in_ one_begun. operand_below ps sound d h a r role.Conjunct want.Truth t one ruled own refl conjunct (and_within p first others) (λ none. in_ (and_eventless ps a.block p first others none).1) one_begun) begun leaves.1,
        )
    ruled_kinded d a r (Compare p left relation right) ruled begun leaves =
        let e : List Phrase = add d a (OfExpression r (Compare p left relation right)) in
        let f : List Phrase = gathered e (below d a) role.Compared left in
        let left_begun = then_ (expression_first f (below d a) role.Compared right) begun in
        let left_is = ruled_kinded e (below d a) role.Compared left tt left_begun leaves.0 in
        let right_is = ruled_kinded f (below d a) role.Compared right tt begun leaves.1 in (
          left_is,
          wanted_of e (below d a) role.Compared want.Value left refl compared left_begun leaves.0 left_is,
          right_is,
          wanted_of f (below d a) role.Compared want.Value right refl compared begun leaves.1 right_is,
          ruled_matched ps sound d a r (Compare p left relation right) ruled (then_ (own_first d a r (Compare p left relation right)) begun),
        )
    ruled_kinded d a r (Cat p first others) ruled begun leaves =
        let e : List Phrase = add d a (OfExpression r (Cat p first others)) in
        let first_begun = then_ (expressions_first (gathered e (below d a) role.Joined first) (below d a) role.Joined others) begun in
        let is = ruled_kinded e (below d a) role.Joined first tt first_begun leaves.0 in (
          is,
          wanted_of e (below d a) role.Joined want.Value first refl joined first_begun leaves.0 is,
          operands (gathered e (below d a) role.Joined first) (below d a) role.Joined want.Value others refl joined begun leaves.1,
          ruled_matched ps sound d a r (Cat p first others) ruled (then_ (own_first d a r (Cat p first others)) begun),
        )
    ruled_kinded d a r (Sum p opening first others) ruled begun leaves =
        let e : List Phrase = add d a (OfExpression r (Sum p opening first others)) in
        let first_begun = then_ (terms_first (gathered e (below d a) role.Summand first) (below d a) others) begun in
        let is = ruled_kinded e (below d a) role.Summand first tt first_begun leaves.0 in
        (is, wanted_of e (below d a) role.Summand want.Integer first refl summand first_begun leaves.0 is, terms (gathered e (below d a) role.Summand first) (below d a) others begun leaves.1)
    ruled_kinded d a r (Product p first others) ruled begun leaves =
        let e : List Phrase = add d a (OfExpression r (Product p first others)) in
        let first_begun = then_ (expressions_first (gathered e (below d a) role.Factor first) (below d a) role.Factor others) begun in
        let is = ruled_kinded e (below d a) role.Factor first tt first_begun leaves.0 in
        (is, wanted_of e (below d a) role.Factor want.Integer first refl factor first_begun leaves.0 is, operands (gathered e (below d a) role.Factor first) (below d a) role.Factor want.Integer others refl factor begun leaves.1)
    ruled_kinded d a r (Power p base exponent) ruled begun leaves =
        let e : List Phrase = add d a (OfExpression r (Power p base exponent)) in
        let base_begun = then_ (expression_first (gathered e (below d a) role.Base base) (below d a) role.Exponent exponent) begun in
        let is = ruled_kinded e (below d a) role.Base base tt base_begun leaves in
        (is, wanted_of e (below d a) role.Base want.Integer base refl base_ base_begun leaves is)
    ruled_kinded d a r (Not p operand) ruled begun leaves =
        let t : Expression = Not p operand in
        let e : List Phrase = add d a (OfExpression r t) in
        let one_role : Role = roles.under r role.Negated in
        let below_it = operand_below ps sound d e a r role.Negated want.Bits t operand ruled (then_ (own_first d a r t) begun) refl negated (not_within p operand) (λ none. not_eventless ps a.block p operand none) begun in
        let is = ruled_kinded e (below d a) one_role operand below_it.ruled begun leaves in
        (is, operand_of e (below d a) one_role want.Bits operand below_it begun leaves is)
    ruled_kinded d a r (Literal p literal) ruled begun leaves = leaves
    ruled_kinded d a r (Decimal p number) ruled begun leaves = tt
    ruled_kinded d a r (Referred reference) ruled begun leaves = leaves.sorted
    ruled_kinded d a r (Called p name arguments) ruled begun leaves = leaves.sorted
    ruled_kinded d a r (Convert p conversion operand) ruled begun leaves =
        let e : List Phrase = add d a (OfExpression r (Convert p conversion operand)) in
        let one_role : Role = roles.of_conversion conversion in
        let value = value_converted conversion in
        let is = ruled_kinded e (below d a) one_role operand (plain_ruled ps (below d a) one_role operand (value_eventless one_role value)) begun leaves in
        (is, wanted_of e (below d a) one_role (converted conversion) operand value (of_conversion conversion) begun leaves is)
    ruled_kinded d a r (Parenthesis p inner) ruled begun leaves =
        let t : Expression = Parenthesis p inner in
        let e : List Phrase = add d a (OfExpression r t) in
        let one_role : Role = roles.under r role.Enclosed in
        let below_it = operand_below ps sound d e a r role.Enclosed want.Single t inner ruled (then_ (own_first d a r t) begun) refl within (enclosed_within p inner) (λ none. enclosed_eventless ps a.block p inner none) begun in
        let is = ruled_kinded e (below d a) one_role inner below_it.ruled begun leaves in
        (is, operand_of e (below d a) one_role want.Single inner below_it begun leaves is)

    -- operands of which each is known to be one, where all are none of events if the expression is
    operands_below : (d : List Phrase) (a : Around) (r : Role) (w : Want) (ts : Expressions)
        → ((e : List Phrase) (one : Expression) → (hold_event ps a.block ts ≡ false → holds_event ps a.block one ≡ false) → AreFirst (gathered e a r one) ps → IsOperand ps a r w one)
        → AreFirst (gathered_all d a r ts) ps → HaveKnownLeaves u site ps a.block ts → AreOperands u site ps a.block w ts
    operands_below d a r w NoExpressions each begun leaves = tt
    operands_below d a r w (MoreExpressions first others) each begun leaves =
        let first_begun = then_ (expressions_first (gathered d a r first) a r others) begun in
        let operand = each d first (λ none. (listed_eventless ps a.block first others none).0) first_begun in
        let is = ruled_kinded d a r first operand.ruled first_begun leaves.0 in (
          is,
          operand_of d a r w first operand first_begun leaves.0 is,
          operands_below (gathered d a r first) a r w others (λ e one in_ one_begun. each e one (λ none. in_ (listed_eventless ps a.block first others none).1) one_begun) begun leaves.1,
        )

    pub operands : (d : List Phrase) (a : Around) (r : Role) (w : Want) (ts : Expressions) → is_value_role r ≡ true → wanted r ≡ w → AreFirst (gathered_all d a r ts) ps → HaveKnownLeaves u site ps a.block ts
        → AreOperands u site ps a.block w ts
    operands d a r w NoExpressions value wants begun leaves = tt
    operands d a r w (MoreExpressions first others) value wants begun leaves =
        let first_begun = then_ (expressions_first (gathered d a r first) a r others) begun in
        let is = ruled_kinded d a r first (plain_ruled ps a r first (value_eventless r value)) first_begun leaves.0 in
        (is, wanted_of d a r w first value wants first_begun leaves.0 is, operands (gathered d a r first) a r w others value wants begun leaves.1)

    pub terms : (d : List Phrase) (a : Around) (ts : Terms) → AreFirst (gathered_terms d a ts) ps → TermsHaveKnownLeaves u site ps a.block ts → AreTerms u site ps a.block ts
    terms d a NoTerms begun leaves = tt
    terms d a (MoreTerms p sign term others) begun leaves =
        let first_begun = then_ (terms_first (gathered d a role.Summand term) a others) begun in
        let is = ruled_kinded d a role.Summand term tt first_begun leaves.0 in
        (is, wanted_of d a role.Summand want.Integer term refl summand first_begun leaves.0 is, terms (gathered d a role.Summand term) a others begun leaves.1)

  pub kinded : (d : List Phrase) (a : Around) (r : Role) (t : Expression) → is_eventual r ≡ false → AreFirst (gathered d a r t) ps → HasKnownLeaves u site ps a.block t → IsKinded u site ps a.block t
  kinded d a r t plain begun leaves = ruled_kinded d a r t (plain_ruled ps a r t plain) begun leaves
