-- The classes of expressions whose operands are what is wanted are known.
use Rattle.std.proofs.Common.{◌≡◌, ℕ, Bool, true, false, ◌&&◌, List, Option, Some, None, if◌then◌else◌, refl, sym, ap, ◌∙◌}
use Rattle.std.specs.Option.{option_and_then, is_some}
use Rattle.hal_grammar.specs.Expressions.{Expression, Or, And, Compare, Cat, Sum, Product, Power, Not, Literal, Decimal, Referred, Called, Convert, Parenthesis, Expressions, NoExpressions, MoreExpressions, place_of}
use Rattle.hal_phrases.specs.Phrases.{Phrase}
use Rattle.hal_kinds.specs.declared.class.Class.{Class}
use Rattle.hal_kinds.specs.declared.class.Class.TheVariants as class
use Rattle.hal_kinds.specs.Classes.{class_of, class_beside, class_joined, class_of_literal, class_of_conversion, enclosed, beside, joined}
use Rattle.hal_operands.specs.declared.want.Want.{Want}
use Rattle.hal_operands.specs.declared.want.Want.TheVariants as want
use Rattle.hal_operands.specs.Pairs.{joined_fault, is_value, pair_fault}
use Rattle.hal_operands.specs.Wants.{misfit, misfit_of_value, misfit_of_condition, misfit_of_whole, misfit_at}
use Rattle.hal_agreement.specs.Sites.{Site}
use Rattle.hal_fit_expr.specs.Uses.{Uses}
use Rattle.hal_fit_classes.specs.Kinded.{IsKinded, AreOperands, IsOf}
use Rattle.hal_fit_classes.proofs.Pairing.{beside_pair, joined_pair}
use Rattle.hal_fit_rules.specs.Leaves.{HasKnownLeaves}
use Rattle.hal_fit_rules.proofs.Unbroken.{no_rule}

-- a class that is known
abbrev pub HasClass : Option Class → Type 0
HasClass o = (c : Class) × (o ≡ Some c)

-- a class in parentheses that is one value or a condition
enclosed_known : (o : Option Class) (c : Class) → o ≡ Some c → misfit want.Single c ≡ None → HasClass (enclosed o)
unfolding enclosed misfit misfit_of_value misfit_of_condition misfit_of_whole
enclosed_known o class.Integer is fits = (class.Integer, ap enclosed is)
enclosed_known o class.Bits is fits = (class.Bits, ap enclosed is)
enclosed_known o class.Condition is fits = (class.Condition, ap enclosed is)
enclosed_known o class.Text is fits = (class.Text, ap enclosed is)
enclosed_known o class.Structure is fits = absurd (cc)
enclosed_known o class.Array is fits = absurd (cc)

-- an expression of a known class that breaks no rule where this is wanted is it
pub is_of : (ps : List Phrase) (block : ℕ) (w : Want) (t : Expression) → HasClass (class_of ps block t) → misfit_at ps block w t ≡ None → IsOf ps block w t
is_of ps block w t has none = record {
  found = has.0;
  known = has.1;
  fits = ap (option_and_then (misfit w)) (sym has.1) ∙ no_rule (place_of t) (option_and_then (misfit w) (class_of ps block t)) none;
}

-- whether an expression is a decimal
abbrev pub is_decimal : Expression → Bool
is_decimal (Decimal place number) = true
is_decimal other = false

module _ (u : Uses) (site : Site) (ps : List Phrase) (block : ℕ) where
  beside_known : (others : Expressions) (o : Option Class) (c : Class) → o ≡ Some c → misfit want.Truth c ≡ None → AreOperands u site ps block want.Truth others → HasClass (class_beside ps block o others)
  unfolding class_beside
  beside_known NoExpressions o c is truth are = (c, is)
  beside_known (MoreExpressions first others) o c is truth are =
      let two = beside_pair c are.1.found truth are.1.fits in
      beside_known others (beside o (class_of ps block first)) two.0 (ap (λ x. beside x (class_of ps block first)) is ∙ (ap (beside (Some c)) are.1.known ∙ two.1)) two.2 are.2

  joined_known : (others : Expressions) (o : Option Class) (c : Class) → o ≡ Some c → misfit want.Value c ≡ None → AreOperands u site ps block want.Value others → joined_fault ps block o others ≡ None
      → HasClass (class_joined ps block o others)
  unfolding class_joined joined_fault
  joined_known NoExpressions o c is value are none = (c, is)
  joined_known (MoreExpressions first others) o c is value are none =
      let pair = joined_pair c are.1.found (place_of first) (joined_fault ps block (joined (Some c) (Some are.1.found)) others) value are.1.fits
      (sym (ap (λ x. if is_value x && is_value (class_of ps block first) then (if is_some (joined x (class_of ps block first)) then joined_fault ps block (joined x (class_of ps block first)) others else Some (702, place_of first)) else None) is
      ∙ ap (λ x. if is_value (Some c) && is_value x then (if is_some (joined (Some c) x) then joined_fault ps block (joined (Some c) x) others else Some (702, place_of first)) else None) are.1.known) ∙ none) in
      let both : joined o (class_of ps block first) ≡ Some pair.both = ap (λ x. joined x (class_of ps block first)) is ∙ (ap (joined (Some c)) are.1.known ∙ pair.is) in
      joined_known others (joined o (class_of ps block first)) pair.both both pair.fits are.2
      (ap (λ x. joined_fault ps block x others) both ∙ (sym (ap (λ x. joined_fault ps block x others) pair.is) ∙ pair.others))

  -- the class of an expression that is no decimal
  pub class_known : (t : Expression) → HasKnownLeaves u site ps block t → IsKinded u site ps block t → pair_fault ps block t ≡ None → is_decimal t ≡ false
      → HasClass (class_of ps block t)
  unfolding class_of pair_fault
  class_known (Or place first others) leaves is none other = beside_known others (class_of ps block first) is.1.found is.1.known is.1.fits is.2
  class_known (And place first others) leaves is none other = beside_known others (class_of ps block first) is.1.found is.1.known is.1.fits is.2
  class_known (Compare place left relation right) leaves is none other = (class.Condition, refl)
  class_known (Cat place first others) leaves is none other = joined_known others (class_of ps block first) is.1.found is.1.known is.1.fits is.2 none
  class_known (Sum place opening first others) leaves is none other = (class.Integer, refl)
  class_known (Product place first others) leaves is none other = (class.Integer, refl)
  class_known (Power place base exponent) leaves is none other = (class.Integer, refl)
  class_known (Not place operand) leaves is none other = (class.Bits, refl)
  class_known (Literal place literal) leaves is none other = (class_of_literal literal, refl)
  class_known (Decimal place number) leaves is none other = absurd (cc)
  class_known (Referred reference) leaves is none other = (leaves.found, leaves.known)
  class_known (Called place name arguments) leaves is none other = (leaves.found, leaves.known)
  class_known (Convert place conversion operand) leaves is none other = (class_of_conversion conversion, refl)
  class_known (Parenthesis place inner) leaves is none other = enclosed_known (class_of ps block inner) is.1.found is.1.known is.1.fits
