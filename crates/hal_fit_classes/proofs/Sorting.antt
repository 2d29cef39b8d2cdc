-- An expression whose operands break no rule of kinds has the sort of its class.
use Rattle.std.specs.Prelude.{◌≡◌, ℕ, Bool, true, ◌&&◌, List, Option, Some, None, if◌then◌else◌}
use Rattle.std.specs.Option.{option_and_then, is_some}
use Rattle.std.proofs.Common.{refl, sym, ap, ◌∙◌}
use Rattle.hal_base.specs.declared.refusal.Place.{Place}
use Rattle.hal_grammar.specs.Leaves.{Sign, Relation, Conversion, LiteralValue, Integer, Text, Bits, True, False, On, Off}
use Rattle.hal_grammar.specs.Expressions.{Expression, Or, And, Compare, Cat, Sum, Product, Power, Not, Literal, Decimal, Referred, Called, Convert, Parenthesis, Expressions, NoExpressions, MoreExpressions, Terms, NoTerms, MoreTerms, Reference, place_of}
use Rattle.hal_operations.specs.declared.operation.Op1.TheVariants as op1
use Rattle.hal_operations.specs.declared.operation.Op2.TheVariants as op2
use Rattle.hal_phrases.specs.Phrases.{Phrase}
use Rattle.hal_kinds.specs.declared.class.Class.{Class}
use Rattle.hal_kinds.specs.declared.class.Class.TheVariants as class
use Rattle.hal_kinds.specs.Classes.{class_of, class_beside, class_joined, class_of_reference, class_of_call, class_of_literal, class_of_conversion, enclosed, beside, joined}
use Rattle.hal_operands.specs.declared.want.Want.TheVariants as want
use Rattle.hal_operands.specs.Pairs.{compared_fault, joined_fault, is_value}
use Rattle.hal_operands.specs.Wants.{misfit}
use Rattle.hal_meaning.specs.Expressions.{exponent_of, operation_of_relation, operation_of_conversion}
use Rattle.hal_code.specs.Sorts.{Sort, I, B, one_gives, two_give}
use Rattle.hal_agreement.specs.Sites.{Site}
use Rattle.hal_fit_expr.specs.Uses.{Uses}
use Rattle.hal_fit_expr.specs.Sorted.{is_integer, is_bits, sort_of_value, all_bits, folded_sort, terms_fit, sort_of_expression}
use Rattle.hal_fit_classes.specs.Kinded.{sort_of_class, IsKinded, AreOperands, AreTerms}
use Rattle.hal_fit_classes.proofs.Pairing.{truth_sort, integer_sort, bits_sort, value_sort, pair_sort, compared, joined_pair, beside_pair, conversion_sort, literal_sort}

one_value : {X : Type 0} (o : Option X) (x y : X) → o ≡ Some x → o ≡ Some y → x ≡ y
one_value None x y is also = absurd (cc)
one_value (Some one) x y is also = cc

no_class : {X : Type 0} (o : Option Class) (one : Class) → o ≡ None → o ≡ Some one → X
no_class None one is of_one = absurd (cc)
no_class (Some c) one is of_one = absurd (cc)

both_hold : (a b : Bool) → a ≡ true → b ≡ true → (a && b) ≡ true
both_hold true true ia ib = refl
both_hold a b ia ib = absurd (cc)

-- an exponent is a number
exponent_literal : (place : Place) (literal : LiteralValue) → sort_of_value (exponent_of (Literal place literal)) ≡ Some I
exponent_literal place (Integer number) = refl
exponent_literal place (Text text) = refl
exponent_literal place (Bits len bits) = refl
exponent_literal place True = refl
exponent_literal place False = refl
exponent_literal place On = refl
exponent_literal place Off = refl

exponent_sort : (tree : Expression) → sort_of_value (exponent_of tree) ≡ Some I
exponent_sort (Literal place literal) = exponent_literal place literal
exponent_sort (Or place first others) = refl
exponent_sort (And place first others) = refl
exponent_sort (Compare place left relation right) = refl
exponent_sort (Cat place first others) = refl
exponent_sort (Sum place opening first others) = refl
exponent_sort (Product place first others) = refl
exponent_sort (Power place base exponent) = refl
exponent_sort (Not place operand) = refl
exponent_sort (Decimal place number) = refl
exponent_sort (Referred reference) = refl
exponent_sort (Called place name arguments) = refl
exponent_sort (Convert place conversion operand) = refl
exponent_sort (Parenthesis place inner) = refl

-- what stands in parentheses keeps its class
enclosed_class : (o : Option Class) (c : Class) → enclosed o ≡ Some c → o ≡ Some c
unfolding enclosed
enclosed_class None c is = absurd (cc)
enclosed_class (Some class.Structure) c is = absurd (cc)
enclosed_class (Some class.Array) c is = absurd (cc)
enclosed_class (Some class.Integer) c is = is
enclosed_class (Some class.Bits) c is = is
enclosed_class (Some class.Text) c is = is
enclosed_class (Some class.Condition) c is = is

-- the sort of this class is that of another one, which it is
settled : (o : Option Class) (sort : Option Sort) (c : Class) (t : Sort) (one : Class) (s : Sort) → o ≡ Some c → sort_of_class c ≡ Some t → sort ≡ Some t → o ≡ Some one → sort_of_class one ≡ Some s → sort ≡ Some s
settled o sort c t one s of_c worth is of_one wanted = is ∙ (sym worth ∙ (ap sort_of_class (one_value o c one of_c of_one) ∙ wanted))

module _ (u : Uses) (site : Site) (ps : List Phrase) (block : ℕ) where
  -- the classes of expressions
  class_or : (place : Place) (first : Expression) (others : Expressions) → class_of ps block (Or place first others) ≡ class_beside ps block (class_of ps block first) others
  unfolding class_of
  class_or place first others = refl

  class_and : (place : Place) (first : Expression) (others : Expressions) → class_of ps block (And place first others) ≡ class_beside ps block (class_of ps block first) others
  unfolding class_of
  class_and place first others = refl

  class_cat : (place : Place) (first : Expression) (others : Expressions) → class_of ps block (Cat place first others) ≡ class_joined ps block (class_of ps block first) others
  unfolding class_of
  class_cat place first others = refl

  class_parenthesis : (place : Place) (inner : Expression) → class_of ps block (Parenthesis place inner) ≡ enclosed (class_of ps block inner)
  unfolding class_of
  class_parenthesis place inner = refl

  class_compare : (place : Place) (left : Expression) (relation : Relation) (right : Expression) → class_of ps block (Compare place left relation right) ≡ Some class.Condition
  unfolding class_of
  class_compare place left relation right = refl

  class_sum : (place : Place) (opening : Option Sign) (first : Expression) (others : Terms) → class_of ps block (Sum place opening first others) ≡ Some class.Integer
  unfolding class_of
  class_sum place opening first others = refl

  class_product : (place : Place) (first : Expression) (others : Expressions) → class_of ps block (Product place first others) ≡ Some class.Integer
  unfolding class_of
  class_product place first others = refl

  class_power : (place : Place) (base exponent : Expression) → class_of ps block (Power place base exponent) ≡ Some class.Integer
  unfolding class_of
  class_power place base exponent = refl

  class_not : (place : Place) (operand : Expression) → class_of ps block (Not place operand) ≡ Some class.Bits
  unfolding class_of
  class_not place operand = refl

  class_literal : (place : Place) (literal : LiteralValue) → class_of ps block (Literal place literal) ≡ Some (class_of_literal literal)
  unfolding class_of
  class_literal place literal = refl

  class_decimal : (place : Place) (number : ℕ) → class_of ps block (Decimal place number) ≡ None
  unfolding class_of
  class_decimal place number = refl

  class_referred : (reference : Reference) → class_of ps block (Referred reference) ≡ class_of_reference ps block reference
  unfolding class_of
  class_referred reference = refl

  class_called : (place : Place) (name : List ℕ) (arguments : Expressions) → class_of ps block (Called place name arguments) ≡ class_of_call ps block name
  unfolding class_of
  class_called place name arguments = refl

  class_convert : (place : Place) (conversion : Conversion) (operand : Expression) → class_of ps block (Convert place conversion operand) ≡ Some (class_of_conversion conversion)
  unfolding class_of
  class_convert place conversion operand = refl

  beside_none : (o : Option Class) → class_beside ps block o NoExpressions ≡ o
  unfolding class_beside
  beside_none o = refl

  beside_more : (o : Option Class) (first : Expression) (others : Expressions) → class_beside ps block o (MoreExpressions first others) ≡ class_beside ps block (beside o (class_of ps block first)) others
  unfolding class_beside
  beside_more o first others = refl

  joined_none : (o : Option Class) → class_joined ps block o NoExpressions ≡ o
  unfolding class_joined
  joined_none o = refl

  joined_more : (o : Option Class) (first : Expression) (others : Expressions) → class_joined ps block o (MoreExpressions first others) ≡ class_joined ps block (joined o (class_of ps block first)) others
  unfolding class_joined
  joined_more o first others = refl

  fault_more : (o : Option Class) (first : Expression) (others : Expressions) → joined_fault ps block o (MoreExpressions first others)
      ≡ (if is_value o && is_value (class_of ps block first) then (if is_some (joined o (class_of ps block first)) then joined_fault ps block (joined o (class_of ps block first)) others else Some (702, place_of first)) else None)
  unfolding joined_fault
  fault_more o first others = refl

  -- operands of AND or OR are bits or conditions together
  beside_bits : (others : Expressions) (o : Option Class) (d c : Class) → o ≡ Some d → misfit want.Truth d ≡ None → AreOperands u site ps block want.Truth others → class_beside ps block o others ≡ Some c → sort_of_class c ≡ Some B
  beside_bits NoExpressions o d c of_d truth are is = ap sort_of_class (one_value o c d (sym (beside_none o) ∙ is) of_d) ∙ truth_sort d truth
  beside_bits (MoreExpressions first others) o d c of_d truth are is =
      let two = beside_pair d are.1.found truth are.1.fits in
      beside_bits others (beside o (class_of ps block first)) two.0 c (ap (λ x. beside x (class_of ps block first)) of_d ∙ (ap (beside (Some d)) are.1.known ∙ two.1)) two.2 are.2 (sym (beside_more o first others) ∙ is)

  mutual
    pub kinded : (tree : Expression) → IsKinded u site ps block tree → (one : Class) (s : Sort) → class_of ps block tree ≡ Some one → sort_of_class one ≡ Some s → sort_of_expression u site tree ≡ Some s
    kinded (Or place first others) is one s of_one wanted =
        let first_is = kinded first is.0 is.1.found B is.1.known (truth_sort is.1.found is.1.fits) in
        let bits = beside_bits others (class_of ps block first) is.1.found one is.1.known is.1.fits is.2 (sym (class_or place first others) ∙ of_one) in
        ap (λ b. if b then Some B else None) (both_hold (is_bits (sort_of_expression u site first)) (all_bits u site others) (ap is_bits first_is) (all_truth others is.2)) ∙ (sym bits ∙ wanted)
    kinded (And place first others) is one s of_one wanted =
        let first_is = kinded first is.0 is.1.found B is.1.known (truth_sort is.1.found is.1.fits) in
        let bits = beside_bits others (class_of ps block first) is.1.found one is.1.known is.1.fits is.2 (sym (class_and place first others) ∙ of_one) in
        ap (λ b. if b then Some B else None) (both_hold (is_bits (sort_of_expression u site first)) (all_bits u site others) (ap is_bits first_is) (all_truth others is.2)) ∙ (sym bits ∙ wanted)
    kinded (Compare place left relation right) is one s of_one wanted =
        let left_sort = value_sort is.1.found is.1.fits in
        let right_sort = value_sort is.3.found is.3.fits in
        let left_is = kinded left is.0 is.1.found left_sort.0 is.1.known left_sort.1 ∙ sym left_sort.1 in
        let right_is = kinded right is.2 is.3.found right_sort.0 is.3.known right_sort.1 ∙ sym right_sort.1 in
        let fault = sym (ap (λ o. compared_fault place relation (place_of right) o (class_of ps block right)) is.1.known ∙ ap (compared_fault place relation (place_of right) (Some is.1.found)) is.3.known) ∙ is.4 in
        settled (class_of ps block (Compare place left relation right)) (sort_of_expression u site (Compare place left relation right)) class.Condition B one s (class_compare place left relation right) refl
        (ap (λ o. pair_sort (operation_of_relation relation) o (sort_of_expression u site right)) left_is
        ∙ (ap (pair_sort (operation_of_relation relation) (sort_of_class is.1.found)) right_is ∙ compared relation place (place_of right) is.1.found is.3.found is.1.fits is.3.fits fault)) of_one wanted
    kinded (Cat place first others) is one s of_one wanted =
        let first_sort = value_sort is.1.found is.1.fits in
        let first_is = kinded first is.0 is.1.found first_sort.0 is.1.known first_sort.1 in
        ap (option_and_then (λ t. folded_sort u site op2.Cat t others)) first_is
        ∙ joined_sorts others is.1.found one first_sort.0 s is.1.fits is.2 (sym (ap (λ o. joined_fault ps block o others) is.1.known) ∙ is.3)
        (sym (ap (λ o. class_joined ps block o others) is.1.known) ∙ (sym (class_cat place first others) ∙ of_one)) first_sort.1 wanted
    kinded (Sum place opening first others) is one s of_one wanted =
        let first_is = kinded first is.0 is.1.found I is.1.known (integer_sort is.1.found is.1.fits) in
        settled (class_of ps block (Sum place opening first others)) (sort_of_expression u site (Sum place opening first others)) class.Integer I one s (class_sum place opening first others) refl
        (ap (λ b. if b then Some I else None) (both_hold (is_integer (sort_of_expression u site first)) (terms_fit u site others) (ap is_integer first_is) (all_terms others is.2))) of_one wanted
    kinded (Product place first others) is one s of_one wanted =
        let first_is = kinded first is.0 is.1.found I is.1.known (integer_sort is.1.found is.1.fits) in
        settled (class_of ps block (Product place first others)) (sort_of_expression u site (Product place first others)) class.Integer I one s (class_product place first others) refl
        (ap (option_and_then (λ t. folded_sort u site op2.Product t others)) first_is ∙ multiplied others is.2) of_one wanted
    kinded (Power place base exponent) is one s of_one wanted =
        let base_is = kinded base is.0 is.1.found I is.1.known (integer_sort is.1.found is.1.fits) in
        settled (class_of ps block (Power place base exponent)) (sort_of_expression u site (Power place base exponent)) class.Integer I one s (class_power place base exponent) refl
        (ap (λ o. pair_sort op2.Power o (sort_of_value (exponent_of exponent))) base_is ∙ ap (pair_sort op2.Power (Some I)) (exponent_sort exponent)) of_one wanted
    kinded (Not place operand) is one s of_one wanted =
        let operand_is = kinded operand is.0 is.1.found B is.1.known (bits_sort is.1.found is.1.fits) in
        settled (class_of ps block (Not place operand)) (sort_of_expression u site (Not place operand)) class.Bits B one s (class_not place operand) refl (ap (option_and_then (one_gives op1.Not)) operand_is) of_one wanted
    kinded (Literal place literal) is one s of_one wanted =
        literal_sort literal is ∙ (ap sort_of_class (one_value (class_of ps block (Literal place literal)) (class_of_literal literal) one (class_literal place literal) of_one) ∙ wanted)
    kinded (Decimal place number) is one s of_one wanted = no_class (class_of ps block (Decimal place number)) one (class_decimal place number) of_one
    kinded (Referred reference) is one s of_one wanted = is one s (sym (class_referred reference) ∙ of_one) wanted
    kinded (Called place name arguments) is one s of_one wanted = is one s (sym (class_called place name arguments) ∙ of_one) wanted
    kinded (Convert place conversion operand) is one s of_one wanted =
        let given = conversion_sort conversion is.1.found is.1.fits in
        let operand_is = kinded operand is.0 is.1.found given.0 is.1.known given.1 in
        ap (option_and_then (one_gives (operation_of_conversion conversion))) operand_is
        ∙ (given.2 ∙ (ap sort_of_class (one_value (class_of ps block (Convert place conversion operand)) (class_of_conversion conversion) one (class_convert place conversion operand) of_one) ∙ wanted))
    kinded (Parenthesis place inner) is one s of_one wanted = kinded inner is.0 one s (enclosed_class (class_of ps block inner) one (sym (class_parenthesis place inner) ∙ of_one)) wanted

    all_truth : (trees : Expressions) → AreOperands u site ps block want.Truth trees → all_bits u site trees ≡ true
    all_truth NoExpressions are = refl
    all_truth (MoreExpressions first others) are =
        both_hold (is_bits (sort_of_expression u site first)) (all_bits u site others) (ap is_bits (kinded first are.0 are.1.found B are.1.known (truth_sort are.1.found are.1.fits))) (all_truth others are.2)

    all_terms : (terms : Terms) → AreTerms u site ps block terms → terms_fit u site terms ≡ true
    all_terms NoTerms are = refl
    all_terms (MoreTerms place sign term others) are =
        both_hold (is_integer (sort_of_expression u site term)) (terms_fit u site others) (ap is_integer (kinded term are.0 are.1.found I are.1.known (integer_sort are.1.found are.1.fits))) (all_terms others are.2)

    multiplied : (trees : Expressions) → AreOperands u site ps block want.Integer trees → folded_sort u site op2.Product I trees ≡ Some I
    multiplied NoExpressions are = refl
    multiplied (MoreExpressions first others) are =
        ap (λ o. option_and_then (λ t. folded_sort u site op2.Product t others) (option_and_then (two_give op2.Product I) o)) (kinded first are.0 are.1.found I are.1.known (integer_sort are.1.found are.1.fits))
        ∙ multiplied others are.2

    joined_sorts : (trees : Expressions) (c one : Class) (t s : Sort) → misfit want.Value c ≡ None → AreOperands u site ps block want.Value trees → joined_fault ps block (Some c) trees ≡ None
        → class_joined ps block (Some c) trees ≡ Some one → sort_of_class c ≡ Some t → sort_of_class one ≡ Some s → folded_sort u site op2.Cat t trees ≡ Some s
    joined_sorts NoExpressions c one t s of_c are fault is worth wanted = sym worth ∙ (ap sort_of_class (one_value (class_joined ps block (Some c) NoExpressions) c one (joined_none (Some c)) is) ∙ wanted)
    joined_sorts (MoreExpressions first others) c one t s of_c are fault is worth wanted =
        let operand = value_sort are.1.found are.1.fits in
        let operand_is = kinded first are.0 are.1.found operand.0 are.1.known operand.1 ∙ sym operand.1 in
        let known = are.1.known in
        let pair = joined_pair c are.1.found (place_of first) (joined_fault ps block (joined (Some c) (Some are.1.found)) others) of_c are.1.fits
        (sym (ap (λ o. if is_value (Some c) && is_value o then (if is_some (joined (Some c) o) then joined_fault ps block (joined (Some c) o) others else Some (702, place_of first)) else None) known) ∙ (sym (fault_more (Some c) first others) ∙ fault)) in
        let both_sort = value_sort pair.both pair.fits in
        let step = ap (option_and_then (two_give op2.Cat t)) operand_is ∙ (sym (ap (λ o. pair_sort op2.Cat o (sort_of_class are.1.found)) worth) ∙ (pair.sort ∙ both_sort.1)) in
        ap (option_and_then (λ x. folded_sort u site op2.Cat x others)) step
        ∙ joined_sorts others pair.both one both_sort.0 s pair.fits are.2 (sym (ap (λ o. joined_fault ps block o others) pair.is) ∙ pair.others)
        (sym (ap (λ o. class_joined ps block (joined (Some c) o) others) known ∙ ap (λ o. class_joined ps block o others) pair.is) ∙ (sym (joined_more (Some c) first others) ∙ is)) both_sort.1 wanted
