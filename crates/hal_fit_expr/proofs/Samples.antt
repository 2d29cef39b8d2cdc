-- Small expressions and their sorts.
use Rattle.std.specs.Prelude.{◌≡◌, List, [], ◌∷◌, Option, Some, None}
use Rattle.std.proofs.Common.{refl}
use Rattle.hal_base.specs.declared.refusal.Place.{Place}
use Rattle.hal_grammar.specs.Leaves.{Plus, Minus, Less, Equal, ToText, ToInteger, LiteralValue, Integer, Text, Bits, True, False}
use Rattle.hal_grammar.specs.Expressions.{Expression, Or, And, Compare, Cat, Sum, Product, Power, Not, Literal, Convert, Parenthesis, Expressions, NoExpressions, MoreExpressions, Terms, NoTerms, MoreTerms}
use Rattle.hal_code.specs.Sorts.{I, B, T}
use Rattle.hal_agreement.specs.Sites.{Site}
use Rattle.hal_fit_expr.specs.Uses.{Uses}
use Rattle.hal_fit_expr.specs.Sorted.{sort_of_expression}

module _ (u : Uses) (site : Site) (o : Place) where
  abbrev one_more : Expression → Expressions
  one_more tree = MoreExpressions tree NoExpressions

  -- -1 + 2, 1 ** 2, 1 < 2 AND TRUE, CHARACTER(BIN'101') CAT 1
  sum : sort_of_expression u site (Sum o (Some Minus) (Literal o (Integer 1)) (MoreTerms o Plus (Literal o (Integer 2)) NoTerms)) ≡ Some I
  sum = refl

  power : sort_of_expression u site (Power o (Literal o (Integer 1)) (Literal o (Integer 2))) ≡ Some I
  power = refl

  condition : sort_of_expression u site (And o (Compare o (Literal o (Integer 1)) Less (Literal o (Integer 2))) (one_more (Literal o True))) ≡ Some B
  condition = refl

  joined : sort_of_expression u site (Cat o (Convert o ToText (Literal o (Bits 3 5))) (one_more (Literal o (Integer 1)))) ≡ Some T
  joined = refl

  -- NOT 1, 1 CAT 1, 1 = 'A', bits that are compared by order, a string of bits that its number doesn't fit
  not_of_an_integer : sort_of_expression u site (Not o (Literal o (Integer 1))) ≡ None
  not_of_an_integer = refl

  joined_integers : sort_of_expression u site (Cat o (Literal o (Integer 1)) (one_more (Literal o (Integer 1)))) ≡ None
  joined_integers = refl

  unlike : sort_of_expression u site (Compare o (Literal o (Integer 1)) Equal (Literal o (Text (65 ∷ [])))) ≡ None
  unlike = refl

  bits_by_order : sort_of_expression u site (Compare o (Literal o True) Less (Literal o False)) ≡ None
  bits_by_order = refl

  wide_bits : sort_of_expression u site (Literal o (Bits 2 4)) ≡ None
  wide_bits = refl
