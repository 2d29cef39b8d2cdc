-- Operands that are what is wanted have sorts, and those that go together a sort together.
use Rattle.std.specs.Prelude.{◌≡◌, ℕ, ◌&&◌, Option, Some, None, if◌then◌else◌}
use Rattle.std.specs.Option.{option_and_then, is_some}
use Rattle.std.proofs.Common.{refl, ap}
use Rattle.hal_base.specs.declared.refusal.Place.{Place}
use Rattle.hal_grammar.specs.Leaves.{Relation, Equal, Less, Greater, AtMost, AtLeast, NotEqual, NotLess, NotGreater, Conversion, ToInteger, ToBits, ToText, LiteralValue, Integer, Text, Bits, True, False, On, Off}
use Rattle.hal_operations.specs.declared.operation.Op2.{Op2}
use Rattle.hal_operations.specs.declared.operation.Op2.TheVariants as op2
use Rattle.hal_kinds.specs.declared.class.Class.{Class}
use Rattle.hal_kinds.specs.declared.class.Class.TheVariants as class
use Rattle.hal_kinds.specs.Classes.{class_of_literal, class_of_conversion, beside, joined}
use Rattle.hal_operands.specs.declared.want.Want.TheVariants as want
use Rattle.hal_operands.specs.Pairs.{is_equality, compared_fault, is_value}
use Rattle.hal_operands.specs.Wants.{misfit, misfit_of_value, misfit_of_condition, misfit_of_whole}
use Rattle.hal_meaning.specs.Expressions.{literal_value, operation_of_relation, operation_of_conversion}
use Rattle.hal_code.specs.Sorts.{Sort, I, B, T, one_gives, two_give}
use Rattle.hal_fit_expr.specs.Sorted.{sort_of_value}
use Rattle.hal_fit_classes.specs.Kinded.{sort_of_class, IsFitLiteral, converted}

pub truth_sort : (c : Class) → misfit want.Truth c ≡ None → sort_of_class c ≡ Some B
unfolding misfit misfit_of_value misfit_of_condition misfit_of_whole
truth_sort class.Bits is = refl
truth_sort class.Condition is = refl
truth_sort class.Integer is = absurd (cc)
truth_sort class.Text is = absurd (cc)
truth_sort class.Structure is = absurd (cc)
truth_sort class.Array is = absurd (cc)

pub integer_sort : (c : Class) → misfit want.Integer c ≡ None → sort_of_class c ≡ Some I
unfolding misfit misfit_of_value misfit_of_condition misfit_of_whole
integer_sort class.Integer is = refl
integer_sort class.Bits is = absurd (cc)
integer_sort class.Condition is = absurd (cc)
integer_sort class.Text is = absurd (cc)
integer_sort class.Structure is = absurd (cc)
integer_sort class.Array is = absurd (cc)

pub bits_sort : (c : Class) → misfit want.Bits c ≡ None → sort_of_class c ≡ Some B
unfolding misfit misfit_of_value misfit_of_condition misfit_of_whole
bits_sort class.Bits is = refl
bits_sort class.Integer is = absurd (cc)
bits_sort class.Condition is = absurd (cc)
bits_sort class.Text is = absurd (cc)
bits_sort class.Structure is = absurd (cc)
bits_sort class.Array is = absurd (cc)

-- a value has a sort
pub value_sort : (c : Class) → misfit want.Value c ≡ None → (s : Sort) × (sort_of_class c ≡ Some s)
unfolding misfit misfit_of_value misfit_of_condition misfit_of_whole
value_sort class.Integer is = (I, refl)
value_sort class.Bits is = (B, refl)
value_sort class.Text is = (T, refl)
value_sort class.Condition is = absurd (cc)
value_sort class.Structure is = absurd (cc)
value_sort class.Array is = absurd (cc)

-- what two operands give together
abbrev pub pair_sort : Op2 → Option Sort → Option Sort → Option Sort
pair_sort op left right = option_and_then (λ s. option_and_then (two_give op s) right) left

integers_compared : (relation : Relation) → two_give (operation_of_relation relation) I I ≡ Some B
integers_compared Equal = refl
integers_compared Less = refl
integers_compared Greater = refl
integers_compared AtMost = refl
integers_compared AtLeast = refl
integers_compared NotEqual = refl
integers_compared NotLess = refl
integers_compared NotGreater = refl

texts_compared : (relation : Relation) → two_give (operation_of_relation relation) T T ≡ Some B
texts_compared Equal = refl
texts_compared Less = refl
texts_compared Greater = refl
texts_compared AtMost = refl
texts_compared AtLeast = refl
texts_compared NotEqual = refl
texts_compared NotLess = refl
texts_compared NotGreater = refl

bits_compared : (relation : Relation) (place : Place) → ◌≡◌ {A = Option (ℕ × Place)} (if is_equality relation then None else Some (708, place)) None → two_give (operation_of_relation relation) B B ≡ Some B
unfolding is_equality
bits_compared Equal place is = refl
bits_compared NotEqual place is = refl
bits_compared Less place is = absurd (cc)
bits_compared Greater place is = absurd (cc)
bits_compared AtMost place is = absurd (cc)
bits_compared AtLeast place is = absurd (cc)
bits_compared NotLess place is = absurd (cc)
bits_compared NotGreater place is = absurd (cc)

pub compared : (relation : Relation) (place at : Place) (c d : Class) → misfit want.Value c ≡ None → misfit want.Value d ≡ None → compared_fault place relation at (Some c) (Some d) ≡ None
    → pair_sort (operation_of_relation relation) (sort_of_class c) (sort_of_class d) ≡ Some B
unfolding compared_fault misfit misfit_of_value misfit_of_condition misfit_of_whole
compared relation place at class.Integer class.Integer of_c of_d is = integers_compared relation
compared relation place at class.Bits class.Bits of_c of_d is = bits_compared relation place is
compared relation place at class.Text class.Text of_c of_d is = texts_compared relation
compared relation place at class.Integer class.Bits of_c of_d is = absurd (cc)
compared relation place at class.Integer class.Text of_c of_d is = absurd (cc)
compared relation place at class.Bits class.Integer of_c of_d is = absurd (cc)
compared relation place at class.Bits class.Text of_c of_d is = absurd (cc)
compared relation place at class.Text class.Integer of_c of_d is = absurd (cc)
compared relation place at class.Text class.Bits of_c of_d is = absurd (cc)
compared relation place at c class.Condition of_c of_d is = absurd (cc)
compared relation place at c class.Structure of_c of_d is = absurd (cc)
compared relation place at c class.Array of_c of_d is = absurd (cc)
compared relation place at class.Condition d of_c of_d is = absurd (cc)
compared relation place at class.Structure d of_c of_d is = absurd (cc)
compared relation place at class.Array d of_c of_d is = absurd (cc)

-- two operands of CAT, behind which others go together too
pub record Joined (c d : Class) (rest : Option (ℕ × Place)) : Type 0 where
  pub both : Class
  pub is : joined (Some c) (Some d) ≡ Some both
  pub fits : misfit want.Value both ≡ None
  pub others : rest ≡ None
  pub sort : pair_sort op2.Cat (sort_of_class c) (sort_of_class d) ≡ sort_of_class both

pub joined_pair : (c d : Class) (at : Place) (rest : Option (ℕ × Place)) → misfit want.Value c ≡ None → misfit want.Value d ≡ None
    → (if is_value (Some c) && is_value (Some d) then (if is_some (joined (Some c) (Some d)) then rest else Some (702, at)) else None) ≡ None → Joined c d rest
unfolding joined is_value misfit misfit_of_value misfit_of_condition misfit_of_whole
joined_pair class.Bits class.Bits at rest of_c of_d is = record { both = class.Bits; is = refl; fits = refl; others = is; sort = refl }
joined_pair class.Text class.Text at rest of_c of_d is = record { both = class.Text; is = refl; fits = refl; others = is; sort = refl }
joined_pair class.Text class.Integer at rest of_c of_d is = record { both = class.Text; is = refl; fits = refl; others = is; sort = refl }
joined_pair class.Integer class.Text at rest of_c of_d is = record { both = class.Text; is = refl; fits = refl; others = is; sort = refl }
joined_pair class.Integer class.Integer at rest of_c of_d is = absurd (cc)
joined_pair class.Integer class.Bits at rest of_c of_d is = absurd (cc)
joined_pair class.Bits class.Integer at rest of_c of_d is = absurd (cc)
joined_pair class.Bits class.Text at rest of_c of_d is = absurd (cc)
joined_pair class.Text class.Bits at rest of_c of_d is = absurd (cc)
joined_pair c class.Condition at rest of_c of_d is = absurd (cc)
joined_pair c class.Structure at rest of_c of_d is = absurd (cc)
joined_pair c class.Array at rest of_c of_d is = absurd (cc)
joined_pair class.Condition d at rest of_c of_d is = absurd (cc)
joined_pair class.Structure d at rest of_c of_d is = absurd (cc)
joined_pair class.Array d at rest of_c of_d is = absurd (cc)

-- two operands of AND or OR
pub beside_pair : (c d : Class) → misfit want.Truth c ≡ None → misfit want.Truth d ≡ None → (e : Class) × (beside (Some c) (Some d) ≡ Some e) × (misfit want.Truth e ≡ None)
unfolding beside misfit misfit_of_value misfit_of_condition misfit_of_whole
beside_pair class.Bits class.Bits of_c of_d = (class.Bits, refl, refl)
beside_pair class.Bits class.Condition of_c of_d = (class.Condition, refl, refl)
beside_pair class.Condition class.Bits of_c of_d = (class.Condition, refl, refl)
beside_pair class.Condition class.Condition of_c of_d = (class.Condition, refl, refl)
beside_pair c class.Integer of_c of_d = absurd (cc)
beside_pair c class.Text of_c of_d = absurd (cc)
beside_pair c class.Structure of_c of_d = absurd (cc)
beside_pair c class.Array of_c of_d = absurd (cc)
beside_pair class.Integer d of_c of_d = absurd (cc)
beside_pair class.Text d of_c of_d = absurd (cc)
beside_pair class.Structure d of_c of_d = absurd (cc)
beside_pair class.Array d of_c of_d = absurd (cc)

-- conversions
pub conversion_sort : (conversion : Conversion) (c : Class) → misfit (converted conversion) c ≡ None
    → (s : Sort) × (sort_of_class c ≡ Some s) × (one_gives (operation_of_conversion conversion) s ≡ sort_of_class (class_of_conversion conversion))
unfolding class_of_conversion misfit misfit_of_value misfit_of_condition misfit_of_whole
conversion_sort ToInteger class.Bits is = (B, refl, refl)
conversion_sort ToInteger class.Text is = (T, refl, refl)
conversion_sort ToBits class.Integer is = (I, refl, refl)
conversion_sort ToText class.Integer is = (I, refl, refl)
conversion_sort ToText class.Bits is = (B, refl, refl)
conversion_sort ToText class.Text is = (T, refl, refl)
conversion_sort ToInteger class.Integer is = absurd (cc)
conversion_sort ToBits class.Bits is = absurd (cc)
conversion_sort ToBits class.Text is = absurd (cc)
conversion_sort ToInteger class.Condition is = absurd (cc)
conversion_sort ToInteger class.Structure is = absurd (cc)
conversion_sort ToInteger class.Array is = absurd (cc)
conversion_sort ToBits class.Condition is = absurd (cc)
conversion_sort ToBits class.Structure is = absurd (cc)
conversion_sort ToBits class.Array is = absurd (cc)
conversion_sort ToText class.Condition is = absurd (cc)
conversion_sort ToText class.Structure is = absurd (cc)
conversion_sort ToText class.Array is = absurd (cc)

-- literals
pub literal_sort : (literal : LiteralValue) → IsFitLiteral literal → sort_of_value (literal_value literal) ≡ sort_of_class (class_of_literal literal)
unfolding class_of_literal
literal_sort (Integer number) fits = refl
literal_sort (Text text) fits = refl
literal_sort (Bits len bits) fits = ap (λ b. if b then Some B else None) fits
literal_sort True fits = refl
literal_sort False fits = refl
literal_sort On fits = refl
literal_sort Off fits = refl
