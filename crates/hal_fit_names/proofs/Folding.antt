-- Operands one after another that suit, and arguments of built-in functions.
use Rattle.std.proofs.Common.{◌≡◌, ℕ, true, ◌&&◌, List, Option, Some, None, refl, sym, ap, ◌∙◌, subst}
use Rattle.std.specs.Prelude.{if◌then◌else◌}
use Rattle.std.specs.Option.{option_and_then, option_or, is_some}
use Rattle.hal_base.specs.declared.refusal.Place.{Place}
use Rattle.hal_grammar.specs.Leaves.{Sign, Plus, Minus}
use Rattle.hal_grammar.specs.Expressions.{Expression, Expressions, NoExpressions, MoreExpressions, Terms, NoTerms, MoreTerms, place_of}
use Rattle.hal_phrases.specs.Phrases.{Phrase}
use Rattle.hal_scope.specs.declared.builtin.Builtin.{Builtin}
use Rattle.hal_scope.specs.declared.builtin.Builtin.TheVariants as builtin
use Rattle.hal_scope.specs.Builtins.{form_of}
use Rattle.hal_kinds.specs.declared.class.Class.{Class}
use Rattle.hal_kinds.specs.declared.class.Class.TheVariants as class
use Rattle.hal_kinds.specs.Attributes.{no_more}
use Rattle.hal_kinds.specs.Classes.{class_of, class_beside, class_joined, class_of_function, beside, joined}
use Rattle.hal_operands.specs.declared.want.Want.{Want}
use Rattle.hal_operands.specs.declared.want.Want.TheVariants as want
use Rattle.hal_operands.specs.Pairs.{is_value, joined_fault}
use Rattle.hal_operands.specs.Wants.{misfit, misfit_at}
use Rattle.hal_uses.specs.Calls.{signature_of, listed_fault, second_fault, size_fault, formed_fault}
use Rattle.hal_values.specs.declared.value.Value.{Value}
use Rattle.hal_values.specs.declared.value.Value.TheVariants as value
use Rattle.hal_operations.specs.declared.operation.Op1.{Op1}
use Rattle.hal_operations.specs.declared.operation.Op1.TheVariants as op1
use Rattle.hal_operations.specs.declared.operation.Op2.{Op2}
use Rattle.hal_operations.specs.declared.operation.Op2.TheVariants as op2
use Rattle.hal_sound_values.specs.Right.{IsRight}
use Rattle.hal_constants.specs.declared.constant.Constant.{Constant}
use Rattle.hal_constants.specs.declared.constant.Constant.TheVariants as constant
use Rattle.hal_constants.specs.declared.operation.Operation.TheVariants as operation
use Rattle.hal_constants.specs.Results.{apply_one, apply_two}
use Rattle.hal_constants.specs.Naming.{operation_of}
use Rattle.hal_constants.specs.Constants.{operation_of_sign, constant_of, folded, summed, computed, computed_second}
use Rattle.hal_constants.specs.Known.{Known}
use Rattle.hal_fit_rules.proofs.Unbroken.{no_rule}
use Rattle.hal_fit_names.specs.Suited.{class_of_value, Suits}
use Rattle.hal_fit_names.proofs.Holding.{fits_want, Holds, held, IsIdle, held_sane, suited_sane, idle_suits, idle_left, idle_right, values_suit, is_arithmetic, arithmetic_suits, is_bitwise, strings_take, strings_joined, texts_joined, text_then_integer, integer_then_text, abs_suits, signum_suits, odd_suits, length_suits, trim_suits, xor_suits, index_suits, left_suits, right_suits}

pub bits_held : (c : Constant) → Suits (Some class.Bits) c → Holds want.Truth c
bits_held (constant.Worth (value.Bits len word)) is = (is.right, refl)
bits_held (constant.Worth (value.Int a)) is = let known = is.known in absurd (cc)
bits_held (constant.Worth (value.Text text)) is = let known = is.known in absurd (cc)
bits_held constant.Failed is = tt
bits_held constant.Open is = tt
bits_held constant.Unfit is = absurd is

pub integer_held : (c : Constant) → Suits (Some class.Integer) c → Holds want.Integer c
integer_held (constant.Worth (value.Int a)) is = (is.right, refl)
integer_held (constant.Worth (value.Bits len word)) is = let known = is.known in absurd (cc)
integer_held (constant.Worth (value.Text text)) is = let known = is.known in absurd (cc)
integer_held constant.Failed is = tt
integer_held constant.Open is = tt
integer_held constant.Unfit is = absurd is

idle_holds : (w : Want) (c : Constant) → IsIdle c → Holds w c
idle_holds w (constant.Worth v) is = absurd is
idle_holds w constant.Failed is = tt
idle_holds w constant.Open is = tt
idle_holds w constant.Unfit is = is

pub holding_suits : (c : Constant) → Holds want.Integer c → Suits (Some class.Integer) c
holding_suits (constant.Worth (value.Int a)) is = record { known = refl; right = is.0 }
holding_suits (constant.Worth (value.Bits len word)) is = let other = is.1 in absurd (cc)
holding_suits (constant.Worth (value.Text text)) is = let other = is.1 in absurd (cc)
holding_suits constant.Failed is = tt
holding_suits constant.Open is = tt
holding_suits constant.Unfit is = absurd is

-- two operands of AND or OR
record IsStep (o : Option Class) (c : Constant) : Type 0 where
  suits : Suits o c
  holds : Holds want.Truth c

beside_values : (op : Op2) (o q : Option Class) (v w : Value) → is_bitwise op ≡ true → Suits o (constant.Worth v) → Suits q (constant.Worth w) → fits_want want.Truth v ≡ true → fits_want want.Truth w ≡ true
    → Suits (beside o q) (apply_two op (constant.Worth v) (constant.Worth w))
unfolding beside
beside_values op o q (value.Bits m x) (value.Bits n y) bits is also fits of =
    subst (λ k. Suits k (apply_two op (constant.Worth (value.Bits m x)) (constant.Worth (value.Bits n y)))) (sym (ap (λ k. beside k q) is.known ∙ ap (beside (Some class.Bits)) also.known))
    (values_suit op class.Bits (value.Bits m x) (value.Bits n y) is.right also.right (strings_take op m x n y bits is.right also.right))
beside_values op o q (value.Int a) w bits is also fits of = absurd (cc)
beside_values op o q (value.Text text) w bits is also fits of = absurd (cc)
beside_values op o q (value.Bits m x) (value.Int a) bits is also fits of = absurd (cc)
beside_values op o q (value.Bits m x) (value.Text text) bits is also fits of = absurd (cc)

bits_result : (op : Op2) (v w : Value) → is_bitwise op ≡ true → IsRight v → IsRight w → fits_want want.Truth v ≡ true → fits_want want.Truth w ≡ true → Holds want.Truth (apply_two op (constant.Worth v) (constant.Worth w))
bits_result op (value.Bits m x) (value.Bits n y) bits right also fits of =
    bits_held (apply_two op (constant.Worth (value.Bits m x)) (constant.Worth (value.Bits n y))) (values_suit op class.Bits (value.Bits m x) (value.Bits n y) right also (strings_take op m x n y bits right also))
bits_result op (value.Int a) w bits right also fits of = absurd (cc)
bits_result op (value.Text text) w bits right also fits of = absurd (cc)
bits_result op (value.Bits m x) (value.Int a) bits right also fits of = absurd (cc)
bits_result op (value.Bits m x) (value.Text text) bits right also fits of = absurd (cc)

idle_step : (o : Option Class) (c : Constant) → IsIdle c → IsStep o c
idle_step o c is = record { suits = idle_suits o c is; holds = idle_holds want.Truth c is }

beside_step : (op : Op2) (o q : Option Class) (c d : Constant) → is_bitwise op ≡ true → IsStep o c → IsStep q d → IsStep (beside o q) (apply_two op c d)
beside_step op o q (constant.Worth v) (constant.Worth w) bits is also = record {
  suits = beside_values op o q v w bits is.suits also.suits is.holds.1 also.holds.1;
  holds = bits_result op v w bits is.holds.0 also.holds.0 is.holds.1 also.holds.1;
}
beside_step op o q (constant.Worth v) constant.Failed bits is also = idle_step _ _ (idle_right op (constant.Worth v) constant.Failed tt tt)
beside_step op o q (constant.Worth v) constant.Open bits is also = idle_step _ _ (idle_right op (constant.Worth v) constant.Open tt tt)
beside_step op o q (constant.Worth v) constant.Unfit bits is also = absurd also.suits
beside_step op o q constant.Failed d bits is also = idle_step _ _ (idle_left op constant.Failed d tt (suited_sane q d also.suits))
beside_step op o q constant.Open d bits is also = idle_step _ _ (idle_left op constant.Open d tt (suited_sane q d also.suits))
beside_step op o q constant.Unfit d bits is also = absurd is.suits

-- what can be joined
abbrev joinable : Option Class → Option Class → Option (ℕ × Place) → Place → Option (ℕ × Place)
joinable o q rest place = if is_value o && is_value q then (if is_some (joined o q) then rest else Some (702, place)) else None

module _ (ps : List Phrase) (vs : Known) (p : Phrase) (block : ℕ) where
  abbrev Fits : Want → Expression → Type 0
  Fits w t = Suits (class_of ps block t) (constant_of ps vs p t) × Holds w (constant_of ps vs p t)

  -- each of these suits, and is what is wanted
  abbrev pub AllFit : Want → Expressions → Type 0
  AllFit w NoExpressions = Unit {0}
  AllFit w (MoreExpressions first others) = Fits w first × AllFit w others

  abbrev pub TermsFit : Terms → Type 0
  TermsFit NoTerms = Unit {0}
  TermsFit (MoreTerms place sign term others) = Holds want.Integer (constant_of ps vs p term) × TermsFit others

  idle_folded : (op : Op2) (w : Want) (c : Constant) (ts : Expressions) → IsIdle c → AllFit w ts → IsIdle (folded ps vs p op c ts)
  unfolding folded
  idle_folded op w c NoExpressions is are = is
  idle_folded op w c (MoreExpressions first others) is are =
      idle_folded op w (apply_two op c (constant_of ps vs p first)) others (idle_left op c (constant_of ps vs p first) is (held_sane w (constant_of ps vs p first) are.0.1)) are.1

  pub beside_suits : (op : Op2) (o : Option Class) (c : Constant) (ts : Expressions) → is_bitwise op ≡ true → Suits o c → Holds want.Truth c → AllFit want.Truth ts → Suits (class_beside ps block o ts) (folded ps vs p op c ts)
  unfolding class_beside folded
  beside_suits op o c NoExpressions bits is holds are = is
  beside_suits op o c (MoreExpressions first others) bits is holds are =
      let next = beside_step op o (class_of ps block first) c (constant_of ps vs p first) bits (record { suits = is; holds = holds }) (record { suits = are.0.0; holds = are.0.1 }) in
      beside_suits op (beside o (class_of ps block first)) (apply_two op c (constant_of ps vs p first)) others bits next.suits next.holds are.1

  -- the product of integers
  pub product_holds : (c : Constant) (ts : Expressions) → Holds want.Integer c → AllFit want.Integer ts → Holds want.Integer (folded ps vs p op2.Product c ts)
  unfolding folded
  product_holds c NoExpressions is are = is
  product_holds c (MoreExpressions first others) is are =
      product_holds (apply_two op2.Product c (constant_of ps vs p first)) others
      (integer_held (apply_two op2.Product c (constant_of ps vs p first)) (arithmetic_suits op2.Product c (constant_of ps vs p first) refl is are.0.1)) are.1

  sign_adds : (sign : Sign) → is_arithmetic (operation_of_sign sign) ≡ true
  unfolding operation_of_sign
  sign_adds Plus = refl
  sign_adds Minus = refl

  -- their sum
  pub sum_holds : (c : Constant) (ts : Terms) → Holds want.Integer c → TermsFit ts → Holds want.Integer (summed ps vs p c ts)
  unfolding summed
  sum_holds c NoTerms is are = is
  sum_holds c (MoreTerms place sign term others) is are =
      let d : Constant = apply_two (operation_of_sign sign) c (constant_of ps vs p term) in
      sum_holds d others (integer_held d (arithmetic_suits (operation_of_sign sign) c (constant_of ps vs p term) (sign_adds sign) is are.0)) are.1

  -- operands of CAT behind one of this class, where they can be joined
  abbrev Joins : Expressions → Option Class → Constant → Type 0
  Joins ts o c = joined_fault ps block o ts ≡ None → Suits (class_joined ps block o ts) (folded ps vs p op2.Cat c ts)

  joined_values : (v w : Value) (place : Place) (ts : Expressions) → IsRight v → IsRight w → ((o : Option Class) (c : Constant) → Suits o c → Joins ts o c)
      → joinable (Some (class_of_value v)) (Some (class_of_value w)) (joined_fault ps block (joined (Some (class_of_value v)) (Some (class_of_value w))) ts) place ≡ None
      → Suits (class_joined ps block (joined (Some (class_of_value v)) (Some (class_of_value w))) ts) (folded ps vs p op2.Cat (apply_two op2.Cat (constant.Worth v) (constant.Worth w)) ts)
  unfolding joined is_value
  joined_values (value.Bits m x) (value.Bits n y) place ts right also joins none =
      joins (Some class.Bits) _ (values_suit op2.Cat class.Bits (value.Bits m x) (value.Bits n y) right also (strings_joined m x n y right also)) none
  joined_values (value.Text x) (value.Text y) place ts right also joins none =
      joins (Some class.Text) _ (values_suit op2.Cat class.Text (value.Text x) (value.Text y) right also (texts_joined x y)) none
  joined_values (value.Text x) (value.Int b) place ts right also joins none =
      joins (Some class.Text) _ (values_suit op2.Cat class.Text (value.Text x) (value.Int b) right also (text_then_integer x b)) none
  joined_values (value.Int a) (value.Text y) place ts right also joins none =
      joins (Some class.Text) _ (values_suit op2.Cat class.Text (value.Int a) (value.Text y) right also (integer_then_text a y)) none
  joined_values (value.Int a) (value.Int b) place ts right also joins none = absurd (cc)
  joined_values (value.Int a) (value.Bits n y) place ts right also joins none = absurd (cc)
  joined_values (value.Bits m x) (value.Int b) place ts right also joins none = absurd (cc)
  joined_values (value.Bits m x) (value.Text y) place ts right also joins none = absurd (cc)
  joined_values (value.Text x) (value.Bits n y) place ts right also joins none = absurd (cc)

  joined_more : (o q : Option Class) (c d : Constant) (place : Place) (ts : Expressions) → Suits o c → Suits q d → AllFit want.Value ts → ((k : Option Class) (e : Constant) → Suits k e → Joins ts k e)
      → joinable o q (joined_fault ps block (joined o q) ts) place ≡ None → Suits (class_joined ps block (joined o q) ts) (folded ps vs p op2.Cat (apply_two op2.Cat c d) ts)
  joined_more o q (constant.Worth v) (constant.Worth w) place ts is also are joins none =
      let of_both : (m n : Option Class) → m ≡ o → n ≡ q → joinable m n (joined_fault ps block (joined m n) ts) place ≡ None = λ m n first second. ap (λ x. joinable x n (joined_fault ps block (joined x n) ts) place) first
      ∙ (ap (λ x. joinable o x (joined_fault ps block (joined o x) ts) place) second ∙ none) in
      subst (λ x. Suits (class_joined ps block (joined x q) ts) (folded ps vs p op2.Cat (apply_two op2.Cat (constant.Worth v) (constant.Worth w)) ts)) (sym is.known)
      (subst (λ x. Suits (class_joined ps block (joined (Some (class_of_value v)) x) ts) (folded ps vs p op2.Cat (apply_two op2.Cat (constant.Worth v) (constant.Worth w)) ts)) (sym also.known)
      (joined_values v w place ts is.right also.right joins (of_both (Some (class_of_value v)) (Some (class_of_value w)) (sym is.known) (sym also.known))))
  joined_more o q (constant.Worth v) constant.Failed place ts is also are joins none = idle_suits _ _ (idle_folded op2.Cat want.Value _ ts (idle_right op2.Cat (constant.Worth v) constant.Failed tt tt) are)
  joined_more o q (constant.Worth v) constant.Open place ts is also are joins none = idle_suits _ _ (idle_folded op2.Cat want.Value _ ts (idle_right op2.Cat (constant.Worth v) constant.Open tt tt) are)
  joined_more o q (constant.Worth v) constant.Unfit place ts is also are joins none = absurd also
  joined_more o q constant.Failed d place ts is also are joins none = idle_suits _ _ (idle_folded op2.Cat want.Value _ ts (idle_left op2.Cat constant.Failed d tt (suited_sane q d also)) are)
  joined_more o q constant.Open d place ts is also are joins none = idle_suits _ _ (idle_folded op2.Cat want.Value _ ts (idle_left op2.Cat constant.Open d tt (suited_sane q d also)) are)
  joined_more o q constant.Unfit d place ts is also are joins none = absurd is

  pub joined_suits : (ts : Expressions) (o : Option Class) (c : Constant) → AllFit want.Value ts → Suits o c → joined_fault ps block o ts ≡ None → Suits (class_joined ps block o ts) (folded ps vs p op2.Cat c ts)
  unfolding class_joined folded joined_fault
  joined_suits NoExpressions o c are is none = is
  joined_suits (MoreExpressions first others) o c are is none =
      joined_more o (class_of ps block first) c (constant_of ps vs p first) (place_of first) others is are.0.0 are.1 (λ k e suits fault. joined_suits others k e are.1 suits fault) none

  -- an argument that is what is wanted
  pub argument_held : (w : Want) (x : Expression) → Fits want.Anything x → misfit_at ps block w x ≡ None → Holds w (constant_of ps vs p x)
  argument_held w x is none = held w (class_of ps block x) (constant_of ps vs p x) is.0 (no_rule (place_of x) (option_and_then (misfit w) (class_of ps block x)) none)

  first_none : {X : Type 0} (o q : Option X) → option_or o q ≡ None → o ≡ None
  first_none None q none = refl
  first_none (Some x) q none = absurd (cc)

  second_none : {X : Type 0} (o q : Option X) → option_or o q ≡ None → q ≡ None
  second_none None q none = none
  second_none (Some x) q none = absurd (cc)

  -- a built-in function of one argument
  one_built : (place : Place) (w : Want) (op : Op1) (k : Class) (ts : Expressions) → ((c : Constant) → Holds w c → Suits (Some k) (apply_one op c)) → AllFit want.Anything ts → listed_fault ps block place w None ts ≡ None
      → Suits (Some k) (computed ps vs p (operation.One op) ts)
  unfolding listed_fault no_more computed
  one_built place w op k NoExpressions gives are none = absurd (cc)
  one_built place w op k (MoreExpressions x NoExpressions) gives are none = gives (constant_of ps vs p x) (argument_held w x are.0 none)
  one_built place w op k (MoreExpressions x (MoreExpressions y others)) gives are none = absurd (cc)

  -- and one of two
  two_built : (place : Place) (w v : Want) (op : Op2) (k : Class) (ts : Expressions) → ((c d : Constant) → Holds w c → Holds v d → Suits (Some k) (apply_two op c d)) → AllFit want.Anything ts
      → listed_fault ps block place w (Some v) ts ≡ None → Suits (Some k) (computed ps vs p (operation.Two op) ts)
  unfolding listed_fault second_fault no_more computed computed_second
  two_built place w v op k NoExpressions gives are none = absurd (cc)
  two_built place w v op k (MoreExpressions x NoExpressions) gives are none = absurd (cc)
  two_built place w v op k (MoreExpressions x (MoreExpressions y NoExpressions)) gives are none =
      gives (constant_of ps vs p x) (constant_of ps vs p y) (argument_held w x are.0 (first_none (misfit_at ps block w x) (misfit_at ps block v y) none))
      (argument_held v y are.1.0 (second_none (misfit_at ps block w x) (misfit_at ps block v y) none))
  two_built place w v op k (MoreExpressions x (MoreExpressions y (MoreExpressions z others))) gives are none = absurd (cc)

  -- the arguments of a built-in function with a list are what it takes
  abbrev listed_of : Place → Builtin → Expressions → Option (ℕ × Place)
  listed_of place b ts = listed_fault ps block place (signature_of b).first (signature_of b).second ts

  arithmetic_built : (place : Place) (b : Builtin) (op : Op2) (ts : Expressions) → is_arithmetic op ≡ true → AllFit want.Anything ts → listed_fault ps block place want.Integer (Some want.Integer) ts ≡ None
      → Suits (Some class.Integer) (computed ps vs p (operation.Two op) ts)
  arithmetic_built place b op ts is are none = two_built place want.Integer want.Integer op class.Integer ts (λ c d. arithmetic_suits op c d is) are none

  pub built_suits : (place : Place) (b : Builtin) (ts : Expressions) → AllFit want.Anything ts → formed_fault ps block place b (form_of b) ts ≡ None → Suits (class_of_function b) (computed ps vs p (operation_of b) ts)
  unfolding formed_fault signature_of class_of_function operation_of computed
  built_suits place builtin.Abs ts are none = one_built place want.Integer op1.Abs class.Integer ts abs_suits are (first_none (listed_of place builtin.Abs ts) (size_fault ps block builtin.Abs ts) none)
  built_suits place builtin.Signum ts are none = one_built place want.Integer op1.Signum class.Integer ts signum_suits are (first_none (listed_of place builtin.Signum ts) (size_fault ps block builtin.Signum ts) none)
  built_suits place builtin.Odd ts are none = one_built place want.Integer op1.Odd class.Bits ts odd_suits are (first_none (listed_of place builtin.Odd ts) (size_fault ps block builtin.Odd ts) none)
  built_suits place builtin.Length ts are none = one_built place want.Text op1.Length class.Integer ts length_suits are (first_none (listed_of place builtin.Length ts) (size_fault ps block builtin.Length ts) none)
  built_suits place builtin.Trim ts are none = one_built place want.Text op1.Trim class.Text ts trim_suits are (first_none (listed_of place builtin.Trim ts) (size_fault ps block builtin.Trim ts) none)
  built_suits place builtin.Div ts are none = arithmetic_built place builtin.Div op2.Div ts refl are (first_none (listed_of place builtin.Div ts) (size_fault ps block builtin.Div ts) none)
  built_suits place builtin.Mod ts are none = arithmetic_built place builtin.Mod op2.Mod ts refl are (first_none (listed_of place builtin.Mod ts) (size_fault ps block builtin.Mod ts) none)
  built_suits place builtin.Remainder ts are none = arithmetic_built place builtin.Remainder op2.Remainder ts refl are (first_none (listed_of place builtin.Remainder ts) (size_fault ps block builtin.Remainder ts) none)
  built_suits place builtin.Shl ts are none = arithmetic_built place builtin.Shl op2.Shl ts refl are (first_none (listed_of place builtin.Shl ts) (size_fault ps block builtin.Shl ts) none)
  built_suits place builtin.Shr ts are none = arithmetic_built place builtin.Shr op2.Shr ts refl are (first_none (listed_of place builtin.Shr ts) (size_fault ps block builtin.Shr ts) none)
  built_suits place builtin.Index ts are none = two_built place want.Text want.Text op2.Index class.Integer ts index_suits are (first_none (listed_of place builtin.Index ts) (size_fault ps block builtin.Index ts) none)
  built_suits place builtin.Ljust ts are none = two_built place want.Text want.Integer op2.Ljust class.Text ts left_suits are (first_none (listed_of place builtin.Ljust ts) (size_fault ps block builtin.Ljust ts) none)
  built_suits place builtin.Rjust ts are none = two_built place want.Text want.Integer op2.Rjust class.Text ts right_suits are (first_none (listed_of place builtin.Rjust ts) (size_fault ps block builtin.Rjust ts) none)
  built_suits place builtin.Xor ts are none = two_built place want.Bits want.Bits op2.Xor class.Bits ts xor_suits are (first_none (listed_of place builtin.Xor ts) (size_fault ps block builtin.Xor ts) none)
  built_suits place builtin.Size ts are none = tt
  built_suits place builtin.Errgrp ts are none = absurd (cc)
  built_suits place builtin.Errnum ts are none = absurd (cc)
  built_suits place builtin.Runtime ts are none = absurd (cc)
  built_suits place builtin.Max ts are none = absurd (cc)
  built_suits place builtin.Min ts are none = absurd (cc)
  built_suits place builtin.Prod ts are none = absurd (cc)
  built_suits place builtin.Sum ts are none = absurd (cc)
