-- What an expression is known to be worth is what it comes to.
use Rattle.std.specs.Prelude.{◌≡◌, ℕ, nat_le, length, List, [], ◌∷◌, ℤ, pos, Bool, true, false, not, ◌&&◌, ◌||◌, Option, Some, None, Result, Ok, Err, if◌then◌else◌}
use Rattle.std.specs.Option.{option_and_then}
use Rattle.std.specs.Result.{result_ok}
use Rattle.std.proofs.Common.{refl, sym, ap, ◌∙◌}
use Rattle.hal_base.specs.declared.refusal.Place.{Place}
use Rattle.hal_grammar.specs.Leaves.{Naming, Sign, Plus, Minus, LiteralValue, Integer, Text, Bits, True, False, On, Off}
use Rattle.hal_grammar.specs.Expressions.{Expression, Or, And, Compare, Cat, Sum, Product, Power, Not, Literal, Decimal, Referred, Called, Convert, Parenthesis, Expressions, NoExpressions, MoreExpressions, Terms, NoTerms, MoreTerms, Reference, Refers, Subscript, Unsubscripted, ByName, ByInteger, ByParts, Subscripts, NoSubscripts, MoreSubscripts, Sub, Every, Range, Portion, One as OnePlace, Position, FromBeginning, FromEnd}
use Rattle.hal_kinds.specs.Attributes.{no_more}
use Rattle.hal_scope.specs.declared.builtin.Builtin.{Builtin}
use Rattle.hal_scope.specs.declared.builtin.Builtin.TheVariants as builtin
use Rattle.hal_operations.specs.declared.operation.Op1.{Op1}
use Rattle.hal_operations.specs.declared.operation.Op1.TheVariants as op1
use Rattle.hal_operations.specs.declared.operation.Op2.{Op2}
use Rattle.hal_operations.specs.declared.operation.Op2.TheVariants as op2
use Rattle.hal_operations.specs.declared.part.Part.{Part}
use Rattle.hal_operations.specs.declared.part.Part.TheVariants as part
use Rattle.hal_operations.specs.Mended.{mended_of_one, mended_of_two}
use Rattle.hal_operations.specs.Parts.{picked, mended_pick, place_count}
use Rattle.hal_operations.specs.Values.{value_of_one, value_of_two}
use Rattle.hal_values.specs.declared.environment.ErrNo.{ErrNo}
use Rattle.hal_values.specs.declared.value.Value.{Value}
use Rattle.hal_values.specs.declared.value.Value.TheVariants as value
use Rattle.hal_states.specs.Spots.{Held}
use Rattle.hal_states.specs.Numbers as numbers
use Rattle.hal_constants.specs.declared.operation.Operation.{Operation}
use Rattle.hal_constants.specs.declared.operation.Operation.TheVariants as operation
use Rattle.hal_constants.specs.Naming.{operation_of}
use Rattle.hal_constants.specs.Operands.{takes_one, takes_two, has_components}
use Rattle.hal_meaning.specs.Access.{Here, tested}
use Rattle.hal_meaning.specs.Expressions.{literal_value, exponent_of, is_condition, are_conditions, as_operand, apply_one, apply_two, signed, operation_of_sign, operation_of_conversion, part_of, is_size, size_argument, inputs_at, built, call_form, expression, joined, folded, summed, values, passed, plain_value, named_value, subscripted, data_chosen, component, parts_of, part_chosen, position}
use Rattle.hal_meaning.specs.States.{State, Evaluated, Gives, bind}
use Rattle.hal_meaning.specs.Tasks.{Meaning}
use Rattle.hal_meaning.specs.Variables.{MeantConstant, name_meant, spot_named}
use Rattle.hal_agreement.specs.Constants.{IsConstant}
use Rattle.hal_agreement.specs.PlacedExpressions.{IsPosition}
use Rattle.hal_agreement.specs.Sites.{Site, site_of, here_at}
use Rattle.hal_agreement.proofs.Expressing.{name_same}
use Rattle.hal_storage.specs.referents.Referents.{Referent, DataOf, ConstantOf, EventOf, BlockOf, BuiltinOf, Unmeant}
use Rattle.hal_gen_expr.specs.Referents.{referent}
use Rattle.hal_gen_expr.specs.Constants as known
use Rattle.hal_gen_expr.proofs.Referring.{meaning_of, name_means}

-- an operation that is known raises no error
result_given : (r : Result Value ErrNo) (v : Value) → result_ok r ≡ Some v → r ≡ Ok v
result_given (Ok w) v is = cc
result_given (Err e) v is = absurd (cc)

taken_given : (takes : Bool) (r : Result Value ErrNo) (v : Value) → (if takes then result_ok r else None) ≡ Some v → r ≡ Ok v
taken_given true r v is = result_given r v is
taken_given false r v is = absurd (cc)

one_given : (op : Op1) (o : Option Value) (b : Value) → known.apply_one op o ≡ Some b → (a : Value) × (o ≡ Some a) × (value_of_one op a ≡ Ok b)
one_given op (Some a) b is = (a, refl, taken_given (takes_one op a) (value_of_one op a) b is)
one_given op None b is = absurd (cc)

two_given : (op : Op2) (o p : Option Value) (c : Value) → known.apply_two op o p ≡ Some c → (a : Value) × (b : Value) × (o ≡ Some a) × (p ≡ Some b) × (value_of_two op a b ≡ Ok c)
two_given op (Some a) (Some b) c is = (a, b, refl, refl, taken_given (takes_two op a b) (value_of_two op a b) c is)
two_given op (Some a) None c is = absurd (cc)
two_given op None (Some b) c is = absurd (cc)
two_given op None None c is = absurd (cc)

part_given : (v : Value) (o : Option Part) (b : Value) → known.part_of v o ≡ Some b → (p : Part) × (o ≡ Some p) × (picked v p ≡ Ok b)
part_given v (Some p) b is = (p, refl, taken_given (has_components v) (picked v p) b is)
part_given v None b is = absurd (cc)

one_gives : (h : Here) (op : Op1) (a b : Value) (st : State) → value_of_one op a ≡ Ok b → apply_one h op a st ≡ Gives b st
one_gives h op a b st is = ap (λ (r : Result Value ErrNo). tested h r (mended_of_one op a) st) is

two_gives : (h : Here) (op : Op2) (a b c : Value) (st : State) → value_of_two op a b ≡ Ok c → apply_two h op a b st ≡ Gives c st
two_gives h op a b c st is = ap (λ (r : Result Value ErrNo). tested h r (mended_of_two op a b) st) is

part_gives : (h : Here) (v : Value) (p : Part) (b : Value) (st : State) → picked v p ≡ Ok b → part_of h p v st ≡ Gives b st
part_gives h v p b st is = ap (λ (r : Result Value ErrNo). tested h r (mended_pick v p) st) is

-- a sign before the first term
sign_given : (opening : Option Sign) (o : Option Value) (b : Value) → known.signed opening o ≡ Some b
    → (a : Value) × (o ≡ Some a) × ((h : Here) (st : State) → signed h opening a st ≡ Gives b st)
sign_given None o b is = (b, is, λ h st. refl)
sign_given (Some Plus) o b is = (b, is, λ h st. refl)
sign_given (Some Minus) o b is = let one = one_given op1.Minus o b is in (one.0, one.1, λ h st. one_gives h op1.Minus one.0 b st one.2)

-- what is an integer
some_given : (v w : Value) → Some v ≡ Some w → v ≡ w
some_given v w is = cc

part_is : (p q : Part) → Some p ≡ Some q → p ≡ q
part_is p q is = cc

integer_is : (v : Value) (k : ℤ) → known.value_integer v ≡ Some k → v ≡ value.Int k
integer_is (value.Int a) k is = cc
integer_is (value.Bits len word) k is = absurd (cc)
integer_is (value.Text text) k is = absurd (cc)

integer_given : (o : Option Value) (k : ℤ) → known.integer_in o ≡ Some k → o ≡ Some (value.Int k)
integer_given (Some v) k is = ap (λ (w : Value). Some w) (integer_is v k is)
integer_given None k is = absurd (cc)

-- places of a component
place_given : (o : Option ℤ) (p : Part) → known.one_place o ≡ Some p → (i : ℤ) × (o ≡ Some i) × (part.One i ≡ p)
place_given (Some i) p is = (i, refl, part_is (part.One i) p is)
place_given None p is = absurd (cc)

to_given : (o q : Option ℤ) (p : Part) → known.places_to o q ≡ Some p → (i : ℤ) × (j : ℤ) × (o ≡ Some i) × (q ≡ Some j) × (part.To i j ≡ p)
to_given (Some i) (Some j) p is = (i, j, refl, refl, part_is (part.To i j) p is)
to_given (Some i) None p is = absurd (cc)
to_given None (Some j) p is = absurd (cc)
to_given None None p is = absurd (cc)

at_given : (o q : Option ℤ) (p : Part) → known.places_at o q ≡ Some p → (n : ℤ) × (i : ℤ) × (o ≡ Some n) × (q ≡ Some i) × (part.At n i ≡ p)
at_given (Some n) (Some i) p is = (n, i, refl, refl, part_is (part.At n i) p is)
at_given (Some n) None p is = absurd (cc)
at_given None (Some i) p is = absurd (cc)
at_given None None p is = absurd (cc)

-- what is written
in_room : (fits : Bool) (a v : Value) → (if fits then Some a else None) ≡ Some v → a ≡ v
in_room true a v is = cc
in_room false a v is = absurd (cc)

whole_given : (number : ℕ) (v : Value) → known.whole number ≡ Some v → value.Int (pos number) ≡ v
whole_given number v is = in_room (nat_le number 2147483647) (value.Int (pos number)) v is

literal_given : (literal : LiteralValue) (v : Value) → known.literal_of literal ≡ Some v → literal_value literal ≡ v
literal_given (Integer number) v is = whole_given number v is
literal_given (Text text) v is = in_room (nat_le (length text) 255) (value.Text text) v is
literal_given (Bits len word) v is = cc
literal_given True v is = cc
literal_given False v is = cc
literal_given On v is = cc
literal_given Off v is = cc

raised_given : (place : Place) (literal : LiteralValue) (v : Value) → known.exponent_in literal ≡ Some v → exponent_of (Literal place literal) ≡ v
raised_given place (Integer number) v is = whole_given number v is
raised_given place (Text text) v is = absurd (cc)
raised_given place (Bits len word) v is = absurd (cc)
raised_given place True v is = absurd (cc)
raised_given place False v is = absurd (cc)
raised_given place On v is = absurd (cc)
raised_given place Off v is = absurd (cc)

exponent_given : (exponent : Expression) (v : Value) → known.exponent exponent ≡ Some v → exponent_of exponent ≡ v
exponent_given (Literal place literal) v is = raised_given place literal v is
exponent_given (Or place first others) v is = absurd (cc)
exponent_given (And place first others) v is = absurd (cc)
exponent_given (Compare place left relation right) v is = absurd (cc)
exponent_given (Cat place first others) v is = absurd (cc)
exponent_given (Sum place opening first others) v is = absurd (cc)
exponent_given (Product place first others) v is = absurd (cc)
exponent_given (Power place base exponent) v is = absurd (cc)
exponent_given (Not place operand) v is = absurd (cc)
exponent_given (Decimal place number) v is = absurd (cc)
exponent_given (Referred reference) v is = absurd (cc)
exponent_given (Called place name arguments) v is = absurd (cc)
exponent_given (Convert place conversion operand) v is = absurd (cc)
exponent_given (Parenthesis place inner) v is = absurd (cc)

-- what is referred to is a constant
constant_given : (r : Referent) (v : Value) → known.referent_value r ≡ Some v → r ≡ ConstantOf v
constant_given (ConstantOf w) v is = cc
constant_given (DataOf k kept shape) v is = absurd (cc)
constant_given (EventOf e) v is = absurd (cc)
constant_given (BlockOf unit) v is = absurd (cc)
constant_given (BuiltinOf one) v is = absurd (cc)
constant_given Unmeant v is = absurd (cc)

then_given : (o : Option Value) (go : Value → Option Value) (b : Value) → option_and_then go o ≡ Some b → (v : Value) × (o ≡ Some v) × (go v ≡ Some b)
then_given (Some v) go b is = (v, refl, is)
then_given None go b is = absurd (cc)

-- a condition and another one
disjoined : (b c : Bool) → b ≡ false → c ≡ false → (b || c) ≡ false
disjoined true c is same = absurd (cc)
disjoined false c is same = same

-- where nothing else may follow
only_given : (ends : Bool) (o : Option Value) (c : Value) → (if ends then o else None) ≡ Some c → (ends ≡ true) × (o ≡ Some c)
only_given true o c is = (refl, is)
only_given false o c is = absurd (cc)

ended : (list : Expressions) → no_more list ≡ true → list ≡ NoExpressions
unfolding no_more
ended NoExpressions is = refl
ended (MoreExpressions first others) is = absurd (cc)

-- SIZE is no operation
sized : (one : Builtin) → is_size one ≡ true → operation_of one ≡ operation.Size
unfolding operation_of
sized builtin.Size is = refl
sized builtin.Abs is = absurd (cc)
sized builtin.Div is = absurd (cc)
sized builtin.Index is = absurd (cc)
sized builtin.Length is = absurd (cc)
sized builtin.Ljust is = absurd (cc)
sized builtin.Mod is = absurd (cc)
sized builtin.Odd is = absurd (cc)
sized builtin.Remainder is = absurd (cc)
sized builtin.Rjust is = absurd (cc)
sized builtin.Shl is = absurd (cc)
sized builtin.Shr is = absurd (cc)
sized builtin.Signum is = absurd (cc)
sized builtin.Trim is = absurd (cc)
sized builtin.Xor is = absurd (cc)
sized builtin.Errgrp is = absurd (cc)
sized builtin.Errnum is = absurd (cc)
sized builtin.Runtime is = absurd (cc)
sized builtin.Max is = absurd (cc)
sized builtin.Min is = absurd (cc)
sized builtin.Prod is = absurd (cc)
sized builtin.Sum is = absurd (cc)

module _ (site : Site) where
  -- what is done gives this wherever it is done at the site
  abbrev Always : {A : Type 0} → (Meaning → Here → State → Evaluated A) → A → Type 0
  Always done a = (rec : Meaning) (h : Here) (st : State) → site_of h ≡ site → done rec h st ≡ Gives a st

  none_sized : (arguments : Expressions) (c : Value) → known.built site operation.Size arguments ≡ Some c → ⊥
  none_sized NoExpressions c is = absurd (cc)
  none_sized (MoreExpressions first others) c is = absurd (cc)

  no_size : (one : Builtin) (arguments : Expressions) (c : Value) → known.built site (operation_of one) arguments ≡ Some c → is_size one ≡ false
  no_size one arguments c is = by (is_size one) (sized one) where
    by : (b : Bool) → (b ≡ true → operation_of one ≡ operation.Size) → b ≡ false
    by true size = absurd (none_sized arguments c (sym (ap (λ op. known.built site op arguments) (size refl)) ∙ is))
    by false size = refl

  -- a name means the constant wherever it stands there
  refers_same : (h : Here) (name : List ℕ) (held : List Held) (r : Referent) → site_of h ≡ site → referent site name ≡ r → name_meant h name held ≡ meaning_of site held r
  refers_same h name held r same refers =
      sym (name_same h name held) ∙ (ap (λ s. name_meant (here_at s) name held) same ∙ (name_means site held name ∙ ap (λ q. meaning_of site held q) refers))

  named_at : (name : Naming) (v : Value) → known.named site name.name ≡ Some v → Always (λ rec h st. named_value rec h name st) v
  named_at name v is = λ rec h st same. ap (λ m. plain_value rec h [] m st) (refers_same h name.name st.kept.places (ConstantOf v) same (constant_given (referent site name.name) v is))

  -- what is known is no condition
  mutual
    plain : (tree : Expression) (v : Value) → known.value_of site tree ≡ Some v → is_condition tree ≡ false
    plain (Or place first others) v is =
        let rest = are_plain others op2.Or (known.value_of site first) v is in
        disjoined (is_condition first) (are_conditions others) (plain first rest.0 rest.1) rest.2
    plain (And place first others) v is =
        let rest = are_plain others op2.And (known.value_of site first) v is in
        disjoined (is_condition first) (are_conditions others) (plain first rest.0 rest.1) rest.2
    plain (Compare place left relation right) v is = absurd (cc)
    plain (Parenthesis place inner) v is = plain inner v is
    plain (Cat place first others) v is = refl
    plain (Sum place opening first others) v is = refl
    plain (Product place first others) v is = refl
    plain (Power place base exponent) v is = refl
    plain (Not place operand) v is = refl
    plain (Literal place literal) v is = refl
    plain (Decimal place number) v is = refl
    plain (Referred reference) v is = refl
    plain (Called place name arguments) v is = refl
    plain (Convert place conversion operand) v is = refl

    are_plain : (list : Expressions) (op : Op2) (o : Option Value) (v : Value) → known.folded site op o list ≡ Some v → (a : Value) × (o ≡ Some a) × (are_conditions list ≡ false)
    are_plain NoExpressions op o v is = (v, is, refl)
    are_plain (MoreExpressions first others) op o v is =
        let rest = are_plain others op (known.apply_two op o (known.value_of site first)) v is in
        let both = two_given op o (known.value_of site first) rest.0 rest.1 in
        (both.0, both.2, disjoined (is_condition first) (are_conditions others) (plain first both.1 both.3) rest.2)

  -- a name with a list, of which it is known what it is worth as operands of a product and as those of a built-in function
  called_at : (place : Place) (name : List ℕ) (arguments : Expressions) (r : Referent) (c : Value) → referent site name ≡ r
      → ((o : Option Value) (b : Value) → known.folded site op2.Product o arguments ≡ Some b → (a : Value) × (o ≡ Some a) × Always (λ rec h st. folded rec h op2.Product a arguments st) b)
      → ((op : Operation) (b : Value) → known.built site op arguments ≡ Some b → Always (λ rec h st. bind (values rec h arguments st) (λ vs after. built h op vs after)) b)
      → known.called (λ v. known.folded site op2.Product v arguments) (λ op. known.built site op arguments) r ≡ Some c → IsConstant site (Called place name arguments) c
  called_at place name arguments (ConstantOf v) c refers folds builds is =
      let product = folds (Some v) c is in
      λ rec h st same. ap (λ m. call_form rec h (size_argument h arguments st.kept.places) (λ unit before. passed rec h unit (inputs_at h.set unit) arguments before) (λ before. values rec h arguments before) (λ w after. folded rec h op2.Product w arguments after) m st) (refers_same h name st.kept.places (ConstantOf v) same refers)
      ∙ (ap (λ w. folded rec h op2.Product w arguments st) (some_given v product.0 product.1) ∙ product.2 rec h st same)
  called_at place name arguments (BuiltinOf one) c refers folds builds is =
      let worth = builds (operation_of one) c is in
      λ rec h st same. ap (λ m. call_form rec h (size_argument h arguments st.kept.places) (λ unit before. passed rec h unit (inputs_at h.set unit) arguments before) (λ before. values rec h arguments before) (λ w after. folded rec h op2.Product w arguments after) m st) (refers_same h name st.kept.places (BuiltinOf one) same refers)
      ∙ (ap (λ b. if b then Gives (size_argument h arguments st.kept.places) st else bind (values rec h arguments st) (λ vs after. built h (operation_of one) vs after)) (no_size one arguments c is) ∙ worth rec h st same)
  called_at place name arguments (DataOf k kept shape) c refers folds builds is = absurd (cc)
  called_at place name arguments (EventOf e) c refers folds builds is = absurd (cc)
  called_at place name arguments (BlockOf unit) c refers folds builds is = absurd (cc)
  called_at place name arguments Unmeant c refers folds builds is = absurd (cc)

  mutual
    pub value_at : (tree : Expression) (b : Value) → known.value_of site tree ≡ Some b → IsConstant site tree b
    value_at (Or place first others) b is =
        let rest = joined_at others op2.Or (known.value_of site first) b is in
        let begun = value_at first rest.0 rest.1 in
        let none = plain first rest.0 rest.1 in
        λ rec h st same. ap (λ c. bind (expression rec h first st) (λ v after. joined rec h op2.Or c v others after)) none
        ∙ (ap (λ r. bind r (λ v after. joined rec h op2.Or false v others after)) (begun rec h st same) ∙ rest.2 rec h st same)
    value_at (And place first others) b is =
        let rest = joined_at others op2.And (known.value_of site first) b is in
        let begun = value_at first rest.0 rest.1 in
        let none = plain first rest.0 rest.1 in
        λ rec h st same. ap (λ c. bind (expression rec h first st) (λ v after. joined rec h op2.And c v others after)) none
        ∙ (ap (λ r. bind r (λ v after. joined rec h op2.And false v others after)) (begun rec h st same) ∙ rest.2 rec h st same)
    value_at (Compare place left relation right) b is = absurd (cc)
    value_at (Cat place first others) b is =
        let rest = folded_at others op2.Cat (known.value_of site first) b is in
        let begun = value_at first rest.0 rest.1 in
        λ rec h st same. ap (λ r. bind r (λ v after. folded rec h op2.Cat v others after)) (begun rec h st same) ∙ rest.2 rec h st same
    value_at (Sum place opening first others) b is =
        let rest = summed_at others (known.signed opening (known.value_of site first)) b is in
        let sign = sign_given opening (known.value_of site first) rest.0 rest.1 in
        let begun = value_at first sign.0 sign.1 in
        λ rec h st same. ap (λ r. bind r (λ v after. bind (signed h opening v after) (λ w later. summed rec h w others later))) (begun rec h st same)
        ∙ (ap (λ r. bind r (λ w later. summed rec h w others later)) (sign.2 h st) ∙ rest.2 rec h st same)
    value_at (Product place first others) b is =
        let rest = folded_at others op2.Product (known.value_of site first) b is in
        let begun = value_at first rest.0 rest.1 in
        λ rec h st same. ap (λ r. bind r (λ v after. folded rec h op2.Product v others after)) (begun rec h st same) ∙ rest.2 rec h st same
    value_at (Power place base exponent) b is =
        let both = two_given op2.Power (known.value_of site base) (known.exponent exponent) b is in
        let begun = value_at base both.0 both.2 in
        λ rec h st same. ap (λ r. bind r (λ v after. apply_two h op2.Power v (exponent_of exponent) after)) (begun rec h st same)
        ∙ (ap (λ w. apply_two h op2.Power both.0 w st) (exponent_given exponent both.1 both.3) ∙ two_gives h op2.Power both.0 both.1 b st both.4)
    value_at (Not place operand) b is =
        let one = one_given op1.Not (known.value_of site operand) b is in
        let begun = value_at operand one.0 one.1 in
        λ rec h st same. ap (λ r. bind r (λ v after. apply_one h op1.Not v after)) (begun rec h st same) ∙ one_gives h op1.Not one.0 b st one.2
    value_at (Literal place literal) b is = λ rec h st same. ap (λ v. Gives v st) (literal_given literal b is)
    value_at (Decimal place number) b is = absurd (cc)
    value_at (Referred reference) b is = reference_at reference b is
    value_at (Called place name arguments) b is =
        called_at place name arguments (referent site name) b refl (λ o c there. folded_at arguments op2.Product o c there) (λ op c there. built_at arguments op c there) is
    value_at (Convert place conversion operand) b is =
        let one = one_given (operation_of_conversion conversion) (known.value_of site operand) b is in
        let begun = value_at operand one.0 one.1 in
        λ rec h st same. ap (λ r. bind r (λ v after. apply_one h (operation_of_conversion conversion) v after)) (begun rec h st same)
        ∙ one_gives h (operation_of_conversion conversion) one.0 b st one.2
    value_at (Parenthesis place inner) b is = value_at inner b is

    -- operands of AND or OR behind a value, none of which is a condition
    joined_at : (list : Expressions) (op : Op2) (o : Option Value) (b : Value) → known.folded site op o list ≡ Some b → (a : Value) × (o ≡ Some a) × Always (λ rec h st. joined rec h op false a list st) b
    joined_at NoExpressions op o b is = (b, is, λ rec h st same. refl)
    joined_at (MoreExpressions first others) op o b is =
        let rest = joined_at others op (known.apply_two op o (known.value_of site first)) b is in
        let both = two_given op o (known.value_of site first) rest.0 rest.1 in
        let next = value_at first both.1 both.3 in
        let none = plain first both.1 both.3 in (
          both.0,
          both.2,
          λ rec h st same. ap (λ c. bind (expression rec h first st) (λ w after. bind (apply_two h op (as_operand (c && not false) both.0) w after) (λ x later. joined rec h op c x others later))) none
              ∙ (ap (λ r. bind r (λ w after. bind (apply_two h op both.0 w after) (λ x later. joined rec h op false x others later))) (next rec h st same)
              ∙ (ap (λ r. bind r (λ x later. joined rec h op false x others later)) (two_gives h op both.0 both.1 rest.0 st both.4) ∙ rest.2 rec h st same)),
        )

    -- operands behind a value
    folded_at : (list : Expressions) (op : Op2) (o : Option Value) (b : Value) → known.folded site op o list ≡ Some b → (a : Value) × (o ≡ Some a) × Always (λ rec h st. folded rec h op a list st) b
    folded_at NoExpressions op o b is = (b, is, λ rec h st same. refl)
    folded_at (MoreExpressions first others) op o b is =
        let rest = folded_at others op (known.apply_two op o (known.value_of site first)) b is in
        let both = two_given op o (known.value_of site first) rest.0 rest.1 in
        let next = value_at first both.1 both.3 in (
          both.0,
          both.2,
          λ rec h st same. ap (λ r. bind r (λ w after. bind (apply_two h op both.0 w after) (λ x later. folded rec h op x others later))) (next rec h st same)
              ∙ (ap (λ r. bind r (λ x later. folded rec h op x others later)) (two_gives h op both.0 both.1 rest.0 st both.4) ∙ rest.2 rec h st same),
        )

    -- terms behind a value
    summed_at : (list : Terms) (o : Option Value) (b : Value) → known.summed site o list ≡ Some b → (a : Value) × (o ≡ Some a) × Always (λ rec h st. summed rec h a list st) b
    summed_at NoTerms o b is = (b, is, λ rec h st same. refl)
    summed_at (MoreTerms place sign term others) o b is =
        let rest = summed_at others (known.apply_two (operation_of_sign sign) o (known.value_of site term)) b is in
        let both = two_given (operation_of_sign sign) o (known.value_of site term) rest.0 rest.1 in
        let next = value_at term both.1 both.3 in (
          both.0,
          both.2,
          λ rec h st same. ap (λ r. bind r (λ w after. bind (apply_two h (operation_of_sign sign) both.0 w after) (λ x later. summed rec h x others later))) (next rec h st same)
              ∙ (ap (λ r. bind r (λ x later. summed rec h x others later)) (two_gives h (operation_of_sign sign) both.0 both.1 rest.0 st both.4) ∙ rest.2 rec h st same),
        )

    -- a built-in function of these arguments
    built_at : (list : Expressions) (op : Operation) (b : Value) → known.built site op list ≡ Some b → Always (λ rec h st. bind (values rec h list st) (λ vs after. built h op vs after)) b
    built_at (MoreExpressions first others) (operation.One op) b is =
        let only = only_given (no_more others) (known.apply_one op (known.value_of site first)) b is in
        let one = one_given op (known.value_of site first) b only.1 in
        let begun = value_at first one.0 one.1 in
        λ rec h st same. ap (λ r. bind (bind r (λ v after. bind (values rec h others after) (λ vs later. Gives (v ∷ vs) later))) (λ vs after. built h (operation.One op) vs after)) (begun rec h st same)
        ∙ (ap (λ list. bind (bind (values rec h list st) (λ vs later. Gives (one.0 ∷ vs) later)) (λ vs after. built h (operation.One op) vs after)) (ended others only.0) ∙ one_gives h op one.0 b st one.2)
    built_at (MoreExpressions first others) (operation.Two op) b is =
        let second = second_at others op (known.value_of site first) b is in
        let begun = value_at first second.0 second.2 in
        λ rec h st same. ap (λ r. bind (bind r (λ v after. bind (values rec h others after) (λ vs later. Gives (v ∷ vs) later))) (λ vs after. built h (operation.Two op) vs after)) (begun rec h st same)
        ∙ (ap (λ r. bind (bind r (λ vs later. Gives (second.0 ∷ vs) later)) (λ vs after. built h (operation.Two op) vs after)) (second.4 rec h st same) ∙ two_gives h op second.0 second.1 b st second.3)
    built_at (MoreExpressions first others) operation.Size b is = absurd (cc)
    built_at (MoreExpressions first others) operation.Nothing b is = absurd (cc)
    built_at NoExpressions (operation.One op) b is = absurd (cc)
    built_at NoExpressions (operation.Two op) b is = absurd (cc)
    built_at NoExpressions operation.Size b is = absurd (cc)
    built_at NoExpressions operation.Nothing b is = absurd (cc)

    -- of an argument and one more
    second_at : (list : Expressions) (op : Op2) (o : Option Value) (b : Value) → known.built_second site op o list ≡ Some b
        → (a : Value) × (c : Value) × (o ≡ Some a) × (value_of_two op a c ≡ Ok b) × Always (λ rec h st. values rec h list st) (c ∷ [])
    second_at NoExpressions op o b is = absurd (cc)
    second_at (MoreExpressions first others) op o b is =
        let only = only_given (no_more others) (known.apply_two op o (known.value_of site first)) b is in
        let both = two_given op o (known.value_of site first) b only.1 in
        let begun = value_at first both.1 both.3 in (
          both.0,
          both.1,
          both.2,
          both.4,
          λ rec h st same. ap (λ r. bind r (λ v after. bind (values rec h others after) (λ vs later. Gives (v ∷ vs) later))) (begun rec h st same)
              ∙ ap (λ list. bind (values rec h list st) (λ vs later. Gives (both.1 ∷ vs) later)) (ended others only.0),
        )

    -- a reference to a constant
    reference_at : (reference : Reference) (b : Value) → known.referred site reference ≡ Some b → IsConstant site (Referred reference) b
    reference_at (Refers place name path subscript) b is =
        let chosen = then_given (known.named site name) (λ v. known.component site v subscript) b is in
        let begun = component_at subscript chosen.0 b chosen.2 in
        λ rec h st same. ap (λ m. subscripted rec h path (λ shape before. data_chosen rec h path subscript (spot_named h name) shape before) (λ arrayed v after. component rec h arrayed subscript v after) m st)
        (refers_same h name st.kept.places (ConstantOf chosen.0) same (constant_given (referent site name) chosen.0 chosen.1))
        ∙ begun rec h st same

    -- a component of a value
    component_at : (subscript : Subscript) (v b : Value) → known.component site v subscript ≡ Some b → Always (λ rec h st. component rec h false subscript v st) b
    component_at Unsubscripted v b is = λ rec h st same. ap (λ w. Gives w st) (some_given v b is)
    component_at (ByName place name) v b is =
        let chosen = part_given v (known.one_place (known.integer_in (known.named site name.name))) b is in
        let one = place_given (known.integer_in (known.named site name.name)) chosen.0 chosen.1 in
        let begun = named_at name (value.Int one.0) (integer_given (known.named site name.name) one.0 one.1) in
        λ rec h st same. ap (λ r. bind r (λ i after. part_of h (part.One (numbers.integer_of i)) v after)) (begun rec h st same)
        ∙ (ap (λ p. part_of h p v st) one.2 ∙ part_gives h v chosen.0 b st chosen.2)
    component_at (ByInteger place mark number) v b is =
        let chosen = part_given v (known.one_place (known.integer_in (known.whole number))) b is in
        let one = place_given (known.integer_in (known.whole number)) chosen.0 chosen.1 in
        let written = whole_given number (value.Int one.0) (integer_given (known.whole number) one.0 one.1) in
        λ rec h st same. ap (λ i. part_of h (part.One (numbers.integer_of i)) v st) written ∙ (ap (λ p. part_of h p v st) one.2 ∙ part_gives h v chosen.0 b st chosen.2)
    component_at (ByParts place copies arrays components) v b is = parts_at components v b is

    parts_at : (list : Subscripts) (v b : Value) → known.parts_of site v list ≡ Some b → Always (λ rec h st. parts_of rec h list v st) b
    parts_at NoSubscripts v b is = absurd (cc)
    parts_at (MoreSubscripts first others) v b is =
        let chosen = part_given v (known.part_chosen site (place_count v) first) b is in
        let begun = places_at first (place_count v) chosen.0 chosen.1 in
        λ rec h st same. ap (λ r. bind r (λ p after. part_of h p v after)) (begun rec h st same) ∙ part_gives h v chosen.0 b st chosen.2

    -- its places
    places_at : (sub : Sub) (size : ℕ) (p : Part) → known.part_chosen site size sub ≡ Some p → Always (λ rec h st. part_chosen rec h size sub st) p
    places_at (Every there) size p is = λ rec h st same. ap (λ q. Gives q st) (part_is (part.To (pos 1) (pos size)) p is)
    places_at (OnePlace one) size p is =
        let single = place_given (known.place_of site size one) p is in
        let begun = position_at one size single.0 single.1 in
        λ rec h st same. ap (λ r. bind r (λ i after. Gives (part.One i) after)) (begun rec h st same) ∙ ap (λ q. Gives q st) single.2
    places_at (Range first last) size p is =
        let both = to_given (known.place_of site size first) (known.place_of site size last) p is in
        let begun = position_at first size both.0 both.2 in
        let ends = position_at last size both.1 both.3 in
        λ rec h st same. ap (λ r. bind r (λ i after. bind (position rec h size last after) (λ j later. Gives (part.To i j) later))) (begun rec h st same)
        ∙ (ap (λ r. bind r (λ j later. Gives (part.To both.0 j) later)) (ends rec h st same) ∙ ap (λ q. Gives q st) both.4)
    places_at (Portion count first) size p is =
        let both = at_given (known.integer_in (known.value_of site count)) (known.place_of site size first) p is in
        let begun = value_at count (value.Int both.0) (integer_given (known.value_of site count) both.0 both.2) in
        let ends = position_at first size both.1 both.3 in
        λ rec h st same. ap (λ r. bind r (λ n after. bind (position rec h size first after) (λ i later. Gives (part.At (numbers.integer_of n) i) later))) (begun rec h st same)
        ∙ (ap (λ r. bind r (λ i later. Gives (part.At both.0 i) later)) (ends rec h st same) ∙ ap (λ q. Gives q st) both.4)

    -- one place
    position_at : (one : Position) (size : ℕ) (k : ℤ) → known.place_of site size one ≡ Some k → Always (λ rec h st. position rec h size one st) k
    position_at (FromBeginning tree) size k is =
        let begun = value_at tree (value.Int k) (integer_given (known.value_of site tree) k is) in
        λ rec h st same. ap (λ r. bind r (λ v after. Gives (numbers.integer_of v) after)) (begun rec h st same)
    position_at (FromEnd there terms) size k is =
        let sum = summed_at terms (Some (value.Int (pos size))) (value.Int k) (integer_given (known.summed site (Some (value.Int (pos size))) terms) k is) in
        λ rec h st same. ap (λ a. bind (summed rec h a terms st) (λ v after. Gives (numbers.integer_of v) after)) (some_given (value.Int (pos size)) sum.0 sum.1)
        ∙ ap (λ r. bind r (λ v after. Gives (numbers.integer_of v) after)) (sum.2 rec h st same)

  -- an integer that is known
  pub constant_at : (tree : Expression) (b : ℤ) → known.integer_of site tree ≡ Some b → IsConstant site tree (value.Int b)
  constant_at tree b is = value_at tree (value.Int b) (integer_given (known.value_of site tree) b is)

  -- a place of a dimension that is known
  pub place_at : (one : Position) (size : ℕ) (k : ℤ) → known.place_of site size one ≡ Some k → IsPosition site size one k
  place_at (FromBeginning tree) size k is = constant_at tree k is
  place_at (FromEnd there terms) size k is =
      let sum = summed_at terms (Some (value.Int (pos size))) (value.Int k) (integer_given (known.summed site (Some (value.Int (pos size))) terms) k is) in
      λ rec h st same. ap (λ a. summed rec h a terms st) (some_given (value.Int (pos size)) sum.0 sum.1) ∙ sum.2 rec h st same
