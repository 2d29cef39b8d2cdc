-- Values of constants are right ones, whatever rules are broken, but for literals of bits.
use Rattle.std.proofs.Common.{◌≡◌, ℕ, ◌^◌, pos, length, Bool, true, false, ◌&&◌, List, [], Option, Some, None, slice_get, refl, sym, subst, arith}
use Rattle.std.specs.Prelude.{nat_le, nat_lt, if◌then◌else◌, Result, Ok, Err, IfOk}
use Rattle.std.specs.Option.{is_some}
use Rattle.std.proofs.lemmas.Bool.{and_parts, leb-true, ltb-true}
use Rattle.hal_grammar.specs.Leaves.{Naming, Sign, Plus, Minus, LiteralValue, Integer, Text, Bits, True, False, On, Off}
use Rattle.hal_grammar.specs.Expressions.{Expression, Or, And, Compare, Cat, Sum, Product, Power, Not, Literal, Decimal, Referred, Called, Convert, Parenthesis, Expressions, NoExpressions, MoreExpressions, Terms, NoTerms, MoreTerms, Reference, Refers, Subscript, Unsubscripted, ByName, ByInteger, ByParts, Subscripts, NoSubscripts, MoreSubscripts, Sub, Every, One, Range, Portion}
use Rattle.hal_phrases.specs.Phrases.{Node, Phrase, OfTemplate, OfUnit, OfItem, OfTemporaryGroup}
use Rattle.hal_names.specs.Means.{means}
use Rattle.hal_scope.specs.Builtins.{builtin_named}
use Rattle.hal_scope.specs.Uses.{is_nil}
use Rattle.hal_kinds.specs.Attributes.{no_more}
use Rattle.hal_values.specs.declared.value.Value.{Value}
use Rattle.hal_values.specs.declared.value.Value.TheVariants as value
use Rattle.hal_values.specs.declared.environment.ErrNo.{ErrNo}
use Rattle.hal_operations.specs.declared.operation.Op1.{Op1}
use Rattle.hal_operations.specs.declared.operation.Op1.TheVariants as op1
use Rattle.hal_operations.specs.declared.operation.Op2.{Op2}
use Rattle.hal_operations.specs.declared.operation.Op2.TheVariants as op2
use Rattle.hal_operations.specs.declared.part.Part.{Part}
use Rattle.hal_operations.specs.declared.part.Part.TheVariants as part
use Rattle.hal_operations.specs.Operands.{IsString}
use Rattle.hal_operations.specs.Parts.{picked, place_count}
use Rattle.hal_operations.specs.Values.{value_of_one, value_of_two}
use Rattle.hal_sound_values.specs.Right.{IsRight, IsPart}
use Rattle.hal_sound_values.proofs.Near.{near_integer}
use Rattle.hal_sound_values.proofs.RightResults.{one_right, two_right}
use Rattle.hal_sound_values.proofs.KindsKept.{picked_is}
use Rattle.hal_constants.specs.declared.constant.Constant.{Constant}
use Rattle.hal_constants.specs.declared.constant.Constant.TheVariants as constant
use Rattle.hal_constants.specs.declared.operation.Operation.{Operation}
use Rattle.hal_constants.specs.declared.operation.Operation.TheVariants as operation
use Rattle.hal_constants.specs.Operands.{is_string, takes_string, takes_strings, takes_one, takes_two, has_components}
use Rattle.hal_constants.specs.Results.{worth, worse, apply_one, apply_two, whole, component, component_at, component_to, component_from, picked_one, picked_to, picked_from}
use Rattle.hal_constants.specs.Naming.{is_value_item, is_before, value_at, constant_known, constant_at, undeclared, constant_named, literal_constant, operation_named}
use Rattle.hal_constants.specs.Constants.{operation_of_sign, signed, raised_to, raised, operation_of_conversion, is_none, factor_at, called_at, constant_of, folded, summed, computed, computed_second, multiplied, referred, subscripted, component_of, component_by, place_of}
use Rattle.hal_constants.specs.Known.{Known}

-- a right value, or bits
abbrev pub IsLoose : Value → Type 0
IsLoose (value.Int a) = IsRight (value.Int a)
IsLoose (value.Bits len word) = Unit {0}
IsLoose (value.Text text) = IsRight (value.Text text)

abbrev pub IsLooseConstant : Constant → Type 0
IsLooseConstant (constant.Worth v) = IsLoose v
IsLooseConstant constant.Failed = Unit {0}
IsLooseConstant constant.Open = Unit {0}
IsLooseConstant constant.Unfit = Unit {0}

pub right_loose : (v : Value) → IsRight v → IsLoose v
right_loose (value.Int a) is = is
right_loose (value.Bits len word) is = tt
right_loose (value.Text text) is = is

pub string_is : (len word : ℕ) → is_string len word ≡ true → IsString len word
string_is len word is =
    let first = and_parts (nat_le 1 len) (nat_le len 32 && nat_lt word (2 ^ len)) is in
    let second = and_parts (nat_le len 32) (nat_lt word (2 ^ len)) first.1 in
    (leb-true 1 len first.0, leb-true len 32 second.0, ltb-true word (2 ^ len) second.1)

pub worth_loose : (r : Result Value ErrNo) → IfOk r IsRight → IsLooseConstant (worth r)
unfolding worth
worth_loose (Ok v) is = right_loose v is
worth_loose (Err e) is = tt

-- what is tried before it is a constant
either : (b : Bool) (c d : Constant) → (b ≡ true → IsLooseConstant c) → IsLooseConstant d → IsLooseConstant (if b then c else d)
either true c d first second = first refl
either false c d first second = second

taken_right : (op : Op1) (v : Value) → takes_one op v ≡ true → IsLoose v → IsRight v
unfolding takes_one
taken_right op (value.Int a) takes is = is
taken_right op (value.Bits len word) takes is = string_is len word (and_parts (takes_string op) (is_string len word) takes).1
taken_right op (value.Text text) takes is = is

pub one_loose : (op : Op1) (c : Constant) → IsLooseConstant c → IsLooseConstant (apply_one op c)
unfolding apply_one
one_loose op (constant.Worth v) is = either (takes_one op v) (worth (value_of_one op v)) constant.Unfit (λ takes. worth_loose (value_of_one op v) (one_right op v (taken_right op v takes is))) tt
one_loose op constant.Failed is = tt
one_loose op constant.Open is = tt
one_loose op constant.Unfit is = tt

both_right : (op : Op2) (v w : Value) → takes_two op v w ≡ true → IsLoose v → IsLoose w → IsRight v × IsRight w
unfolding takes_two
both_right op (value.Int a) (value.Int b) takes is also = (is, also)
both_right op (value.Int a) (value.Text y) takes is also = (is, also)
both_right op (value.Int a) (value.Bits n y) takes is also = absurd (cc)
both_right op (value.Bits m x) (value.Bits n y) takes is also =
    let strings = and_parts (is_string m x) (is_string n y) (and_parts (takes_strings op) (is_string m x && is_string n y) takes).1 in
    (string_is m x strings.0, string_is n y strings.1)
both_right op (value.Bits m x) (value.Int b) takes is also = absurd (cc)
both_right op (value.Bits m x) (value.Text y) takes is also = absurd (cc)
both_right op (value.Text x) (value.Int b) takes is also = (is, also)
both_right op (value.Text x) (value.Text y) takes is also = (is, also)
both_right op (value.Text x) (value.Bits n y) takes is also = absurd (cc)

-- of constants that aren't both values the result is none
worse_loose : (c d : Constant) → IsLooseConstant (worse c d)
unfolding worse
worse_loose constant.Open d = tt
worse_loose (constant.Worth v) constant.Open = tt
worse_loose constant.Failed constant.Open = tt
worse_loose constant.Unfit constant.Open = tt
worse_loose constant.Unfit (constant.Worth w) = tt
worse_loose constant.Unfit constant.Failed = tt
worse_loose constant.Unfit constant.Unfit = tt
worse_loose (constant.Worth v) constant.Unfit = tt
worse_loose constant.Failed constant.Unfit = tt
worse_loose (constant.Worth v) (constant.Worth w) = tt
worse_loose (constant.Worth v) constant.Failed = tt
worse_loose constant.Failed (constant.Worth w) = tt
worse_loose constant.Failed constant.Failed = tt

pub two_loose : (op : Op2) (c d : Constant) → IsLooseConstant c → IsLooseConstant d → IsLooseConstant (apply_two op c d)
unfolding apply_two
two_loose op (constant.Worth v) (constant.Worth w) is also =
    either (takes_two op v w) (worth (value_of_two op v w)) constant.Unfit
    (λ takes. let rights = both_right op v w takes is also in worth_loose (value_of_two op v w) (two_right op v w rights.0 rights.1)) tt
two_loose op (constant.Worth v) constant.Failed is also = worse_loose (constant.Worth v) constant.Failed
two_loose op (constant.Worth v) constant.Open is also = worse_loose (constant.Worth v) constant.Open
two_loose op (constant.Worth v) constant.Unfit is also = worse_loose (constant.Worth v) constant.Unfit
two_loose op constant.Failed d is also = worse_loose constant.Failed d
two_loose op constant.Open d is also = worse_loose constant.Open d
two_loose op constant.Unfit d is also = worse_loose constant.Unfit d

-- an integer that isn't too great is right
pub whole_right : (n : ℕ) → nat_le n 2147483647 ≡ true → IsRight (value.Int (pos n))
whole_right n small = near_integer (pos n) (omega (arith, leb-true n 2147483647 small))

pub whole_loose : (n : ℕ) → IsLooseConstant (whole n)
whole_loose n = either (nat_le n 2147483647) (constant.Worth (value.Int (pos n))) constant.Failed (whole_right n) tt

pub literal_loose : (x : LiteralValue) → IsLooseConstant (literal_constant x)
unfolding literal_constant
literal_loose (Integer number) = whole_loose number
literal_loose (Text text) = either (nat_le (length text) 255) (constant.Worth (value.Text text)) constant.Failed (λ small. leb-true (length text) 255 small) tt
literal_loose (Bits len bits) = tt
literal_loose True = tt
literal_loose On = tt
literal_loose False = tt
literal_loose Off = tt

pub signed_loose : (o : Option Sign) (c : Constant) → IsLooseConstant c → IsLooseConstant (signed o c)
unfolding signed
signed_loose None c is = is
signed_loose (Some Plus) c is = is
signed_loose (Some Minus) c is = one_loose op1.Minus c is

raised_to_loose : (c : Constant) (x : LiteralValue) → IsLooseConstant c → IsLooseConstant (raised_to c x)
unfolding raised_to
raised_to_loose c (Integer n) is = two_loose op2.Power c (whole n) is (whole_loose n)
raised_to_loose c (Text text) is = tt
raised_to_loose c (Bits len bits) is = tt
raised_to_loose c True is = tt
raised_to_loose c False is = tt
raised_to_loose c On is = tt
raised_to_loose c Off is = tt

raised_loose : (c : Constant) (t : Expression) → IsLooseConstant c → IsLooseConstant (raised c t)
unfolding raised
raised_loose c (Literal place literal) is = raised_to_loose c literal is
raised_loose c other is = tt

-- components
part_right : (v w : Value) (p : Part) → IsRight v → IsPart p v w → IsRight w
part_right (value.Int a) w p is of_part = subst IsRight (sym of_part) is
part_right (value.Bits len word) w p is of_part = of_part.0.right
part_right (value.Text text) w p is of_part = of_part.0.right

parted : (v : Value) (p : Part) (r : Result Value ErrNo) → IsRight v → IfOk r (IsPart p v) → IfOk r IsRight
parted v p (Ok w) is of_part = part_right v w p is of_part
parted v p (Err e) is of_part = tt

pub having_right : (v : Value) → has_components v ≡ true → IsLoose v → IsRight v
unfolding has_components
having_right (value.Int a) has is = is
having_right (value.Bits len word) has is = string_is len word has
having_right (value.Text text) has is = is

pub component_loose : (v : Value) (p : Part) → IsLoose v → IsLooseConstant (component v p)
component_loose v p is =
    either (has_components v) (worth (picked v p)) constant.Unfit
    (λ has. let right = having_right v has is in worth_loose (picked v p) (parted v p (picked v p) right (picked_is v p right))) tt

at_loose : (v i : Value) → IsLoose v → IsLooseConstant (component_at v i)
unfolding component_at
at_loose v (value.Int i) is = component_loose v (part.One i) is
at_loose v (value.Bits len word) is = tt
at_loose v (value.Text text) is = tt

to_loose : (v i j : Value) → IsLoose v → IsLooseConstant (component_to v i j)
unfolding component_to
to_loose v (value.Int i) (value.Int j) is = component_loose v (part.To i j) is
to_loose v (value.Int i) (value.Bits len word) is = tt
to_loose v (value.Int i) (value.Text text) is = tt
to_loose v (value.Bits len word) j is = tt
to_loose v (value.Text text) j is = tt

from_loose : (v i j : Value) → IsLoose v → IsLooseConstant (component_from v i j)
unfolding component_from
from_loose v (value.Int i) (value.Int j) is = component_loose v (part.At i j) is
from_loose v (value.Int i) (value.Bits len word) is = tt
from_loose v (value.Int i) (value.Text text) is = tt
from_loose v (value.Bits len word) j is = tt
from_loose v (value.Text text) j is = tt

one_picked : (v : Value) (c : Constant) → IsLoose v → IsLooseConstant (picked_one v c)
unfolding picked_one
one_picked v (constant.Worth i) is = at_loose v i is
one_picked v constant.Failed is = tt
one_picked v constant.Open is = tt
one_picked v constant.Unfit is = tt

to_picked : (v : Value) (c d : Constant) → IsLoose v → IsLooseConstant (picked_to v c d)
unfolding picked_to
to_picked v (constant.Worth i) (constant.Worth j) is = to_loose v i j is
to_picked v (constant.Worth i) constant.Failed is = worse_loose (constant.Worth i) constant.Failed
to_picked v (constant.Worth i) constant.Open is = worse_loose (constant.Worth i) constant.Open
to_picked v (constant.Worth i) constant.Unfit is = worse_loose (constant.Worth i) constant.Unfit
to_picked v constant.Failed d is = worse_loose constant.Failed d
to_picked v constant.Open d is = worse_loose constant.Open d
to_picked v constant.Unfit d is = worse_loose constant.Unfit d

from_picked : (v : Value) (c d : Constant) → IsLoose v → IsLooseConstant (picked_from v c d)
unfolding picked_from
from_picked v (constant.Worth i) (constant.Worth j) is = from_loose v i j is
from_picked v (constant.Worth i) constant.Failed is = worse_loose (constant.Worth i) constant.Failed
from_picked v (constant.Worth i) constant.Open is = worse_loose (constant.Worth i) constant.Open
from_picked v (constant.Worth i) constant.Unfit is = worse_loose (constant.Worth i) constant.Unfit
from_picked v constant.Failed d is = worse_loose constant.Failed d
from_picked v constant.Open d is = worse_loose constant.Open d
from_picked v constant.Unfit d is = worse_loose constant.Unfit d

-- the values that are known are loose
abbrev pub AreLoose : Known → Type 0
AreLoose vs = (k : ℕ) (v : Value) → value_at vs k ≡ Some v → IsLoose v

module _ (ps : List Phrase) (vs : Known) (known_loose : AreLoose vs) (p : Phrase) where
  at_number : (k : ℕ) (o : Option Value) → value_at vs k ≡ o → IsLooseConstant (constant_known o)
  unfolding constant_known
  at_number k None is = tt
  at_number k (Some v) is = known_loose k v is

  declared_loose : (q : Phrase) (path : List Naming) (n : Node) → IsLooseConstant (constant_at ps vs p q path n)
  unfolding constant_at
  declared_loose q path (OfItem common item) =
      either (is_nil path && (is_value_item common item && is_before ps p q)) (constant_known (value_at vs q.number)) constant.Open (λ before. at_number q.number (value_at vs q.number) refl) tt
  declared_loose q path other = tt

  phrase_loose : (path : List Naming) (o : Option Phrase) → IsLooseConstant (elim o [ None ↦ constant.Unfit | Some q ↦ constant_at ps vs p q path q.node ])
  phrase_loose path None = tt
  phrase_loose path (Some q) = declared_loose q path q.node

  meant_loose : (name : List ℕ) (path : List Naming) (o : Option ℕ)
      → IsLooseConstant (elim o [ None ↦ undeclared name | Some k ↦ elim (slice_get ps k) [ None ↦ constant.Unfit | Some q ↦ constant_at ps vs p q path q.node ] ])
  meant_loose name path None = either (is_some (builtin_named name)) constant.Open constant.Unfit (λ is. tt) tt
  meant_loose name path (Some k) = phrase_loose path (slice_get ps k)

  pub named_loose : (name : List ℕ) (path : List Naming) → IsLooseConstant (constant_named ps vs p name path)
  named_loose name path = meant_loose name path (means ps p.around.block name)

  factor_loose : (q : Phrase) (n : Node) → IsLooseConstant (factor_at ps vs p q n)
  unfolding factor_at
  factor_loose q (OfItem common item) = declared_loose q [] (OfItem common item)
  factor_loose q (OfTemporaryGroup labels variable) = tt
  factor_loose q (OfTemplate name head declarations) = tt
  factor_loose q (OfUnit name head declarations) = tt
  factor_loose q other = tt

  called_loose : (o : Option Phrase) → IsLooseConstant (elim o [ None ↦ constant.Unfit | Some q ↦ factor_at ps vs p q q.node ])
  called_loose None = tt
  called_loose (Some q) = factor_loose q q.node

  -- the call form of a name, by what it means
  form_loose : (name : List ℕ) (ts : Expressions) (o : Option ℕ) → IsLooseConstant (computed ps vs p (operation_named name) ts) → ((k : ℕ) → IsLooseConstant (multiplied ps vs p (called_at ps vs p k) ts))
      → IsLooseConstant (elim o [ None ↦ computed ps vs p (operation_named name) ts | Some k ↦ multiplied ps vs p (called_at ps vs p k) ts ])
  form_loose name ts None built each = built
  form_loose name ts (Some k) built each = each k

  -- what a subscript chooses of a constant
  reference_loose : (x : Subscript) (c : Constant) → IsLooseConstant c → ((v : Value) → IsLoose v → IsLooseConstant (subscripted ps vs p v x))
      → IsLooseConstant (elim c [ constant.Worth v ↦ subscripted ps vs p v x | constant.Failed ↦ constant.Failed | constant.Open ↦ constant.Open | constant.Unfit ↦ constant.Unfit ])
  reference_loose x (constant.Worth v) is each = each v is
  reference_loose x constant.Failed is each = tt
  reference_loose x constant.Open is each = tt
  reference_loose x constant.Unfit is each = tt

  mutual
    unfolding constant_of folded summed computed computed_second multiplied referred subscripted component_of component_by place_of

    pub constant_loose : (t : Expression) → IsLooseConstant (constant_of ps vs p t)
    constant_loose (Or place first others) = folded_loose op2.Or (constant_of ps vs p first) others (constant_loose first)
    constant_loose (And place first others) = folded_loose op2.And (constant_of ps vs p first) others (constant_loose first)
    constant_loose (Compare place left relation right) = tt
    constant_loose (Cat place first others) = folded_loose op2.Cat (constant_of ps vs p first) others (constant_loose first)
    constant_loose (Sum place opening first others) = summed_loose (signed opening (constant_of ps vs p first)) others (signed_loose opening (constant_of ps vs p first) (constant_loose first))
    constant_loose (Product place first others) = folded_loose op2.Product (constant_of ps vs p first) others (constant_loose first)
    constant_loose (Power place base exponent) = raised_loose (constant_of ps vs p base) exponent (constant_loose base)
    constant_loose (Not place operand) = one_loose op1.Not (constant_of ps vs p operand) (constant_loose operand)
    constant_loose (Literal place literal) = literal_loose literal
    constant_loose (Decimal place number) = tt
    constant_loose (Referred reference) = referred_loose reference
    constant_loose (Called place name arguments) =
        form_loose name arguments (means ps p.around.block name) (computed_loose (operation_named name) arguments)
        (λ k. multiplied_loose (called_at ps vs p k) arguments (called_loose (slice_get ps k)))
    constant_loose (Convert place conversion operand) = one_loose (operation_of_conversion conversion) (constant_of ps vs p operand) (constant_loose operand)
    constant_loose (Parenthesis place inner) = constant_loose inner

    folded_loose : (op : Op2) (c : Constant) (ts : Expressions) → IsLooseConstant c → IsLooseConstant (folded ps vs p op c ts)
    folded_loose op c NoExpressions is = is
    folded_loose op c (MoreExpressions first others) is = folded_loose op (apply_two op c (constant_of ps vs p first)) others (two_loose op c (constant_of ps vs p first) is (constant_loose first))

    summed_loose : (c : Constant) (ts : Terms) → IsLooseConstant c → IsLooseConstant (summed ps vs p c ts)
    summed_loose c NoTerms is = is
    summed_loose c (MoreTerms place sign term others) is =
        summed_loose (apply_two (operation_of_sign sign) c (constant_of ps vs p term)) others (two_loose (operation_of_sign sign) c (constant_of ps vs p term) is (constant_loose term))

    computed_loose : (op : Operation) (ts : Expressions) → IsLooseConstant (computed ps vs p op ts)
    computed_loose operation.Size ts = tt
    computed_loose operation.Nothing ts = tt
    computed_loose (operation.One op) NoExpressions = tt
    computed_loose (operation.One op) (MoreExpressions x others) = either (no_more others) (apply_one op (constant_of ps vs p x)) constant.Unfit (λ alone. one_loose op (constant_of ps vs p x) (constant_loose x)) tt
    computed_loose (operation.Two op) NoExpressions = tt
    computed_loose (operation.Two op) (MoreExpressions x others) = second_loose op (constant_of ps vs p x) others (constant_loose x)

    second_loose : (op : Op2) (c : Constant) (ts : Expressions) → IsLooseConstant c → IsLooseConstant (computed_second ps vs p op c ts)
    second_loose op c NoExpressions is = tt
    second_loose op c (MoreExpressions y others) is =
        either (no_more others) (apply_two op c (constant_of ps vs p y)) constant.Unfit (λ alone. two_loose op c (constant_of ps vs p y) is (constant_loose y)) tt

    multiplied_loose : (c : Constant) (ts : Expressions) → IsLooseConstant c → IsLooseConstant (multiplied ps vs p c ts)
    multiplied_loose c NoExpressions is = worse_loose c constant.Unfit
    multiplied_loose c (MoreExpressions x others) is =
        either (no_more others) (apply_two op2.Product c (constant_of ps vs p x)) (worse c constant.Unfit) (λ alone. two_loose op2.Product c (constant_of ps vs p x) is (constant_loose x)) (worse_loose c constant.Unfit)

    referred_loose : (x : Reference) → IsLooseConstant (referred ps vs p x)
    referred_loose (Refers place name path subscript) = reference_loose subscript (constant_named ps vs p name path) (named_loose name path) (λ v is. subscripted_loose v subscript is)

    subscripted_loose : (v : Value) (x : Subscript) → IsLoose v → IsLooseConstant (subscripted ps vs p v x)
    subscripted_loose v Unsubscripted is = is
    subscripted_loose v (ByName place name) is = one_picked v (constant_named ps vs p name.name []) is
    subscripted_loose v (ByInteger place at number) is = one_picked v (whole number) is
    subscripted_loose v (ByParts place copies arrays components) is =
        either (is_none copies && is_none arrays) (component_of ps vs p v components) constant.Unfit (λ alone. component_of_loose v components is) tt

    component_of_loose : (v : Value) (xs : Subscripts) → IsLoose v → IsLooseConstant (component_of ps vs p v xs)
    component_of_loose v NoSubscripts is = tt
    component_of_loose v (MoreSubscripts x others) is = either (is_none others) (component_by ps vs p v x) constant.Unfit (λ alone. component_by_loose v x is) tt

    component_by_loose : (v : Value) (x : Sub) → IsLoose v → IsLooseConstant (component_by ps vs p v x)
    component_by_loose v (Every place) is = component_loose v (part.To (pos 1) (pos (place_count v))) is
    component_by_loose v (One position) is = one_picked v (place_of ps vs p v position) is
    component_by_loose v (Range first last) is = to_picked v (place_of ps vs p v first) (place_of ps vs p v last) is
    component_by_loose v (Portion count first) is = from_picked v (constant_of ps vs p count) (place_of ps vs p v first) is
