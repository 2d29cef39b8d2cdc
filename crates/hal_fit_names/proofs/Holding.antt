-- What operations give of constants that are what is wanted.
use Rattle.std.proofs.Common.{◌≡◌, ℕ, ℤ, ◌^◌, Bool, true, false, ◌&&◌, List, Option, Some, None, refl, sym, ap, ◌∙◌, subst}
use Rattle.std.specs.Prelude.{nat_le, nat_lt, if◌then◌else◌, Result, Ok, Err, IfOk}
use Rattle.std.specs.Option.{option_and_then}
use Rattle.std.proofs.lemmas.Bool.{and_from, le-leb, lt-ltb}
use Rattle.hal_kinds.specs.declared.class.Class.{Class}
use Rattle.hal_kinds.specs.declared.class.Class.TheVariants as class
use Rattle.hal_operands.specs.declared.want.Want.{Want}
use Rattle.hal_operands.specs.declared.want.Want.TheVariants as want
use Rattle.hal_operands.specs.Wants.{misfit, misfit_of_value}
use Rattle.hal_values.specs.declared.environment.ErrNo.{ErrNo}
use Rattle.hal_values.specs.declared.value.Value.{Value}
use Rattle.hal_values.specs.declared.value.Value.TheVariants as value
use Rattle.hal_values.specs.Kinds.{IsInteger, IsBits, IsText}
use Rattle.hal_operations.specs.declared.operation.Op1.{Op1}
use Rattle.hal_operations.specs.declared.operation.Op1.TheVariants as op1
use Rattle.hal_operations.specs.declared.operation.Op2.{Op2}
use Rattle.hal_operations.specs.declared.operation.Op2.TheVariants as op2
use Rattle.hal_operations.specs.Operands.{IsString, Takes, TakesBoth}
use Rattle.hal_operations.specs.Values.{value_of_one, value_of_two}
use Rattle.hal_sound_values.specs.Right.{IsRight}
use Rattle.hal_sound_values.specs.Given.{IsGivenByOne, IsGivenByTwo}
use Rattle.hal_sound_values.proofs.RightResults.{one_right, two_right}
use Rattle.hal_sound_values.proofs.Giving.{one_given, two_given}
use Rattle.hal_constants.specs.declared.constant.Constant.{Constant}
use Rattle.hal_constants.specs.declared.constant.Constant.TheVariants as constant
use Rattle.hal_constants.specs.Operands.{is_string, takes_one, takes_two}
use Rattle.hal_constants.specs.Results.{worth, worse, apply_one, apply_two}
use Rattle.hal_fit_names.specs.Suited.{class_of_value, Suits}

-- whether a value is what is wanted
abbrev pub fits_want : Want → Value → Bool
fits_want want.Integer (value.Int a) = true
fits_want want.Bits (value.Bits len word) = true
fits_want want.Truth (value.Bits len word) = true
fits_want want.Text (value.Text text) = true
fits_want want.String (value.Bits len word) = true
fits_want want.String (value.Text text) = true
fits_want want.Value v = true
fits_want want.Single v = true
fits_want want.Anything v = true
fits_want w v = false

-- a constant that is what is wanted, or none
abbrev pub Holds : Want → Constant → Type 0
Holds w (constant.Worth v) = IsRight v × (fits_want w v ≡ true)
Holds w constant.Failed = Unit {0}
Holds w constant.Open = Unit {0}
Holds w constant.Unfit = ⊥

value_held : (w : Want) (v : Value) → misfit w (class_of_value v) ≡ None → fits_want w v ≡ true
unfolding misfit misfit_of_value
value_held want.Anything v fits = refl
value_held want.Value v fits = refl
value_held want.Single v fits = refl
value_held want.Integer (value.Int a) fits = refl
value_held want.Integer (value.Bits len word) fits = absurd (cc)
value_held want.Integer (value.Text text) fits = absurd (cc)
value_held want.Bits (value.Int a) fits = absurd (cc)
value_held want.Bits (value.Bits len word) fits = refl
value_held want.Bits (value.Text text) fits = absurd (cc)
value_held want.Truth (value.Int a) fits = absurd (cc)
value_held want.Truth (value.Bits len word) fits = refl
value_held want.Truth (value.Text text) fits = absurd (cc)
value_held want.Text (value.Int a) fits = absurd (cc)
value_held want.Text (value.Bits len word) fits = absurd (cc)
value_held want.Text (value.Text text) fits = refl
value_held want.String (value.Int a) fits = absurd (cc)
value_held want.String (value.Bits len word) fits = refl
value_held want.String (value.Text text) fits = refl

-- a constant of an expression that is what is wanted is so too
pub held : (w : Want) (o : Option Class) (c : Constant) → Suits o c → option_and_then (misfit w) o ≡ None → Holds w c
held w o (constant.Worth v) is fits = (is.right, value_held w v (ap (option_and_then (misfit w)) (sym is.known) ∙ fits))
held w o constant.Failed is fits = tt
held w o constant.Open is fits = tt
held w o constant.Unfit is fits = absurd is

pub integer_class : (v : Value) → IsInteger v → class_of_value v ≡ class.Integer
integer_class (value.Int a) is = refl
integer_class (value.Bits len word) is = absurd is
integer_class (value.Text text) is = absurd is

pub bits_class : (n : ℕ) (v : Value) → IsBits n v → class_of_value v ≡ class.Bits
bits_class n (value.Int a) is = absurd is
bits_class n (value.Bits len word) is = refl
bits_class n (value.Text text) is = absurd is

pub text_class : (n : ℕ) (v : Value) → IsText n v → class_of_value v ≡ class.Text
text_class n (value.Int a) is = absurd is
text_class n (value.Bits len word) is = absurd is
text_class n (value.Text text) is = refl

pub is_string_of : (len word : ℕ) → IsString len word → is_string len word ≡ true
is_string_of len word is =
    and_from (nat_le 1 len) (nat_le len 32 && nat_lt word (2 ^ len)) (le-leb 1 len is.0) (and_from (nat_le len 32) (nat_lt word (2 ^ len)) (le-leb len 32 is.1) (lt-ltb word (2 ^ len) is.2))

-- a right result of a class
pub worth_suits : (k : Class) (r : Result Value ErrNo) → IfOk r IsRight → IfOk r (λ v. class_of_value v ≡ k) → Suits (Some k) (worth r)
unfolding worth
worth_suits k (Ok v) right is = record { known = ap Some (sym is); right = right }
worth_suits k (Err e) right is = tt

of_class : (P : Value → Type 0) (k : Class) (r : Result Value ErrNo) → ((v : Value) → P v → class_of_value v ≡ k) → IfOk r P → IfOk r (λ v. class_of_value v ≡ k)
of_class P k (Ok v) gives is = gives v is
of_class P k (Err e) gives is = tt

pub chosen : {X : Type 0} (b : Bool) (c d : X) → b ≡ true → (if b then c else d) ≡ c
chosen true c d is = refl
chosen false c d is = absurd (cc)

-- an operation takes such an operand, and gives a value of this class
record OneTakes (op : Op1) (k : Class) (v : Value) : Type 0 where
  taken : takes_one op v ≡ true
  takes : Takes op v
  gives : (x : Value) → IsGivenByOne op v x → class_of_value x ≡ k

one_suits : (op : Op1) (w : Want) (k : Class) (c : Constant) → ((v : Value) → IsRight v → fits_want w v ≡ true → OneTakes op k v) → Holds w c → Suits (Some k) (apply_one op c)
unfolding apply_one
one_suits op w k (constant.Worth v) each is =
    let one = each v is.0 is.1 in
    subst (Suits (Some k)) (sym (chosen (takes_one op v) (worth (value_of_one op v)) constant.Unfit one.taken))
    (worth_suits k (value_of_one op v) (one_right op v is.0) (of_class (IsGivenByOne op v) k (value_of_one op v) one.gives (one_given op v is.0 one.takes)))
one_suits op w k constant.Failed each is = tt
one_suits op w k constant.Open each is = tt
one_suits op w k constant.Unfit each is = absurd is

pub minus_suits : (c : Constant) → Holds want.Integer c → Suits (Some class.Integer) (apply_one op1.Minus c)
unfolding takes_one
minus_suits c is = one_suits op1.Minus want.Integer class.Integer c each is where
  each : (v : Value) → IsRight v → fits_want want.Integer v ≡ true → OneTakes op1.Minus class.Integer v
  each (value.Int a) right fits = record { taken = refl; takes = tt; gives = integer_class }
  each (value.Bits len word) right fits = absurd (cc)
  each (value.Text text) right fits = absurd (cc)

pub abs_suits : (c : Constant) → Holds want.Integer c → Suits (Some class.Integer) (apply_one op1.Abs c)
unfolding takes_one
abs_suits c is = one_suits op1.Abs want.Integer class.Integer c each is where
  each : (v : Value) → IsRight v → fits_want want.Integer v ≡ true → OneTakes op1.Abs class.Integer v
  each (value.Int a) right fits = record { taken = refl; takes = tt; gives = integer_class }
  each (value.Bits len word) right fits = absurd (cc)
  each (value.Text text) right fits = absurd (cc)

pub signum_suits : (c : Constant) → Holds want.Integer c → Suits (Some class.Integer) (apply_one op1.Signum c)
unfolding takes_one
signum_suits c is = one_suits op1.Signum want.Integer class.Integer c each is where
  each : (v : Value) → IsRight v → fits_want want.Integer v ≡ true → OneTakes op1.Signum class.Integer v
  each (value.Int a) right fits = record { taken = refl; takes = tt; gives = integer_class }
  each (value.Bits len word) right fits = absurd (cc)
  each (value.Text text) right fits = absurd (cc)

pub odd_suits : (c : Constant) → Holds want.Integer c → Suits (Some class.Bits) (apply_one op1.Odd c)
unfolding takes_one
odd_suits c is = one_suits op1.Odd want.Integer class.Bits c each is where
  each : (v : Value) → IsRight v → fits_want want.Integer v ≡ true → OneTakes op1.Odd class.Bits v
  each (value.Int a) right fits = record { taken = refl; takes = tt; gives = bits_class 1 }
  each (value.Bits len word) right fits = absurd (cc)
  each (value.Text text) right fits = absurd (cc)

pub not_suits : (c : Constant) → Holds want.Bits c → Suits (Some class.Bits) (apply_one op1.Not c)
unfolding takes_one
not_suits c is = one_suits op1.Not want.Bits class.Bits c each is where
  each : (v : Value) → IsRight v → fits_want want.Bits v ≡ true → OneTakes op1.Not class.Bits v
  each (value.Int a) right fits = absurd (cc)
  each (value.Bits len word) right fits = record { taken = is_string_of len word right; takes = (tt, right); gives = bits_class len }
  each (value.Text text) right fits = absurd (cc)

pub length_suits : (c : Constant) → Holds want.Text c → Suits (Some class.Integer) (apply_one op1.Length c)
unfolding takes_one
length_suits c is = one_suits op1.Length want.Text class.Integer c each is where
  each : (v : Value) → IsRight v → fits_want want.Text v ≡ true → OneTakes op1.Length class.Integer v
  each (value.Int a) right fits = absurd (cc)
  each (value.Bits len word) right fits = absurd (cc)
  each (value.Text text) right fits = record { taken = refl; takes = tt; gives = integer_class }

pub trim_suits : (c : Constant) → Holds want.Text c → Suits (Some class.Text) (apply_one op1.Trim c)
unfolding takes_one
trim_suits c is = one_suits op1.Trim want.Text class.Text c each is where
  each : (v : Value) → IsRight v → fits_want want.Text v ≡ true → OneTakes op1.Trim class.Text v
  each (value.Int a) right fits = absurd (cc)
  each (value.Bits len word) right fits = absurd (cc)
  each (value.Text text) right fits = record { taken = refl; takes = tt; gives = text_class _ }

pub integer_suits : (c : Constant) → Holds want.String c → Suits (Some class.Integer) (apply_one op1.Integer c)
unfolding takes_one
integer_suits c is = one_suits op1.Integer want.String class.Integer c each is where
  each : (v : Value) → IsRight v → fits_want want.String v ≡ true → OneTakes op1.Integer class.Integer v
  each (value.Int a) right fits = absurd (cc)
  each (value.Bits len word) right fits = record { taken = is_string_of len word right; takes = (tt, right); gives = integer_class }
  each (value.Text text) right fits = record { taken = refl; takes = tt; gives = integer_class }

pub bit_suits : (c : Constant) → Holds want.Integer c → Suits (Some class.Bits) (apply_one op1.Bit c)
unfolding takes_one
bit_suits c is = one_suits op1.Bit want.Integer class.Bits c each is where
  each : (v : Value) → IsRight v → fits_want want.Integer v ≡ true → OneTakes op1.Bit class.Bits v
  each (value.Int a) right fits = record { taken = refl; takes = tt; gives = bits_class 32 }
  each (value.Bits len word) right fits = absurd (cc)
  each (value.Text text) right fits = absurd (cc)

pub character_suits : (c : Constant) → Holds want.Value c → Suits (Some class.Text) (apply_one op1.Character c)
unfolding takes_one
character_suits c is = one_suits op1.Character want.Value class.Text c each is where
  each : (v : Value) → IsRight v → fits_want want.Value v ≡ true → OneTakes op1.Character class.Text v
  each (value.Int a) right fits = record { taken = refl; takes = tt; gives = text_class _ }
  each (value.Bits len word) right fits = record { taken = is_string_of len word right; takes = (tt, right); gives = text_class _ }
  each (value.Text text) right fits = record { taken = refl; takes = tt; gives = text_class _ }

-- no value, and no wrong operand
abbrev pub IsIdle : Constant → Type 0
IsIdle (constant.Worth v) = ⊥
IsIdle constant.Failed = Unit {0}
IsIdle constant.Open = Unit {0}
IsIdle constant.Unfit = ⊥

-- no wrong operand
abbrev pub IsSane : Constant → Type 0
IsSane (constant.Worth v) = Unit {0}
IsSane constant.Failed = Unit {0}
IsSane constant.Open = Unit {0}
IsSane constant.Unfit = ⊥

pub held_sane : (w : Want) (c : Constant) → Holds w c → IsSane c
held_sane w (constant.Worth v) is = tt
held_sane w constant.Failed is = tt
held_sane w constant.Open is = tt
held_sane w constant.Unfit is = is

pub suited_sane : (o : Option Class) (c : Constant) → Suits o c → IsSane c
suited_sane o (constant.Worth v) is = tt
suited_sane o constant.Failed is = tt
suited_sane o constant.Open is = tt
suited_sane o constant.Unfit is = is

pub idle_suits : (o : Option Class) (c : Constant) → IsIdle c → Suits o c
idle_suits o (constant.Worth v) is = absurd is
idle_suits o constant.Failed is = tt
idle_suits o constant.Open is = tt
idle_suits o constant.Unfit is = is

-- of constants of which one is no value the result is none
pub worse_left : (c d : Constant) → IsIdle c → IsSane d → IsIdle (worse c d)
unfolding worse
worse_left (constant.Worth v) d is sane = absurd is
worse_left constant.Unfit d is sane = absurd is
worse_left constant.Open d is sane = tt
worse_left constant.Failed (constant.Worth w) is sane = tt
worse_left constant.Failed constant.Failed is sane = tt
worse_left constant.Failed constant.Open is sane = tt
worse_left constant.Failed constant.Unfit is sane = absurd sane

pub worse_right : (c d : Constant) → IsSane c → IsIdle d → IsIdle (worse c d)
unfolding worse
worse_right constant.Unfit d sane is = absurd sane
worse_right constant.Open d sane is = tt
worse_right (constant.Worth v) (constant.Worth w) sane is = absurd is
worse_right (constant.Worth v) constant.Failed sane is = tt
worse_right (constant.Worth v) constant.Open sane is = tt
worse_right (constant.Worth v) constant.Unfit sane is = absurd is
worse_right constant.Failed (constant.Worth w) sane is = absurd is
worse_right constant.Failed constant.Failed sane is = tt
worse_right constant.Failed constant.Open sane is = tt
worse_right constant.Failed constant.Unfit sane is = absurd is

pub idle_left : (op : Op2) (c d : Constant) → IsIdle c → IsSane d → IsIdle (apply_two op c d)
unfolding apply_two
idle_left op (constant.Worth v) d is sane = absurd is
idle_left op constant.Failed d is sane = worse_left constant.Failed d is sane
idle_left op constant.Open d is sane = worse_left constant.Open d is sane
idle_left op constant.Unfit d is sane = absurd is

pub idle_right : (op : Op2) (c d : Constant) → IsSane c → IsIdle d → IsIdle (apply_two op c d)
unfolding apply_two
idle_right op (constant.Worth v) (constant.Worth w) sane is = absurd is
idle_right op (constant.Worth v) constant.Failed sane is = worse_right (constant.Worth v) constant.Failed sane is
idle_right op (constant.Worth v) constant.Open sane is = worse_right (constant.Worth v) constant.Open sane is
idle_right op (constant.Worth v) constant.Unfit sane is = absurd is
idle_right op constant.Failed d sane is = worse_right constant.Failed d sane is
idle_right op constant.Open d sane is = worse_right constant.Open d sane is
idle_right op constant.Unfit d sane is = absurd sane

-- an operation takes such operands, and gives a value of this class
pub record TwoTake (op : Op2) (k : Class) (v w : Value) : Type 0 where
  pub taken : takes_two op v w ≡ true
  pub takes : TakesBoth op v w
  pub gives : (x : Value) → IsGivenByTwo op v w x → class_of_value x ≡ k

pub values_suit : (op : Op2) (k : Class) (v w : Value) → IsRight v → IsRight w → TwoTake op k v w → Suits (Some k) (apply_two op (constant.Worth v) (constant.Worth w))
unfolding apply_two
values_suit op k v w right also one =
    subst (Suits (Some k)) (sym (chosen (takes_two op v w) (worth (value_of_two op v w)) constant.Unfit one.taken))
    (worth_suits k (value_of_two op v w) (two_right op v w right also) (of_class (IsGivenByTwo op v w) k (value_of_two op v w) one.gives (two_given op v w right one.takes)))

pub two_suits : (op : Op2) (w u : Want) (k : Class) (c d : Constant) → ((v x : Value) → IsRight v → IsRight x → fits_want w v ≡ true → fits_want u x ≡ true → TwoTake op k v x) → Holds w c → Holds u d
    → Suits (Some k) (apply_two op c d)
two_suits op w u k (constant.Worth v) (constant.Worth x) each is also = values_suit op k v x is.0 also.0 (each v x is.0 also.0 is.1 also.1)
two_suits op w u k (constant.Worth v) constant.Failed each is also = idle_suits (Some k) _ (idle_right op (constant.Worth v) constant.Failed tt tt)
two_suits op w u k (constant.Worth v) constant.Open each is also = idle_suits (Some k) _ (idle_right op (constant.Worth v) constant.Open tt tt)
two_suits op w u k (constant.Worth v) constant.Unfit each is also = absurd also
two_suits op w u k constant.Failed d each is also = idle_suits (Some k) _ (idle_left op constant.Failed d tt (held_sane u d also))
two_suits op w u k constant.Open d each is also = idle_suits (Some k) _ (idle_left op constant.Open d tt (held_sane u d also))
two_suits op w u k constant.Unfit d each is also = absurd is

-- operations of integers that give an integer
abbrev pub is_arithmetic : Op2 → Bool
is_arithmetic op2.Plus = true
is_arithmetic op2.Minus = true
is_arithmetic op2.Product = true
is_arithmetic op2.Power = true
is_arithmetic op2.Div = true
is_arithmetic op2.Mod = true
is_arithmetic op2.Remainder = true
is_arithmetic op2.Shl = true
is_arithmetic op2.Shr = true
is_arithmetic other = false

integers_take : (op : Op2) (v x : Value) → is_arithmetic op ≡ true → fits_want want.Integer v ≡ true → fits_want want.Integer x ≡ true → TwoTake op class.Integer v x
unfolding takes_two
integers_take op2.Plus (value.Int a) (value.Int b) is fits also = record { taken = refl; takes = tt; gives = integer_class }
integers_take op2.Minus (value.Int a) (value.Int b) is fits also = record { taken = refl; takes = tt; gives = integer_class }
integers_take op2.Product (value.Int a) (value.Int b) is fits also = record { taken = refl; takes = tt; gives = integer_class }
integers_take op2.Power (value.Int a) (value.Int b) is fits also = record { taken = refl; takes = tt; gives = integer_class }
integers_take op2.Div (value.Int a) (value.Int b) is fits also = record { taken = refl; takes = tt; gives = integer_class }
integers_take op2.Mod (value.Int a) (value.Int b) is fits also = record { taken = refl; takes = tt; gives = integer_class }
integers_take op2.Remainder (value.Int a) (value.Int b) is fits also = record { taken = refl; takes = tt; gives = integer_class }
integers_take op2.Shl (value.Int a) (value.Int b) is fits also = record { taken = refl; takes = tt; gives = integer_class }
integers_take op2.Shr (value.Int a) (value.Int b) is fits also = record { taken = refl; takes = tt; gives = integer_class }
integers_take op (value.Int a) (value.Int b) is fits also = absurd (cc)
integers_take op (value.Bits len word) x is fits also = absurd (cc)
integers_take op (value.Text text) x is fits also = absurd (cc)
integers_take op (value.Int a) (value.Bits len word) is fits also = absurd (cc)
integers_take op (value.Int a) (value.Text text) is fits also = absurd (cc)

pub arithmetic_suits : (op : Op2) (c d : Constant) → is_arithmetic op ≡ true → Holds want.Integer c → Holds want.Integer d → Suits (Some class.Integer) (apply_two op c d)
arithmetic_suits op c d is first second = two_suits op want.Integer want.Integer class.Integer c d (λ v x right also fits of. integers_take op v x is fits of) first second

-- operations of bits that give bits
abbrev pub is_bitwise : Op2 → Bool
is_bitwise op2.And = true
is_bitwise op2.Or = true
is_bitwise op2.Xor = true
is_bitwise other = false

pub strings_take : (op : Op2) (m x n y : ℕ) → is_bitwise op ≡ true → IsRight (value.Bits m x) → IsRight (value.Bits n y) → TwoTake op class.Bits (value.Bits m x) (value.Bits n y)
unfolding takes_two
strings_take op2.And m x n y is right also =
    record { taken = and_from (is_string m x) (is_string n y) (is_string_of m x right) (is_string_of n y also); takes = (tt, right, also); gives = bits_class _ }
strings_take op2.Or m x n y is right also =
    record { taken = and_from (is_string m x) (is_string n y) (is_string_of m x right) (is_string_of n y also); takes = (tt, right, also); gives = bits_class _ }
strings_take op2.Xor m x n y is right also =
    record { taken = and_from (is_string m x) (is_string n y) (is_string_of m x right) (is_string_of n y also); takes = (tt, right, also); gives = bits_class _ }
strings_take op m x n y is right also = absurd (cc)

pub xor_suits : (c d : Constant) → Holds want.Bits c → Holds want.Bits d → Suits (Some class.Bits) (apply_two op2.Xor c d)
xor_suits c d is also = two_suits op2.Xor want.Bits want.Bits class.Bits c d each is also where
  each : (v x : Value) → IsRight v → IsRight x → fits_want want.Bits v ≡ true → fits_want want.Bits x ≡ true → TwoTake op2.Xor class.Bits v x
  each (value.Bits m y) (value.Bits n z) right too fits of = strings_take op2.Xor m y n z refl right too
  each (value.Int a) x right too fits of = absurd (cc)
  each (value.Text text) x right too fits of = absurd (cc)
  each (value.Bits m y) (value.Int a) right too fits of = absurd (cc)
  each (value.Bits m y) (value.Text text) right too fits of = absurd (cc)

pub index_suits : (c d : Constant) → Holds want.Text c → Holds want.Text d → Suits (Some class.Integer) (apply_two op2.Index c d)
unfolding takes_two
index_suits c d is also = two_suits op2.Index want.Text want.Text class.Integer c d each is also where
  each : (v x : Value) → IsRight v → IsRight x → fits_want want.Text v ≡ true → fits_want want.Text x ≡ true → TwoTake op2.Index class.Integer v x
  each (value.Text text) (value.Text bytes) right too fits of = record { taken = refl; takes = tt; gives = integer_class }
  each (value.Int a) x right too fits of = absurd (cc)
  each (value.Bits len word) x right too fits of = absurd (cc)
  each (value.Text text) (value.Int a) right too fits of = absurd (cc)
  each (value.Text text) (value.Bits len word) right too fits of = absurd (cc)

pub left_suits : (c d : Constant) → Holds want.Text c → Holds want.Integer d → Suits (Some class.Text) (apply_two op2.Ljust c d)
unfolding takes_two
left_suits c d is also = two_suits op2.Ljust want.Text want.Integer class.Text c d each is also where
  each : (v x : Value) → IsRight v → IsRight x → fits_want want.Text v ≡ true → fits_want want.Integer x ≡ true → TwoTake op2.Ljust class.Text v x
  each (value.Text text) (value.Int a) right too fits of = record { taken = refl; takes = tt; gives = text_class _ }
  each (value.Int a) x right too fits of = absurd (cc)
  each (value.Bits len word) x right too fits of = absurd (cc)
  each (value.Text text) (value.Text bytes) right too fits of = absurd (cc)
  each (value.Text text) (value.Bits len word) right too fits of = absurd (cc)

pub right_suits : (c d : Constant) → Holds want.Text c → Holds want.Integer d → Suits (Some class.Text) (apply_two op2.Rjust c d)
unfolding takes_two
right_suits c d is also = two_suits op2.Rjust want.Text want.Integer class.Text c d each is also where
  each : (v x : Value) → IsRight v → IsRight x → fits_want want.Text v ≡ true → fits_want want.Integer x ≡ true → TwoTake op2.Rjust class.Text v x
  each (value.Text text) (value.Int a) right too fits of = record { taken = refl; takes = tt; gives = text_class _ }
  each (value.Int a) x right too fits of = absurd (cc)
  each (value.Bits len word) x right too fits of = absurd (cc)
  each (value.Text text) (value.Text bytes) right too fits of = absurd (cc)
  each (value.Text text) (value.Bits len word) right too fits of = absurd (cc)

-- values that are joined
pub strings_joined : (m x n y : ℕ) → IsRight (value.Bits m x) → IsRight (value.Bits n y) → TwoTake op2.Cat class.Bits (value.Bits m x) (value.Bits n y)
unfolding takes_two
strings_joined m x n y right also =
    record { taken = and_from (is_string m x) (is_string n y) (is_string_of m x right) (is_string_of n y also); takes = (tt, right, also); gives = bits_class _ }

pub texts_joined : (x y : List ℕ) → TwoTake op2.Cat class.Text (value.Text x) (value.Text y)
unfolding takes_two
texts_joined x y = record { taken = refl; takes = tt; gives = text_class _ }

pub text_then_integer : (x : List ℕ) (b : ℤ) → TwoTake op2.Cat class.Text (value.Text x) (value.Int b)
unfolding takes_two
text_then_integer x b = record { taken = refl; takes = tt; gives = text_class _ }

pub integer_then_text : (a : ℤ) (y : List ℕ) → TwoTake op2.Cat class.Text (value.Int a) (value.Text y)
unfolding takes_two
integer_then_text a y = record { taken = refl; takes = tt; gives = text_class _ }
