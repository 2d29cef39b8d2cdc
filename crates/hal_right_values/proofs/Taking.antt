-- Operations and stores take right values of the sorts that they take.
use Rattle.std.specs.Prelude.{◌≡◌, true, List, [], ◌∷◌, Some}
use Rattle.hal_values.specs.declared.value.Kind.{Kind}
use Rattle.hal_values.specs.declared.value.Kind.TheVariants as kind
use Rattle.hal_values.specs.declared.value.Value.{Value}
use Rattle.hal_values.specs.declared.value.Value.TheVariants as value
use Rattle.hal_values.specs.Kinds.{IsKind}
use Rattle.hal_operations.specs.declared.operation.Op1.{Op1}
use Rattle.hal_operations.specs.declared.operation.Op1.TheVariants as op1
use Rattle.hal_operations.specs.declared.operation.Op2.{Op2}
use Rattle.hal_operations.specs.declared.operation.Op2.TheVariants as op2
use Rattle.hal_operations.specs.Operands.{TakesIntegers, IsStorable, Takes, TakesBoth}
use Rattle.hal_code.specs.declared.choice.Choice.{Choice}
use Rattle.hal_code.specs.declared.choice.Choice.TheVariants as choice
use Rattle.hal_code.specs.Cores.{Operand, Val, At, Area}
use Rattle.hal_code.specs.Effects.{Sorts, kept_sorts, one_sorts, two_sorts}
use Rattle.hal_code.specs.Sorts.{Sort, one_gives, integers_give, two_give, takes}
use Rattle.hal_sound_code.specs.Lying.{sort_of_value, sorts_of}
use Rattle.hal_sound_code.proofs.Taking.{if_taken, giving_taken}
use Rattle.hal_sound_values.specs.Right.{IsRight}
use Rattle.hal_right_values.specs.Fitting.{KeepFits, OneFits, TwoFits}
use Rattle.hal_right_values.specs.Holding.{AreRightOperands}

-- an operation with one operand
one_takes : (op : Op1) (v : Value) (one : Sort) → IsRight v → one_gives op (sort_of_value v) ≡ Some one → Takes op v
one_takes op1.Minus (value.Int a) one h e = tt
one_takes op1.Abs (value.Int a) one h e = tt
one_takes op1.Signum (value.Int a) one h e = tt
one_takes op1.Odd (value.Int a) one h e = tt
one_takes op1.Character (value.Int a) one h e = tt
one_takes op1.Bit (value.Int a) one h e = tt
one_takes op1.Not (value.Bits len word) one h e = (tt, h)
one_takes op1.Character (value.Bits len word) one h e = (tt, h)
one_takes op1.Integer (value.Bits len word) one h e = (tt, h)
one_takes op1.Length (value.Text text) one h e = tt
one_takes op1.Trim (value.Text text) one h e = tt
one_takes op1.Character (value.Text text) one h e = tt
one_takes op1.Integer (value.Text text) one h e = tt
one_takes op (value.Int a) one h e = absurd (cc)
one_takes op (value.Bits len word) one h e = absurd (cc)
one_takes op (value.Text text) one h e = absurd (cc)

pub one_fits : (op : Choice Op1) (stack : List Operand) (after : Sorts) → AreRightOperands stack → one_sorts op (sorts_of stack) ≡ Some after → OneFits op stack
one_fits (choice.Known op) [] after right e = tt
one_fits (choice.Known op) (Val v ∷ stack) after right e = one_takes op v (giving_taken (one_gives op (sort_of_value v)) (sorts_of stack) after e).0 right.0 (giving_taken (one_gives op (sort_of_value v)) (sorts_of stack) after e).1
one_fits (choice.Known op) (At at k ∷ stack) after right e = tt
one_fits (choice.Known op) (Area at shape ∷ stack) after right e = tt
one_fits (choice.Other byte) stack after right e = tt

-- ITEM takes each value
pub item_fits : (stack : List Operand) → AreRightOperands stack → OneFits (choice.Known op1.Character) stack
item_fits [] right = tt
item_fits (Val (value.Int a) ∷ stack) right = tt
item_fits (Val (value.Bits len word) ∷ stack) right = (tt, right.0)
item_fits (Val (value.Text text) ∷ stack) right = tt
item_fits (At at k ∷ stack) right = tt
item_fits (Area at shape ∷ stack) right = tt

-- an operation with two operands
integers_take : (op : Op2) (one : Sort) → integers_give op ≡ Some one → TakesIntegers op
integers_take op2.And one e = absurd (cc)
integers_take op2.Or one e = absurd (cc)
integers_take op2.Xor one e = absurd (cc)
integers_take op2.Cat one e = absurd (cc)
integers_take op2.Index one e = absurd (cc)
integers_take op2.Ljust one e = absurd (cc)
integers_take op2.Rjust one e = absurd (cc)
integers_take op one e = tt

two_take : (op : Op2) (v w : Value) (one : Sort) → IsRight v → IsRight w → two_give op (sort_of_value v) (sort_of_value w) ≡ Some one → TakesBoth op v w
two_take op (value.Int a) (value.Int b) one h g e = integers_take op one e
two_take op2.And (value.Bits m x) (value.Bits n y) one h g e = (tt, h, g)
two_take op2.Or (value.Bits m x) (value.Bits n y) one h g e = (tt, h, g)
two_take op2.Xor (value.Bits m x) (value.Bits n y) one h g e = (tt, h, g)
two_take op2.Cat (value.Bits m x) (value.Bits n y) one h g e = (tt, h, g)
two_take op2.Equal (value.Bits m x) (value.Bits n y) one h g e = (tt, h, g)
two_take op2.NotEqual (value.Bits m x) (value.Bits n y) one h g e = (tt, h, g)
two_take op (value.Bits m x) (value.Bits n y) one h g e = absurd (cc)
two_take op2.Cat (value.Text x) (value.Text y) one h g e = tt
two_take op2.Index (value.Text x) (value.Text y) one h g e = tt
two_take op2.Equal (value.Text x) (value.Text y) one h g e = tt
two_take op2.NotEqual (value.Text x) (value.Text y) one h g e = tt
two_take op2.Less (value.Text x) (value.Text y) one h g e = tt
two_take op2.Greater (value.Text x) (value.Text y) one h g e = tt
two_take op2.LessOrEqual (value.Text x) (value.Text y) one h g e = tt
two_take op2.GreaterOrEqual (value.Text x) (value.Text y) one h g e = tt
two_take op (value.Text x) (value.Text y) one h g e = absurd (cc)
two_take op2.Cat (value.Text x) (value.Int b) one h g e = tt
two_take op2.Ljust (value.Text x) (value.Int b) one h g e = tt
two_take op2.Rjust (value.Text x) (value.Int b) one h g e = tt
two_take op (value.Text x) (value.Int b) one h g e = absurd (cc)
two_take op2.Cat (value.Int a) (value.Text y) one h g e = tt
two_take op (value.Int a) (value.Text y) one h g e = absurd (cc)
two_take op (value.Int a) (value.Bits n y) one h g e = absurd (cc)
two_take op (value.Bits m x) (value.Int b) one h g e = absurd (cc)
two_take op (value.Bits m x) (value.Text y) one h g e = absurd (cc)
two_take op (value.Text x) (value.Bits n y) one h g e = absurd (cc)

pub two_fits : (op : Choice Op2) (stack : List Operand) (after : Sorts) → AreRightOperands stack → two_sorts op (sorts_of stack) ≡ Some after → TwoFits op stack
two_fits (choice.Known op) [] after right e = tt
two_fits (choice.Known op) (Val w ∷ []) after right e = tt
two_fits (choice.Known op) (Val w ∷ Val v ∷ stack) after right e =
    two_take op v w (giving_taken (two_give op (sort_of_value v) (sort_of_value w)) (sorts_of stack) after e).0 right.1.0 right.0 (giving_taken (two_give op (sort_of_value v) (sort_of_value w)) (sorts_of stack) after e).1
two_fits (choice.Known op) (Val w ∷ At at k ∷ stack) after right e = tt
two_fits (choice.Known op) (Val w ∷ Area at shape ∷ stack) after right e = tt
two_fits (choice.Known op) (At at k ∷ stack) after right e = tt
two_fits (choice.Known op) (Area at shape ∷ stack) after right e = tt
two_fits (choice.Other byte) stack after right e = tt

-- a store
storable : (k : Kind) (v : Value) → IsKind k → IsRight v → takes k (sort_of_value v) ≡ true → IsStorable k v
storable kind.Single (value.Int a) is h e = tt
storable kind.Double (value.Int a) is h e = tt
storable (kind.Bits n) (value.Bits len word) is h e = (is.0, is.1, h)
storable (kind.Text n) (value.Int a) is h e = is
storable (kind.Text n) (value.Text text) is h e = is
storable kind.Single (value.Bits len word) is h e = absurd (cc)
storable kind.Single (value.Text text) is h e = absurd (cc)
storable kind.Double (value.Bits len word) is h e = absurd (cc)
storable kind.Double (value.Text text) is h e = absurd (cc)
storable (kind.Bits n) (value.Int a) is h e = absurd (cc)
storable (kind.Bits n) (value.Text text) is h e = absurd (cc)
storable (kind.Text n) (value.Bits len word) is h e = absurd (cc)

pub keep_fits : (stack : List Operand) (after : Sorts) → AreRightOperands stack → kept_sorts (sorts_of stack) ≡ Some after → KeepFits stack
keep_fits [] after right e = tt
keep_fits (At at k ∷ []) after right e = tt
keep_fits (At at k ∷ Val v ∷ stack) after right e = storable k v right.0 right.1.0 (if_taken (takes k (sort_of_value v)) (sorts_of stack) after e).0
keep_fits (At at k ∷ At other l ∷ stack) after right e = tt
keep_fits (At at k ∷ Area other shape ∷ stack) after right e = tt
keep_fits (Val v ∷ stack) after right e = tt
keep_fits (Area at shape ∷ stack) after right e = tt
