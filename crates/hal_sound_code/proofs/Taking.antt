-- What lies on a stack whose sorts an instruction takes.
use Rattle.std.specs.Prelude.{ℕ, suc, ◌≡◌, Bool, true, false, List, [], ◌∷◌, ℤ, Option, Some, None, if◌then◌else◌}
use Rattle.std.specs.Option.{option_and_then}
use Rattle.std.proofs.Common.{refl}
use Rattle.hal_values.specs.declared.value.Kind.{Kind}
use Rattle.hal_values.specs.declared.value.Kind.TheVariants as kind
use Rattle.hal_values.specs.declared.value.Value.{Value}
use Rattle.hal_values.specs.declared.value.Value.TheVariants as value
use Rattle.hal_operations.specs.declared.operation.Op1.{Op1}
use Rattle.hal_operations.specs.declared.operation.Op1.TheVariants as op1
use Rattle.hal_operations.specs.declared.operation.Op2.{Op2}
use Rattle.hal_code.specs.Cores.{Operand, Val, At, Area, Setting}
use Rattle.hal_code.specs.Sorts.{Sort, I, B, T, A, R, one_gives, two_give, takes, takes_part}
use Rattle.hal_code.specs.Effects.{Sorts, giving, integers_taken, is_value, next_sorts}
use Rattle.hal_sound_code.specs.Lying.{sort_of_value, sorts_of, AllLead}

pub some_is : {T : Type 0} (a b : T) → Some a ≡ Some b → a ≡ b
some_is a b e = cc

-- something is taken where a test passes
pub if_taken : {T : Type 0} (b : Bool) (one two : T) → ◌≡◌ {A = Option T} (if b then Some one else None) (Some two) → (b ≡ true) × (one ≡ two)
if_taken true one two e = (refl, some_is one two e)
if_taken false one two e = absurd (cc)

-- something is taken of what is left
pub then_taken : {T U : Type 0} (f : T → Option U) (o : Option T) (two : U) → option_and_then f o ≡ Some two → (one : T) × (o ≡ Some one) × (f one ≡ Some two)
then_taken f None two e = absurd (cc)
then_taken f (Some one) two e = (one, refl, e)

pub giving_taken : (o : Option Sort) (stack after : Sorts) → giving o stack ≡ Some after → (one : Sort) × (o ≡ Some one) × ((one ∷ stack) ≡ after)
giving_taken None stack after e = absurd (cc)
giving_taken (Some one) stack after e = (one, refl, some_is (one ∷ stack) after e)

pub value_is : (v : Value) → is_value (sort_of_value v) ≡ true
value_is (value.Int a) = refl
value_is (value.Bits len word) = refl
value_is (value.Text text) = refl

-- operations take values
pub one_gives_of : (op : Op1) (taken one : Sort) → one_gives op taken ≡ Some one → is_value taken ≡ true
one_gives_of op I one e = refl
one_gives_of op B one e = refl
one_gives_of op T one e = refl
one_gives_of op (A k) one e = none op e
  where
    none : (which : Op1) → one_gives which (A k) ≡ Some one → false ≡ true
    none op1.Minus h = absurd (cc)
    none op1.Abs h = absurd (cc)
    none op1.Signum h = absurd (cc)
    none other h = absurd (cc)
one_gives_of op (R n) one e = none op e
  where
    none : (which : Op1) → one_gives which (R n) ≡ Some one → false ≡ true
    none op1.Minus h = absurd (cc)
    none other h = absurd (cc)

pub two_give_of : (op : Op2) (left right one : Sort) → two_give op left right ≡ Some one → (is_value left ≡ true) × (is_value right ≡ true)
two_give_of op I I one e = (refl, refl)
two_give_of op B B one e = (refl, refl)
two_give_of op T T one e = (refl, refl)
two_give_of op T I one e = (refl, refl)
two_give_of op I T one e = (refl, refl)
two_give_of op left right one e = absurd (cc)

pub takes_of : (k : Kind) (taken : Sort) → takes k taken ≡ true → is_value taken ≡ true
takes_of k I e = refl
takes_of k B e = refl
takes_of k T e = refl
takes_of kind.Single other e = absurd (cc)
takes_of kind.Double other e = absurd (cc)
takes_of (kind.Bits n) other e = absurd (cc)
takes_of (kind.Text n) other e = absurd (cc)

pub takes_part_of : (k : Kind) (old new : Sort) → takes_part k old new ≡ true → (is_value old ≡ true) × (is_value new ≡ true)
takes_part_of (kind.Bits n) B B e = (refl, refl)
takes_part_of (kind.Text n) T I e = (refl, refl)
takes_part_of (kind.Text n) T T e = (refl, refl)
takes_part_of k old new e = absurd (cc)

-- an integer lies on top
pub record Top (s : Setting) (stack : List Operand) (n : ℕ) (left : Sorts) : Type 0 where
  pub int : ℤ
  pub rest : List Operand
  pub is : stack ≡ (Val (value.Int int) ∷ rest)
  pub taken : integers_taken n (sorts_of rest) ≡ Some left
  pub lead : AllLead s rest

pub top_of : (s : Setting) (stack : List Operand) (n : ℕ) (left : Sorts) → AllLead s stack → integers_taken (suc n) (sorts_of stack) ≡ Some left → Top s stack n left
top_of s [] n left lead e = absurd (cc)
top_of s (Val (value.Int a) ∷ stack) n left lead e = record { int = a; rest = stack; is = refl; taken = e; lead = lead.1 }
top_of s (Val (value.Bits len word) ∷ stack) n left lead e = absurd (cc)
top_of s (Val (value.Text text) ∷ stack) n left lead e = absurd (cc)
top_of s (At at k ∷ stack) n left lead e = absurd (cc)
top_of s (Area at shape ∷ stack) n left lead e = absurd (cc)

-- three integers of a loop
pub next_taken : (sorts after : Sorts) → next_sorts sorts ≡ Some after → (left : Sorts) × (integers_taken 3 sorts ≡ Some left) × ((B ∷ I ∷ left) ≡ after)
next_taken (I ∷ I ∷ I ∷ left) after e = (left, refl, some_is (B ∷ I ∷ left) after e)
next_taken sorts after e = absurd (cc)
