-- What follows where a sort is there.
use Rattle.std.specs.Prelude.{◌≡◌, ℕ, zero, suc, ◌+◌, ◌==◌, Bool, true, false, List, [], ◌∷◌, find, Option, Some, None, if◌then◌else◌}
use Rattle.std.specs.Option.{option_and_then}
use Rattle.std.proofs.Common.{refl, sym, ap, ◌∙◌, arith}
use Rattle.std.proofs.lemmas.Bool.{eqb-true}
use Rattle.hal_meaning.specs.Bodies.{Body}
use Rattle.hal_meaning.specs.Sets.{Set, body_at}
use Rattle.hal_code.specs.Effects.{Sorts, integers_taken}
use Rattle.hal_code.specs.Sorts.{Sort, I, B}
use Rattle.hal_fit_expr.specs.Sorted.{is_integer, is_bits}

pub then_is : {X Y : Type 0} (f : X → Option Y) (o : Option X) (y : Y) → option_and_then f o ≡ Some y → (x : X) × (o ≡ Some x) × (f x ≡ Some y)
then_is f None y is = absurd (cc)
then_is f (Some x) y is = (x, refl, is)

pub given_is : {X : Type 0} (b : Bool) (x y : X) → (if b then Some x else None) ≡ Some y → (b ≡ true) × (x ≡ y)
given_is true x y is = (refl, cc)
given_is false x y is = absurd (cc)

pub given_then : {X : Type 0} (b : Bool) (o : Option X) (y : X) → (if b then o else None) ≡ Some y → (b ≡ true) × (o ≡ Some y)
given_then true o y is = (refl, is)
given_then false o y is = absurd (cc)

pub integer_is : (o : Option Sort) → is_integer o ≡ true → o ≡ Some I
integer_is (Some I) is = refl
integer_is other is = absurd (cc)

pub bits_is : (o : Option Sort) → is_bits o ≡ true → o ≡ Some B
bits_is (Some B) is = refl
bits_is other is = absurd (cc)

pub one_value : {X : Type 0} (o : Option X) (x y : X) → o ≡ Some x → o ≡ Some y → x ≡ y
one_value None x y is also = absurd (cc)
one_value (Some one) x y is also = cc

-- so many integers on a stack
abbrev pub integers : ℕ → Sorts → Sorts
integers zero stack = stack
integers (suc n) stack = I ∷ integers n stack

pub taken : (n : ℕ) (stack : Sorts) → integers_taken n (integers n stack) ≡ Some stack
taken zero stack = refl
taken (suc n) stack = taken n stack

pub one_below : (n : ℕ) (stack : Sorts) → integers n (I ∷ stack) ≡ I ∷ integers n stack
one_below zero stack = refl
one_below (suc n) stack = ap (λ l. I ∷ l) (one_below n stack)

pub some_below : (m n t : ℕ) (stack : Sorts) → t ≡ m + n → integers n (integers m stack) ≡ integers t stack
some_below zero n t stack sum = let same : n ≡ t = omega (arith, sum) in ap (λ k. integers k stack) same
some_below (suc m) n zero stack sum = absurd (omega (arith, sum))
some_below (suc m) n (suc t) stack sum = one_below n (integers m stack) ∙ ap (λ l. I ∷ l) (some_below m n t stack (omega (arith, sum)))

-- the unit that is found has the number that was looked for
number_among : (k : ℕ) (bodies : List Body) (b : Body) → find (λ (one : Body). one.number == k) bodies ≡ Some b → b.number ≡ k
number_among k [] b is = absurd (cc)
number_among k (one ∷ others) b is = by (one.number == k) refl is (λ later. number_among k others b later)
  where
    by : (same : Bool) → (one.number == k) ≡ same → (if same then Some one else find (λ (other : Body). other.number == k) others) ≡ Some b
        → (find (λ (other : Body). other.number == k) others ≡ Some b → b.number ≡ k) → b.number ≡ k
    by true same found later = ap (λ o. elim o [ None ↦ k | Some x ↦ x.number ]) (sym found) ∙ eqb-true one.number k same
    by false same found later = later found

pub number_same : (s : Set) (unit : ℕ) (b : Body) → body_at s unit ≡ Some b → b.number ≡ unit
number_same s unit b is = number_among unit s.bodies b is
