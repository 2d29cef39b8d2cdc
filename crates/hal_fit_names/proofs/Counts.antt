-- Initial values that give one value in all: all but one give none.
use Rattle.std.proofs.Common.{◌≡◌, ◌≤◌, ℕ, zero, suc, ◌+◌, ◌*◌, ◌-◌, ◌^◌, ◌==◌, min, Bool, true, false, ◌&&◌, ◌||◌, refl, ap, ◌∙◌, arith}
use Rattle.std.proofs.lemmas.Bool.{eqb-true, eq-eqb, leb-true, or_left, or_right}
use Rattle.hal_grammar.specs.Declarations.{Initial, Value, LiteralTimes, NameTimes, ListTimes, Initials, NoInitials, MoreInitials}
use Rattle.hal_constants.specs.Known.{gives_none, give_none}
use Rattle.hal_initials.specs.Repetition.{count_of, count_with}
use Rattle.hal_sizes.specs.Counts.{add, times}

two_big : 2 ≤ 2 ^ 128 - 1
two_big = leb-true 2 (2 ^ 128 - 1) refl

-- a number up to another one that is at least two
min_zero : (x b : ℕ) → 2 ≤ b → min x b ≡ 0 → x ≡ 0
min_zero x b more is = omega (arith, more, is)

min_one : (x b : ℕ) → 2 ≤ b → min x b ≡ 1 → x ≡ 1
min_one x b more is = omega (arith, more, is)

min_two : (x b : ℕ) → 2 ≤ b → 2 ≤ x → 2 ≤ min x b
min_two x b more also = omega (arith, more, also)

min_low : (x b : ℕ) → 2 ≤ b → x ≤ 1 → min x b ≡ x
min_low x b more low = omega (arith, more, low)

product_zero : (m n : ℕ) → m * n ≡ 0 → ((m == 0) || (n == 0)) ≡ true
product_zero zero n is = or_left (0 == 0) (n == 0) (eq-eqb 0 0 refl)
product_zero (suc m) zero is = or_right (suc m == 0) (0 == 0) (eq-eqb 0 0 refl)
product_zero (suc m) (suc n) is = absurd (omega (arith, is))

no_times : (m n : ℕ) → ((m == 0) || (n == 0)) ≡ true → m * n ≡ 0
no_times m n is = by (m == 0) refl is where
  by : (b : Bool) → (m == 0) ≡ b → (b || (n == 0)) ≡ true → m * n ≡ 0
  by true zero_ rest = ap (λ x. x * n) (eqb-true m 0 zero_) ∙ omega arith
  by false other rest = ap (λ x. m * x) (eqb-true n 0 rest) ∙ omega arith

or_by : (a b c : Bool) → (b ≡ true → c ≡ true) → (a || b) ≡ true → (a || c) ≡ true
or_by true b c so is = refl
or_by false b c so is = so is

-- none at all
mutual
  unfolding count_of count_with gives_none give_none

  pub zero_gives : (i : Initial) → count_of i ≡ 0 → gives_none i ≡ true
  zero_gives (Value tree) is = absurd (cc)
  zero_gives (LiteralTimes place count sign spot literal) is = eq-eqb count 0 is
  zero_gives (NameTimes place count sign name) is = eq-eqb count 0 is
  zero_gives (ListTimes place count list) is =
      or_by (count == 0) (count_with 0 list == 0) (give_none list) (λ none. (zeros_give list 0 (eqb-true (count_with 0 list) 0 none)).1)
      (product_zero count (count_with 0 list) (min_zero (count * count_with 0 list) (2 ^ 128 - 1) two_big is))

  zeros_give : (list : Initials) (total : ℕ) → count_with total list ≡ 0 → (total ≡ 0) × (give_none list ≡ true)
  zeros_give NoInitials total is = (is, refl)
  zeros_give (MoreInitials first others) total is =
      let rest = zeros_give others (add total (count_of first)) is in
      let sum = min_zero (total + count_of first) (2 ^ 128 - 1) two_big rest.0 in
      (omega (arith, sum), ap (λ b. b && give_none others) (zero_gives first (omega (arith, sum))) ∙ rest.1)

mutual
  unfolding count_of count_with gives_none give_none

  pub none_counts : (i : Initial) → gives_none i ≡ true → count_of i ≡ 0
  none_counts (Value tree) is = absurd (cc)
  none_counts (LiteralTimes place count sign spot literal) is = eqb-true count 0 is
  none_counts (NameTimes place count sign name) is = eqb-true count 0 is
  none_counts (ListTimes place count list) is =
      ap (λ n. min n (2 ^ 128 - 1)) (no_times count (count_with 0 list) (or_by (count == 0) (give_none list) (count_with 0 list == 0) (λ none. eq-eqb (count_with 0 list) 0 (nones_count list none)) is))
      ∙ min_low 0 (2 ^ 128 - 1) two_big (omega arith)

  nones_count : (list : Initials) → give_none list ≡ true → count_with 0 list ≡ 0
  nones_count NoInitials is = refl
  nones_count (MoreInitials first others) is = by (gives_none first) refl is (λ none. none_counts first none) (λ none. nones_count others none) where
    by : (b : Bool) → gives_none first ≡ b → (b && give_none others) ≡ true → (gives_none first ≡ true → count_of first ≡ 0) → (give_none others ≡ true → count_with 0 others ≡ 0) → count_with (add 0 (count_of first)) others ≡ 0
    by true none rest one all = ap (λ n. count_with (add 0 n) others) (one none) ∙ (ap (λ n. count_with n others) (min_low 0 (2 ^ 128 - 1) two_big (omega arith)) ∙ all rest)
    by false none rest one all = absurd (cc)

-- two or more stay so
pub two_stay : (list : Initials) (total : ℕ) → 2 ≤ total → 2 ≤ count_with total list
unfolding count_with
two_stay NoInitials total more = more
two_stay (MoreInitials first others) total more = two_stay others (add total (count_of first)) (min_two (total + count_of first) (2 ^ 128 - 1) two_big (omega (arith, more)))

-- how many a first one gives, and what the others have then
pub first_zero : (first : Initial) (others : Initials) (total : ℕ) → total ≤ 1 → count_of first ≡ 0 → count_with (add total (count_of first)) others ≡ count_with total others
first_zero first others total low none = ap (λ n. count_with (add total n) others) none ∙ ap (λ n. count_with n others) (ap (λ n. min n (2 ^ 128 - 1)) (omega arith) ∙ min_low total (2 ^ 128 - 1) two_big low)

pub first_one : (first : Initial) (others : Initials) → count_of first ≡ 1 → count_with (add 0 (count_of first)) others ≡ count_with 1 others
first_one first others one = ap (λ n. count_with (add 0 n) others) one ∙ ap (λ n. count_with n others) (min_low 1 (2 ^ 128 - 1) two_big (omega arith))

pub first_more : (first : Initial) (others : Initials) (total : ℕ) → 2 ≤ total + count_of first → count_with (add total (count_of first)) others ≡ 1 → ⊥
first_more first others total more is =
    let stay = two_stay others (add total (count_of first)) (min_two (total + count_of first) (2 ^ 128 - 1) two_big more) in omega (arith, stay, is)

-- a list that gives one value in all is there once and gives one
pub one_times : (count : ℕ) (list : Initials) → times count (count_with 0 list) ≡ 1 → ((count == 1) ≡ true) × (count_with 0 list ≡ 1)
one_times count list is = by count (count_with 0 list) (min_one (count * count_with 0 list) (2 ^ 128 - 1) two_big is) where
  by : (m n : ℕ) → m * n ≡ 1 → ((m == 1) ≡ true) × (n ≡ 1)
  by zero n product = absurd (omega (arith, product))
  by (suc zero) n product = (eq-eqb 1 1 refl, omega (arith, product))
  by (suc (suc m)) zero product = absurd (omega (arith, product))
  by (suc (suc m)) (suc n) product = absurd (omega (arith, product))
