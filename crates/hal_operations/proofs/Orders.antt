-- Comparisons of texts.
use Rattle.std.proofs.Common.{◌≡◌, ◌∙◌, ◌⊎◌, ◌<◌, ℕ, refl, sym, ap, inl, inr, Bool, true, false, not, ◌&&◌, ◌||◌, nat_lt, ◌==◌, List, [], ◌∷◌, Result, Ok, Err, arith, rules, ⊎_elim}
use Rattle.std.proofs.lemmas.Bool.{cases_lt}
use Rattle.std.proofs.lemmas.Bool.Decides.{nat_tests}
use Rattle.hal_values.specs.declared.environment.ErrNo.{ErrNo}
use Rattle.hal_values.specs.declared.value.Value.{Value}
use Rattle.hal_values.specs.declared.value.Value.TheVariants as value
use Rattle.hal_operations.specs.Strings.{one_bit}
use Rattle.hal_operations.specs.Texts.{is_before}

abbrev word_of : Value → ℕ
word_of (value.Int a) = 0
word_of (value.Bits len word) = word
word_of (value.Text text) = 0

abbrev word_in : Result Value ErrNo → ℕ
word_in (Ok v) = word_of v
word_in (Err e) = 0

-- one bit as the value of an operation
abbrev pub told : Bool → Result Value ErrNo
told bit = Ok (one_bit bit)

-- one bit that is set tells so
pub one_bit-set : (bit : Bool) → told bit ≡ told true → bit ≡ true
one_bit-set true e = refl
one_bit-set false e = let differs : 0 ≡ 1 = ap word_in e in absurd (omega (arith, differs))

before-split : (x y : ℕ) (rest : Bool) → (nat_lt x y || (x == y && rest)) ≡ true → (x < y) ⊎ ((x ≡ y) × (rest ≡ true))
before-split x y rest e = grind (arith, nat_tests)

before-joined : (x y : ℕ) (rest : Bool) → (x < y) ⊎ ((x ≡ y) × (rest ≡ true)) → (nat_lt x y || (x == y && rest)) ≡ true
before-joined x y rest e = grind (arith, nat_tests)

cons-same : (a b : ℕ) (x y : List ℕ) → a ≡ b → x ≡ y → a ∷ x ≡ b ∷ y
cons-same a b x y e f = ap (λ n. n ∷ x) e ∙ ap (λ xs. b ∷ xs) f

-- no text comes before itself
pub is_before-same : (x : List ℕ) → is_before x x ≡ true → ⊥
is_before-same [] e = absurd (search rules)
is_before-same (b ∷ x) e = ⊎_elim (λ less. absurd (omega arith)) (λ rest. is_before-same x rest.1) (before-split b b (is_before x x) e)

-- what comes before a text comes before all that it comes before
pub is_before-trans : (x y z : List ℕ) → is_before x y ≡ true → is_before y z ≡ true → is_before x z ≡ true
is_before-trans x y [] p q = absurd (search rules)
is_before-trans x [] (c ∷ z) p q = absurd (search rules)
is_before-trans [] (b ∷ y) (c ∷ z) p q = refl
is_before-trans (a ∷ x) (b ∷ y) (c ∷ z) p q =
    ⊎_elim
    (λ less. before-joined a c (is_before x z) (inl (⊎_elim (λ further. omega arith) (λ rest. omega arith) (before-split b c (is_before y z) q))))
    (λ same. ⊎_elim
    (λ further. before-joined a c (is_before x z) (inl (omega arith)))
    (λ rest. before-joined a c (is_before x z) (inr (same.0 ∙ rest.0, is_before-trans x y z same.1 rest.1)))
    (before-split b c (is_before y z) q))
    (before-split a b (is_before x y) p)

-- of two texts one comes before the other, or they are equal
pub is_before-total : (x y : List ℕ) → (is_before x y ≡ true) ⊎ ((x ≡ y) ⊎ (is_before y x ≡ true))
is_before-total [] [] = inr (inl refl)
is_before-total [] (b ∷ y) = inl refl
is_before-total (a ∷ x) [] = inr (inr refl)
is_before-total (a ∷ x) (b ∷ y) =
    ⊎_elim
    (λ less. inl (before-joined a b (is_before x y) (inl less)))
    (λ not_less. ⊎_elim
    (λ less. inr (inr (before-joined b a (is_before y x) (inl less))))
    (λ not_more. let same : a ≡ b = omega arith in
    ⊎_elim
    (λ p. inl (before-joined a b (is_before x y) (inr (same, p))))
    (λ more. ⊎_elim
    (λ e. inr (inl (cons-same a b x y same e)))
    (λ q. inr (inr (before-joined b a (is_before y x) (inr (sym same, q)))))
    more)
    (is_before-total x y))
    (cases_lt b a))
    (cases_lt a b)

not-set : (bit : Bool) → not bit ≡ true → bit ≡ true → ⊥
not-set bit p q = grind arith

both-set : (p q : Bool) → (p && q) ≡ true → (p ≡ true) × (q ≡ true)
both-set p q e = grind arith

-- two texts of which neither comes before the other are equal
pub neither : (x y : List ℕ) → (not (is_before x y) && not (is_before y x)) ≡ true → x ≡ y
neither x y e =
    let both = both-set (not (is_before x y)) (not (is_before y x)) e in
    ⊎_elim (λ p. absurd (not-set (is_before x y) both.0 p)) (λ more. ⊎_elim (λ same. same) (λ q. absurd (not-set (is_before y x) both.1 q)) more) (is_before-total x y)

-- a text that doesn't come after another comes before it, or equals it
pub at_most : (x y : List ℕ) → not (is_before y x) ≡ true → (is_before x y ≡ true) ⊎ (x ≡ y)
at_most x y e = ⊎_elim (λ p. inl p) (λ more. ⊎_elim (λ same. inr same) (λ q. absurd (not-set (is_before y x) e q)) more) (is_before-total x y)
