-- The bits of lock groups.
use Rattle.std.proofs.Common.{rules, ◌≡◌, ◌≢◌, ◌∙◌, ◌==◌, ◌<◌, ◌^◌, ◌%◌, ◌*◌, ℕ, zero, suc, max, nat_lt, bit_or, Bool, true, false, ◌||◌, if◌then◌else◌, refl, sym, ap, ap₂, subst, arith, lt-ltb, ltb-true, eqb-true, ne_eqb, suc-ne-zero}
use Rattle.std.specs.Int.{bit_at}
use Rattle.std.proofs.lemmas.Bool.{eqb-false}
use Rattle.std.proofs.lemmas.Nat.{one_shl, or_lt, pow_below}
use Rattle.std.proofs.lemmas.Nat.Bits.{bit_at-zero, bit_at_or, bit_at-pow_same, bit_at-pow_other}
use Rattle.std.proofs.Math.Bool.{or-false}
use Rattle.hal_meaning.specs.Places.{Storing, InCells, InPlaces, ByReference, Unstored}
use Rattle.hal_meaning.specs.LockGroups.{is_plain, is_locked_by}
use Rattle.hal_lock_groups.specs.Groups.{bit_of, bit_stored, bits_with}

-- `1 << k`
pub one_bit : (k : ℕ) → k < 16 → (1 * 2 ^ k) % 2 ^ 16 ≡ 2 ^ k
one_bit k h = one_shl k 16 h

-- whether it is there as a bit
abbrev pub as_bit : Bool → ℕ
as_bit true = 1
as_bit false = 0

pub either_bit : (a b : Bool) → max (as_bit a) (as_bit b) ≡ as_bit (a || b)
either_bit true true = refl
either_bit true false = refl
either_bit false true = refl
either_bit false false = refl

-- whether a phrase uses a group by itself, by how what it names is stored and whether it calls a unit that uses plain data
abbrev pub uses : ℕ → Storing → Bool → Bool
uses zero s calls = is_plain s || calls
uses (suc n) s calls = is_locked_by (suc n) s

-- the group of data
abbrev pub is_of : ℕ → Storing → Bool
is_of g (InCells k) = k == g
is_of g ByReference = 0 == g
is_of g InPlaces = false
is_of g Unstored = false

same_bit : (k : ℕ) → k < 16 → bit_at (bit_of k) k ≡ 1
same_bit k h = ap (λ b. bit_at (if b then 2 ^ k else 0) k) (lt-ltb k 16 h) ∙ bit_at-pow_same k

other_bit : (k g : ℕ) (b : Bool) → g ≢ k → bit_at (if b then 2 ^ k else 0) g ≡ 0
other_bit k g true other = bit_at-pow_other k g other
other_bit k g false other = bit_at-zero g

group_bit_at : (k g : ℕ) → g < 16 → (b : Bool) → (k == g) ≡ b → bit_at (bit_of k) g ≡ as_bit b
group_bit_at k g h true is = subst (λ (i : ℕ). bit_at (bit_of k) i ≡ 1) (eqb-true k g is) (same_bit k (subst (λ (i : ℕ). i < 16) (sym (eqb-true k g is)) h))
group_bit_at k g h false is = other_bit k g (nat_lt k 16) (λ same. eqb-false k g is (sym same))

group_bit : (k g : ℕ) → g < 16 → bit_at (bit_of k) g ≡ as_bit (k == g)
group_bit k g h = group_bit_at k g h (k == g) refl

stored_bit : (s : Storing) (g : ℕ) → g < 16 → bit_at (bit_stored s) g ≡ as_bit (is_of g s)
stored_bit (InCells k) g h = group_bit k g h
stored_bit ByReference g h = group_bit 0 g h
stored_bit InPlaces g h = bit_at-zero g
stored_bit Unstored g h = bit_at-zero g

plain_is : (s : Storing) → is_of 0 s ≡ is_plain s
plain_is (InCells zero) = refl
plain_is (InCells (suc k)) = ne_eqb (suc k) 0 (suc-ne-zero k)
plain_is ByReference = refl
plain_is InPlaces = refl
plain_is Unstored = refl

not_first : (n : ℕ) → (0 == suc n) ≡ false
not_first n = ne_eqb 0 (suc n) (λ same. suc-ne-zero n (sym same))

locked_is : (n : ℕ) (s : Storing) → is_of (suc n) s ≡ is_locked_by (suc n) s
locked_is n (InCells k) = refl
locked_is n ByReference = not_first n
locked_is n InPlaces = refl
locked_is n Unstored = refl

calling : (g : ℕ) (s : Storing) → (is_of g s || (0 == g)) ≡ uses g s true
calling zero s = ap (λ b. b || true) (plain_is s)
calling (suc n) s = ap (λ b. is_of (suc n) s || b) (not_first n) ∙ or-false (is_of (suc n) s) ∙ locked_is n s

not_calling : (g : ℕ) (s : Storing) → is_of g s ≡ uses g s false
not_calling zero s = plain_is s ∙ sym (or-false (is_plain s))
not_calling (suc n) s = locked_is n s

pub used_bit : (s : Storing) (calls : Bool) (g : ℕ) → g < 16 → bit_at (bits_with s calls) g ≡ as_bit (uses g s calls)
used_bit s true g h =
    bit_at_or (bit_stored s) 1 g
    ∙ ap₂ max (stored_bit s g h) (group_bit 0 g h)
    ∙ either_bit (is_of g s) (0 == g)
    ∙ ap as_bit (calling g s)
used_bit s false g h = stored_bit s g h ∙ ap as_bit (not_calling g s)

-- there are 16
bit_below : (k : ℕ) (b : Bool) → nat_lt k 16 ≡ b → (if b then 2 ^ k else 0) < 2 ^ 16
bit_below k true is = pow_below k 16 (ltb-true k 16 is)
bit_below k false is = omega arith

stored_below : (s : Storing) → bit_stored s < 2 ^ 16
stored_below (InCells k) = bit_below k (nat_lt k 16) refl
stored_below ByReference = omega arith
stored_below InPlaces = omega arith
stored_below Unstored = omega arith

pub used_below : (s : Storing) (calls : Bool) → bits_with s calls < 2 ^ 16
used_below s true = or_lt 16 (bit_stored s) 1 (stored_below s) (omega arith)
used_below s false = stored_below s

-- bits, and those of a phrase where it stands in the block
pub with_more : (b : Bool) (bits more found : ℕ) → b ≡ true → found ≡ more → bit_or bits found ≡ (if b then bit_or bits more else bits)
with_more true bits more found is same = ap (bit_or bits) same
with_more false bits more found is same = search (rules, is)

pub with_none : (b : Bool) (bits more : ℕ) → b ≡ false → bits ≡ (if b then bit_or bits more else bits)
with_none false bits more is = refl
with_none true bits more is = search (rules, is)
