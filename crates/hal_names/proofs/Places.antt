-- What is said of each phrase of a list whose numbers are its places.
use Rattle.std.proofs.Common.{◌≡◌, ◌≢◌, ◌<◌, ◌+◌, ℕ, zero, suc, Bool, true, false, List, [], ◌∷◌, Option, Some, None, refl, sym, ◌∙◌, ap, subst, arith}
use Rattle.std.proofs.lemmas.Bool.{false≢true}
use Rattle.std.specs.Prelude.{if◌then◌else◌}
use Rattle.hal_phrases.specs.Phrases.{Phrase}
use Rattle.hal_names.specs.declared.key.Key.{Key}
use Rattle.hal_names.specs.Keys.{declared_by, is_key, own}
use Rattle.hal_names.specs.Laws.{IsAt, IsCounted, BeginsInABlock, IsFirst, IsUndeclared}
use Rattle.hal_names.proofs.Counted.{Fits, AreFrom}
use Rattle.hal_names.proofs.KeyEquality.{same_key-Decides}

some_phrase : {x y : Phrase} → Some x ≡ Some y → x ≡ y
some_phrase e = cc

fits_at : (m : ℕ) (ps : List Phrase) (k : ℕ) (p : Phrase) → AreFrom m ps → IsAt ps k p → Fits (m + k) p
fits_at m [] k p counted at = absurd (cc)
fits_at m (x ∷ ps) zero p counted at = subst (λ (y : Phrase). Fits (m + 0) y) (some_phrase at) (subst (λ n. Fits n x) (omega (arith)) counted.0)
fits_at m (x ∷ ps) (suc k) p counted at = subst (λ n. Fits n p) (omega (arith)) (fits_at (suc m) ps k p counted.1 at)

pub place_fits : (ps : List Phrase) (k : ℕ) (p : Phrase) → AreFrom 0 ps → IsAt ps k p → Fits k p
place_fits ps k p counted at = subst (λ n. Fits n p) (omega (arith)) (fits_at 0 ps k p counted at)

pub are_counted : (ps : List Phrase) → AreFrom 0 ps → IsCounted ps
are_counted ps counted k p at = (place_fits ps k p counted at).0

pub blocks_before : (ps : List Phrase) → AreFrom 0 ps → BeginsInABlock ps
blocks_before ps counted k p at = (place_fits ps k p counted at).1

key_declared : (q : Key) (o : Option Key) → is_key q o ≡ true → o ≡ Some q
key_declared q None is = absurd (false≢true is)
key_declared q (Some p) is = ap Some ((same_key-Decides p q).0 is)

declared_key : (q : Key) (o : Option Key) → o ≡ Some q → is_key q o ≡ true
declared_key q o is = rw is ((same_key-Decides q q).1 refl)

not_declared : (q : Key) (p : Phrase) → is_key q (declared_by p) ≡ false → declared_by p ≢ Some q
not_declared q p other is = false≢true (sym other ∙ declared_key q (declared_by p) is)

pub some_number : {x y : ℕ} → Some x ≡ Some y → x ≡ y
some_number e = cc

-- one more phrase in front, which doesn't declare the key
first_behind : (p : Phrase) (ps : List Phrase) (q : Key) (k : ℕ) → declared_by p ≢ Some q → IsFirst ps q k → IsFirst (p ∷ ps) q (suc k)
first_behind p ps q k other is = record {
  declaring = is.declaring;
  there = is.there;
  declares = is.declares;
  first = before;
}
  where
    before : (j : ℕ) (x : Phrase) → j < suc k → IsAt (p ∷ ps) j x → declared_by x ≢ Some q
    before zero x less at = subst (λ (y : Phrase). declared_by y ≢ Some q) (some_phrase at) other
    before (suc j) x less at = is.first j x (omega (arith, less)) at

first_here : (p : Phrase) (ps : List Phrase) (q : Key) → declared_by p ≡ Some q → IsFirst (p ∷ ps) q 0
first_here p ps q is = record {
  declaring = p;
  there = refl;
  declares = is;
  first = λ k x less at. absurd (omega (arith, less));
}

own_from : (m : ℕ) (ps : List Phrase) (q : Key) (n : ℕ) → AreFrom m ps → own ps q ≡ Some n → (k : ℕ) × (n ≡ m + k) × IsFirst ps q k
unfolding own
own_from m [] q n counted is = absurd (cc)
own_from m (p ∷ ps) q n counted is = by (λ behind. own_from (suc m) ps q n counted.1 behind) (is_key q (declared_by p)) refl is
  where
    by : (own ps q ≡ Some n → (k : ℕ) × (n ≡ suc m + k) × IsFirst ps q k) → (b : Bool) → is_key q (declared_by p) ≡ b → (if b then Some p.number else own ps q) ≡ Some n
        → (k : ℕ) × (n ≡ m + k) × IsFirst (p ∷ ps) q k
    by further true same is = (0, omega (arith, some_number is, counted.0.0), first_here p ps q (key_declared q (declared_by p) same))
    by further false other is = let behind = further is in (suc behind.0, omega (arith, behind.1), first_behind p ps q behind.0 (not_declared q p other) behind.2)

pub own_first : (ps : List Phrase) (q : Key) (n : ℕ) → AreFrom 0 ps → own ps q ≡ Some n → IsFirst ps q n
own_first ps q n counted is =
    let found = own_from 0 ps q n counted is in
    subst (IsFirst ps q) (omega (arith, found.1)) found.2

pub own_none : (ps : List Phrase) (q : Key) → own ps q ≡ None → IsUndeclared ps q
unfolding own
own_none [] q is k p at = absurd (cc)
own_none (x ∷ ps) q is k p at = by (λ behind j there. own_none ps q behind j p there) (is_key q (declared_by x)) refl is k at
  where
    by : (own ps q ≡ None → (j : ℕ) → IsAt ps j p → declared_by p ≢ Some q) → (b : Bool) → is_key q (declared_by x) ≡ b → (if b then Some x.number else own ps q) ≡ None
        → (j : ℕ) → IsAt (x ∷ ps) j p → declared_by p ≢ Some q
    by further true same is j there = absurd (cc)
    by further false other is zero there = subst (λ (y : Phrase). declared_by y ≢ Some q) (some_phrase there) (not_declared q x other)
    by further false other is (suc j) there = further is j there
