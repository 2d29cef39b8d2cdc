-- Times are within the limit.
use Rattle.std.specs.Prelude.{ℕ, suc, ◌≤◌, ◌≡◌, ℤ, pos, negsuc, ◌≤ℤ◌, int_lt, unsigned_abs, Bool, true, false, if◌then◌else◌}
use Rattle.std.specs.Bool.{passes}
use Rattle.std.specs.Int.Signed.{lt_z_no}
use Rattle.std.proofs.Common.{refl, arith}
use Rattle.std.proofs.lemmas.Bool.{not_from_false}
use Rattle.std.proofs.Math.Facts.{leb_yes}
use Rattle.hal_values.specs.declared.plan.Cycle.TheVariants as cycle
use Rattle.hal_values.specs.Requests.{IsTime, IsCycleInOrder, time_limit}
use Rattle.hal_states.specs.Times.{limited, Again, Never, AtOnce, Every, After, cycle_of}

no_less : (t low : ℤ) → int_lt t low ≡ false → low ≤ℤ t
no_less t low e = lt_z_no (passes _ (not_from_false (int_lt t low) e))

high_time : (t : ℤ) (b : Bool) → int_lt (pos 2147483648000) t ≡ b → negsuc 2147483647999 ≤ℤ t → IsTime (if b then pos 2147483648000 else t)
high_time t true e low = (omega arith, omega arith)
high_time t false e low = (low, no_less (pos 2147483648000) t e)

limited_time : (t : ℤ) (b : Bool) → int_lt t (negsuc 2147483647999) ≡ b → IsTime (if b then negsuc 2147483647999 else (if int_lt (pos 2147483648000) t then pos 2147483648000 else t))
limited_time t true e = (omega arith, omega arith)
limited_time t false e = high_time t (int_lt (pos 2147483648000) t) refl (no_less t (negsuc 2147483647999) e)

-- a time is within the limit
pub limited_is : (t : ℤ) → IsTime (limited t)
limited_is t = limited_time t (int_lt t (negsuc 2147483647999)) refl

-- the time of a cycle that is written is within the limit
abbrev pub IsAgain : Again → Type 0
IsAgain Never = Unit {0}
IsAgain AtOnce = Unit {0}
IsAgain (Every t) = IsTime t
IsAgain (After t) = IsTime t

negative_within : (m : ℕ) → negsuc 2147483647999 ≤ℤ negsuc m → suc m ≤ 2147483648000
negative_within m is = omega (arith, leb_yes {a = m} {b = 2147483647999} is.le)

positive_within : (m : ℕ) → pos m ≤ℤ pos 2147483648000 → m ≤ 2147483648000
positive_within m is = leb_yes {a = m} {b = 2147483648000} is.le

size_within : (t : ℤ) → IsTime t → unsigned_abs t ≤ time_limit
size_within (pos m) is = positive_within m is.1
size_within (negsuc m) is = negative_within m is.0

after_within : (t : ℤ) (b : Bool) → IsTime t → unsigned_abs (if b then pos 0 else t) ≤ time_limit
after_within t true is = omega arith
after_within t false is = size_within t is

every_within : (t : ℤ) (b : Bool) → IsTime t → IsCycleInOrder (if b then cycle.Every (unsigned_abs t) else cycle.Every 1)
every_within t true is = size_within t is
every_within t false is = omega arith

-- and so is that of the cycle that is made of it
pub cycle_is : (one : Again) → IsAgain one → IsCycleInOrder (cycle_of one)
cycle_is Never is = tt
cycle_is AtOnce is = tt
cycle_is (Every t) is = every_within t (int_lt (pos 0) t) is
cycle_is (After t) is = after_within t (int_lt t (pos 0)) is
