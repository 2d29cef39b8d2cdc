-- Times, priorities and cycles as real-time statements give them.
use Rattle.std.specs.Prelude.{ℕ, Bool, true, false, ℤ, pos, negsuc, ◌*ℤ◌, int_lt, unsigned_abs, if◌then◌else◌}
use Rattle.std.specs.Int.{int_min, int_max}
use Rattle.hal_values.specs.declared.plan.When.{When}
use Rattle.hal_values.specs.declared.plan.Cycle.{Cycle}
use Rattle.hal_values.specs.declared.plan.Cycle.TheVariants as cycle
use Rattle.hal_values.specs.declared.plan.Guard.{Guard}
use Rattle.hal_values.specs.declared.plan.Plan.{Plan}
use Rattle.hal_values.specs.declared.value.Value.{Value}
use Rattle.hal_states.specs.Numbers.{integer_of}

-- a time within the limit
abbrev pub limited : ℤ → ℤ
limited t = if int_lt t (negsuc 2147483647999) then negsuc 2147483647999 else (if int_lt (pos 2147483648000) t then pos 2147483648000 else t)

-- the milliseconds of a number of seconds, which has 32 bits
abbrev pub milliseconds : Value → ℤ
milliseconds v = limited (integer_of v *ℤ pos 1000)

-- the time of so many milliseconds
abbrev pub thousandths : ℕ → ℤ
thousandths n = limited (pos n)

-- a priority lies in 0 to 255
abbrev pub nearest_priority : ℤ → ℕ
nearest_priority n = unsigned_abs (int_max (pos 0) (int_min n (pos 255)))

abbrev pub is_priority : ℤ → Bool
is_priority n = if int_lt n (pos 0) then false else (if int_lt (pos 255) n then false else true)

-- when a process runs again, as it is written
pub data Again : Type 0 where
  Never AtOnce : Again
  Every After : (time : ℤ) → Again

-- EVERY is above zero
abbrev pub is_again : Again → Bool
is_again (Every t) = int_lt (pos 0) t
is_again other = true

-- how a process goes on; EVERY by nothing or less is EVERY by one millisecond, and a negative AFTER counts as 0
abbrev pub cycle_of : Again → Cycle
cycle_of Never = cycle.Once
cycle_of AtOnce = cycle.Again
cycle_of (Every t) = if int_lt (pos 0) t then cycle.Every (unsigned_abs t) else cycle.Every 1
cycle_of (After t) = cycle.After (unsigned_abs (int_max (pos 0) t))

abbrev pub plan_of : ℕ → When → ℕ → Bool → Cycle → Guard → Plan
plan_of process starts prio dependent round until = record { process = process; when = starts; priority = prio; dependent = dependent; cycle = round; guard = until }
