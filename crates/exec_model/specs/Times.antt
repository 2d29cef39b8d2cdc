-- Times, which are milliseconds of the clock.
use Rattle.std.specs.Prelude.{ℕ, ◌+◌, max, ℤ, pos, negsuc}

-- a time that isn't below 0
abbrev pub from_zero : ℤ → ℕ
from_zero (pos t) = t
from_zero (negsuc t) = 0

-- this time, and not before now
abbrev pub not_before : ℕ → ℤ → ℕ
not_before now t = max now (from_zero t)

-- so long after now, and not before now
abbrev pub later : ℕ → ℤ → ℕ
later now t = now + from_zero t
