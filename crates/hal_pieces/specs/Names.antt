-- Runs as names.
use Rattle.std.specs.Prelude.{ℕ, nat_le, List, length, Option, Some, None, if◌then◌else◌}

-- a run that isn't too long for a name
abbrev pub short : List ℕ → Option (List ℕ)
short run = if nat_le (length run) 32 then Some run else None
