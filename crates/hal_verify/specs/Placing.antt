-- What instructions ask of own places, by what stands there.
use Rattle.std.specs.Prelude.{ℕ, Bool, true, false, Option, Some, None}
use Rattle.hal_verify.specs.declared.room.Room.{Room}
use Rattle.hal_verify.specs.declared.room.Room.TheVariants as room

-- the shape to which a place refers that may be there
abbrev pub referred_by : Option Room → Option ℕ
referred_by None = None
referred_by (Some (room.Of kind)) = None
referred_by (Some (room.To shape)) = Some shape

-- something stands there
abbrev pub is_there : Option Room → Bool
is_there None = false
is_there (Some one) = true
