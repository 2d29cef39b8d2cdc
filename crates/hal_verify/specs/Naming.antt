-- The elements of report names, copy by copy.
use Rattle.std.specs.Prelude.{ℕ, ◌+◌, ◌-◌, ◌*◌, ◌==◌, nat_le, Bool, List, drop, length, None, if◌then◌else◌}
use Rattle.hal_values.specs.declared.tables.ReportName.{ReportName}
use Rattle.hal_code.specs.Right.{copies_of}
use Rattle.hal_verify.specs.Rooms.{all_hold, each_lies}
use Rattle.hal_verify.specs.declared.room.Room.{Room}

-- the elements of the last copy end within so many, where a copy has so many
abbrev pub ends_within : ReportName → ℕ → ℕ → Bool
ends_within name size total = nat_le ((name.first + (copies_of name - 1) * name.stride) + size) total

-- those of each copy hold values
abbrev pub each_holds : ReportName → ℕ → List Room → Bool
each_holds name size rooms = each_lies (all_hold None size) name.stride (copies_of name) (drop name.first rooms)

-- the elements of each copy stand at own places
abbrev pub own_there : ReportName → ℕ → List Room → Bool
own_there name size rooms = if size == 0 then ends_within name 0 (length rooms) else each_holds name size rooms
