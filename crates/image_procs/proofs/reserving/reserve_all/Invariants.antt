use Rattle.std.proofs.Common.{◌≡◌, ◌<◌, ◌≤◌, ℕ, length, map, slice_index}
use Rattle.exec_model.specs.Processes.{NotLower, reserved_room}
use Rattle.image_procs.specs.Courses.{parts, room}
use Rattle.image_procs.proofs.reserving.reserve_all.Given as goal

abbrev pub invariant-places : goal.invariant-places
invariant-places l =
    (length l.courses.items ≡ length l.initial.courses.items)
    × (map parts l.courses.items ≡ map parts l.initial.courses.items)
    × NotLower (map room l.initial.courses.items) (map room l.courses.items)
    × ((p : ℕ) → p < l.place → reserved_room ≤ slice_index (map room l.courses.items) p)
