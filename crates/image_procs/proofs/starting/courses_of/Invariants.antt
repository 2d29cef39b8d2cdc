use Rattle.std.proofs.Common.{◌≡◌, [], length, map, replicate}
use Rattle.image_procs.specs.Courses.{parts}
use Rattle.image_procs.specs.Running.{AreCourses, told_in}
use Rattle.image_procs.proofs.starting.courses_of.Given as goal

abbrev pub invariant-places : goal.invariant-places
invariant-places l = (length l.all.items ≡ l.place) × AreCourses l.load (map parts l.all.items) × (map told_in l.all.items ≡ replicate l.place [])
