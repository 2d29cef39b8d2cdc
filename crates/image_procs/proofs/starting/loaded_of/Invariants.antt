use Rattle.std.proofs.Common.{◌≡◌, length}
use Rattle.image_procs.specs.Running.{AreLoaded}
use Rattle.image_procs.proofs.starting.loaded_of.Given as goal

abbrev pub invariant-places : goal.invariant-places
invariant-places l = (length l.all.items ≡ l.place) × AreLoaded l.image l.all.items
