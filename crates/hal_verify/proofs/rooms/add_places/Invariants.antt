use Rattle.std.proofs.Common.{◌≡◌, ◌++◌, map, drop}
use Rattle.hal_verify.specs.Rooms.{place_run}
use Rattle.hal_verify.proofs.rooms.add_places.Given as goal

abbrev pub invariant-loop-run : goal.invariant-loop-run
invariant-loop-run l = l.rooms.items ++ map place_run (drop l.run-index l.runs) ≡ l.fn.rooms.items ++ map place_run l.runs
