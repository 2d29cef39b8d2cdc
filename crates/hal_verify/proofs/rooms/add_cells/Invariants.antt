use Rattle.std.proofs.Common.{◌≡◌, ◌++◌, map, drop}
use Rattle.hal_verify.specs.Rooms.{cell_run}
use Rattle.hal_verify.proofs.rooms.add_cells.Given as goal

abbrev pub invariant-loop-run : goal.invariant-loop-run
invariant-loop-run l = l.rooms.items ++ map cell_run (drop l.run-index l.cells) ≡ l.fn.rooms.items ++ map cell_run l.cells
