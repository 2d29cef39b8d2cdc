use Rattle.std.proofs.Common.{◌≡◌, drop}
use Rattle.std.specs.List.{list_all}
use Rattle.hal_code.specs.Right.{cell_right}
use Rattle.hal_verify.proofs.tables.cells_right.Given as goal

abbrev pub invariant-loop-run : goal.invariant-loop-run
invariant-loop-run l = list_all cell_right (drop l.run-index l.cells) ≡ list_all cell_right l.cells
