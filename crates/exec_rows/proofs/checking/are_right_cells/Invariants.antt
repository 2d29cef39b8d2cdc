use Rattle.std.specs.List.{list_all}
use Rattle.std.proofs.Common.{◌≡◌, drop}
use Rattle.exec_rows.specs.Checks.{is_cell}
use Rattle.exec_rows.proofs.checking.are_right_cells.Given as goal

abbrev pub invariant-loop-cell : goal.invariant-loop-cell
invariant-loop-cell l = list_all is_cell l.cells ≡ list_all is_cell (drop l.cell-index l.cells)
