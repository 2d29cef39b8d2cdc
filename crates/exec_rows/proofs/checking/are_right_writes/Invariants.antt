use Rattle.std.specs.List.{list_all}
use Rattle.std.proofs.Common.{◌≡◌, drop}
use Rattle.exec_rows.specs.Checks.{is_written}
use Rattle.exec_rows.proofs.checking.are_right_writes.Given as goal

abbrev pub invariant-loop-cell : goal.invariant-loop-cell
invariant-loop-cell l = list_all (is_written l.tables) l.writes ≡ list_all (is_written l.tables) (drop l.cell-index l.writes)
