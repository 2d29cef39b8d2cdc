use Rattle.std.proofs.Common.{◌≡◌, take}
use Rattle.exec_rows.proofs.copies.copy_writes.Given as goal

abbrev pub invariant-loop-cell : goal.invariant-loop-cell
invariant-loop-cell l = l.copy.items ≡ take l.cell-index l.writes
