use Rattle.std.proofs.Common.{◌≡◌, [], drop}
use Rattle.hal_runs.specs.Joined.{with_rows}
use Rattle.hal_runs.specs.Same.{same_cell}
use Rattle.hal_link.proofs.rows.cell_rows.Given as goal

abbrev pub invariant-loop-cell : goal.invariant-loop-cell
invariant-loop-cell l = with_rows same_cell l.rows.items (drop l.cell-index l.cells) ≡ with_rows same_cell [] l.cells
