use Rattle.std.proofs.Common.{◌≡◌, ℕ, ◌<◌, false}
use Rattle.exec_model.specs.Rows.{row_in}
use Rattle.script_run.proofs.run.has_no_open_block.Given as goal

abbrev pub invariant-loop-row : goal.invariant-loop-row
invariant-loop-row l = (p : ℕ) → p < l.row-index → (row_in l.rows p).inside ≡ false
