use Rattle.std.proofs.Common.{◌≡◌, drop}
use Rattle.hal_gen_expr.specs.Numbering.{is_cell_view}
use Rattle.hal_gen_expr.specs.ViewSlots.{first_at}
use Rattle.hal_gen_expr.proofs.view_finding.first_cell.Given as goal

abbrev pub invariant-loop-number : goal.invariant-loop-number
invariant-loop-number l = first_at (is_cell_view l.from l.rows l.kind) l.list (drop l.number-index l.numbers) ≡ first_at (is_cell_view l.from l.rows l.kind) l.list l.numbers
