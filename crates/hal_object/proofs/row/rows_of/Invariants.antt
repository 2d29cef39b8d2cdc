use Rattle.std.proofs.Common.{◌≡◌, ◌-◌}
use Rattle.hal_object.specs.Fields.{rows_at}
use Rattle.hal_object.proofs.Loops.{with_front}
use Rattle.hal_object.proofs.row.rows_of.Given as goal

abbrev pub invariant-loop : goal.invariant-loop
invariant-loop g l = with_front l.rows (rows_at g.T.Row.at (l.count - l.counter) l.rest) ≡ rows_at g.T.Row.at l.count l.bytes
