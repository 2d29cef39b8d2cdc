use Rattle.std.proofs.Common.{arith}
use Rattle.script_run.proofs.Completing.{IsClosed-from}
use Rattle.script_run.proofs.run.has_no_open_block.Goals as goal

pub returns : goal.returns
returns c = (λ _. IsClosed-from c.args.rows.now c.loop-row.row-index (omega arith) c.loop-row.invariant, λ _. cc)
