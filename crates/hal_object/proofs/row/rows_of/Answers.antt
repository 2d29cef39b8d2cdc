use Rattle.std.proofs.lemmas.Result.{err_from_is_err_and}
use Rattle.hal_object.specs.Fields.{rows_at}
use Rattle.hal_object.proofs.Loops.{goes_on, ends, is_done}
use Rattle.hal_object.proofs.row.rows_of.Goals as goal

pub returns-in_err-row : goal.returns-in_err-row
returns-in_err-row g c =
    let p = err_from_is_err_and c.from_residual.result c.from_residual.ensures.1 in
    rw (p.1, p.2) (ends g.T.Row.at c.in_err-row.field-0.0 c.loop.rows c.args.count c.loop.counter c.loop.rest.now (rows_at g.T.Row.at c.args.count c.args.bytes.now) c.loop-test.true c.in_err-row.ensures c.loop.invariant)

pub loop-preserved : goal.loop-preserved
loop-preserved g c =
    rw c.in_ok-push.ensures.added (goes_on g.T.Row.at c.loop.rows c.args.count c.loop.counter c.loop.rest.now c.in_ok-row.row c.in_ok-row.after.now (rows_at g.T.Row.at c.args.count c.args.bytes.now) c.loop-test.true c.in_ok-row.ensures c.loop.invariant)

pub returns : goal.returns
returns g c = is_done g.T.Row.at c.loop.rows c.args.count c.loop.counter c.loop.rest.now (rows_at g.T.Row.at c.args.count c.args.bytes.now) c.loop-test.false c.loop.invariant
