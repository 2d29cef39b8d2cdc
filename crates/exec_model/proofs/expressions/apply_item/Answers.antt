use Rattle.exec_model.specs.Moments.{event_in}
use Rattle.exec_model.proofs.expressions.apply_item.Goals as goal

pub returns-in_ok-negate-in-Not : goal.returns-in_ok-negate-in-Not
returns-in_ok-negate-in-Not c = rw c.in-Not.is (c.in_ok-negate-in-Not.ensures (event_in c.args.tables.now c.args.rows.now c.args.events.now))

pub returns-in_ok-join_both-in-And : goal.returns-in_ok-join_both-in-And
returns-in_ok-join_both-in-And c = rw c.in-And.is (c.in_ok-join_both-in-And.ensures (event_in c.args.tables.now c.args.rows.now c.args.events.now))

pub returns-in_ok-join_either-in-Or : goal.returns-in_ok-join_either-in-Or
returns-in_ok-join_either-in-Or c = rw c.in-Or.is (c.in_ok-join_either-in-Or.ensures (event_in c.args.tables.now c.args.rows.now c.args.events.now))
