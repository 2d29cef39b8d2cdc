use Rattle.exec_model.proofs.OneRun.{one_run, Reaches-one_event, Reaches-some_event}
use Rattle.exec_model.proofs.one_lane_law.one_lane_is_one_run.Goals as goal

pub returns : goal.returns
returns g c = record {
  one_event = Reaches-one_event _ (g.Q.Load.is_load c.args.load.now);
  some_event = Reaches-some_event _ (g.Q.Load.is_load c.args.load.now);
  one_run = one_run _ (g.Q.Load.is_load c.args.load.now);
}
