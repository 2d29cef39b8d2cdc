use Rattle.exec_model.proofs.Agreement.{IsRun-agree, IsRunTo-agree, Reaches-agree, Reaches-report, IsRunTo-report}
use Rattle.exec_model.proofs.agreement_law.loads_that_agree_have_equal_runs.Goals as goal

pub returns : goal.returns
returns g c = record {
  runs = IsRun-agree _ _ (g.A.Load.is_load c.args.a.now) (g.B.Load.is_load c.args.b.now);
  ends = IsRunTo-agree _ _ (g.A.Load.is_load c.args.a.now) (g.B.Load.is_load c.args.b.now);
  reached = Reaches-agree _ _ (g.A.Load.is_load c.args.a.now) (g.B.Load.is_load c.args.b.now);
  reports = Reaches-report _ _ (g.A.Load.is_load c.args.a.now);
  end_reports = IsRunTo-report _ _ (g.A.Load.is_load c.args.a.now);
}
