use Rattle.std.proofs.Common.{subst, IsNone}
use Rattle.exec_model.specs.Meanings.{meaning}
use Rattle.exec_model.specs.Moments.{moment_of}
use Rattle.exec_model.specs.Running.{running_moment}
use Rattle.exec_model.specs.Runs.{IsQuiet}
use Rattle.exec_model.proofs.Runnings.{quiet_none}
use Rattle.exec_model.proofs.plain.Plain.next_event.Goals as goal

pub returns-clause-none : goal.returns-clause-none
returns-clause-none g c =
    subst (λ r. (IsNone c.in_ok-found.found → IsQuiet (running_moment g.P.Procs.answers r)) × (IsQuiet (running_moment g.P.Procs.answers r) → IsNone c.in_ok-found.found)) c.self.view_is
    (quiet_none (meaning g.P.Of.Load (g.P.Procs.load c.self.inside.procs)) c.self.inside.lanes (moment_of c.self.inside.state (g.P.Procs.answers c.self.inside.procs)) c.in_ok-found.found
    c.in_ok-found.ensures.none c.in_ok-found.ensures.of_process c.in_ok-found.ensures.found)
