use Rattle.std.proofs.lemmas.Bool.{OnTrue_at}
use Rattle.script_run.proofs.run.make.Goals as goal

pub returns-clause-made : goal.returns-clause-made
returns-clause-made g c = OnTrue_at (c.in_ok-step.ensures.allowed.1 c.requires.allowed) c.in_ok-step.ensures.made

pub returns-clause-written : goal.returns-clause-written
returns-clause-written g c = OnTrue_at (c.in_ok-step.ensures.allowed.1 c.requires.allowed) c.in_ok-step.ensures.written
