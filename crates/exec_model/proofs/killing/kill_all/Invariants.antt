use Rattle.std.proofs.Common.{◌≡◌, drop}
use Rattle.exec_model.specs.Drafts.{on}
use Rattle.exec_model.specs.Killing.{all_killed}
use Rattle.exec_model.proofs.killing.kill_all.Given as goal

abbrev pub invariant-loop-process : goal.invariant-loop-process
invariant-loop-process g l = on (all_killed (drop l.process-index l.processes)) l.draft ≡ on (all_killed l.processes) l.initial.draft
