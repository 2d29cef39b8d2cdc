use Rattle.std.proofs.Common.{drop}
use Rattle.hal_object.specs.Images.{HaveRuns}
use Rattle.hal_object.proofs.runs.have_runs.Given as goal

abbrev pub invariant-loop-process : goal.invariant-loop-process
invariant-loop-process l = (HaveRuns (drop l.process-index l.processes) → HaveRuns l.processes) × (HaveRuns l.processes → HaveRuns (drop l.process-index l.processes))
