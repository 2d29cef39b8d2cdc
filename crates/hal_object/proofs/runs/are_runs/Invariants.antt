use Rattle.std.proofs.Common.{length}
use Rattle.hal_object.specs.Images.{AreRuns}
use Rattle.hal_object.proofs.runs.are_runs.Given as goal

abbrev pub invariant-loop-run : goal.invariant-loop-run
invariant-loop-run g l = (AreRuns l.rest → AreRuns l.fn.runs) × (AreRuns l.fn.runs → AreRuns l.rest)

abbrev pub decreases-loop-run : goal.decreases-loop-run
decreases-loop-run g l = length l.rest
