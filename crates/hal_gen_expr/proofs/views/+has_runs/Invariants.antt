use Rattle.std.proofs.Common.{length}
use Rattle.hal_gen_expr.proofs.views.+has_runs.Given as goal

abbrev pub decreases-has_runs : goal.decreases-has_runs
decreases-has_runs l = length l.found.now
