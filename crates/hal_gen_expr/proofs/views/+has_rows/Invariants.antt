use Rattle.std.proofs.Common.{length}
use Rattle.hal_gen_expr.proofs.views.+has_rows.Given as goal

abbrev pub decreases-has_rows : goal.decreases-has_rows
decreases-has_rows l = length l.found.now
