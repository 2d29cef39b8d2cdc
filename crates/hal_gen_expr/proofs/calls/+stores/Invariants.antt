use Rattle.std.proofs.Common.{length}
use Rattle.hal_gen_expr.proofs.calls.+stores.Given as goal

abbrev pub decreases-emit_stores : goal.decreases-emit_stores
decreases-emit_stores l = length l.names.now
