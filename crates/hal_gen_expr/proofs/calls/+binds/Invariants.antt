use Rattle.std.proofs.Common.{length}
use Rattle.hal_gen_expr.proofs.calls.+binds.Given as goal

abbrev pub decreases-emit_binds : goal.decreases-emit_binds
decreases-emit_binds l = length l.names.now
