use Rattle.std.proofs.Common.{length}
use Rattle.hal_gen_expr.proofs.procedures.+spots.Given as goal

abbrev pub decreases-emit_spots : goal.decreases-emit_spots
decreases-emit_spots l = length l.names.now
