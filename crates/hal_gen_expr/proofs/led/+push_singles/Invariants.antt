use Rattle.std.proofs.Common.{length}
use Rattle.hal_gen_expr.proofs.led.+push_singles.Given as goal

abbrev pub decreases-push_singles : goal.decreases-push_singles
decreases-push_singles l = length l.sizes.now
