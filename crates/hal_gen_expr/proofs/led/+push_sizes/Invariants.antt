use Rattle.std.proofs.Common.{length}
use Rattle.hal_gen_expr.proofs.led.+push_sizes.Given as goal

abbrev pub decreases-push_sizes : goal.decreases-push_sizes
decreases-push_sizes l = length l.sizes.now
