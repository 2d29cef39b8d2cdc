use Rattle.std.proofs.Common.{length}
use Rattle.hal_gen_expr.proofs.led.+stride.Given as goal

abbrev pub decreases-stride : goal.decreases-stride
decreases-stride l = length l.sizes.now
