use Rattle.std.proofs.Common.{length}
use Rattle.hal_limits.proofs.reached.+all_reached.Given as goal

abbrev pub decreases-all_reached : goal.decreases-all_reached
decreases-all_reached l = length l.sizes.now
