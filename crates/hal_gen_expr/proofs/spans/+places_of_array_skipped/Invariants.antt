use Rattle.std.proofs.Common.{length}
use Rattle.hal_gen_expr.proofs.spans.+places_of_array_skipped.Given as goal

abbrev pub decreases-places_of_array_skipped : goal.decreases-places_of_array_skipped
decreases-places_of_array_skipped l = length l.sizes.now
