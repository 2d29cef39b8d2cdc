use Rattle.std.proofs.Common.{length}
use Rattle.hal_link.proofs.views.+spots.Given as goal

abbrev pub decreases-push_spots : goal.decreases-push_spots
decreases-push_spots l = length l.names.now
