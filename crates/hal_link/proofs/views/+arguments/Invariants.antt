use Rattle.std.proofs.Common.{length}
use Rattle.hal_link.proofs.views.+arguments.Given as goal

abbrev pub decreases-push_arguments : goal.decreases-push_arguments
decreases-push_arguments l = length l.names.now
