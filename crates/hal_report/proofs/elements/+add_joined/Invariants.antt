use Rattle.std.proofs.Common.{length}
use Rattle.hal_report.proofs.elements.+add_joined.Given as goal

abbrev pub decreases-add_joined : goal.decreases-add_joined
decreases-add_joined l = length l.numbers.now
