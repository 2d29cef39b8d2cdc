use Rattle.std.proofs.Common.{length}
use Rattle.hal_report.proofs.elements.+structure_rest.Given as goal

abbrev pub decreases-structure_rest : goal.decreases-structure_rest
decreases-structure_rest l = length l.names.now
