use Rattle.hal_fit.proofs.QuietUnits.{unit_quiet, quiet_flag}
use Rattle.hal_fit.proofs.laws.a_unit_that_fits_inside_asks_nothing.Goals as goal

pub returns-clause-quiet : goal.returns-clause-quiet
returns-clause-quiet c = unit_quiet

pub returns-clause-flag : goal.returns-clause-flag
returns-clause-flag c = quiet_flag
