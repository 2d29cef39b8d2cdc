use Rattle.hal_gen_expr.proofs.Constancy.{value_at}
use Rattle.hal_fit_constants.proofs.Gives.{value_gives}
use Rattle.hal_fit_constants.proofs.laws.what_the_checks_know_is_constant.Goals as goal

pub returns-clause-known : goal.returns-clause-known
returns-clause-known c site vs p tree v agree is = value_gives site vs p agree tree v is

pub returns-clause-constant : goal.returns-clause-constant
returns-clause-constant c site vs p tree v agree is = value_at site tree v (value_gives site vs p agree tree v is)
