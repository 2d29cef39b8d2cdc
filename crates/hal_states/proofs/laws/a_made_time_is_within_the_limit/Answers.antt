use Rattle.hal_states.proofs.Timing.{limited_is}
use Rattle.hal_states.proofs.laws.a_made_time_is_within_the_limit.Goals as goal

pub returns : goal.returns
returns c = limited_is
