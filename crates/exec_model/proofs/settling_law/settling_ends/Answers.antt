use Rattle.exec_model.proofs.OneSettling.{settle-Settles, Settles-one}
use Rattle.exec_model.proofs.Settled.{settle-rests}
use Rattle.exec_model.proofs.settling_law.settling_ends.Goals as goal

pub returns : goal.returns
returns c = record { ends = settle-Settles; one = Settles-one; rests = settle-rests }
