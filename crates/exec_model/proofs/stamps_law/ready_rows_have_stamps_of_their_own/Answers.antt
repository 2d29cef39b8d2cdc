use Rattle.exec_model.proofs.StampedRuns.{Steps-stamped}
use Rattle.exec_model.proofs.Stamps.{opening-stamped}
use Rattle.exec_model.proofs.stamps_law.ready_rows_have_stamps_of_their_own.Goals as goal

pub returns : goal.returns
returns g c = λ script lanes journal m steps. Steps-stamped _ lanes _ m journal (opening-stamped (g.Q.Load.tables c.args.load.now) script) steps
