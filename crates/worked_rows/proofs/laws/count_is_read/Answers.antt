use Rattle.worked_rows.proofs.CountReading.{read-count}
use Rattle.worked_rows.proofs.laws.count_is_read.Goals as goal

pub returns : goal.returns
returns c = read-count
