use Rattle.worked_rows.proofs.HelloReading.{IsCut-hello}
use Rattle.worked_rows.proofs.laws.hello_is_cut.Goals as goal

pub returns : goal.returns
returns c = IsCut-hello
