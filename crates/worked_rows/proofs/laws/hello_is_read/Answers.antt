use Rattle.worked_rows.proofs.HelloReading.{read-hello}
use Rattle.worked_rows.proofs.laws.hello_is_read.Goals as goal

pub returns : goal.returns
returns c = read-hello
