use Rattle.worked_rows.proofs.HelloReading.{SpellsFile-hello}
use Rattle.worked_rows.proofs.laws.hello_is_spelled.Goals as goal

pub returns : goal.returns
returns c = SpellsFile-hello
