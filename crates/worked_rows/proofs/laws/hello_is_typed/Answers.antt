use Rattle.worked_rows.proofs.Names.{named-hello}
use Rattle.worked_rows.proofs.Types.{typed-hello}
use Rattle.worked_rows.proofs.laws.hello_is_typed.Goals as goal

pub returns : goal.returns
returns c = record { named = named-hello; typed = typed-hello }
