use Rattle.worked_rows.proofs.Names.{named-count}
use Rattle.worked_rows.proofs.Types.{typed-count}
use Rattle.worked_rows.proofs.laws.count_is_typed.Goals as goal

pub returns : goal.returns
returns c = record { named = named-count; typed = typed-count }
