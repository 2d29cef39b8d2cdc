use Rattle.hal_top.proofs.refuse.refuse.Goals as goal

pub returns-in-Usage-clause-line : goal.returns-in-Usage-clause-line
returns-in-Usage-clause-line g c = rw c.outcome.ensures (rw c.as_bytes.ensures.value at c.print_line.ensures.printed)
