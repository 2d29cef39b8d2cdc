-- The text of a journal.
use Rattle.std.specs.Prelude.{ℕ, List, ◌++◌, flat_map, codes, decimal}
use Rattle.exec_model.specs.declared.event.Event.{Event}
use Rattle.exec_model.specs.declared.event.Event.TheVariants.{Act, Open, Block, Tick, Preempt}

-- the line of an event, with the newline byte that ends it; numbers are decimal
abbrev pub event_line : Event → List ℕ
event_line (Act process) = codes "act " ++ (decimal process ++ codes "\n")
event_line (Open process) = codes "open " ++ (decimal process ++ codes "\n")
event_line (Block process turns) = codes "block " ++ (decimal process ++ (codes " " ++ (decimal turns ++ codes "\n")))
event_line (Tick time) = codes "tick " ++ (decimal time ++ codes "\n")
event_line (Preempt process) = codes "preempt " ++ (decimal process ++ codes "\n")

-- one line per event, in order
abbrev pub journal_text : List Event → List ℕ
journal_text journal = flat_map event_line journal
