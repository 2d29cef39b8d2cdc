-- What a sink has taken of a text.
use Rattle.std.specs.Prelude.{ℕ, List, length, Option, Result, Ok, Err}
use Rattle.hal_base.specs.Sink.{Takes}
use Rattle.hal_base.specs.declared.sink.SinkFault.{SinkFault}

-- all of the text, or a front of it where the sink failed
abbrev pub Drains : Option (List ℕ) → Option (List ℕ) → List ℕ → Result (Unit {0}) SinkFault → Type 0
Drains before now text (Ok _) = Takes before now text (length text)
Drains before now text (Err fault) = (count : ℕ) × Takes before now text count
