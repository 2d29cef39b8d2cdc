-- What each event expression of the program is.
use Rattle.hal_storage.specs.declared.event_expressions.stated.Stated as rust-stated
use Rattle.hal_meaning.specs.Events.{Stated}

abbrev pub seen_stated : rust-stated.Stated → Stated
seen_stated one = record { statement = one.statement; items = one.items.items }
