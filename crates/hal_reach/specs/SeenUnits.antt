-- What each unit of the program is.
use Rattle.hal_reach.specs.declared.unit.Unit as rust-unit
use Rattle.hal_reach.specs.declared.unit.Reached as rust-reached
use Rattle.hal_reach.specs.Marks as marks

abbrev pub seen_unit : rust-unit.Unit → marks.Unit
seen_unit u = record { number = u.number; process = u.process; callees = u.callees.items }

abbrev pub seen_reached : rust-reached.Reached → marks.Reached
seen_reached r = record { unit = r.unit; processes = r.processes.items }
