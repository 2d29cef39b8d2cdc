use Rattle.std.proofs.Common.{◌≡◌, ◌++◌, map, drop}
use Rattle.hal_link.specs.Linking.{known_start}
use Rattle.hal_link.proofs.rows.event_rows.Given as goal

abbrev pub invariant-loop-start : goal.invariant-loop-start
invariant-loop-start l = l.rows.items ++ map known_start (drop l.start-index l.events) ≡ map known_start l.events
