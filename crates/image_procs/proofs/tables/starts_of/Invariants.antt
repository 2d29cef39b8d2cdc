use Rattle.std.proofs.Common.{◌≡◌, ◌++◌, drop, map}
use Rattle.hal_code.specs.Images.{start_of}
use Rattle.image_procs.proofs.tables.starts_of.Given as goal

abbrev pub invariant-loop-event : goal.invariant-loop-event
invariant-loop-event l = l.starts.items ++ map start_of (drop l.event-index l.events) ≡ map start_of l.events
