use Rattle.std.proofs.Common.{◌≡◌, ◌++◌, map, drop}
use Rattle.hal_names.specs.SeenNames.{seen_names}
use Rattle.hal_constants.specs.SeenKnown.{seen_known}
use Rattle.hal_meaning.specs.Events.{start_of}
use Rattle.hal_storage.proofs.events.starts.starts_of.Given as goal

abbrev pub invariant-loop-number : goal.invariant-loop-number
invariant-loop-number l =
    l.list.items ++ map (start_of (seen_names l.names) (seen_known l.known)) (drop l.number-index l.numbers) ≡ map (start_of (seen_names l.names) (seen_known l.known)) l.numbers
