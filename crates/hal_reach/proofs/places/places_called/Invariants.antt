use Rattle.std.proofs.Common.{◌≡◌, ◌++◌, drop}
use Rattle.hal_reach.specs.Places.{places_called}
use Rattle.hal_reach.proofs.places.places_called.Given as goal

abbrev pub invariant-loop-call : goal.invariant-loop-call
invariant-loop-call l =
    l.list.items ++ places_called l.numbers l.from (drop l.call-index l.calls) ≡ places_called l.numbers l.from l.calls
