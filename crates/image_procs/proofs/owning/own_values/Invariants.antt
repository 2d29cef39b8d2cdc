use Rattle.std.proofs.Common.{◌≡◌, [], drop}
use Rattle.image_procs.specs.Owning.{places_seen, with_owns}
use Rattle.image_procs.proofs.owning.own_values.Given as goal

abbrev pub invariant-loop-element : goal.invariant-loop-element
invariant-loop-element l =
    with_owns l.process (places_seen l.runner) l.values.items (drop l.element-index l.elements) ≡ with_owns l.process (places_seen l.runner) [] l.elements
