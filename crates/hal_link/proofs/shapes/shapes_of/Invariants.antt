use Rattle.std.proofs.Common.{◌≡◌, [], map, drop}
use Rattle.hal_storage.specs.sets.SeenBodies.{seen_body}
use Rattle.hal_storage.specs.sets.SeenSets.{seen_set}
use Rattle.hal_link.specs.Shapes.{with_bodies}
use Rattle.hal_link.proofs.shapes.shapes_of.Given as goal

abbrev pub invariant-loop-body : goal.invariant-loop-body
invariant-loop-body l = with_bodies (seen_set l.set) l.list.items (map seen_body (drop l.body-index l.bodies)) ≡ with_bodies (seen_set l.set) [] (map seen_body l.bodies)
