use Rattle.std.proofs.Common.{◌≡◌, map, drop}
use Rattle.hal_storage.specs.sets.SeenBodies.{seen_body}
use Rattle.hal_gen_expr.specs.Bodies.{found_in}
use Rattle.hal_gen_expr.proofs.bodies.body_in.Given as goal

abbrev pub invariant-loop-body : goal.invariant-loop-body
invariant-loop-body l = found_in l.unit (map seen_body (drop l.body-index l.list)) ≡ found_in l.unit (map seen_body l.list)
