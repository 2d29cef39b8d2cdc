use Rattle.std.proofs.Common.{◌≡◌, map, drop}
use Rattle.hal_storage.specs.sets.SeenBodies.{seen_body}
use Rattle.hal_gen.specs.Returning as returning
use Rattle.hal_gen.proofs.returns.unit_gives_text.Given as goal

abbrev pub invariant-loop-body : goal.invariant-loop-body
invariant-loop-body l =
    returning.given_by l.unit (map seen_body (drop l.body-index l.bodies)) ≡ returning.given_by l.unit (map seen_body l.bodies)
