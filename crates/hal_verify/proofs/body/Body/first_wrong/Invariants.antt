use Rattle.std.proofs.Common.{◌≡◌, drop}
use Rattle.hal_verify.specs.Noting.{first_noted}
use Rattle.hal_verify.specs.SeenBodies.{seen_body}
use Rattle.hal_verify.proofs.body.Body.first_wrong.Given as goal

abbrev pub invariant-loop-number : goal.invariant-loop-number
invariant-loop-number l = first_noted (seen_body l.self) l.number (drop l.number l.self.code.now) ≡ first_noted (seen_body l.self) 0 l.self.code.now
