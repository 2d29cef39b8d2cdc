use Rattle.std.proofs.Common.{◌≡◌}
use Rattle.hal_code.specs.Effects.{integers_taken}
use Rattle.hal_verify.specs.SeenSorts.{seen_stack}
use Rattle.hal_verify.proofs.stack.Stack.take_integers.Given as goal

abbrev pub invariant-loop-fewer : goal.invariant-loop-fewer
invariant-loop-fewer l = integers_taken l.left (seen_stack l.self) ≡ integers_taken l.count (seen_stack l.fn.self)

abbrev pub decreases-loop-fewer : goal.decreases-loop-fewer
decreases-loop-fewer l = l.left
