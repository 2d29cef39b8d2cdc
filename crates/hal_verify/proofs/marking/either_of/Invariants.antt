use Rattle.std.proofs.Common.{◌≡◌, ◌++◌, length}
use Rattle.hal_verify.specs.Marking.{either_of}
use Rattle.hal_verify.proofs.marking.either_of.Given as goal

abbrev pub invariant-loop-one : goal.invariant-loop-one
invariant-loop-one l = l.list.items ++ either_of l.rest l.left ≡ either_of l.found l.fits

abbrev pub decreases-loop-one : goal.decreases-loop-one
decreases-loop-one l = length l.rest
