use Rattle.std.proofs.Common.{◌≡◌, length}
use Rattle.hal_verify.specs.Marking.{own_found}
use Rattle.hal_verify.proofs.marking.own_found.Given as goal

abbrev pub invariant-loop-view : goal.invariant-loop-view
invariant-loop-view l = own_found l.rest l.left ≡ own_found l.views l.found

abbrev pub decreases-loop-view : goal.decreases-loop-view
decreases-loop-view l = length l.rest
