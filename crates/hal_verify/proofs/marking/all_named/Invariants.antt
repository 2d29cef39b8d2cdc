use Rattle.std.proofs.Common.{◌≡◌, length}
use Rattle.hal_verify.specs.Marking.{all_named}
use Rattle.hal_verify.proofs.marking.all_named.Given as goal

abbrev pub invariant-loop-named : goal.invariant-loop-named
invariant-loop-named l = all_named l.rest l.left ≡ all_named l.marks l.fits

abbrev pub decreases-loop-named : goal.decreases-loop-named
decreases-loop-named l = length l.rest
