use Rattle.std.proofs.Common.{◌≡◌, ◌++◌, drop}
use Rattle.hal_code.specs.Images.{expanded}
use Rattle.hal_verify.specs.Marking.{rooms_fit}
use Rattle.hal_verify.proofs.marking.rooms_fit.Given as goal

abbrev pub invariant-loop-view : goal.invariant-loop-view
invariant-loop-view l = l.fits.items ++ rooms_fit l.image (expanded l.rooms.runs.items) (drop l.view-index l.views) ≡ rooms_fit l.image (expanded l.rooms.runs.items) l.views
