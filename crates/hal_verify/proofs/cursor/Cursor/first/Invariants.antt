use Rattle.std.proofs.Common.{◌≡◌, slice_get, length}
use Rattle.hal_verify.specs.Cursors.{seen_cursor}
use Rattle.hal_verify.proofs.cursor.Cursor.first.Given as goal

abbrev pub invariant-loop-at : goal.invariant-loop-at
invariant-loop-at l = slice_get (seen_cursor l.at) 0 ≡ slice_get (seen_cursor l.fn.self) 0

abbrev pub decreases-loop-at : goal.decreases-loop-at
decreases-loop-at l = length l.at.rest.now
