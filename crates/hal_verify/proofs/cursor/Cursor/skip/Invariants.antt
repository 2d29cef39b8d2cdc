use Rattle.std.proofs.Common.{◌≡◌, drop, length}
use Rattle.hal_verify.specs.Cursors.{seen_cursor}
use Rattle.hal_verify.proofs.cursor.Cursor.skip.Given as goal

abbrev pub invariant-loop-at : goal.invariant-loop-at
invariant-loop-at l = drop l.left (seen_cursor l.at) ≡ drop l.count (seen_cursor l.fn.self)

abbrev pub decreases-loop-at : goal.decreases-loop-at
decreases-loop-at l = length l.at.rest.now
