use Rattle.std.proofs.Common.{◌≡◌, nat_le, length}
use Rattle.hal_verify.specs.Cursors.{seen_cursor}
use Rattle.hal_verify.proofs.cursor.Cursor.is_long.Given as goal

abbrev pub invariant-loop-at : goal.invariant-loop-at
invariant-loop-at l = nat_le l.left (length (seen_cursor l.at)) ≡ nat_le l.count (length (seen_cursor l.fn.self))

abbrev pub decreases-loop-at : goal.decreases-loop-at
decreases-loop-at l = length l.at.rest.now
