use Rattle.std.proofs.Common.{◌≡◌, length}
use Rattle.hal_verify.specs.Cursors.{seen_cursor}
use Rattle.hal_verify.specs.Rooms.{all_hold}
use Rattle.hal_verify.proofs.cursor.Cursor.all_hold.Given as goal

abbrev pub invariant-loop-at : goal.invariant-loop-at
invariant-loop-at l = all_hold l.wanted l.left (seen_cursor l.at) ≡ all_hold l.wanted l.count (seen_cursor l.fn.self)

abbrev pub decreases-loop-at : goal.decreases-loop-at
decreases-loop-at l = length l.at.rest.now
