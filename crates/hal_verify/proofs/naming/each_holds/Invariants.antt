use Rattle.std.proofs.Common.{◌≡◌, None}
use Rattle.hal_verify.specs.Cursors.{seen_cursor}
use Rattle.hal_verify.specs.Rooms.{all_hold, each_lies}
use Rattle.hal_verify.proofs.naming.each_holds.Given as goal

abbrev pub invariant-loop-fewer : goal.invariant-loop-fewer
invariant-loop-fewer l = each_lies (all_hold None l.size) l.stride l.left (seen_cursor l.at) ≡ each_lies (all_hold None l.size) l.stride l.copies (seen_cursor l.fn.at)

abbrev pub decreases-loop-fewer : goal.decreases-loop-fewer
decreases-loop-fewer l = l.left
