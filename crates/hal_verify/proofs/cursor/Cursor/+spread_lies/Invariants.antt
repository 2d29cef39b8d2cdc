use Rattle.std.proofs.Common.{◌≡◌, length}
use Rattle.hal_verify.specs.Cursors.{seen_cursor}
use Rattle.hal_verify.specs.Rooms.{each_lies, spread_lies}
use Rattle.hal_verify.proofs.cursor.Cursor.+spread_lies.Given as goal

abbrev pub invariant-loop-fewer : goal.invariant-loop-fewer
invariant-loop-fewer l =
    each_lies (spread_lies l.kinds l.rest) l.dimension.stride l.left (seen_cursor l.at) ≡ each_lies (spread_lies l.kinds l.rest) l.dimension.stride l.dimension.size (seen_cursor l.fn.self)

abbrev pub decreases-loop-fewer : goal.decreases-loop-fewer
decreases-loop-fewer l = l.left

abbrev pub decreases-spread_lies : goal.decreases-spread_lies
decreases-spread_lies l = length l.dimensions.now
