use Rattle.std.proofs.Common.{◌≡◌, drop}
use Rattle.hal_verify.specs.Cursors.{seen_cursor}
use Rattle.hal_verify.specs.Rooms.{lie}
use Rattle.hal_verify.proofs.cursor.Cursor.lies.Given as goal

abbrev pub invariant-loop-run : goal.invariant-loop-run
invariant-loop-run l = lie (seen_cursor l.at) (drop l.run-index l.kinds) ≡ lie (seen_cursor l.fn.self) l.kinds
