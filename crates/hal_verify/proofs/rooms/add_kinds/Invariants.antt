use Rattle.std.proofs.Common.{◌≡◌, ◌++◌, map, drop}
use Rattle.hal_verify.specs.Rooms.{kind_run}
use Rattle.hal_verify.proofs.rooms.add_kinds.Given as goal

abbrev pub invariant-loop-run : goal.invariant-loop-run
invariant-loop-run l = l.rooms.items ++ map kind_run (drop l.run-index l.kinds) ≡ l.fn.rooms.items ++ map kind_run l.kinds
