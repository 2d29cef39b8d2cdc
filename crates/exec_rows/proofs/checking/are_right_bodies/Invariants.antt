use Rattle.std.specs.List.{list_all}
use Rattle.std.proofs.Common.{◌≡◌, drop}
use Rattle.exec_rows.specs.Checks.{are_cycles}
use Rattle.exec_rows.proofs.checking.are_right_bodies.Given as goal

abbrev pub invariant-loop-cycles : goal.invariant-loop-cycles
invariant-loop-cycles l = list_all (are_cycles l.tables) l.bodies ≡ list_all (are_cycles l.tables) (drop l.cycles-index l.bodies)
