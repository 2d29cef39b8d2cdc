use Rattle.std.specs.List.{list_all}
use Rattle.std.proofs.Common.{◌≡◌, drop}
use Rattle.exec_rows.specs.Checks.{is_ask}
use Rattle.exec_rows.proofs.checking.are_right_cycles.Given as goal

abbrev pub invariant-loop-asks : goal.invariant-loop-asks
invariant-loop-asks l = list_all (list_all (is_ask l.tables)) l.cycles ≡ list_all (list_all (is_ask l.tables)) (drop l.asks-index l.cycles)
