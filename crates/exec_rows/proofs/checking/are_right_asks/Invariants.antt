use Rattle.std.specs.List.{list_all}
use Rattle.std.proofs.Common.{◌≡◌, drop}
use Rattle.exec_rows.specs.Checks.{is_ask}
use Rattle.exec_rows.proofs.checking.are_right_asks.Given as goal

abbrev pub invariant-loop-ask : goal.invariant-loop-ask
invariant-loop-ask l = list_all (is_ask l.tables) l.asks ≡ list_all (is_ask l.tables) (drop l.ask-index l.asks)
