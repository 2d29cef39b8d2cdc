use Rattle.std.proofs.Common.{◌≡◌, take}
use Rattle.hal_report.specs.Rests.{lists}
use Rattle.hal_report.proofs.values.rests_of.Given as goal

abbrev pub invariant-loop-values : goal.invariant-loop-values
invariant-loop-values l = lists l.rests.items ≡ take l.values-index l.owns
