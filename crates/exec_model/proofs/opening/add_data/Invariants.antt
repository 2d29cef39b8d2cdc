use Rattle.std.proofs.Common.{◌≡◌, ◌++◌, take}
use Rattle.exec_model.proofs.opening.add_data.Given as goal

abbrev pub invariant-loop-datum : goal.invariant-loop-datum
invariant-loop-datum l = l.gathered.items ≡ l.initial.gathered.items ++ take l.datum-index l.given
