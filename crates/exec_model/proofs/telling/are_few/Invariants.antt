use Rattle.std.proofs.Common.{drop}
use Rattle.exec_model.proofs.Few.{EachFew}
use Rattle.exec_model.proofs.telling.are_few.Given as goal

abbrev pub invariant-loop-given : goal.invariant-loop-given
invariant-loop-given l = EachFew 3 l.told (drop l.given-index l.told) → EachFew 3 l.told l.told
