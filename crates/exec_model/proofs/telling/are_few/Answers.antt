use Rattle.std.proofs.Common.{subst, sym, arith}
use Rattle.std.proofs.lemmas.List.{drop_all}
use Rattle.exec_model.proofs.Few.{EachFew, EachFew-drop, TellsFew-from}
use Rattle.exec_model.proofs.telling.are_few.Goals as goal

pub loop-given-preserved : goal.loop-given-preserved
loop-given-preserved c = λ rest.
    c.loop-given.invariant (EachFew-drop 3 c.loop-given.given-index c.args.told.now c.args.told.now c.given-item.result c.loop-given-test.true c.given-item.is (omega (arith, c.count_for.ensures)) rest)

pub returns : goal.returns
returns c = λ yes.
    TellsFew-from 3 c.args.told.now (c.loop-given.invariant (subst (EachFew 3 c.args.told.now) (sym (drop_all c.loop-given.given-index c.args.told.now (omega arith))) tt))
