use Rattle.hal_report.proofs.PassedRests.{lists-passed}
use Rattle.hal_report.proofs.values.pass_shown.Goals as goal

pub returns-then-place-rests : goal.returns-then-place-rests
returns-then-place-rests c =
    rw c.in-Own.is (lists-passed c.args.rests.now c.from-place.result c.in-Own.process c.index-rests-place.result c.behind_first.result c.from-place.ensures c.if-place-rests.true c.index-rests-place.is c.behind_first.ensures)
