use Rattle.std.proofs.Common.{◌≡◌, ap, ◌∙◌, arith}
use Rattle.std.specs.Prelude.{bit_and}
use Rattle.std.proofs.lemmas.Bool.{ltb-true}
use Rattle.exec_model.specs.Holding.{touch_groups}
use Rattle.exec_model.proofs.Sharing.{unshared}
use Rattle.exec_model.proofs.holding.is_shared.Goals as goal

pub returns-else-group-lt16 : goal.returns-else-group-lt16
returns-else-group-lt16 c =
    let none : bit_and c.args.groups (touch_groups c.args.touch) ≡ 0 =
    ap (λ t. bit_and c.args.groups (touch_groups t)) c.in-Group.is ∙ unshared c.args.groups c.in-Group.group c.ranges.groups.fits c.if-group-lt16.false in
    (λ yes. absurd (omega (arith, ltb-true c.in-Group.group 16 yes)), λ shares. absurd (shares none))
