use Rattle.std.proofs.Common.{arith}
use Rattle.std.proofs.lemmas.Grind.{common_steps}
use Rattle.hal_pieces.proofs.Values.{written_more}
use Rattle.hal_pieces.proofs.numbers.capped_value.Goals as goal

pub loop-digit-preserved : goal.loop-digit-preserved
loop-digit-preserved c =
    let step = written_more c.args.digits.now c.loop-digit.digit-index c.loop-digit-test.true in
    grind (arith, common_steps, step)
