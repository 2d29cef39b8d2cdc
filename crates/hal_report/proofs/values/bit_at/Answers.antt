use Rattle.std.proofs.Common.{arith}
use Rattle.hal_report.proofs.FarBits.{far_bit}
use Rattle.hal_report.proofs.values.bit_at.Goals as goal

pub returns-then-place-ge32 : goal.returns-then-place-ge32
returns-then-place-ge32 c = far_bit c.args.word c.args.place (omega (arith, c.ranges.word.fits)) (omega (arith, c.if-place-ge32.true))
