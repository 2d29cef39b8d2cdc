use Rattle.std.proofs.Common.{◌-◌, arith}
use Rattle.hal_report.proofs.Ranges.{bits-next}
use Rattle.hal_report.proofs.values.add_bits.Goals as goal

pub bits-preserved : goal.bits-preserved
bits-preserved c =
    bits-next c.bits.text.items _ _ c.bits.rest (c.bits.rest - 1) c.args.word c.bit_at.result (omega (arith, c.bits-test.true)) c.bit_at.ensures c.in_ok-push.ensures.items c.bits.invariant
