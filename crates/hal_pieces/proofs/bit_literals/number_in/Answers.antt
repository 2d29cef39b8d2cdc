use Rattle.std.proofs.Common.{◌≤◌, get_or, sym, arith}
use Rattle.hal_words.specs.Literals.{digit_value}
use Rattle.hal_pieces.proofs.BitNumbers.{no_number, all_more, capped_step}
use Rattle.hal_pieces.proofs.bit_literals.number_in.Goals as goal

pub returns-then-radix-digit : goal.returns-then-radix-digit
returns-then-radix-digit c =
    let bytes = c.args.bytes.now in
    let i = c.loop-byte.byte-index in
    let large : c.args.radix ≤ digit_value (get_or bytes i 0) = omega (arith, c.digit_value-digit.ensures.value) in
    sym (no_number c.args.radix bytes i c.loop-byte-test.true large)

pub loop-byte-preserved : goal.loop-byte-preserved
loop-byte-preserved c =
    let bytes = c.args.bytes.now in
    let i = c.loop-byte.byte-index in
    let step = capped_step c.args.radix bytes i c.loop-byte.number c.loop-byte-test.true (omega arith) c.loop-byte.invariant.1 in (
      all_more c.args.radix bytes i c.loop-byte-test.true c.loop-byte.invariant.0 (omega (arith, c.digit_value-digit.ensures.value)),
      cc (step),
    )
