use Rattle.std.proofs.Common.{sym, ◌∙◌, ◌^◌, lt_of_lt_of_le, pow_mono, le-leb, lt-ltb}
use Rattle.exec_rows.proofs.checking.has_bits.Goals as goal

pub returns-then-bits-ge32 : goal.returns-then-bits-ge32
returns-then-bits-ge32 c = le-leb 32 c.args.bits c.if-bits-ge32.true ∙ sym (lt-ltb c.args.word (2 ^ c.args.bits) (lt_of_lt_of_le c.ranges.word.fits (pow_mono c.if-bits-ge32.true)))
