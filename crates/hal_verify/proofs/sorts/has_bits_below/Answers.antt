use Rattle.std.proofs.Common.{sym, ◌∙◌, ◌^◌, lt_of_lt_of_le, pow_mono, le-leb, lt-ltb}
use Rattle.hal_verify.proofs.sorts.has_bits_below.Goals as goal

pub returns-then-len-ge32 : goal.returns-then-len-ge32
returns-then-len-ge32 c = le-leb 32 c.args.len c.if-len-ge32.true ∙ sym (lt-ltb c.args.word (2 ^ c.args.len) (lt_of_lt_of_le c.ranges.word.fits (pow_mono c.if-len-ge32.true)))
