use Rattle.hal_pieces.proofs.bit_literals.+bit_count.Given as goal

abbrev pub decreases-bit_count : goal.decreases-bit_count
decreases-bit_count l = l.most
