use Rattle.std.proofs.Common.{◌≡◌, length, take, map}
use Rattle.hal_words.specs.Letters.{capital}
use Rattle.hal_pieces.proofs.names.in_capitals.Given as goal

abbrev pub invariant-loop-i : goal.invariant-loop-i
invariant-loop-i l = (length l.capitals ≡ 32) × (take l.i l.capitals ≡ map capital (take l.i l.run))
