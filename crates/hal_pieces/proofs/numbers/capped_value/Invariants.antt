use Rattle.std.proofs.Common.{◌≡◌, min, take}
use Rattle.hal_words.specs.Numbers.{written}
use Rattle.hal_pieces.specs.NumberParts.{values}
use Rattle.hal_pieces.proofs.numbers.capped_value.Given as goal

abbrev pub invariant-loop-digit : goal.invariant-loop-digit
invariant-loop-digit l = l.number ≡ min (written 10 (values (take l.digit-index l.digits))) 2147483648
