use Rattle.std.proofs.Common.{◌≡◌, min, take, map, nat_lt, true}
use Rattle.std.specs.List.{list_all}
use Rattle.hal_words.specs.Literals.{digit_value}
use Rattle.hal_words.specs.Numbers.{written}
use Rattle.hal_pieces.proofs.bit_literals.number_in.Given as goal

abbrev pub invariant-loop-byte : goal.invariant-loop-byte
invariant-loop-byte l =
    (list_all (λ d. nat_lt d l.radix) (map digit_value (take l.byte-index l.bytes)) ≡ true) × (l.number ≡ min (written l.radix (map digit_value (take l.byte-index l.bytes))) 4294967296)
