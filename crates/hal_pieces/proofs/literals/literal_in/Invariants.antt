use Rattle.std.proofs.Common.{◌≡◌, ◌-◌, ◌≤◌, length, take}
use Rattle.hal_words.specs.Literals.{inside}
use Rattle.hal_words.specs.Pieces.{literal}
use Rattle.hal_pieces.specs.LiteralParts.{continued}
use Rattle.hal_pieces.proofs.literals.literal_in.Given as goal

abbrev pub invariant-byte : goal.invariant-byte
invariant-byte l =
    (length l.bytes ≡ 255) × (length l.rest ≤ length l.text) × (l.count ≤ length l.text - length l.rest)
    × (continued (length l.text) l.plain l.count (take l.count l.bytes) (length l.text - length l.rest) (inside l.rest) ≡ literal l.text)

abbrev pub decreases-byte : goal.decreases-byte
decreases-byte l = length l.rest
