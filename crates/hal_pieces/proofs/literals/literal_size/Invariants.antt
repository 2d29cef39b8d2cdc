use Rattle.std.proofs.Common.{◌≡◌, ◌-◌, ◌≤◌, length}
use Rattle.hal_words.specs.Literals.{inside}
use Rattle.hal_words.specs.Pieces.{literal}
use Rattle.hal_pieces.specs.LiteralParts.{taken}
use Rattle.hal_pieces.proofs.literals.literal_size.Given as goal

abbrev pub invariant-byte : goal.invariant-byte
invariant-byte l = (length l.rest ≤ length l.text) × (taken (length l.text) (length l.text - length l.rest) (inside l.rest) ≡ (literal l.text).1)

abbrev pub decreases-byte : goal.decreases-byte
decreases-byte l = length l.rest
