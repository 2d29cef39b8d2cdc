use Rattle.std.proofs.Common.{◌≡◌, ◌≤◌, ◌+◌, ◌++◌, length}
use Rattle.hal_values.specs.BitTexts.{bits_text}
use Rattle.hal_operations.proofs.conversions.bits_text.Given as goal

abbrev pub invariant-bits : goal.invariant-bits
invariant-bits l = (l.text ++ bits_text l.rest l.word ≡ bits_text l.len l.word) × (length l.text + l.rest ≤ 32)

abbrev pub decreases-bits : goal.decreases-bits
decreases-bits l = l.rest
