use Rattle.std.proofs.Common.{◌≡◌, ◌++◌}
use Rattle.hal_values.specs.BitTexts.{bits_text}
use Rattle.hal_report.proofs.values.add_bits.Given as goal

abbrev pub invariant-bits : goal.invariant-bits
invariant-bits l = l.text.items ++ bits_text l.rest l.word ≡ l.initial.text.items ++ bits_text l.len l.word

abbrev pub decreases-bits : goal.decreases-bits
decreases-bits l = l.rest
