use Rattle.std.proofs.Common.{◌≡◌, ◌≤◌, length, reverse}
use Rattle.hal_operations.specs.Texts.{after_blanks}
use Rattle.hal_operations.proofs.texts.before_blanks.Given as goal

abbrev pub invariant-last : goal.invariant-last
invariant-last l = (after_blanks (reverse l.rest) ≡ after_blanks (reverse l.initial.rest)) × (length l.rest ≤ length l.initial.rest)

abbrev pub decreases-last : goal.decreases-last
decreases-last l = length l.rest
