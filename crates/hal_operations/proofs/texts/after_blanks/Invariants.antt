use Rattle.std.proofs.Common.{◌≡◌, ◌≤◌, length}
use Rattle.hal_operations.specs.Texts.{after_blanks}
use Rattle.hal_operations.proofs.texts.after_blanks.Given as goal

abbrev pub invariant-first : goal.invariant-first
invariant-first l = (after_blanks l.rest ≡ after_blanks l.initial.rest) × (length l.rest ≤ length l.initial.rest)

abbrev pub decreases-first : goal.decreases-first
decreases-first l = length l.rest
