use Rattle.std.proofs.Common.{◌≡◌, ◌<◌, ℕ, drop, false}
use Rattle.hal_operations.specs.Texts.{begins_with}
use Rattle.hal_operations.proofs.texts.index.Given as goal

abbrev pub invariant-loop-at : goal.invariant-loop-at
invariant-loop-at l = (k : ℕ) → k < l.at → begins_with (drop k l.text) l.bytes ≡ false
