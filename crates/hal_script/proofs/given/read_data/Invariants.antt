use Rattle.std.proofs.Common.{◌≡◌, length}
use Rattle.hal_script.specs.DataTexts.{before, given}
use Rattle.hal_script.proofs.given.read_data.Given as goal

abbrev pub invariant-loop-first : goal.invariant-loop-first
invariant-loop-first l = before l.data.items (given l.rest) ≡ given l.text

abbrev pub decreases-loop-first : goal.decreases-loop-first
decreases-loop-first l = length l.rest
