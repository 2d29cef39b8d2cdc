use Rattle.std.proofs.Common.{◌≡◌, ◌++◌, drop}
use Rattle.hal_phrases.specs.GatheredDeclarations.{still_open}
use Rattle.hal_phrases.proofs.parts.still_open.Given as goal

abbrev pub invariant-loop-part : goal.invariant-loop-part
invariant-loop-part l = l.still.items ++ still_open l.level (drop l.part-index l.unclosed) ≡ still_open l.level l.unclosed
