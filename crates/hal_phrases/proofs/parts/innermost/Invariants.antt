use Rattle.std.proofs.Common.{◌≡◌, drop}
use Rattle.hal_phrases.specs.GatheredDeclarations.{innermost}
use Rattle.hal_phrases.proofs.parts.innermost.Given as goal

abbrev pub invariant-loop-part : goal.invariant-loop-part
invariant-loop-part l = innermost l.innermost (drop l.part-index l.unclosed) ≡ innermost l.number l.unclosed
