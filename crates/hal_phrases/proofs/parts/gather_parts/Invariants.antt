use Rattle.std.proofs.Common.{◌≡◌, map, [], length}
use Rattle.hal_tree.specs.SeenDeclarations.{seen_part}
use Rattle.hal_phrases.specs.SeenPhrases.{seen_phrase}
use Rattle.hal_phrases.specs.GatheredDeclarations.{gathered_parts}
use Rattle.hal_phrases.proofs.parts.gather_parts.Given as goal

abbrev pub invariant-loop-part : goal.invariant-loop-part
invariant-loop-part l =
    gathered_parts l.around l.unclosed.items (map seen_phrase l.into.items) (map seen_part l.rest) ≡ gathered_parts l.around [] (map seen_phrase l.fn.into.items) (map seen_part l.parts)

abbrev pub decreases-loop-part : goal.decreases-loop-part
decreases-loop-part l = length l.rest
