use Rattle.std.proofs.Common.{◌≡◌, map, drop}
use Rattle.hal_tree.specs.SeenDeclarations.{seen_attribute, seen_declared}
use Rattle.hal_phrases.specs.SeenPhrases.{seen_phrase}
use Rattle.hal_phrases.specs.Phrases.{gathered_each}
use Rattle.hal_phrases.specs.GatheredDeclarations.{gathered_item}
use Rattle.hal_phrases.proofs.declarations.gather_items.Given as goal

abbrev pub invariant-loop-item : goal.invariant-loop-item
invariant-loop-item l =
    gathered_each (gathered_item l.around (map seen_attribute l.common)) (map seen_phrase l.into.items) (map seen_declared (drop l.item-index l.items)) ≡ gathered_each (gathered_item l.around (map seen_attribute l.common)) (map seen_phrase l.fn.into.items) (map seen_declared l.items)
