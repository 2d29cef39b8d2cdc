use Rattle.std.proofs.Common.{◌≡◌, map, drop}
use Rattle.hal_tree.specs.SeenDeclarations.{seen_attribute}
use Rattle.hal_phrases.specs.SeenPhrases.{seen_phrase}
use Rattle.hal_phrases.specs.Phrases.{gathered_each}
use Rattle.hal_phrases.specs.GatheredDeclarations.{gathered_attribute}
use Rattle.hal_phrases.proofs.declarations.gather_attributes.Given as goal

abbrev pub invariant-loop-tree : goal.invariant-loop-tree
invariant-loop-tree l =
    gathered_each (gathered_attribute l.around) (map seen_phrase l.into.items) (map seen_attribute (drop l.tree-index l.trees)) ≡ gathered_each (gathered_attribute l.around) (map seen_phrase l.fn.into.items) (map seen_attribute l.trees)
