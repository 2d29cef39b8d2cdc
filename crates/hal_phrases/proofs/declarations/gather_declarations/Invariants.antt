use Rattle.std.proofs.Common.{◌≡◌, map, drop}
use Rattle.hal_tree.specs.SeenDeclarations.{seen_declaration}
use Rattle.hal_phrases.specs.SeenPhrases.{seen_phrase}
use Rattle.hal_phrases.specs.Phrases.{gathered_each}
use Rattle.hal_phrases.specs.GatheredDeclarations.{gathered_declaration}
use Rattle.hal_phrases.proofs.declarations.gather_declarations.Given as goal

abbrev pub invariant-loop-tree : goal.invariant-loop-tree
invariant-loop-tree l =
    gathered_each (gathered_declaration l.around) (map seen_phrase l.into.items) (map seen_declaration (drop l.tree-index l.trees)) ≡ gathered_each (gathered_declaration l.around) (map seen_phrase l.fn.into.items) (map seen_declaration l.trees)
