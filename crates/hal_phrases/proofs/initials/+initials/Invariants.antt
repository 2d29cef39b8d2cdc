use Rattle.std.proofs.Common.{◌≡◌, map, drop}
use Rattle.hal_tree.specs.Rows.{initials}
use Rattle.hal_tree.specs.SeenDeclarations.{seen_initial}
use Rattle.hal_phrases.specs.SeenPhrases.{seen_phrase}
use Rattle.hal_phrases.specs.GatheredDeclarations.{gathered_initials}
use Rattle.hal_phrases.proofs.initials.+initials.Given as goal

abbrev pub invariant-gather_initials-loop-tree : goal.invariant-gather_initials-loop-tree
invariant-gather_initials-loop-tree l =
    gathered_initials (map seen_phrase l.into.items) l.around (initials (map seen_initial (drop l.tree-index l.trees))) ≡ gathered_initials (map seen_phrase l.fn.into.items) l.around (initials (map seen_initial l.trees))
