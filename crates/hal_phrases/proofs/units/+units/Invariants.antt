use Rattle.std.proofs.Common.{◌≡◌, map, drop}
use Rattle.hal_tree.specs.SeenUnits.{seen_element}
use Rattle.hal_phrases.specs.SeenPhrases.{seen_phrase}
use Rattle.hal_phrases.specs.Members.{gathered_members}
use Rattle.hal_phrases.proofs.units.+units.Given as goal

abbrev pub invariant-gather_elements-loop-tree : goal.invariant-gather_elements-loop-tree
invariant-gather_elements-loop-tree l =
    gathered_members (map seen_phrase l.into.items) l.around (map seen_element (drop l.tree-index l.trees)) ≡ gathered_members (map seen_phrase l.fn.into.items) l.around (map seen_element l.trees)
