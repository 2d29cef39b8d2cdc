use Rattle.std.proofs.Common.{◌≡◌, map, drop}
use Rattle.hal_tree.specs.SeenExpressions.{seen_reference}
use Rattle.hal_phrases.specs.SeenPhrases.{seen_phrase}
use Rattle.hal_phrases.specs.Phrases.{gathered_each}
use Rattle.hal_phrases.specs.GatheredStatements.{gathered_receiver}
use Rattle.hal_phrases.proofs.statement_parts.gather_receivers.Given as goal

abbrev pub invariant-loop-tree : goal.invariant-loop-tree
invariant-loop-tree l =
    gathered_each (gathered_receiver l.around l.role) (map seen_phrase l.into.items) (map seen_reference (drop l.tree-index l.trees)) ≡ gathered_each (gathered_receiver l.around l.role) (map seen_phrase l.fn.into.items) (map seen_reference l.trees)
