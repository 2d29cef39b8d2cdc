use Rattle.std.proofs.Common.{◌≡◌, map, drop}
use Rattle.hal_tree.specs.SeenLeaves.{seen_name}
use Rattle.hal_phrases.specs.SeenPhrases.{seen_phrase}
use Rattle.hal_phrases.specs.Phrases.{gathered_each}
use Rattle.hal_phrases.specs.GatheredStatements.{gathered_process}
use Rattle.hal_phrases.proofs.statement_parts.gather_processes.Given as goal

abbrev pub invariant-loop-name : goal.invariant-loop-name
invariant-loop-name l =
    gathered_each (gathered_process l.around) (map seen_phrase l.into.items) (map seen_name (drop l.name-index l.names)) ≡ gathered_each (gathered_process l.around) (map seen_phrase l.fn.into.items) (map seen_name l.names)
