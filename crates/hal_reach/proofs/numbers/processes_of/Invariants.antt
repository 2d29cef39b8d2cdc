use Rattle.std.proofs.Common.{◌≡◌, ◌++◌, map, drop}
use Rattle.hal_phrases.specs.SeenPhrases.{seen_phrase}
use Rattle.hal_names.specs.SeenNames.{seen_names}
use Rattle.hal_meaning.specs.Bodies.{processes_of}
use Rattle.hal_reach.proofs.numbers.processes_of.Given as goal

abbrev pub invariant-loop-phrase : goal.invariant-loop-phrase
invariant-loop-phrase l =
    l.list.items ++ processes_of (map seen_phrase (drop l.phrase-index l.phrase-items)) ≡ processes_of (seen_names l.names)
