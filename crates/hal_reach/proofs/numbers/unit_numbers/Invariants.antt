use Rattle.std.proofs.Common.{◌≡◌, ◌++◌, map, drop}
use Rattle.hal_phrases.specs.SeenPhrases.{seen_phrase}
use Rattle.hal_names.specs.SeenNames.{seen_names}
use Rattle.hal_meaning.specs.Places.{unit_numbers}
use Rattle.hal_reach.proofs.numbers.unit_numbers.Given as goal

abbrev pub invariant-loop-phrase : goal.invariant-loop-phrase
invariant-loop-phrase l =
    l.list.items ++ unit_numbers (map seen_phrase (drop l.phrase-index l.phrase-items)) ≡ unit_numbers (seen_names l.names)
