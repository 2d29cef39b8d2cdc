use Rattle.std.proofs.Common.{map, drop}
use Rattle.hal_phrases.specs.SeenPhrases.{seen_phrase}
use Rattle.hal_names.proofs.Indexed.{IsPart}
use Rattle.hal_names.proofs.index.index_of.Given as goal

abbrev pub invariant-loop-phrase : goal.invariant-loop-phrase
invariant-loop-phrase l = IsPart l.index.entries (map seen_phrase l.phrases) (map seen_phrase (drop l.phrase-index l.phrases))
