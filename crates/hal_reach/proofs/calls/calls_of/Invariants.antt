use Rattle.std.proofs.Common.{◌≡◌, ◌++◌, map, drop, filter_map}
use Rattle.hal_phrases.specs.SeenPhrases.{seen_phrase}
use Rattle.hal_names.specs.SeenNames.{seen_names}
use Rattle.hal_reach.specs.Calls.{call_of, calls_of}
use Rattle.hal_reach.proofs.calls.calls_of.Given as goal

abbrev pub invariant-loop-phrase : goal.invariant-loop-phrase
invariant-loop-phrase l =
    l.list.items ++ filter_map (call_of (seen_names l.names)) (map seen_phrase (drop l.phrase-index l.phrases)) ≡ calls_of (seen_names l.names)
