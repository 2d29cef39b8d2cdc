use Rattle.std.proofs.Common.{◌≡◌, [], drop, map}
use Rattle.hal_phrases.specs.SeenPhrases.{seen_phrase}
use Rattle.hal_names.specs.Tasks.{with_homes}
use Rattle.hal_names.proofs.tasks.homes_of.Given as goal

abbrev pub invariant-loop-phrase : goal.invariant-loop-phrase
invariant-loop-phrase l = with_homes l.homes.items (map seen_phrase (drop l.phrase-index l.phrases)) ≡ with_homes [] (map seen_phrase l.phrases)
