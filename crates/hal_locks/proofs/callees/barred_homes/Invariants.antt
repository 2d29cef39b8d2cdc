use Rattle.std.proofs.Common.{◌≡◌, map, drop}
use Rattle.hal_phrases.specs.SeenPhrases.{seen_phrase}
use Rattle.hal_names.specs.SeenNames.{seen_names}
use Rattle.hal_locks.specs.Callees.{with_homes, barred_homes}
use Rattle.hal_locks.proofs.callees.barred_homes.Given as goal

abbrev pub invariant-loop-phrase : goal.invariant-loop-phrase
invariant-loop-phrase l = with_homes (seen_names l.names) l.homes.items (map seen_phrase (drop l.phrase-index l.phrases)) ≡ barred_homes (seen_names l.names)
