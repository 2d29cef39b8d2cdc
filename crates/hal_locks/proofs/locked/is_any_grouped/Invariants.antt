use Rattle.std.proofs.Common.{◌≡◌, map, drop}
use Rattle.std.specs.List.{list_any}
use Rattle.hal_phrases.specs.SeenPhrases.{seen_phrase}
use Rattle.hal_locks.specs.Locked.{declares_grouped}
use Rattle.hal_locks.proofs.locked.is_any_grouped.Given as goal

abbrev pub invariant-loop-phrase : goal.invariant-loop-phrase
invariant-loop-phrase l = list_any declares_grouped (map seen_phrase (drop l.phrase-index l.phrases)) ≡ list_any declares_grouped (map seen_phrase l.phrases)
