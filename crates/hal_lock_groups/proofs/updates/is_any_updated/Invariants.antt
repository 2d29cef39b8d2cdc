use Rattle.std.proofs.Common.{◌≡◌, map, drop}
use Rattle.std.specs.List.{list_any}
use Rattle.hal_phrases.specs.SeenPhrases.{seen_phrase}
use Rattle.hal_lock_groups.specs.Updates.{is_updated}
use Rattle.hal_lock_groups.proofs.updates.is_any_updated.Given as goal

abbrev pub invariant-loop-phrase : goal.invariant-loop-phrase
invariant-loop-phrase l = list_any is_updated (map seen_phrase (drop l.phrase-index l.phrases)) ≡ list_any is_updated (map seen_phrase l.phrases)
