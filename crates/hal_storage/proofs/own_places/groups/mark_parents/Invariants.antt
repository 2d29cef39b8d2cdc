use Rattle.std.proofs.Common.{◌≡◌, map, drop}
use Rattle.hal_phrases.specs.SeenPhrases.{seen_phrase}
use Rattle.hal_storage.specs.own_places.PlacedGroups.{with_parents}
use Rattle.hal_storage.proofs.own_places.groups.mark_parents.Given as goal

abbrev pub invariant-loop-phrase : goal.invariant-loop-phrase
invariant-loop-phrase l = with_parents l.marks.items (map seen_phrase (drop l.phrase-index l.phrases)) ≡ with_parents l.fn.marks.items (map seen_phrase l.phrases)
