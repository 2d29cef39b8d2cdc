use Rattle.std.proofs.Common.{◌≡◌, map, drop}
use Rattle.hal_phrases.specs.SeenPhrases.{seen_phrase}
use Rattle.hal_storage.specs.sets.Marks.{with_marks}
use Rattle.hal_storage.proofs.sets.marks.push_marks.Given as goal

abbrev pub invariant-loop-phrase : goal.invariant-loop-phrase
invariant-loop-phrase l = with_marks l.unit l.into.items (map seen_phrase (drop l.phrase-index l.phrases)) ≡ with_marks l.unit l.fn.into.items (map seen_phrase l.phrases)
