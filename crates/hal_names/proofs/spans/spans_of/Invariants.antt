use Rattle.std.proofs.Common.{◌≡◌, map, take}
use Rattle.hal_phrases.specs.SeenPhrases.{seen_phrase}
use Rattle.hal_names.specs.Spans.{AreSpans}
use Rattle.hal_names.proofs.spans.spans_of.Given as goal

abbrev pub invariant-loop-phrase : goal.invariant-loop-phrase
invariant-loop-phrase l = (l.end ≡ l.phrase-index) × AreSpans l.spans.entries (map seen_phrase (take l.phrase-index l.phrases))
