use Rattle.std.proofs.Common.{◌≡◌, ◌++◌, length, map, drop, flat_map}
use Rattle.hal_phrases.specs.Phrases.{Phrase}
use Rattle.hal_phrases.specs.SeenPhrases.{seen_phrase}
use Rattle.hal_names.specs.SeenNames.{seen_names}
use Rattle.hal_constants.specs.SeenKnown.{seen_known}
use Rattle.hal_meaning.specs.ReportNames.{rows_at, rows_of}
use Rattle.hal_storage.specs.report_names.Rooms.{HaveRows}
use Rattle.hal_storage.specs.report_names.SeenLookups.{seen_lookups}
use Rattle.hal_storage.proofs.report_names.names.push_all.Given as goal

abbrev pub invariant-loop-phrase : goal.invariant-loop-phrase
invariant-loop-phrase l =
    (l.into.items ++ flat_map (λ (p : Phrase). rows_at (seen_names l.names) (seen_known l.known) p p.node) (map seen_phrase (drop l.phrase-index l.phrase-items)) ≡ l.fn.into.items ++ rows_of (seen_names l.names) (seen_known l.known))
    × HaveRows (seen_names l.names) (seen_known l.known) (seen_lookups l.lookups) (length l.cells.items) (map seen_phrase (drop l.phrase-index l.phrase-items))
