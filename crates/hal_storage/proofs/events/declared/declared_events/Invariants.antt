use Rattle.std.proofs.Common.{◌≡◌, ◌++◌, map, drop, Some, None, filter_map, if◌then◌else◌}
use Rattle.hal_phrases.specs.Phrases.{Phrase}
use Rattle.hal_phrases.specs.SeenPhrases.{seen_phrase}
use Rattle.hal_names.specs.SeenNames.{seen_names}
use Rattle.hal_meaning.specs.Events.{is_event, declared_events}
use Rattle.hal_storage.proofs.events.declared.declared_events.Given as goal

abbrev pub invariant-loop-phrase : goal.invariant-loop-phrase
invariant-loop-phrase l =
    l.list.items ++ filter_map (λ (p : Phrase). if is_event (seen_names l.names) p.around.home p.node then Some p.number else None) (map seen_phrase (drop l.phrase-index l.phrase-items))
    ≡ declared_events (seen_names l.names)
