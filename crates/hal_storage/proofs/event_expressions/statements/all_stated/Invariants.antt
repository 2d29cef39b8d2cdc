use Rattle.std.proofs.Common.{◌≡◌, ◌++◌, map, drop, filter_map}
use Rattle.hal_phrases.specs.SeenPhrases.{seen_phrase}
use Rattle.hal_names.specs.SeenNames.{seen_names}
use Rattle.hal_storage.specs.event_expressions.Numbered.{stated_by, all_stated}
use Rattle.hal_storage.specs.event_expressions.SeenStated.{seen_stated}
use Rattle.hal_storage.proofs.event_expressions.statements.all_stated.Given as goal

abbrev pub invariant-loop-phrase : goal.invariant-loop-phrase
invariant-loop-phrase l =
    map seen_stated l.list.items ++ filter_map (stated_by (seen_names l.names)) (map seen_phrase (drop l.phrase-index l.phrases)) ≡ all_stated (seen_names l.names)
