use Rattle.std.proofs.Common.{◌≡◌, map, drop}
use Rattle.hal_phrases.specs.SeenPhrases.{seen_phrase}
use Rattle.hal_names.specs.SeenNames.{seen_names}
use Rattle.hal_storage.specs.cells.SeenStoring.{seen_storing}
use Rattle.hal_lock_groups.specs.Shared.{with_homes, plain_homes}
use Rattle.hal_lock_groups.proofs.plain.plain_homes.Given as goal

abbrev pub invariant-loop-phrase : goal.invariant-loop-phrase
invariant-loop-phrase l =
    with_homes (seen_names l.names) (map seen_storing l.storings) l.homes.items (map seen_phrase (drop l.phrase-index l.phrases)) ≡ plain_homes (seen_names l.names) (map seen_storing l.storings)
