use Rattle.std.proofs.Common.{◌≡◌, ◌++◌, map, drop}
use Rattle.hal_phrases.specs.SeenPhrases.{seen_phrase}
use Rattle.hal_names.specs.SeenNames.{seen_names}
use Rattle.hal_constants.specs.SeenKnown.{seen_known}
use Rattle.hal_storage.specs.cells.SeenStoring.{seen_storing}
use Rattle.hal_lock_groups.specs.Naming.{stored, all_storings}
use Rattle.hal_lock_groups.proofs.naming.all_storings.Given as goal

abbrev pub invariant-loop-phrase : goal.invariant-loop-phrase
invariant-loop-phrase l =
    map seen_storing l.list.items ++ map (stored (seen_names l.names) (seen_known l.known)) (map seen_phrase (drop l.phrase-index l.phrases)) ≡ all_storings (seen_names l.names) (seen_known l.known)
