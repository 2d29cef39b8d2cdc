use Rattle.std.proofs.Common.{◌≡◌, map, drop}
use Rattle.hal_phrases.specs.SeenPhrases.{seen_phrase}
use Rattle.hal_names.specs.SeenNames.{seen_names}
use Rattle.hal_lock_groups.specs.Gathering.{with_phrases, gathered}
use Rattle.hal_lock_groups.specs.SeenShared.{seen_shared}
use Rattle.hal_lock_groups.proofs.adding.gathered.Given as goal

abbrev pub invariant-loop-phrase : goal.invariant-loop-phrase
invariant-loop-phrase l =
    with_phrases (seen_names l.names) (seen_shared l.shared) l.list.items (map seen_phrase (drop l.phrase-index l.phrases)) ≡ gathered (seen_names l.names) (seen_shared l.shared)
