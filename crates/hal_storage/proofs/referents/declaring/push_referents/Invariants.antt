use Rattle.std.proofs.Common.{◌≡◌, map, drop}
use Rattle.hal_phrases.specs.SeenPhrases.{seen_phrase}
use Rattle.hal_names.specs.SeenNames.{seen_names}
use Rattle.hal_constants.specs.SeenKnown.{seen_known}
use Rattle.hal_storage.specs.referents.Referents.{with_referents}
use Rattle.hal_storage.specs.referents.SeenReferents.{seen_referent}
use Rattle.hal_storage.proofs.referents.declaring.push_referents.Given as goal

abbrev pub invariant-loop-phrase : goal.invariant-loop-phrase
invariant-loop-phrase l =
    with_referents (seen_names l.names) (seen_known l.known) (map seen_referent l.into.items) (map seen_phrase (drop l.phrase-index l.phrases))
    ≡ with_referents (seen_names l.names) (seen_known l.known) (map seen_referent l.fn.into.items) (map seen_phrase l.phrases)
