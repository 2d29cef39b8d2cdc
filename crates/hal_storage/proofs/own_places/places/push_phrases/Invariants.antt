use Rattle.std.proofs.Common.{◌≡◌, ◌++◌, map, drop}
use Rattle.hal_phrases.specs.SeenPhrases.{seen_phrase}
use Rattle.hal_names.specs.SeenNames.{seen_names}
use Rattle.hal_constants.specs.SeenKnown.{seen_known}
use Rattle.hal_storage.specs.own_places.Owned.{places_among}
use Rattle.hal_storage.specs.own_places.SeenPlaces.{seen_place}
use Rattle.hal_storage.proofs.own_places.places.push_phrases.Given as goal

abbrev pub invariant-loop-phrase : goal.invariant-loop-phrase
invariant-loop-phrase l =
    map seen_place l.into.items ++ places_among (seen_names l.names) (seen_known l.known) l.block (map seen_phrase (drop l.phrase-index l.phrases))
    ≡ map seen_place l.fn.into.items ++ places_among (seen_names l.names) (seen_known l.known) l.block (map seen_phrase l.phrases)
