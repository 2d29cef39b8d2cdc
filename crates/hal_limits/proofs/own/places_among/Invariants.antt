use Rattle.std.proofs.Common.{◌≡◌, map, drop}
use Rattle.hal_phrases.specs.SeenPhrases.{seen_phrase}
use Rattle.hal_names.specs.SeenNames.{seen_names}
use Rattle.hal_constants.specs.SeenKnown.{seen_known}
use Rattle.hal_limits.specs.Counts.{counted}
use Rattle.hal_limits.specs.Sizes.{places_of_phrase}
use Rattle.hal_limits.proofs.own.places_among.Given as goal

abbrev pub invariant-loop-phrase : goal.invariant-loop-phrase
invariant-loop-phrase l =
    counted (places_of_phrase (seen_names l.names) (seen_known l.known) l.block) l.count (map seen_phrase (drop l.phrase-index l.phrases))
    ≡ counted (places_of_phrase (seen_names l.names) (seen_known l.known) l.block) 0 (map seen_phrase l.phrases)
