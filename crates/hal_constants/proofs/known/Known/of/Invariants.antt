use Rattle.std.proofs.Common.{◌≡◌, false, map, drop}
use Rattle.hal_phrases.specs.SeenPhrases.{seen_phrase}
use Rattle.hal_names.specs.SeenNames.{seen_names}
use Rattle.hal_constants.specs.Known.{nothing_known, round, rounds}
use Rattle.hal_constants.specs.SeenKnown.{seen_known}
use Rattle.hal_constants.proofs.known.Known.of.Given as goal

abbrev pub invariant-loop-phrase : goal.invariant-loop-phrase
invariant-loop-phrase l =
    (rounds (seen_names l.names) (seen_known l.known) (map seen_phrase (drop l.phrase-index l.phrases)) ≡ rounds (seen_names l.names) (nothing_known (seen_names l.names)) (map seen_phrase l.phrases))
    × (l.changes ≡ false → round (seen_names l.names) (seen_known l.known) (seen_names l.names) ≡ seen_known l.known)
