use Rattle.std.proofs.Common.{◌≡◌, false, map, drop}
use Rattle.hal_phrases.specs.SeenPhrases.{seen_phrase}
use Rattle.hal_names.specs.SeenNames.{seen_names}
use Rattle.hal_constants.specs.Known.{round}
use Rattle.hal_constants.specs.SeenKnown.{seen_known}
use Rattle.hal_constants.proofs.known.Known.round.Given as goal

abbrev pub invariant-loop-phrase : goal.invariant-loop-phrase
invariant-loop-phrase l =
    (round (seen_names l.names) (seen_known l.self) (map seen_phrase (drop l.phrase-index l.phrases)) ≡ round (seen_names l.names) (seen_known l.fn.self) (map seen_phrase l.phrases))
    × (l.changes ≡ false → seen_known l.self ≡ seen_known l.fn.self)
