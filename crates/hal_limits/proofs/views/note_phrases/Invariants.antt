use Rattle.std.proofs.Common.{◌≡◌, map, drop}
use Rattle.hal_phrases.specs.SeenPhrases.{seen_phrase}
use Rattle.hal_names.specs.SeenNames.{seen_names}
use Rattle.hal_constants.specs.SeenKnown.{seen_known}
use Rattle.hal_limits.specs.Noting.{with_phrases}
use Rattle.hal_limits.specs.SeenViews.{seen_view}
use Rattle.hal_limits.proofs.views.note_phrases.Given as goal

abbrev pub invariant-loop-phrase : goal.invariant-loop-phrase
invariant-loop-phrase l =
    with_phrases (seen_names l.names) (seen_known l.known) (map seen_view l.found.items) (map seen_phrase (drop l.phrase-index l.phrases))
    ≡ with_phrases (seen_names l.names) (seen_known l.known) (map seen_view l.fn.found.items) (map seen_phrase l.phrases)
