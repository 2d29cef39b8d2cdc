use Rattle.std.proofs.Common.{◌≡◌, ◌++◌, map, drop, flat_map}
use Rattle.hal_phrases.specs.Phrases.{Phrase}
use Rattle.hal_phrases.specs.SeenPhrases.{seen_phrase}
use Rattle.hal_names.specs.SeenNames.{seen_names}
use Rattle.hal_constants.specs.SeenKnown.{seen_known}
use Rattle.hal_meaning.specs.Places.{cells_at}
use Rattle.hal_meaning.specs.Sets.{cells_of}
use Rattle.hal_storage.proofs.cells.cells.cells_of.Given as goal

abbrev pub invariant-loop-phrase : goal.invariant-loop-phrase
invariant-loop-phrase l =
    l.list.items ++ flat_map (λ (p : Phrase). cells_at (seen_names l.names) (seen_known l.known) p p.node) (map seen_phrase (drop l.phrase-index l.phrase-items)) ≡ cells_of (seen_names l.names) (seen_known l.known)
