use Rattle.std.proofs.Common.{◌≡◌, [], drop, map}
use Rattle.hal_phrases.specs.SeenPhrases.{seen_phrase}
use Rattle.hal_names.specs.Declarations.{with_places}
use Rattle.hal_names.proofs.declarations.declared_places.Given as goal

abbrev pub invariant-loop-phrase : goal.invariant-loop-phrase
invariant-loop-phrase l =
    (l.place ≡ l.phrase-index)
    × (with_places l.places.items l.place (map seen_phrase (drop l.phrase-index l.phrases)) ≡ with_places [] 0 (map seen_phrase l.phrases))
