-- The phrases of which names are the names.
use Rattle.std.specs.Prelude.{List, map}
use Rattle.hal_phrases.specs.Phrases.{Phrase}
use Rattle.hal_phrases.specs.SeenPhrases.{seen_phrase}
use Rattle.hal_names.specs.declared.names.Names.{Names}

-- the phrases of the set
abbrev pub seen_names : Names → List Phrase
seen_names names = map seen_phrase names.phrases.items
