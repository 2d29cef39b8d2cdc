-- Whether a set has a PROGRAM: rule 905.
use Rattle.std.specs.Prelude.{Bool, List}
use Rattle.std.specs.List.{list_any}
use Rattle.hal_phrases.specs.Phrases.{Phrase}
use Rattle.hal_meaning.specs.Sets.{is_program}

abbrev pub has_program : List Phrase → Bool
has_program ps = list_any (λ (p : Phrase). is_program p.node) ps
