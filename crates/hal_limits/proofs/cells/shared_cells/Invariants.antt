use Rattle.std.proofs.Common.{◌≡◌, map, drop}
use Rattle.hal_phrases.specs.SeenPhrases.{seen_phrase}
use Rattle.hal_names.specs.SeenNames.{seen_names}
use Rattle.hal_constants.specs.SeenKnown.{seen_known}
use Rattle.hal_limits.specs.Counts.{counted}
use Rattle.hal_limits.specs.Sizes.{cells_of_phrase}
use Rattle.hal_limits.proofs.cells.shared_cells.Given as goal

abbrev pub invariant-loop-phrase : goal.invariant-loop-phrase
invariant-loop-phrase l =
    counted (cells_of_phrase (seen_names l.names) (seen_known l.known)) l.count (map seen_phrase (drop l.phrase-index l.phrase-items)) ≡ counted (cells_of_phrase (seen_names l.names) (seen_known l.known)) 0 (seen_names l.names)
