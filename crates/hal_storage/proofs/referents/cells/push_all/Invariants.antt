use Rattle.std.proofs.Common.{◌≡◌, map, drop}
use Rattle.hal_phrases.specs.SeenPhrases.{seen_phrase}
use Rattle.hal_names.specs.SeenNames.{seen_names}
use Rattle.hal_constants.specs.SeenKnown.{seen_known}
use Rattle.hal_storage.specs.referents.FirstCells.{with_cells, with_numbers}
use Rattle.hal_storage.proofs.referents.cells.push_all.Given as goal

abbrev pub invariant-loop-phrase : goal.invariant-loop-phrase
invariant-loop-phrase l =
    (with_cells (seen_names l.names) (seen_known l.known) l.cells.items (map seen_phrase (drop l.phrase-index l.phrases)) ≡ with_cells (seen_names l.names) (seen_known l.known) l.fn.cells.items (map seen_phrase l.phrases))
    × (with_numbers (seen_names l.names) (seen_known l.known) l.cells.items l.numbers.items (map seen_phrase (drop l.phrase-index l.phrases))
    ≡ with_numbers (seen_names l.names) (seen_known l.known) l.fn.cells.items l.fn.numbers.items (map seen_phrase l.phrases))
