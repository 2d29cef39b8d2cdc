use Rattle.std.proofs.Common.{◌≡◌, map, drop, []}
use Rattle.hal_tree.specs.SeenUnits.{seen_file}
use Rattle.hal_phrases.specs.SeenPhrases.{seen_phrase}
use Rattle.hal_phrases.specs.Phrases.{gathered_each}
use Rattle.hal_phrases.specs.GatheredUnits.{gathered_file}
use Rattle.hal_phrases.proofs.units.phrases_of.Given as goal

abbrev pub invariant-loop-file : goal.invariant-loop-file
invariant-loop-file l =
    gathered_each gathered_file (map seen_phrase l.phrases.items) (map seen_file (drop l.file-index l.files)) ≡ gathered_each gathered_file [] (map seen_file l.files)
