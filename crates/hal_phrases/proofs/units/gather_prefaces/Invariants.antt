use Rattle.std.proofs.Common.{◌≡◌, map, drop}
use Rattle.hal_tree.specs.SeenUnits.{seen_preface}
use Rattle.hal_phrases.specs.SeenPhrases.{seen_phrase}
use Rattle.hal_phrases.specs.GatheredUnits.{gathered_prefaces}
use Rattle.hal_phrases.proofs.units.gather_prefaces.Given as goal

abbrev pub invariant-loop-index : goal.invariant-loop-index
invariant-loop-index l =
    gathered_prefaces (map seen_phrase l.into.items) l.around l.index (map seen_preface (drop l.index l.trees)) ≡ gathered_prefaces (map seen_phrase l.fn.into.items) l.around 0 (map seen_preface l.trees)
