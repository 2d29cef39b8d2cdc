use Rattle.std.proofs.Common.{◌≡◌, ◌++◌, map, drop}
use Rattle.hal_phrases.specs.SeenPhrases.{seen_phrase}
use Rattle.hal_names.specs.SeenNames.{seen_names}
use Rattle.hal_reach.specs.Calls.{units_among}
use Rattle.hal_reach.specs.SeenUnits.{seen_unit}
use Rattle.hal_reach.proofs.units.units_with.Given as goal

abbrev pub invariant-loop-phrase : goal.invariant-loop-phrase
invariant-loop-phrase l =
    map seen_unit l.units.items ++ units_among l.numbers l.calls (map seen_phrase (drop l.phrase-index l.phrase-items)) ≡ units_among l.numbers l.calls (seen_names l.names)
