use Rattle.std.proofs.Common.{◌≡◌, map, drop}
use Rattle.hal_phrases.specs.SeenPhrases.{seen_phrase}
use Rattle.hal_names.specs.SeenNames.{seen_names}
use Rattle.hal_constants.specs.SeenKnown.{seen_known}
use Rattle.hal_templates.specs.Rules.{first_with}
use Rattle.hal_templates.proofs.rules.first_fault.Given as goal

abbrev pub invariant-loop-phrase : goal.invariant-loop-phrase
invariant-loop-phrase l =
    first_with (seen_names l.names) (seen_known l.known) (map seen_phrase (drop l.phrase-index l.phrase-items)) ≡ first_with (seen_names l.names) (seen_known l.known) (seen_names l.names)
