use Rattle.std.proofs.Common.{◌≡◌, map, drop}
use Rattle.hal_phrases.specs.SeenPhrases.{seen_phrase}
use Rattle.hal_names.specs.SeenNames.{seen_names}
use Rattle.hal_scope.specs.Rules.{first_fault, rows}
use Rattle.hal_scope.proofs.rules.first_fault.Given as goal

abbrev pub invariant-loop-phrase : goal.invariant-loop-phrase
invariant-loop-phrase l =
    first_fault rows (seen_names l.names) (map seen_phrase (drop l.phrase-index l.phrases)) ≡ first_fault rows (seen_names l.names) (map seen_phrase l.phrases)
