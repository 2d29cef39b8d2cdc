use Rattle.std.proofs.Common.{◌≡◌, map, drop}
use Rattle.hal_phrases.specs.SeenPhrases.{seen_phrase}
use Rattle.hal_names.specs.SeenNames.{seen_names}
use Rattle.hal_calls.specs.Programs.{has_program}
use Rattle.hal_calls.proofs.programs.has_program.Given as goal

abbrev pub invariant-loop-phrase : goal.invariant-loop-phrase
invariant-loop-phrase l = has_program (map seen_phrase (drop l.phrase-index l.phrases)) ≡ has_program (seen_names l.names)
