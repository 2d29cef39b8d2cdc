use Rattle.std.proofs.Common.{◌≡◌, map, drop}
use Rattle.hal_tree.specs.Rows.{initials}
use Rattle.hal_tree.specs.SeenDeclarations.{seen_initial}
use Rattle.hal_phrases.specs.SeenPhrases.{seen_phrase}
use Rattle.hal_names.specs.SeenNames.{seen_names}
use Rattle.hal_constants.specs.SeenKnown.{seen_known}
use Rattle.hal_initials.specs.Suiting.{initials_fault}
use Rattle.hal_initials.proofs.suiting.+suiting.Given as goal

abbrev pub invariant-initials_fault-loop-initial : goal.invariant-initials_fault-loop-initial
invariant-initials_fault-loop-initial l =
    initials_fault (seen_names l.names) (seen_known l.known) (seen_phrase l.phrase) l.wanted l.kind (initials (map seen_initial (drop l.initial-index l.values)))
    ≡ initials_fault (seen_names l.names) (seen_known l.known) (seen_phrase l.phrase) l.wanted l.kind (initials (map seen_initial l.values))
