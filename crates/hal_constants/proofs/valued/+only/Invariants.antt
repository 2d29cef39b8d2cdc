use Rattle.std.proofs.Common.{◌≡◌, false, map, drop}
use Rattle.hal_tree.specs.Rows.{initials}
use Rattle.hal_tree.specs.SeenDeclarations.{seen_initial}
use Rattle.hal_phrases.specs.SeenPhrases.{seen_phrase}
use Rattle.hal_names.specs.SeenNames.{seen_names}
use Rattle.hal_constants.specs.declared.constant.Constant.TheVariants as constant
use Rattle.hal_constants.specs.Known.{only_with}
use Rattle.hal_constants.specs.SeenKnown.{seen_known}
use Rattle.hal_constants.proofs.valued.+only.Given as goal

abbrev pub invariant-only_among-loop-initial : goal.invariant-only_among-loop-initial
invariant-only_among-loop-initial l =
    only_with (seen_names l.names) (seen_known l.known) (seen_phrase l.phrase) l.so_far l.one (initials (map seen_initial (drop l.initial-index l.values)))
    ≡ only_with (seen_names l.names) (seen_known l.known) (seen_phrase l.phrase) constant.Unfit false (initials (map seen_initial l.values))
