use Rattle.std.proofs.Common.{◌≡◌, [], map, length}
use Rattle.hal_tree.specs.SeenDeclarations.{seen_part}
use Rattle.hal_phrases.specs.SeenPhrases.{seen_phrase}
use Rattle.hal_names.specs.SeenNames.{seen_names}
use Rattle.hal_constants.specs.SeenKnown.{seen_known}
use Rattle.hal_templates.specs.Kinds.{laid}
use Rattle.hal_templates.proofs.kinds.laid.Given as goal

abbrev pub invariant-loop-part : goal.invariant-loop-part
invariant-loop-part l =
    laid (seen_names l.names) (seen_known l.known) (seen_phrase l.structure) l.kinds.items (map seen_part l.rest)
    ≡ laid (seen_names l.names) (seen_known l.known) (seen_phrase l.structure) [] (map seen_part l.parts)

abbrev pub decreases-loop-part : goal.decreases-loop-part
decreases-loop-part l = length l.rest
