use Rattle.std.proofs.Common.{◌≡◌, [], ◌++◌, map, length}
use Rattle.hal_tree.specs.SeenDeclarations.{seen_part}
use Rattle.hal_phrases.specs.SeenPhrases.{seen_phrase}
use Rattle.hal_names.specs.SeenNames.{seen_names}
use Rattle.hal_constants.specs.SeenKnown.{seen_known}
use Rattle.hal_meaning.specs.Elements.{components_from}
use Rattle.hal_storage.specs.elements.SeenComponents.{seen_above, seen_component}
use Rattle.hal_storage.proofs.elements.structures.components_from.Given as goal

abbrev pub invariant-loop-part : goal.invariant-loop-part
invariant-loop-part l =
    map seen_component l.list.items ++ components_from (seen_names l.names) (seen_known l.known) (seen_phrase l.structure) (map seen_above l.above.items) (map seen_part l.rest)
    ≡ components_from (seen_names l.names) (seen_known l.known) (seen_phrase l.structure) [] (map seen_part l.parts)

abbrev pub decreases-loop-part : goal.decreases-loop-part
decreases-loop-part l = length l.rest
