use Rattle.std.proofs.Common.{◌≡◌, map, drop}
use Rattle.hal_tree.specs.SeenDeclarations.{seen_attribute}
use Rattle.hal_phrases.specs.SeenPhrases.{seen_phrase}
use Rattle.hal_names.specs.SeenNames.{seen_names}
use Rattle.hal_constants.specs.SeenKnown.{seen_known}
use Rattle.hal_meaning.specs.Places.{group_among}
use Rattle.hal_storage.proofs.cells.groups.group_among.Given as goal

abbrev pub invariant-loop-attribute : goal.invariant-loop-attribute
invariant-loop-attribute l =
    group_among (seen_names l.names) (seen_known l.known) (seen_phrase l.phrase) (map seen_attribute (drop l.attribute-index l.attributes)) ≡ group_among (seen_names l.names) (seen_known l.known) (seen_phrase l.phrase) (map seen_attribute l.attributes)
