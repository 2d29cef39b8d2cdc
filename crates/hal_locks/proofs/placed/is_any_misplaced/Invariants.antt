use Rattle.std.proofs.Common.{◌≡◌, map, drop}
use Rattle.hal_tree.specs.SeenDeclarations.{seen_attribute}
use Rattle.hal_phrases.specs.SeenPhrases.{seen_phrase}
use Rattle.hal_names.specs.SeenNames.{seen_names}
use Rattle.hal_constants.specs.SeenKnown.{seen_known}
use Rattle.hal_locks.specs.Placed.{is_any_misplaced}
use Rattle.hal_locks.proofs.placed.is_any_misplaced.Given as goal

abbrev pub invariant-loop-attribute : goal.invariant-loop-attribute
invariant-loop-attribute l =
    is_any_misplaced (seen_names l.names) (seen_known l.known) (seen_phrase l.phrase) l.lockable (map seen_attribute (drop l.attribute-index l.attributes))
    ≡ is_any_misplaced (seen_names l.names) (seen_known l.known) (seen_phrase l.phrase) l.lockable (map seen_attribute l.attributes)
