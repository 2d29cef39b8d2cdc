use Rattle.std.proofs.Common.{◌≡◌, map, drop}
use Rattle.hal_tree.specs.Rows.{expressions}
use Rattle.hal_tree.specs.SeenExpressions.{seen_expression}
use Rattle.hal_phrases.specs.SeenPhrases.{seen_phrase}
use Rattle.hal_names.specs.SeenNames.{seen_names}
use Rattle.hal_constants.specs.SeenKnown.{seen_known}
use Rattle.hal_templates.specs.Kinds.{places_with}
use Rattle.hal_templates.proofs.kinds.places_with.Given as goal

abbrev pub invariant-loop-tree : goal.invariant-loop-tree
invariant-loop-tree l =
    places_with (seen_names l.names) (seen_known l.known) (seen_phrase l.phrase) l.total (expressions (map seen_expression (drop l.tree-index l.sizes)))
    ≡ places_with (seen_names l.names) (seen_known l.known) (seen_phrase l.phrase) 1 (expressions (map seen_expression l.sizes))
