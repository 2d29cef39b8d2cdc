use Rattle.std.proofs.Common.{◌≡◌, ◌++◌, map, drop}
use Rattle.hal_tree.specs.Rows.{expressions}
use Rattle.hal_tree.specs.SeenExpressions.{seen_expression}
use Rattle.hal_phrases.specs.SeenPhrases.{seen_phrase}
use Rattle.hal_names.specs.SeenNames.{seen_names}
use Rattle.hal_constants.specs.SeenKnown.{seen_known}
use Rattle.hal_meaning.specs.Elements.{all_sizes}
use Rattle.hal_storage.proofs.elements.sizes.all_sizes.Given as goal

abbrev pub invariant-loop-size : goal.invariant-loop-size
invariant-loop-size l =
    l.sizes.items ++ all_sizes (seen_names l.names) (seen_known l.known) (seen_phrase l.phrase) (expressions (map seen_expression (drop l.size-index l.list))) ≡ all_sizes (seen_names l.names) (seen_known l.known) (seen_phrase l.phrase) (expressions (map seen_expression l.list))
