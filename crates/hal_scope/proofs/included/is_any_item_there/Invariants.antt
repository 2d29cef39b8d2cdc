use Rattle.std.proofs.Common.{◌≡◌, map, drop}
use Rattle.std.specs.List.{list_any}
use Rattle.hal_tree.specs.SeenDeclarations.{seen_declared}
use Rattle.hal_phrases.specs.SeenPhrases.{seen_phrase}
use Rattle.hal_names.specs.SeenNames.{seen_names}
use Rattle.hal_scope.specs.Repeated.{is_item_there}
use Rattle.hal_scope.proofs.included.is_any_item_there.Given as goal

abbrev pub invariant-loop-item : goal.invariant-loop-item
invariant-loop-item l =
    list_any (is_item_there (seen_names l.names) (seen_phrase l.phrase)) (map seen_declared (drop l.item-index l.items)) ≡ list_any (is_item_there (seen_names l.names) (seen_phrase l.phrase)) (map seen_declared l.items)
