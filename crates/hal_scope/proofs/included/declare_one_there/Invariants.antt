use Rattle.std.proofs.Common.{◌≡◌, map, drop}
use Rattle.std.specs.List.{list_any}
use Rattle.hal_tree.specs.SeenDeclarations.{seen_declaration}
use Rattle.hal_phrases.specs.SeenPhrases.{seen_phrase}
use Rattle.hal_names.specs.SeenNames.{seen_names}
use Rattle.hal_scope.specs.Repeated.{declares_one_there}
use Rattle.hal_scope.proofs.included.declare_one_there.Given as goal

abbrev pub invariant-loop-tree : goal.invariant-loop-tree
invariant-loop-tree l =
    list_any (declares_one_there (seen_names l.names) (seen_phrase l.phrase)) (map seen_declaration (drop l.tree-index l.trees))
    ≡ list_any (declares_one_there (seen_names l.names) (seen_phrase l.phrase)) (map seen_declaration l.trees)
