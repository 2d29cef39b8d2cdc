use Rattle.std.proofs.Common.{◌≡◌, [], map, drop}
use Rattle.hal_tree.specs.SeenDeclarations.{seen_declaration}
use Rattle.hal_phrases.specs.SeenPhrases.{seen_node}
use Rattle.hal_templates.specs.Entries.{with_declarations}
use Rattle.hal_templates.proofs.entries.entries.Given as goal

abbrev pub invariant-loop-declaration : goal.invariant-loop-declaration
invariant-loop-declaration l =
    with_declarations (map seen_node l.list.items) (map seen_declaration (drop l.declaration-index l.declarations)) ≡ with_declarations [] (map seen_declaration l.declarations)
