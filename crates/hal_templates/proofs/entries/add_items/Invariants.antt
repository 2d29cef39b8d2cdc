use Rattle.std.proofs.Common.{◌≡◌, map, drop}
use Rattle.hal_tree.specs.SeenDeclarations.{seen_attribute, seen_declared}
use Rattle.hal_phrases.specs.SeenPhrases.{seen_node}
use Rattle.hal_templates.specs.Entries.{with_items}
use Rattle.hal_templates.proofs.entries.add_items.Given as goal

abbrev pub invariant-loop-item : goal.invariant-loop-item
invariant-loop-item l =
    with_items (map seen_attribute l.common) (map seen_node l.into.items) (map seen_declared (drop l.item-index l.items))
    ≡ with_items (map seen_attribute l.common) (map seen_node l.fn.into.items) (map seen_declared l.items)
