use Rattle.std.proofs.Common.{◌≡◌, ◌++◌, map, drop}
use Rattle.hal_phrases.specs.SeenPhrases.{seen_node}
use Rattle.hal_names.specs.SeenNames.{seen_names}
use Rattle.hal_templates.specs.Own.{shown_among}
use Rattle.hal_templates.proofs.own.shown_among.Given as goal

abbrev pub invariant-loop-node : goal.invariant-loop-node
invariant-loop-node l =
    map seen_node l.list.items ++ shown_among (seen_names l.names) l.unit (map seen_node l.all) (map seen_node (drop l.node-index l.all))
    ≡ shown_among (seen_names l.names) l.unit (map seen_node l.all) (map seen_node l.all)
