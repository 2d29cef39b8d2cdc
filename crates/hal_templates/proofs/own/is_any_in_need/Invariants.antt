use Rattle.std.proofs.Common.{◌≡◌, map, drop}
use Rattle.std.specs.List.{list_any}
use Rattle.hal_phrases.specs.SeenPhrases.{seen_node}
use Rattle.hal_names.specs.SeenNames.{seen_names}
use Rattle.hal_templates.specs.Own.{needs}
use Rattle.hal_templates.proofs.own.is_any_in_need.Given as goal

abbrev pub invariant-loop-node : goal.invariant-loop-node
invariant-loop-node l =
    list_any (needs (seen_names l.names) l.unit l.template) (map seen_node (drop l.node-index l.all)) ≡ list_any (needs (seen_names l.names) l.unit l.template) (map seen_node l.all)
