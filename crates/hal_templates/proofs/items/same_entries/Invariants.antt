use Rattle.std.proofs.Common.{◌≡◌, map, drop}
use Rattle.hal_phrases.specs.SeenPhrases.{seen_node}
use Rattle.hal_names.specs.SeenNames.{seen_names}
use Rattle.hal_constants.specs.SeenKnown.{seen_known}
use Rattle.hal_templates.specs.Items.{same_from}
use Rattle.hal_templates.proofs.items.same_entries.Given as goal

abbrev pub invariant-loop-one : goal.invariant-loop-one
invariant-loop-one l =
    same_from (seen_names l.names) (seen_known l.known) l.home (map seen_node (drop l.one-index l.ours)) l.unit l.place (map seen_node l.theirs)
    ≡ same_from (seen_names l.names) (seen_known l.known) l.home (map seen_node l.ours) l.unit 0 (map seen_node l.theirs)
