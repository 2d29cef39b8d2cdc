use Rattle.std.proofs.Common.{◌≡◌, map, drop}
use Rattle.hal_tree.specs.SeenLeaves.{seen_name}
use Rattle.hal_meaning.specs.Statements as meaning
use Rattle.hal_gen.proofs.exits.is_label.Given as goal

abbrev pub invariant-loop-label : goal.invariant-loop-label
invariant-loop-label l = meaning.is_label (map seen_name (drop l.label-index l.labels)) l.name ≡ meaning.is_label (map seen_name l.labels) l.name
