use Rattle.std.proofs.Common.{◌≡◌, map, drop}
use Rattle.hal_tree.specs.SeenLeaves.{seen_name}
use Rattle.hal_scope.specs.Labels.{is_label}
use Rattle.hal_scope.proofs.labels.is_label.Given as goal

abbrev pub invariant-loop-label : goal.invariant-loop-label
invariant-loop-label l = is_label l.name (map seen_name (drop l.label-index l.labels)) ≡ is_label l.name (map seen_name l.labels)
