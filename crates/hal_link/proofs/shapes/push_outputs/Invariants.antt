use Rattle.std.proofs.Common.{◌≡◌, map, drop}
use Rattle.hal_storage.specs.sets.SeenSets.{seen_set}
use Rattle.hal_tree.specs.SeenLeaves.{seen_name}
use Rattle.hal_link.specs.Shapes.{with_outputs}
use Rattle.hal_link.proofs.shapes.push_outputs.Given as goal

abbrev pub invariant-loop-name : goal.invariant-loop-name
invariant-loop-name l = with_outputs (seen_set l.set) l.unit l.into.items (map seen_name (drop l.name-index l.names)) ≡ with_outputs (seen_set l.set) l.unit l.fn.into.items (map seen_name l.names)
