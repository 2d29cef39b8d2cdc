use Rattle.std.proofs.Common.{◌≡◌, map, drop}
use Rattle.hal_tree.specs.SeenLeaves.{seen_name}
use Rattle.hal_names.specs.SeenNames.{seen_names}
use Rattle.hal_scope.specs.Components.{has_path}
use Rattle.hal_scope.proofs.components.has_path.Given as goal

abbrev pub invariant-loop-part : goal.invariant-loop-part
invariant-loop-part l = has_path (seen_names l.names) l.owner (map seen_name (drop l.part-index l.path)) ≡ has_path (seen_names l.names) l.number (map seen_name l.path)
