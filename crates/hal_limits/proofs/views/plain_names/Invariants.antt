use Rattle.std.proofs.Common.{◌≡◌, ◌++◌, map, drop}
use Rattle.hal_tree.specs.SeenLeaves.{seen_name}
use Rattle.hal_limits.specs.Noting.{plain_names}
use Rattle.hal_limits.proofs.views.plain_names.Given as goal

abbrev pub invariant-loop-name : goal.invariant-loop-name
invariant-loop-name l = l.list.items ++ plain_names (map seen_name (drop l.name-index l.path)) ≡ plain_names (map seen_name l.path)
