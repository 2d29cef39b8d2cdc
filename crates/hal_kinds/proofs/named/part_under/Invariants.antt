use Rattle.std.proofs.Common.{◌≡◌, map, drop}
use Rattle.hal_tree.specs.SeenLeaves.{seen_name}
use Rattle.hal_names.specs.SeenNames.{seen_names}
use Rattle.hal_kinds.specs.Data.{part_under}
use Rattle.hal_kinds.proofs.named.part_under.Given as goal

abbrev pub invariant-loop-part : goal.invariant-loop-part
invariant-loop-part l = part_under (seen_names l.names) l.owner (map seen_name (drop l.part-index l.path)) ≡ part_under (seen_names l.names) l.number (map seen_name l.path)
