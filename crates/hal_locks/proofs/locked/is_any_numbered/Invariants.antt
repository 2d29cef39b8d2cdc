use Rattle.std.proofs.Common.{◌≡◌, map, drop}
use Rattle.std.specs.List.{list_any}
use Rattle.hal_tree.specs.SeenDeclarations.{seen_attribute}
use Rattle.hal_locks.specs.Locked.{is_numbered}
use Rattle.hal_locks.proofs.locked.is_any_numbered.Given as goal

abbrev pub invariant-loop-attribute : goal.invariant-loop-attribute
invariant-loop-attribute l = list_any is_numbered (map seen_attribute (drop l.attribute-index l.attributes)) ≡ list_any is_numbered (map seen_attribute l.attributes)
