use Rattle.std.proofs.Common.{◌≡◌, map, drop}
use Rattle.hal_tree.specs.SeenDeclarations.{seen_attribute}
use Rattle.hal_attributes.specs.Clashes.{clash_behind}
use Rattle.hal_attributes.proofs.clashes.clash_behind.Given as goal

abbrev pub invariant-loop-other : goal.invariant-loop-other
invariant-loop-other l = clash_behind (seen_attribute l.attribute) (map seen_attribute (drop l.other-index l.others)) ≡ clash_behind (seen_attribute l.attribute) (map seen_attribute l.others)
