use Rattle.std.proofs.Common.{◌≡◌, map, drop}
use Rattle.hal_tree.specs.SeenDeclarations.{seen_attribute}
use Rattle.hal_attributes.specs.Clashes.{clashes_with}
use Rattle.hal_attributes.proofs.clashes.clashes_with.Given as goal

abbrev pub invariant-loop-other : goal.invariant-loop-other
invariant-loop-other l = clashes_with (seen_attribute l.attribute) (map seen_attribute (drop l.other-index l.others)) ≡ clashes_with (seen_attribute l.attribute) (map seen_attribute l.others)
