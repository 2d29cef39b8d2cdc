use Rattle.std.proofs.Common.{◌≡◌, map, drop}
use Rattle.hal_tree.specs.SeenDeclarations.{seen_attribute}
use Rattle.hal_sizes.specs.Constancy.{misdimensioned_among}
use Rattle.hal_sizes.proofs.dimensions.misdimensioned_among.Given as goal

abbrev pub invariant-loop-attribute : goal.invariant-loop-attribute
invariant-loop-attribute l = misdimensioned_among (map seen_attribute (drop l.attribute-index l.attributes)) ≡ misdimensioned_among (map seen_attribute l.attributes)
