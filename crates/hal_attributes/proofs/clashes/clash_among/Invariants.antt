use Rattle.std.proofs.Common.{◌≡◌, map, length}
use Rattle.hal_tree.specs.SeenDeclarations.{seen_attribute}
use Rattle.hal_attributes.specs.Clashes.{clash_among}
use Rattle.hal_attributes.proofs.clashes.clash_among.Given as goal

abbrev pub invariant-loop-attribute : goal.invariant-loop-attribute
invariant-loop-attribute l = clash_among (map seen_attribute l.common) (map seen_attribute l.rest) ≡ clash_among (map seen_attribute l.common) (map seen_attribute l.attributes)

abbrev pub decreases-loop-attribute : goal.decreases-loop-attribute
decreases-loop-attribute l = length l.rest
