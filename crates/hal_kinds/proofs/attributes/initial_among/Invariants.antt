use Rattle.std.proofs.Common.{◌≡◌, map, drop}
use Rattle.hal_tree.specs.SeenDeclarations.{seen_attribute}
use Rattle.hal_kinds.specs.Attributes.{initial_among}
use Rattle.hal_kinds.proofs.attributes.initial_among.Given as goal

abbrev pub invariant-loop-attribute : goal.invariant-loop-attribute
invariant-loop-attribute l = initial_among (map seen_attribute (drop l.attribute-index l.attributes)) ≡ initial_among (map seen_attribute l.attributes)
