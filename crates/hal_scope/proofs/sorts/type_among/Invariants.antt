use Rattle.std.proofs.Common.{◌≡◌, map, drop}
use Rattle.hal_tree.specs.SeenDeclarations.{seen_attribute}
use Rattle.hal_scope.specs.Sorts.{type_among}
use Rattle.hal_scope.proofs.sorts.type_among.Given as goal

abbrev pub invariant-loop-attribute : goal.invariant-loop-attribute
invariant-loop-attribute l = type_among (map seen_attribute (drop l.attribute-index l.attributes)) ≡ type_among (map seen_attribute l.attributes)
