use Rattle.std.proofs.Common.{◌≡◌, map, drop}
use Rattle.hal_tree.specs.SeenDeclarations.{seen_attribute}
use Rattle.hal_templates.specs.Traits.{group_among}
use Rattle.hal_templates.proofs.locks.group_among.Given as goal

abbrev pub invariant-loop-attribute : goal.invariant-loop-attribute
invariant-loop-attribute l = group_among (map seen_attribute (drop l.attribute-index l.attributes)) ≡ group_among (map seen_attribute l.attributes)
