use Rattle.std.proofs.Common.{◌≡◌, map, drop}
use Rattle.hal_tree.specs.SeenDeclarations.{seen_attribute, seen_mark}
use Rattle.hal_kinds.specs.Attributes.{has_mark}
use Rattle.hal_kinds.proofs.attributes.has_mark.Given as goal

abbrev pub invariant-loop-attribute : goal.invariant-loop-attribute
invariant-loop-attribute l = has_mark (seen_mark l.wanted) (map seen_attribute (drop l.attribute-index l.attributes)) ≡ has_mark (seen_mark l.wanted) (map seen_attribute l.attributes)
