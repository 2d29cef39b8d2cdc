use Rattle.std.proofs.Common.{◌≡◌, map, drop}
use Rattle.std.specs.List.{list_any}
use Rattle.hal_tree.specs.SeenDeclarations.{seen_attribute}
use Rattle.hal_templates.specs.Traits.{is_starred}
use Rattle.hal_templates.proofs.locks.is_any_starred.Given as goal

abbrev pub invariant-loop-attribute : goal.invariant-loop-attribute
invariant-loop-attribute l = list_any is_starred (map seen_attribute (drop l.attribute-index l.attributes)) ≡ list_any is_starred (map seen_attribute l.attributes)
