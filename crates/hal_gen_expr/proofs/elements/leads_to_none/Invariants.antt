use Rattle.std.proofs.Common.{◌≡◌, map, drop}
use Rattle.hal_tree.specs.SeenLeaves.{seen_name}
use Rattle.hal_storage.specs.elements.SeenComponents.{seen_component}
use Rattle.hal_gen_expr.specs.Elements.{leads_to_none}
use Rattle.hal_gen_expr.proofs.elements.leads_to_none.Given as goal

abbrev pub invariant-loop-component : goal.invariant-loop-component
invariant-loop-component l =
    leads_to_none (map seen_name l.path) (map seen_component (drop l.component-index l.components)) ≡ leads_to_none (map seen_name l.path) (map seen_component l.components)
