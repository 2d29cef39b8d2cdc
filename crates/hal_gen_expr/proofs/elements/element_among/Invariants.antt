use Rattle.std.proofs.Common.{◌≡◌, map, length}
use Rattle.hal_tree.specs.SeenLeaves.{seen_name}
use Rattle.hal_storage.specs.elements.SeenComponents.{seen_component}
use Rattle.hal_gen_expr.specs.Elements.{element_from}
use Rattle.hal_gen_expr.proofs.elements.element_among.Given as goal

abbrev pub invariant-loop-component : goal.invariant-loop-component
invariant-loop-component l =
    element_from (map seen_name l.path) l.before (map seen_component l.rest) ≡ element_from (map seen_name l.path) 0 (map seen_component l.components)

abbrev pub decreases-loop-component : goal.decreases-loop-component
decreases-loop-component l = length l.rest
