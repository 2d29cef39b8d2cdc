use Rattle.std.proofs.Common.{◌≡◌, map, drop}
use Rattle.hal_tree.specs.SeenLeaves.{seen_name}
use Rattle.hal_storage.specs.elements.SeenComponents.{seen_component}
use Rattle.hal_meaning.specs.Elements as elements
use Rattle.hal_meaning.specs.Variables as variables
use Rattle.hal_gen_expr.proofs.elements.sizes_named.Given as goal

abbrev pub invariant-loop-component : goal.invariant-loop-component
invariant-loop-component l =
    variables.sizes_of_first (elements.chosen (map seen_name l.path) (map seen_component (drop l.component-index l.components))) ≡ variables.sizes_of_first (elements.chosen (map seen_name l.path) (map seen_component l.components))
