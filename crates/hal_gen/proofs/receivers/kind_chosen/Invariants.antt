use Rattle.std.proofs.Common.{◌≡◌, map, drop}
use Rattle.hal_tree.specs.SeenLeaves.{seen_name}
use Rattle.hal_storage.specs.elements.SeenComponents.{seen_component}
use Rattle.hal_meaning.specs.Elements as elements
use Rattle.hal_meaning.specs.Variables as variables
use Rattle.hal_gen.proofs.receivers.kind_chosen.Given as goal

abbrev pub invariant-loop-component : goal.invariant-loop-component
invariant-loop-component l =
    variables.kind_of_first (elements.chosen (map seen_name l.path) (map seen_component (drop l.component-index l.components))) ≡ variables.kind_of_first (elements.chosen (map seen_name l.path) (map seen_component l.components))
