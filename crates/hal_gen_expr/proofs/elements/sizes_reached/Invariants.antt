use Rattle.std.proofs.Common.{◌≡◌, map, drop}
use Rattle.hal_tree.specs.SeenLeaves.{seen_name}
use Rattle.hal_storage.specs.elements.SeenComponents.{seen_component}
use Rattle.hal_meaning.specs.Expressions as meaning
use Rattle.hal_gen_expr.proofs.elements.sizes_reached.Given as goal

abbrev pub invariant-loop-component : goal.invariant-loop-component
invariant-loop-component l =
    meaning.sizes_reached (map seen_name l.path) (map seen_component (drop l.component-index l.components)) ≡ meaning.sizes_reached (map seen_name l.path) (map seen_component l.components)
