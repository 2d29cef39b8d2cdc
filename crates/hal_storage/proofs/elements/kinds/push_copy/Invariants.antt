use Rattle.std.proofs.Common.{◌≡◌, ◌++◌, map, drop, flat_map}
use Rattle.hal_meaning.specs.Elements.{kinds_of_component}
use Rattle.hal_storage.specs.elements.SeenComponents.{seen_component}
use Rattle.hal_storage.proofs.elements.kinds.push_copy.Given as goal

abbrev pub invariant-loop-component : goal.invariant-loop-component
invariant-loop-component l =
    l.into.items ++ flat_map kinds_of_component (map seen_component (drop l.component-index l.components)) ≡ l.fn.into.items ++ flat_map kinds_of_component (map seen_component l.components)
