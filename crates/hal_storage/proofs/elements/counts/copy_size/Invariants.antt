use Rattle.std.proofs.Common.{◌≡◌, ◌≤◌, ◌+◌, min, map, drop}
use Rattle.hal_meaning.specs.Elements.{copy_size}
use Rattle.hal_storage.specs.elements.SeenComponents.{seen_component}
use Rattle.hal_storage.proofs.elements.counts.copy_size.Given as goal

abbrev pub invariant-loop-component : goal.invariant-loop-component
invariant-loop-component l =
    (min (l.size + copy_size (map seen_component (drop l.component-index l.components))) 4294967295 ≡ min (copy_size (map seen_component l.components)) 4294967295) × (l.size ≤ 4294967295)
