use Rattle.std.proofs.Common.{◌≡◌, map, drop}
use Rattle.hal_storage.specs.elements.SeenComponents.{seen_component}
use Rattle.hal_limits.specs.Behind.{count_behind}
use Rattle.hal_limits.specs.Counts.{counted}
use Rattle.hal_limits.proofs.components.counted_behind.Given as goal

abbrev pub invariant-loop-component : goal.invariant-loop-component
invariant-loop-component l = counted (count_behind l.names) l.size (map seen_component (drop l.component-index l.components)) ≡ counted (count_behind l.names) 0 (map seen_component l.components)
