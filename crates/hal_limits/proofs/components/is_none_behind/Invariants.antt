use Rattle.std.proofs.Common.{◌≡◌, map, drop}
use Rattle.hal_storage.specs.elements.SeenComponents.{seen_component}
use Rattle.hal_limits.specs.Behind.{is_none_behind}
use Rattle.hal_limits.proofs.components.is_none_behind.Given as goal

abbrev pub invariant-loop-component : goal.invariant-loop-component
invariant-loop-component l = is_none_behind l.names (map seen_component (drop l.component-index l.components)) ≡ is_none_behind l.names (map seen_component l.components)
