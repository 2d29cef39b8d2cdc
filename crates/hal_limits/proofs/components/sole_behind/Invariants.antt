use Rattle.std.proofs.Common.{◌≡◌, map, length}
use Rattle.hal_storage.specs.elements.SeenComponents.{seen_component}
use Rattle.hal_limits.specs.Behind.{sole_behind}
use Rattle.hal_limits.proofs.components.sole_behind.Given as goal

abbrev pub invariant-loop-component : goal.invariant-loop-component
invariant-loop-component l = sole_behind l.names (map seen_component l.rest) ≡ sole_behind l.names (map seen_component l.components)

abbrev pub decreases-loop-component : goal.decreases-loop-component
decreases-loop-component l = length l.rest
