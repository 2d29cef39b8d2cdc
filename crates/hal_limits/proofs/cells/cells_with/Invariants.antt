use Rattle.std.proofs.Common.{◌≡◌, drop}
use Rattle.hal_names.specs.SeenNames.{seen_names}
use Rattle.hal_constants.specs.SeenKnown.{seen_known}
use Rattle.hal_limits.specs.Counts.{counted}
use Rattle.hal_limits.specs.Sizes.{cells_of_unit}
use Rattle.hal_limits.proofs.cells.cells_with.Given as goal

abbrev pub invariant-loop-unit : goal.invariant-loop-unit
invariant-loop-unit l =
    counted (cells_of_unit (seen_names l.names) (seen_known l.known) l.processes) l.count (drop l.unit-index l.units) ≡ counted (cells_of_unit (seen_names l.names) (seen_known l.known) l.processes) l.shared l.units
