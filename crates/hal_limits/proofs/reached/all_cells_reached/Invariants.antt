use Rattle.std.proofs.Common.{◌≡◌, map, drop}
use Rattle.hal_names.specs.SeenNames.{seen_names}
use Rattle.hal_constants.specs.SeenKnown.{seen_known}
use Rattle.hal_views.specs.Views.{cells_reached}
use Rattle.hal_limits.specs.Counts.{counted}
use Rattle.hal_limits.specs.SeenViews.{seen_view}
use Rattle.hal_limits.proofs.reached.all_cells_reached.Given as goal

abbrev pub invariant-loop-view : goal.invariant-loop-view
invariant-loop-view l =
    counted (cells_reached (seen_names l.names) (seen_known l.known)) l.count (map seen_view (drop l.view-index l.list)) ≡ counted (cells_reached (seen_names l.names) (seen_known l.known)) 0 (map seen_view l.list)
