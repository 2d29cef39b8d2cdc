use Rattle.std.proofs.Common.{◌≡◌, map, drop}
use Rattle.std.specs.List.{list_any}
use Rattle.hal_views.specs.Views.{same_view}
use Rattle.hal_limits.specs.SeenViews.{seen_view}
use Rattle.hal_limits.proofs.equality.is_among.Given as goal

abbrev pub invariant-loop-other : goal.invariant-loop-other
invariant-loop-other l = list_any (same_view (seen_view l.view)) (map seen_view (drop l.other-index l.list)) ≡ list_any (same_view (seen_view l.view)) (map seen_view l.list)
