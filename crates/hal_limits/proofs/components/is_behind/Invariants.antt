use Rattle.std.proofs.Common.{◌≡◌, length}
use Rattle.hal_views.specs.Views as views
use Rattle.hal_limits.proofs.components.is_behind.Given as goal

abbrev pub invariant-loop-wanted : goal.invariant-loop-wanted
invariant-loop-wanted l = views.is_behind l.left l.rest ≡ views.is_behind l.names l.path

abbrev pub decreases-loop-wanted : goal.decreases-loop-wanted
decreases-loop-wanted l = length l.left
