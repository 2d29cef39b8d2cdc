use Rattle.std.proofs.Common.{◌≡◌, length}
use Rattle.hal_views.specs.Views.{same_path}
use Rattle.hal_limits.proofs.equality.same_path.Given as goal

abbrev pub invariant-loop-first : goal.invariant-loop-first
invariant-loop-first l = same_path l.rest l.left ≡ same_path l.one l.other

abbrev pub decreases-loop-first : goal.decreases-loop-first
decreases-loop-first l = length l.rest
