use Rattle.std.proofs.Common.{◌≡◌, map, length}
use Rattle.hal_views.specs.Views.{same_choices}
use Rattle.hal_limits.specs.SeenViews.{seen_choice}
use Rattle.hal_limits.proofs.equality.same_choices.Given as goal

abbrev pub invariant-loop-first : goal.invariant-loop-first
invariant-loop-first l = same_choices (map seen_choice l.rest) (map seen_choice l.left) ≡ same_choices (map seen_choice l.one) (map seen_choice l.other)

abbrev pub decreases-loop-first : goal.decreases-loop-first
decreases-loop-first l = length l.rest
