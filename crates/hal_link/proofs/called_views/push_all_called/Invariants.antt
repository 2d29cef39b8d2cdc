use Rattle.std.proofs.Common.{◌≡◌, drop}
use Rattle.hal_storage.specs.sets.SeenSets.{seen_set}
use Rattle.hal_link.specs.CalledViews.{with_all_called}
use Rattle.hal_link.proofs.called_views.push_all_called.Given as goal

abbrev pub invariant-loop-unit : goal.invariant-loop-unit
invariant-loop-unit l =
    with_all_called l.whole.shapes.now (seen_set l.whole.set.now) l.process l.into.list.items (drop l.unit-index l.units) ≡ with_all_called l.whole.shapes.now (seen_set l.whole.set.now) l.process l.fn.into.list.items l.units
