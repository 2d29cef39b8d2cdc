use Rattle.std.proofs.Common.{◌≡◌, map, drop}
use Rattle.hal_storage.specs.sets.SeenSets.{seen_set}
use Rattle.hal_link.specs.CalledViews.{with_outlines}
use Rattle.hal_link.specs.SeenOutlines.{seen_outline}
use Rattle.hal_link.proofs.called_views.push_outlines.Given as goal

abbrev pub invariant-loop-outline : goal.invariant-loop-outline
invariant-loop-outline l =
    with_outlines l.whole.shapes.now (seen_set l.whole.set.now) l.into.list.items (map seen_outline (drop l.outline-index l.list)) ≡ with_outlines l.whole.shapes.now (seen_set l.whole.set.now) l.fn.into.list.items (map seen_outline l.list)
