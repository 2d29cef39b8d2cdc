use Rattle.std.proofs.Common.{◌≡◌, map, drop}
use Rattle.hal_storage.specs.sets.SeenSets.{seen_set}
use Rattle.hal_link.specs.Linking.{linked, with_outlines}
use Rattle.hal_link.specs.SeenOutlines.{seen_outline}
use Rattle.hal_link.proofs.linking.link_outlines.Given as goal

abbrev pub invariant-loop-outline : goal.invariant-loop-outline
invariant-loop-outline l =
    with_outlines (seen_set l.whole.set.now) l.whole.shapes.now l.views.list.items (map seen_outline (drop l.outline-index l.list)) (linked l.code.items l.blocks.items)
    ≡ with_outlines (seen_set l.whole.set.now) l.whole.shapes.now l.views.list.items (map seen_outline l.list) (linked l.fn.code.items l.fn.blocks.items)
