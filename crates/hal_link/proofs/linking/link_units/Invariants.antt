use Rattle.std.proofs.Common.{◌≡◌, drop}
use Rattle.hal_storage.specs.sets.SeenSets.{seen_set}
use Rattle.hal_link.specs.Linking.{linked, with_units}
use Rattle.hal_link.specs.Outlines.{numbering_of}
use Rattle.hal_link.specs.SeenOutlines.{seen_outline}
use Rattle.hal_link.proofs.linking.link_units.Given as goal

abbrev pub invariant-loop-unit : goal.invariant-loop-unit
invariant-loop-unit l =
    with_units (seen_set l.whole.set.now) (numbering_of l.whole.shapes.now l.views.list.items (seen_outline l.outline)) l.outline.process (drop l.unit-index l.units) (linked l.code.items l.blocks.items)
    ≡ with_units (seen_set l.whole.set.now) (numbering_of l.whole.shapes.now l.views.list.items (seen_outline l.outline)) l.outline.process l.units (linked l.fn.code.items l.fn.blocks.items)
