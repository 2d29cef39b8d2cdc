use Rattle.std.proofs.Common.{◌≡◌, ◌++◌, map, drop}
use Rattle.hal_meaning.specs.Elements.{lower}
use Rattle.hal_storage.specs.elements.SeenComponents.{seen_above}
use Rattle.hal_storage.proofs.elements.structures.lower.Given as goal

abbrev pub invariant-loop-part : goal.invariant-loop-part
invariant-loop-part l =
    map seen_above l.list.items ++ lower l.level (map seen_above (drop l.part-index l.above)) ≡ lower l.level (map seen_above l.above)
