use Rattle.std.proofs.Common.{◌≡◌, ◌++◌, map, drop}
use Rattle.hal_storage.specs.elements.Components.{names_of}
use Rattle.hal_storage.specs.elements.SeenComponents.{seen_above}
use Rattle.hal_storage.proofs.elements.structures.names_of.Given as goal

abbrev pub invariant-loop-part : goal.invariant-loop-part
invariant-loop-part l = l.list.items ++ names_of (map seen_above (drop l.part-index l.above)) ≡ names_of (map seen_above l.above)
