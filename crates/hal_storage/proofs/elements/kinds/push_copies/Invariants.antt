use Rattle.std.proofs.Common.{◌≡◌, ◌++◌, map, flat_map}
use Rattle.hal_meaning.specs.Elements.{kinds_of_component, times}
use Rattle.hal_storage.specs.elements.SeenComponents.{seen_component}
use Rattle.hal_storage.proofs.elements.kinds.push_copies.Given as goal

abbrev pub invariant-loop-fewer : goal.invariant-loop-fewer
invariant-loop-fewer l =
    l.into.items ++ times l.left (flat_map kinds_of_component (map seen_component l.components)) ≡ l.fn.into.items ++ times l.copies (flat_map kinds_of_component (map seen_component l.components))

abbrev pub decreases-loop-fewer : goal.decreases-loop-fewer
decreases-loop-fewer l = l.left
