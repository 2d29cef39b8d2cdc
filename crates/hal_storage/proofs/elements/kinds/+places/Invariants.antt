use Rattle.std.proofs.Common.{◌≡◌, ◌++◌, ◌*◌, ◌+◌, replicate, length}
use Rattle.hal_meaning.specs.Elements.{product, times}
use Rattle.hal_storage.proofs.elements.kinds.+places.Given as goal

abbrev pub invariant-push_rows-loop-fewer : goal.invariant-push_rows-loop-fewer
invariant-push_rows-loop-fewer l =
    l.into.items ++ times l.left (replicate (product l.sizes) l.kind) ≡ l.fn.into.items ++ times l.count (replicate (product l.sizes) l.kind)

abbrev pub decreases-push_rows-loop-fewer : goal.decreases-push_rows-loop-fewer
decreases-push_rows-loop-fewer l = l.left

abbrev pub decreases-push_places : goal.decreases-push_places
decreases-push_places l = 2 * length l.sizes.now

abbrev pub decreases-push_rows : goal.decreases-push_rows
decreases-push_rows l = 2 * length l.sizes.now + 1
