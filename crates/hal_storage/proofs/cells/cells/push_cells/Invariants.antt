use Rattle.std.proofs.Common.{◌≡◌, ◌++◌, length}
use Rattle.hal_meaning.specs.Places.{cells_from}
use Rattle.hal_storage.proofs.cells.cells.push_cells.Given as goal

abbrev pub invariant-loop-kind : goal.invariant-loop-kind
invariant-loop-kind l = l.into.items ++ cells_from l.group l.rest l.left ≡ l.fn.into.items ++ cells_from l.group l.kinds l.values

abbrev pub decreases-loop-kind : goal.decreases-loop-kind
decreases-loop-kind l = length l.rest
