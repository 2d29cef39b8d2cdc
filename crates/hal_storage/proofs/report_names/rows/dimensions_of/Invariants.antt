use Rattle.std.proofs.Common.{◌≡◌, ◌++◌, drop}
use Rattle.hal_storage.proofs.report_names.rows.dimensions_of.Given as goal

abbrev pub invariant-loop-size : goal.invariant-loop-size
invariant-loop-size l = l.list.items ++ drop l.size-index l.sizes ≡ l.sizes
