use Rattle.std.proofs.Common.{◌≡◌, ◌++◌, map, drop}
use Rattle.hal_storage.specs.event_expressions.SeenStated.{seen_stated}
use Rattle.hal_storage.specs.layout.Layouts.{items_of}
use Rattle.hal_storage.proofs.layout.tables.items_of.Given as goal

abbrev pub invariant-loop-one : goal.invariant-loop-one
invariant-loop-one l = l.list.items ++ items_of (map seen_stated (drop l.one-index l.expressions)) ≡ items_of (map seen_stated l.expressions)
