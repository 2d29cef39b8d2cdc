use Rattle.std.proofs.Common.{◌≡◌, ◌≤◌, ◌+◌, ◌++◌, map, drop}
use Rattle.hal_storage.specs.elements.SeenComponents.{seen_component}
use Rattle.hal_meaning.specs.Elements.{copy_size}
use Rattle.hal_meaning.specs.ReportNames.{rows_from}
use Rattle.hal_storage.proofs.report_names.rows.push_components.Given as goal

abbrev pub invariant-loop-component : goal.invariant-loop-component
invariant-loop-component l =
    (l.into.items ++ rows_from l.name l.base l.next l.copies l.stride (map seen_component (drop l.component-index l.components)) ≡ l.fn.into.items ++ rows_from l.name l.base l.first l.copies l.stride (map seen_component l.components))
    × (l.next + copy_size (map seen_component (drop l.component-index l.components)) ≤ 4294967295)
