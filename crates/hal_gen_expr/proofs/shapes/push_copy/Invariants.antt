use Rattle.std.proofs.Common.{◌≡◌, map, drop}
use Rattle.hal_code.specs.Sorts.{same_kind}
use Rattle.hal_storage.specs.elements.SeenComponents.{seen_component}
use Rattle.hal_runs.specs.Joined.{with_runs}
use Rattle.hal_gen_expr.specs.Shapes.{run_of}
use Rattle.hal_gen_expr.proofs.shapes.push_copy.Given as goal

abbrev pub invariant-loop-component : goal.invariant-loop-component
invariant-loop-component l =
    with_runs same_kind l.into.items (map run_of (map seen_component (drop l.component-index l.components))) ≡ with_runs same_kind l.fn.into.items (map run_of (map seen_component l.components))
