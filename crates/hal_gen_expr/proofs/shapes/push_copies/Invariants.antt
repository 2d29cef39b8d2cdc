use Rattle.std.proofs.Common.{◌≡◌, map}
use Rattle.hal_code.specs.Sorts.{same_kind}
use Rattle.hal_storage.specs.elements.SeenComponents.{seen_component}
use Rattle.hal_meaning.specs.Elements.{times}
use Rattle.hal_runs.specs.Joined.{with_runs}
use Rattle.hal_gen_expr.specs.Shapes.{run_of}
use Rattle.hal_gen_expr.proofs.shapes.push_copies.Given as goal

abbrev pub invariant-loop-fewer : goal.invariant-loop-fewer
invariant-loop-fewer l =
    with_runs same_kind l.into.items (times l.left (map run_of (map seen_component l.components))) ≡ with_runs same_kind l.fn.into.items (times l.copies (map run_of (map seen_component l.components)))

abbrev pub decreases-loop-fewer : goal.decreases-loop-fewer
decreases-loop-fewer l = l.left
