use Rattle.std.proofs.Common.{drop}
use Rattle.hal_object.specs.Images.{ShapesAreRuns}
use Rattle.hal_object.proofs.runs.shapes_are_runs.Given as goal

abbrev pub invariant-loop-shape : goal.invariant-loop-shape
invariant-loop-shape l = (ShapesAreRuns (drop l.shape-index l.shapes) → ShapesAreRuns l.shapes) × (ShapesAreRuns l.shapes → ShapesAreRuns (drop l.shape-index l.shapes))
