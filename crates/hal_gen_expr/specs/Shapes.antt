-- The shapes of data that are passed as a whole: the kinds of their cells, in runs.
use Rattle.std.specs.Prelude.{min, map, List, unwrap_or}
use Rattle.hal_values.specs.declared.value.Kind.{Kind}
use Rattle.hal_code.specs.declared.row.Run.{Run}
use Rattle.hal_code.specs.Sorts.{same_kind}
use Rattle.hal_meaning.specs.Elements.{Component, Shape, count, times}
use Rattle.hal_runs.specs.Joined.{runs_joined}
use Rattle.hal_gen_expr.specs.Elements.{counted}

-- the elements of a component in one copy; they are counted up to a limit, at which no shape is found
abbrev pub run_of : Component → Run Kind
run_of c = record { repeat = min (count c) counted; row = c.kind }

-- those of all copies, in order; equal neighbours are one run
abbrev pub runs_of : Shape → List (Run Kind)
runs_of shape = runs_joined same_kind (times (unwrap_or shape.copies 1) (map run_of shape.components))
