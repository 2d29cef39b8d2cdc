use Rattle.std.proofs.Common.{◌≡◌, drop}
use Rattle.std.specs.List.{list_all}
use Rattle.hal_compile.specs.Fitness.{view_has_cell}
use Rattle.hal_compile.proofs.fitness.have_cells.Given as goal

abbrev pub invariant-loop-view : goal.invariant-loop-view
invariant-loop-view l = list_all (view_has_cell l.image) (drop l.view-index l.views) ≡ list_all (view_has_cell l.image) l.image.views
