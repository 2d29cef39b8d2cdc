use Rattle.std.proofs.Common.{◌≡◌, nat_le, drop}
use Rattle.std.specs.List.{list_all}
use Rattle.hal_code.specs.declared.row.Dimension.{Dimension}
use Rattle.hal_verify.proofs.views.dimensions_right.Given as goal

abbrev pub invariant-loop-dimension : goal.invariant-loop-dimension
invariant-loop-dimension l = list_all (λ (d : Dimension). nat_le 1 d.size) (drop l.dimension-index l.dimensions) ≡ list_all (λ (d : Dimension). nat_le 1 d.size) l.dimensions
