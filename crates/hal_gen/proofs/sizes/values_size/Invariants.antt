use Rattle.std.proofs.Common.{◌≡◌, map, drop}
use Rattle.hal_tree.specs.SeenExpressions.{seen_expression}
use Rattle.hal_gen_expr.specs.SeenSites.{seen_site, seen_numbering}
use Rattle.hal_gen.specs.Sums as sums
use Rattle.hal_gen.proofs.sizes.values_size.Given as goal

abbrev pub invariant-loop-tree : goal.invariant-loop-tree
invariant-loop-tree l =
    sums.with_values (seen_numbering l.site) (seen_site l.site) l.size (map seen_expression (drop l.tree-index l.values)) ≡ sums.with_values (seen_numbering l.site) (seen_site l.site) 0 (map seen_expression l.values)
