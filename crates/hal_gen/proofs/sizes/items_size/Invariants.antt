use Rattle.std.proofs.Common.{◌≡◌, map, drop}
use Rattle.hal_tree.specs.SeenExpressions.{seen_expression}
use Rattle.hal_gen_expr.specs.SeenSites.{seen_site, seen_numbering}
use Rattle.hal_gen.specs.Sums as sums
use Rattle.hal_gen.proofs.sizes.items_size.Given as goal

abbrev pub invariant-loop-item : goal.invariant-loop-item
invariant-loop-item l =
    sums.with_items (seen_numbering l.site) (seen_site l.site) l.size (map seen_expression (drop l.item-index l.items)) ≡ sums.with_items (seen_numbering l.site) (seen_site l.site) 0 (map seen_expression l.items)
