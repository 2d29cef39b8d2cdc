use Rattle.std.proofs.Common.{rules, ◌≤◌, length}
use Rattle.hal_tree.specs.SeenExpressions.{seen_expression}
use Rattle.hal_gen_expr.specs.SeenSites.{seen_site, seen_numbering}
use Rattle.hal_gen.proofs.Counted.{items_done}
use Rattle.hal_gen.proofs.sizes.items_size.Goals as goal

pub returns : goal.returns
returns c =
    let past : length c.args.items.now ≤ c.loop-item.item-index = search rules in
    items_done seen_expression (seen_numbering c.args.site.now) (seen_site c.args.site.now) c.loop-item.size c.loop-item.item-index c.args.items.now past c.loop-item.invariant
