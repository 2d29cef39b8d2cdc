use Rattle.std.proofs.Common.{rules, ◌≤◌, length}
use Rattle.hal_tree.specs.SeenExpressions.{seen_expression}
use Rattle.hal_gen_expr.specs.SeenSites.{seen_site, seen_numbering}
use Rattle.hal_gen.proofs.Counted.{values_done}
use Rattle.hal_gen.proofs.sizes.values_size.Goals as goal

pub returns : goal.returns
returns c =
    let past : length c.args.values.now ≤ c.loop-tree.tree-index = search rules in
    values_done seen_expression (seen_numbering c.args.site.now) (seen_site c.args.site.now) c.loop-tree.size c.loop-tree.tree-index c.args.values.now past c.loop-tree.invariant
