use Rattle.std.proofs.Common.{◌≡◌, map, drop}
use Rattle.hal_tree.specs.Rows.{expressions}
use Rattle.hal_tree.specs.SeenExpressions.{seen_expression}
use Rattle.hal_gen_expr.specs.SeenSites.{seen_site, seen_numbering}
use Rattle.hal_gen.specs.StatementCode as codes
use Rattle.hal_gen.proofs.channels.emit_items.Given as goal

abbrev pub invariant-loop-item : goal.invariant-loop-item
invariant-loop-item l =
    codes.items_code (seen_numbering l.site) (seen_site l.site) l.code.items (expressions (map seen_expression (drop l.item-index l.items))) ≡ codes.items_code (seen_numbering l.site) (seen_site l.site) l.fn.code.items (expressions (map seen_expression l.items))
