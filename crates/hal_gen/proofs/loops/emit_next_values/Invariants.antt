use Rattle.std.proofs.Common.{◌≡◌, map, drop}
use Rattle.hal_tree.specs.Rows.{expressions}
use Rattle.hal_tree.specs.SeenExpressions.{seen_expression}
use Rattle.hal_gen_expr.specs.SeenSites.{seen_site, seen_numbering}
use Rattle.hal_gen.specs.SpanCode as codes
use Rattle.hal_gen.proofs.loops.emit_next_values.Given as goal

abbrev pub invariant-loop-tree : goal.invariant-loop-tree
invariant-loop-tree l =
    codes.next_values_code (seen_numbering l.site) (seen_site l.site) l.code.items l.spanned.place l.name l.spanned.cells.last l.number l.spanned.exit l.test (expressions (map seen_expression (drop l.tree-index l.values))) ≡ codes.next_values_code (seen_numbering l.site) (seen_site l.site) l.fn.code.items l.spanned.place l.name l.spanned.cells.last 1 l.spanned.exit l.test (expressions (map seen_expression l.values))
