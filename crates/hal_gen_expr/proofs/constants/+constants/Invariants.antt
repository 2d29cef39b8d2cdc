use Rattle.std.proofs.Common.{◌≡◌, map, drop}
use Rattle.hal_tree.specs.Rows.{expressions, terms}
use Rattle.hal_tree.specs.SeenExpressions.{seen_expression, seen_signed}
use Rattle.hal_gen_expr.specs.SeenSites.{seen_site}
use Rattle.hal_gen_expr.specs.Constants as constants
use Rattle.hal_gen_expr.proofs.constants.+constants.Given as goal

abbrev pub invariant-folded-loop-tree : goal.invariant-folded-loop-tree
invariant-folded-loop-tree l =
    constants.folded (seen_site l.site) l.op l.so_far (expressions (map seen_expression (drop l.tree-index l.trees))) ≡ constants.folded (seen_site l.site) l.op l.fn.first (expressions (map seen_expression l.trees))

abbrev pub invariant-summed-loop-term : goal.invariant-summed-loop-term
invariant-summed-loop-term l =
    constants.summed (seen_site l.site) l.so_far (terms (map seen_signed (drop l.term-index l.list))) ≡ constants.summed (seen_site l.site) l.fn.first (terms (map seen_signed l.list))
