use Rattle.std.proofs.Common.{◌≡◌, map, drop}
use Rattle.hal_tree.specs.Rows.{expressions, terms, subscripts}
use Rattle.hal_tree.specs.SeenExpressions.{seen_expression, seen_signed, seen_sub}
use Rattle.hal_tree.specs.SeenLeaves.{seen_name}
use Rattle.hal_meaning.specs.Expressions.{inputs_at}
use Rattle.hal_gen_expr.specs.ExpressionCode.{joined_code, folded_code, terms_code, arguments_code, indexes_code}
use Rattle.hal_gen_expr.specs.SeenSites.{seen_site, seen_numbering}
use Rattle.hal_gen_expr.proofs.+expressions.Given as goal

abbrev pub invariant-expressions::emit_joined-loop-tree : goal.invariant-expressions::emit_joined-loop-tree
invariant-expressions::emit_joined-loop-tree l =
    joined_code (seen_numbering l.site) (seen_site l.site) l.code.items l.place l.op l.joins_condition (expressions (map seen_expression (drop l.tree-index l.trees.items)))
    ≡ joined_code (seen_numbering l.site) (seen_site l.site) l.fn.code.items l.place l.op l.condition (expressions (map seen_expression l.trees.items))

abbrev pub invariant-expressions::emit_folded-loop-tree : goal.invariant-expressions::emit_folded-loop-tree
invariant-expressions::emit_folded-loop-tree l =
    folded_code (seen_numbering l.site) (seen_site l.site) l.code.items l.place l.op (expressions (map seen_expression (drop l.tree-index l.trees.items)))
    ≡ folded_code (seen_numbering l.site) (seen_site l.site) l.fn.code.items l.place l.op (expressions (map seen_expression l.trees.items))

abbrev pub invariant-expressions::emit_terms-loop-term : goal.invariant-expressions::emit_terms-loop-term
invariant-expressions::emit_terms-loop-term l =
    terms_code (seen_numbering l.site) (seen_site l.site) l.code.items (terms (map seen_signed (drop l.term-index l.list.items)))
    ≡ terms_code (seen_numbering l.site) (seen_site l.site) l.fn.code.items (terms (map seen_signed l.list.items))

abbrev pub invariant-subscripts::emit_indexes-loop-sub : goal.invariant-subscripts::emit_indexes-loop-sub
invariant-subscripts::emit_indexes-loop-sub l =
    indexes_code (seen_numbering l.site) (seen_site l.site) l.code.items l.place l.left (subscripts (map seen_sub (drop l.sub-index l.subs.items)))
    ≡ indexes_code (seen_numbering l.site) (seen_site l.site) l.fn.code.items l.place l.sizes (subscripts (map seen_sub l.subs.items))

abbrev pub invariant-expressions::emit_arguments-loop-tree : goal.invariant-expressions::emit_arguments-loop-tree
invariant-expressions::emit_arguments-loop-tree l =
    arguments_code (seen_numbering l.site) (seen_site l.site) l.code.items l.place l.unit (map seen_name l.left) (expressions (map seen_expression (drop l.tree-index l.arguments.items)))
    ≡ arguments_code (seen_numbering l.site) (seen_site l.site) l.fn.code.items l.place l.unit (inputs_at (seen_site l.site).set l.unit) (expressions (map seen_expression l.arguments.items))
