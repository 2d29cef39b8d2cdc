use Rattle.std.proofs.Common.{rules, ◌≡◌, ◌∙◌, ◌≤◌, ap, length}
use Rattle.hal_grammar.specs.Statements.{If}
use Rattle.hal_tree.specs.SeenExpressions.{seen_expression}
use Rattle.hal_tree.specs.SeenStatements.{seen_alternative, seen_basic, seen_statement}
use Rattle.hal_tree.proofs.MadeStatements.{made_if}
use Rattle.hal_gen_expr.specs.SeenSites.{seen_site, seen_numbering}
use Rattle.hal_gen.proofs.Counted.{statements_done, cases_done}
use Rattle.hal_gen.proofs.sizes.+sizes.Goals as goal

pub statements_size-returns : goal.statements_size-returns
statements_size-returns t c =
    let past : length c.args.trees.now ≤ c.loop-tree.tree-index = search rules in
    statements_done seen_statement (seen_numbering c.args.site.now) (seen_site c.args.site.now) c.args.mark c.loop-tree.following c.loop-tree.size c.loop-tree.tree-index c.args.trees.now past c.loop-tree.invariant

pub selected_size-returns : goal.selected_size-returns
selected_size-returns t c =
    let past : length c.args.trees.now ≤ c.loop-tree.tree-index = search rules in
    cases_done seen_statement (seen_numbering c.args.site.now) (seen_site c.args.site.now) c.args.mark c.loop-tree.following c.loop-tree.size c.loop-tree.tree-index c.args.trees.now past c.loop-tree.invariant

pub basic_size-returns-in_ok-otherwise-in-If : goal.basic_size-returns-in_ok-otherwise-in-If
basic_size-returns-in_ok-otherwise-in-If t c =
    let shape : seen_basic c.args.tree.now ≡ If c.in-If.place (seen_expression c.in-If.condition) (seen_statement c.in-If.consequence.value) (seen_alternative c.in-If.alternative) = ap seen_basic c.in-If.is ∙ made_if c.in-If.place c.in-If.condition c.in-If.consequence c.in-If.alternative in
    rw shape (search (rules, c.branch_size.ensures))
