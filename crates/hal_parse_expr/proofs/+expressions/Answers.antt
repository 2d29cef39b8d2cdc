use Rattle.std.proofs.Common.{◌≡◌, sym, subst, IfOk}
use Rattle.hal_words.specs.declared.reserved.Reserved.TheVariants as reserved
use Rattle.hal_grammar.specs.Expressions.{Or, And, Cat, Product}
use Rattle.hal_tree.specs.SeenExpressions.{seen_expression, seen_signed, seen_sub}
use Rattle.hal_parse_expr.specs.Reading.{after_comma}
use Rattle.hal_parse_expr.specs.ReadingExpressions.{behind, both_of, cat_of, comparison_of, expression_of, factor_of, further_factor, primary_at, signed_term, sub_of, sum_of, term_of}
use Rattle.hal_parse_expr.specs.Joints.{more_of, make_of}
use Rattle.hal_parse_expr.specs.Seen.{seen_as, seen_as_list, seen_list}
use Rattle.hal_parse_expr.proofs.Depths.{no_words, nothing_opened, primary_opened}
use Rattle.hal_parse_expr.proofs.Loops.{loop_smaller, loop_step, loop_end}
use Rattle.hal_parse_expr.proofs.PartedLists.{expressions_read, subs_read}
use Rattle.hal_parse_expr.proofs.ShorteningExpressions.{comma_shortens, expression_shortens, signed_term_shortens, sub_shortens}
use Rattle.hal_parse_expr.proofs.ShorteningJoints.{operand_shortens}
use Rattle.hal_parse_expr.proofs.ShorteningPrimaries.{primary_shortens}
use Rattle.hal_parse_expr.proofs.Steps.{row_read}
use Rattle.hal_parse_expr.proofs.+expressions.Goals as goal

pub levels::expression-returns : goal.levels::expression-returns
unfolding seen_as seen_list expression_of more_of make_of
levels::expression-returns t c = row_read Or (both_of (primary_at c.args.depth)) (behind reserved.Or (both_of (primary_at c.args.depth))) (rw c.in-Some.is at c.in_ok-first.ensures) c.in_ok-others.ensures c.in_ok-whole.ensures

pub levels::conjunction-returns : goal.levels::conjunction-returns
unfolding seen_as seen_list both_of more_of make_of
levels::conjunction-returns t c = row_read And (comparison_of (primary_at c.args.depth)) (behind reserved.And (comparison_of (primary_at c.args.depth))) (rw c.in-Some.is at c.in_ok-first.ensures) c.in_ok-others.ensures c.in_ok-whole.ensures

pub levels::chain-returns : goal.levels::chain-returns
unfolding seen_as seen_list cat_of more_of make_of
levels::chain-returns t c = row_read Cat (sum_of (primary_at c.args.depth)) (behind reserved.Cat (sum_of (primary_at c.args.depth))) (rw c.in-Some.is at c.in_ok-first.ensures) c.in_ok-others.ensures c.in_ok-whole.ensures

pub levels::term-returns : goal.levels::term-returns
unfolding seen_as seen_list term_of more_of make_of
levels::term-returns t c = row_read Product (factor_of (primary_at c.args.depth)) (further_factor (primary_at c.args.depth)) (rw c.in-Some.is at c.in_ok-first.ensures) c.in_ok-others.ensures c.in_ok-whole.ensures

pub levels::further-others-smaller : goal.levels::further-others-smaller
unfolding seen_as
levels::further-others-smaller t c = loop_smaller (more_of c.args.joint (primary_at c.args.depth)) (operand_shortens c.args.joint c.args.depth) (rw c.in-Some.is at c.in_ok-next.ensures)

pub levels::further-others-preserved : goal.levels::further-others-preserved
unfolding seen_as
levels::further-others-preserved t c =
    rw c.in_ok-push.ensures.items (loop_step seen_expression (more_of c.args.joint (primary_at c.args.depth)) (operand_shortens c.args.joint c.args.depth) c.others.others.items c.in-Some.next (rw c.in-Some.is at c.in_ok-next.ensures) c.others.invariant)

pub levels::further-returns : goal.levels::further-returns
unfolding seen_as seen_list
levels::further-returns t c = loop_end seen_expression (more_of c.args.joint (primary_at c.args.depth)) c.others.others.items (rw c.in_default.is at c.in_ok-next.ensures) c.others.invariant

pub sums::terms-terms-smaller : goal.sums::terms-terms-smaller
unfolding seen_as
sums::terms-terms-smaller t c = loop_smaller (signed_term (primary_at c.args.depth)) (signed_term_shortens (primary_at c.args.depth) (primary_shortens c.args.depth)) (rw c.in-Some.is at c.in_ok-next.ensures)

pub sums::terms-terms-preserved : goal.sums::terms-terms-preserved
unfolding seen_as
sums::terms-terms-preserved t c =
    rw c.in_ok-push.ensures.items (loop_step seen_signed (signed_term (primary_at c.args.depth)) (signed_term_shortens (primary_at c.args.depth) (primary_shortens c.args.depth)) c.terms.terms.items c.in-Some.next (rw c.in-Some.is at c.in_ok-next.ensures) c.terms.invariant)

pub sums::terms-returns : goal.sums::terms-returns
unfolding seen_as seen_list
sums::terms-returns t c = loop_end seen_signed (signed_term (primary_at c.args.depth)) c.terms.terms.items (rw c.in_default.is at c.in_ok-next.ensures) c.terms.invariant

pub lists::expressions-list-smaller : goal.lists::expressions-list-smaller
unfolding seen_as
lists::expressions-list-smaller t c = loop_smaller (after_comma (expression_of (primary_at c.args.depth))) (comma_shortens (expression_of (primary_at c.args.depth)) (expression_shortens (primary_at c.args.depth) (primary_shortens c.args.depth))) (rw c.in-Some-2.is at c.in_ok-next.ensures)

pub lists::expressions-list-preserved : goal.lists::expressions-list-preserved
unfolding seen_as
lists::expressions-list-preserved t c =
    rw c.in_ok-push-2.ensures.items (loop_step seen_expression (after_comma (expression_of (primary_at c.args.depth))) (comma_shortens (expression_of (primary_at c.args.depth)) (expression_shortens (primary_at c.args.depth) (primary_shortens c.args.depth))) c.list.list.items c.in-Some-2.next (rw c.in-Some-2.is at c.in_ok-next.ensures) c.list.invariant)

pub lists::expressions-returns : goal.lists::expressions-returns
unfolding seen_as seen_as_list
lists::expressions-returns t c = expressions_read (primary_at c.args.depth) c.args.words.now (rw c.in-Some.is at c.in_ok-first.ensures)
    (loop_end seen_expression (after_comma (expression_of (primary_at c.args.depth))) c.list.list.items (rw c.in_default-2.is at c.in_ok-next.ensures) (rw c.new-list.ensures.items at (rw c.in_ok-push.ensures.items at c.list.invariant)))

pub subscripts::subs-list-smaller : goal.subscripts::subs-list-smaller
unfolding seen_as
subscripts::subs-list-smaller t c = loop_smaller (after_comma (sub_of (primary_at c.args.depth))) (comma_shortens (sub_of (primary_at c.args.depth)) (sub_shortens (primary_at c.args.depth) (primary_shortens c.args.depth))) (rw c.in-Some-2.is at c.in_ok-next.ensures)

pub subscripts::subs-list-preserved : goal.subscripts::subs-list-preserved
unfolding seen_as
subscripts::subs-list-preserved t c =
    rw c.in_ok-push-2.ensures.items (loop_step seen_sub (after_comma (sub_of (primary_at c.args.depth))) (comma_shortens (sub_of (primary_at c.args.depth)) (sub_shortens (primary_at c.args.depth) (primary_shortens c.args.depth))) c.list.list.items c.in-Some-2.next (rw c.in-Some-2.is at c.in_ok-next.ensures) c.list.invariant)

pub subscripts::subs-returns : goal.subscripts::subs-returns
unfolding seen_as seen_as_list
subscripts::subs-returns t c = subs_read (primary_at c.args.depth) c.args.words.now (rw c.in-Some.is at c.in_ok-first.ensures)
    (loop_end seen_sub (after_comma (sub_of (primary_at c.args.depth))) c.list.list.items (rw c.in_default-2.is at c.in_ok-next.ensures) (rw c.new-list.ensures.items at (rw c.in_ok-push.ensures.items at c.list.invariant)))

pub primaries::primary-returns-in_default : goal.primaries::primary-returns-in_default
unfolding seen_as
primaries::primary-returns-in_default t c = sym (no_words c.args.depth c.args.words.now c.in_default.ensures.cases)

pub primaries::primary-returns-in_default-opened_by : goal.primaries::primary-returns-in_default-opened_by
unfolding seen_as
primaries::primary-returns-in_default-opened_by t c = nothing_opened c.args.depth c.in-Some.ensures.cases.0 c.in_default-opened_by.ensures

pub primaries::primary-returns : goal.primaries::primary-returns
primaries::primary-returns t c =
    subst (λ z. IfOk c.opened.result (λ found. seen_as seen_expression found ≡ z)) (primary_opened c.args.depth c.in-Some.ensures.cases.0 c.in-Some-opened_by.ensures) c.opened.ensures
