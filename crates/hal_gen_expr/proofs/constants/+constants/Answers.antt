use Rattle.std.proofs.Common.{rules, ◌≡◌, ◌∙◌, sym, ap, map}
use Rattle.std.specs.Option.{option_map}
use Rattle.hal_tree.specs.Rows.{terms}
use Rattle.hal_tree.specs.SeenExpressions.{seen_expression, seen_signed}
use Rattle.hal_tree.specs.SeenLeaves.{seen_sign}
use Rattle.hal_tree.proofs.MadeExpressions.{made_sum}
use Rattle.hal_gen_expr.specs.SeenSites.{seen_site}
use Rattle.hal_gen_expr.specs.Constants as constants
use Rattle.hal_gen_expr.proofs.constants.+constants.Goals as goal

pub value_of-returns-in-Sum : goal.value_of-returns-in-Sum
value_of-returns-in-Sum t c =
    let shape : constants.value_of (seen_site c.args.site.now) (seen_expression c.args.tree.now) ≡ constants.summed (seen_site c.args.site.now) (constants.signed (option_map seen_sign c.in-Sum.opening) (constants.value_of (seen_site c.args.site.now) (seen_expression c.in-Sum.first.value))) (terms (map seen_signed c.in-Sum.others.items)) =
    ap (λ tree. constants.value_of (seen_site c.args.site.now) (seen_expression tree)) c.in-Sum.is ∙ ap (λ tree. constants.value_of (seen_site c.args.site.now) tree) (made_sum c.in-Sum.place c.in-Sum.opening c.in-Sum.first c.in-Sum.others) in
    let inner : c.value_of.result ≡ constants.value_of (seen_site c.args.site.now) (seen_expression c.in-Sum.first.value) = search (rules, c.value_of.ensures, c.deref-in-Sum.ensures) in
    let begun : c.signed-first.result ≡ constants.signed (option_map seen_sign c.in-Sum.opening) (constants.value_of (seen_site c.args.site.now) (seen_expression c.in-Sum.first.value)) = search (rules, c.signed-first.ensures, inner) in
    let rest : c.summed.result ≡ constants.summed (seen_site c.args.site.now) c.signed-first.result (terms (map seen_signed c.in-Sum.others.items)) = search (rules, c.summed.ensures, c.deref-in-Sum-2.ensures) in
    rest ∙ (ap (λ o. constants.summed (seen_site c.args.site.now) o (terms (map seen_signed c.in-Sum.others.items))) begun ∙ sym shape)
