use Rattle.std.proofs.Common.{rules, ◌≡◌, map, sym}
use Rattle.hal_tree.specs.SeenExpressions.{seen_expression, seen_signed}
use Rattle.hal_tree.proofs.MadeExpressions.{made_sum}
use Rattle.hal_copies.proofs.expressions.+copying.Goals as goal

pub copy_expression-returns-in_ok-first-in-Sum : goal.copy_expression-returns-in_ok-first-in-Sum
copy_expression-returns-in_ok-first-in-Sum t c =
    let one : seen_expression c.in_ok-first-in-Sum.first.value ≡ seen_expression c.in-Sum.first.value = search rules in
    let more : map seen_signed c.in_ok-first-in-Sum.others.items ≡ map seen_signed c.in-Sum.others.items = search rules in
    rw (c.in-Sum.is, made_sum c.in-Sum.place c.in-Sum.opening c.in_ok-first-in-Sum.first c.in_ok-first-in-Sum.others, one, more) (sym (made_sum c.in-Sum.place c.in-Sum.opening c.in-Sum.first c.in-Sum.others))
