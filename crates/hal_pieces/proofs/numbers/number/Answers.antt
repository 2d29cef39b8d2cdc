use Rattle.std.proofs.Common.{◌≡◌, ◌==◌, true, rules, ◌∙◌}
use Rattle.hal_words.specs.Numbers.{begins}
use Rattle.hal_pieces.proofs.Points.{decimal_is}
use Rattle.hal_pieces.proofs.numbers.number.Goals as goal

pub returns-in-46-clause-what : goal.returns-in-46-clause-what
returns-in-46-clause-what c =
    let after = c.digits.result.1.now in
    let pointed : begins (λ b. b == 46) after ≡ true = search rules in
    c.decimal.ensures ∙ decimal_is c.args.text.now c.digits.result.0.now after c.digits-in-46.result.0.now c.digits-in-46.result.1.now c.digits.ensures.rest pointed c.digits.ensures.digits c.digits-in-46.ensures.digits c.digits-in-46.ensures.count c.digits-in-46.ensures.rest
