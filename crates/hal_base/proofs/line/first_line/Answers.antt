use Rattle.std.proofs.Common.{◌<◌, length, arith, sym, ◌∙◌}
use Rattle.std.proofs.lemmas.Bool.Decides.{nat_tests}
use Rattle.hal_base.proofs.FirstLine.{lines-none, lines-some}
use Rattle.hal_base.proofs.line.first_line.Goals as goal

pub returns-in-None-clause-first : goal.returns-in-None-clause-first
returns-in-None-clause-first c =
    let some : 0 < length c.args.text.now = grind (arith, nat_tests, c.if-is_empty.ensures) in
    lines-none c.args.text.now (sym c.newline_at.ensures ∙ c.in-None.is) some

pub returns-in-Some-clause-first : goal.returns-in-Some-clause-first
returns-in-Some-clause-first c =
    rw (c.without_return.ensures, c.split_at.ensures.front, c.split_at-in-Some.ensures.back)
    (lines-some c.args.text.now c.in-Some.end (sym c.newline_at.ensures ∙ c.in-Some.is))
