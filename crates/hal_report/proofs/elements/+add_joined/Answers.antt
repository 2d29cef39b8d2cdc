use Rattle.std.proofs.Common.{◌∙◌, rules}
use Rattle.hal_report.proofs.Joined.{joined_parts}
use Rattle.hal_report.proofs.elements.+add_joined.Goals as goal

pub returns : goal.returns
returns t c =
    joined_parts c.args.text.now.items c.extend_from_slice-2.new.self.items _ c.as_bytes-2.result.now c.args.numbers.now c.in-Some.others.now c.in-Some.number.now c.in-Some.ensures.cases.0
    (search rules) (c.as_bytes-2.ensures.value ∙ c.in_ok-digits-2.ensures.ok) c.in_ok-extend_from_slice-2.ensures.items c.in_ok-add_joined.ensures
