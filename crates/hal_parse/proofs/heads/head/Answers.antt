use Rattle.hal_parse_expr.specs.Seen.{seen_as}
use Rattle.hal_parse.proofs.CodeUnits.{nothing_headed}
use Rattle.hal_parse.proofs.heads.head.Goals as goal

pub returns-in_default-headed_by : goal.returns-in_default-headed_by
unfolding seen_as
returns-in_default-headed_by c = nothing_headed c.args.depth c.in-Some.ensures.cases.0 c.in_default-headed_by.ensures
