use Rattle.std.proofs.Common.{ap}
use Rattle.hal_gen_expr.specs.declared.parameters.Parameter.{Parameter}
use Rattle.hal_gen_expr.proofs.calls.is_whole_parameter.Goals as goal

pub returns : goal.returns
returns c = ap (λ (p : Parameter). p.whole) c.in_ok-one.ensures
