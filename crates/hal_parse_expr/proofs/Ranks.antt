-- How far above primaries the operands of a row stand.
use Rattle.std.proofs.Common.{ℕ}
use Rattle.hal_parse_expr.specs.declared.joint.Joint.{Joint}
use Rattle.hal_parse_expr.specs.declared.joint.Joint.TheVariants as joint

abbrev pub rank_of : Joint → ℕ
rank_of joint.Product = 11
rank_of joint.Cat = 19
rank_of joint.And = 25
rank_of joint.Or = 29
