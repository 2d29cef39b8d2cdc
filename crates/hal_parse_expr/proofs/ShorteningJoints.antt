-- Further operands shorten the words.
use Rattle.std.proofs.Common.{ℕ}
use Rattle.hal_words.specs.declared.reserved.Reserved.TheVariants as reserved
use Rattle.hal_parse_expr.specs.declared.joint.Joint.{Joint}
use Rattle.hal_parse_expr.specs.declared.joint.Joint.TheVariants as joint
use Rattle.hal_parse_expr.specs.ReadingExpressions.{both_of, comparison_of, primary_at, sum_of}
use Rattle.hal_parse_expr.specs.Joints.{more_of}
use Rattle.hal_parse_expr.proofs.Shortening.{Shortens}
use Rattle.hal_parse_expr.proofs.ShorteningExpressions.{behind_shortens, both_shortens, comparison_shortens, further_factor_shortens, sum_shortens}
use Rattle.hal_parse_expr.proofs.ShorteningPrimaries.{primary_shortens}

pub operand_shortens : (j : Joint) (n : ℕ) → Shortens (more_of j (primary_at n))
unfolding more_of
operand_shortens joint.Or n words = behind_shortens reserved.Or (both_of (primary_at n)) (both_shortens (primary_at n) (primary_shortens n)) words
operand_shortens joint.And n words = behind_shortens reserved.And (comparison_of (primary_at n)) (comparison_shortens (primary_at n) (primary_shortens n)) words
operand_shortens joint.Cat n words = behind_shortens reserved.Cat (sum_of (primary_at n)) (sum_shortens (primary_at n) (primary_shortens n)) words
operand_shortens joint.Product n words = further_factor_shortens (primary_at n) (primary_shortens n) words
