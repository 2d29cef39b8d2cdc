use Rattle.std.proofs.Common.{◌∙◌, sym, subst, ap, pos, ◌*ℤ◌, ◌^◌, w32, w64, to_z, of_z, FitsSigned}
use Rattle.std.proofs.lemmas.Int.{to_z-of_z}
use Rattle.hal_operations.proofs.Scaling.{scaled_fits, scaled-is}
use Rattle.hal_operations.proofs.integers.scaled.Goals as goal

-- src/integers.rt:111:5
pub overflow_mul-result : goal.overflow_mul-result
overflow_mul-result c =
    let same = scaled-is c.args.a c.from.result c.pow.result c.args.places c.ranges.a c.requires (c.from.ensures ∙ to_z-of_z w32 c.args.a c.ranges.a) c.pow.ensures in
    subst (FitsSigned w64) (sym same) (scaled_fits c.args.a c.args.places c.ranges.a c.requires)

-- src/integers.rt:107:1
pub returns : goal.returns
returns c =
    let same = scaled-is c.args.a c.from.result c.pow.result c.args.places c.ranges.a c.requires (c.from.ensures ∙ to_z-of_z w32 c.args.a c.ranges.a) c.pow.ensures in
    ap (λ z. to_z w64 (of_z w64 z)) same ∙ to_z-of_z w64 (c.args.a *ℤ pos (2 ^ c.args.places)) (scaled_fits c.args.a c.args.places c.ranges.a c.requires)
