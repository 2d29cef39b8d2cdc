use Rattle.std.proofs.Common.{◌∙◌, ap, w32}
use Rattle.std.proofs.lemmas.Int.{to_z-of_z}
use Rattle.hal_operations.specs.Integers.{double, ranged}
use Rattle.hal_operations.proofs.Division.{remains, remainder-some}
use Rattle.hal_operations.proofs.integers.remainder.Goals as goal

-- src/integers.rt:72:1
pub returns : goal.returns
returns c =
    let a = c.args.a in let b = c.args.b in
    let same = remains a b c.from.result c.from-2.result c.ranges.a c.ranges.b (c.from.ensures ∙ to_z-of_z w32 a c.ranges.a) (c.from-2.ensures ∙ to_z-of_z w32 b c.ranges.b) in
    c.ranged.ensures ∙ (ap (ranged double) same ∙ remainder-some a b c.ranges.b c.if-b-eq0.false)
