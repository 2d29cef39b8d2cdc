use Rattle.std.proofs.Common.{ℕ, sym, ap, ◌∙◌, ◌%◌, ◌==◌, lt_of_lt_of_le, pow_mono}
use Rattle.std.proofs.lemmas.Bool.{le-ltb}
use Rattle.std.proofs.Math.Nat.{div-eq_of_lt}
use Rattle.hal_machine.proofs.values.has_bit.Goals as goal

pub returns-else-group-lt16 : goal.returns-else-group-lt16
returns-else-group-lt16 c = le-ltb c.args.group 16 c.if-group-lt16.false ∙ sym (ap (λ (n : ℕ). (n % 2) == 1) (div-eq_of_lt (lt_of_lt_of_le c.ranges.groups.fits (pow_mono c.if-group-lt16.false))))
