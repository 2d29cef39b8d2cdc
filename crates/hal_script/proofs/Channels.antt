-- Numbers of channels that are read up to a cap.
use Rattle.std.proofs.Common.{◌≡◌, ℕ, min, nat_le, nat_lt, Bool, true, false, cond, Some, ap, sym, ◌∙◌, refl, arith}
use Rattle.std.proofs.lemmas.Bool.Decides.{nat_tests}
use Rattle.hal_base.specs.declared.limits.TheConstants.{CHANNEL_COUNT}
use Rattle.exec_model.specs.declared.script.ScriptLine.TheVariants.{Input}
use Rattle.hal_script.specs.declared.given.Given.{Given}
use Rattle.hal_script.specs.declared.given.Given.TheVariants.{Data, Malformed, Open}
use Rattle.hal_script.specs.declared.number.TheConstants.{NUMBER_CAP}
use Rattle.hal_script.specs.declared.reading.Reading.TheVariants.{Good, Faults}
use Rattle.hal_script.specs.Readings.{given_to}

-- no channel has either number
given_to-none : (a b : ℕ) (gift : Given) → nat_lt a CHANNEL_COUNT ≡ false → nat_lt b CHANNEL_COUNT ≡ false → given_to a gift ≡ given_to b gift
given_to-none a b Malformed x y = refl
given_to-none a b Open x y = ap (λ t. cond t (Faults 5) (Faults 3)) (x ∙ sym y)
given_to-none a b (Data data_) x y =
    ap (λ t. cond t (Good (Some (Input a data_))) (Faults 3)) x ∙ sym (ap (λ t. cond t (Good (Some (Input b data_))) (Faults 3)) y)

pub given_to_capped : (number : ℕ) (gift : Given) → given_to (min number NUMBER_CAP) gift ≡ given_to number gift
given_to_capped number gift = by (nat_le number NUMBER_CAP) refl where
  by : (b : Bool) → nat_le number NUMBER_CAP ≡ b → given_to (min number NUMBER_CAP) gift ≡ given_to number gift
  by true few = ap (λ k. given_to k gift) (grind (arith, nat_tests))
  by false many = given_to-none (min number NUMBER_CAP) number gift (grind (arith, nat_tests)) (grind (arith, nat_tests))
