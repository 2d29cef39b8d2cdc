-- Bits that become a condition.
use Rattle.std.specs.Prelude.{◌≡◌, ℕ, zero, suc, ◌<◌, ◌^◌, ◌==◌, nat_lt, Bool, true, false, not}
use Rattle.std.proofs.Common.{refl, sym, ap, ◌∙◌, arith, ne_eqb}
use Rattle.std.proofs.lemmas.Bool.{lt-ltb}
use Rattle.hal_values.specs.declared.value.Value.TheVariants as value
use Rattle.hal_operations.specs.Strings as strings
use Rattle.hal_operations.proofs.BitWords.{equal_strings}
use Rattle.hal_states.specs.Numbers.{holds, one_bit}
use Rattle.hal_meaning.specs.Expressions.{as_operand}

-- one bit
one_same : (b : Bool) → strings.one_bit b ≡ one_bit b
one_same true = refl
one_same false = refl

-- a word isn't zero where it is greater
above_zero : (word : ℕ) → not (word == 0) ≡ nat_lt 0 word
above_zero zero = refl
above_zero (suc n) = ap not (ne_eqb (suc n) 0 (λ same. omega (arith, same))) ∙ sym (lt-ltb 0 (suc n) (omega arith))

-- compared with a zero, they hold where they aren't all zeros
pub compared : (len word : ℕ) → word < 2 ^ len → as_operand true (value.Bits len word) ≡ one_bit (holds (value.Bits len word))
compared len word below =
    ap (λ b. strings.one_bit (not b)) (equal_strings len word 1 0 below (omega arith)) ∙ (ap (λ b. strings.one_bit b) (above_zero word) ∙ one_same (nat_lt 0 word))
