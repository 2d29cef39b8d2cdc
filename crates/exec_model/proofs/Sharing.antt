-- The bits of lock groups.
use Rattle.std.proofs.Common.{◌≡◌, ℕ, ◌^◌, ◌*◌, ◌<◌, ◌≤◌, ap, ◌∙◌, arith}
use Rattle.std.specs.Prelude.{bit_and}
use Rattle.std.proofs.lemmas.Nat.Bits.{and_pow, bit_at_above}

-- the groups of an UPDATE block have no bit from 16 on
pub unshared : (groups group : ℕ) → groups < 2 ^ 16 → 16 ≤ group → bit_and groups (2 ^ group) ≡ 0
unshared groups group few high = and_pow groups group ∙ ap (λ b. b * 2 ^ group) (bit_at_above groups 16 group few high) ∙ omega arith
