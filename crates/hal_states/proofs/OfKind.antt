-- Values are made to be of a kind.
use Rattle.std.specs.Prelude.{ℕ, ◌≡◌, ◌^◌, ◌==◌, length, ℤ, pos, negsuc, ◌≤ℤ◌, int_lt, Bool, true, false, not, ◌&&◌, if◌then◌else◌}
use Rattle.std.proofs.Common.{refl, arith}
use Rattle.std.specs.Bool.{passes}
use Rattle.std.specs.Int.Signed.{lt_z_no}
use Rattle.std.proofs.lemmas.Bool.{leb-true, ltb-true, eqb-true}
use Rattle.std.proofs.lemmas.Nat.{pow_pos}
use Rattle.hal_values.specs.declared.value.Kind.{Kind}
use Rattle.hal_values.specs.declared.value.Kind.TheVariants as kind
use Rattle.hal_values.specs.declared.value.Value.{Value}
use Rattle.hal_values.specs.declared.value.Value.TheVariants as value
use Rattle.hal_values.specs.Kinds.{IsOfKind}
use Rattle.hal_states.specs.OfKinds.{nothing, is_of, of_kind, lies_within}

both : (a b : Bool) → (a && b) ≡ true → (a ≡ true) × (b ≡ true)
both true b e = (refl, e)
both false b e = absurd (cc)

low_bound : (low a : ℤ) → not (int_lt a low) ≡ true → low ≤ℤ a
low_bound low a e = lt_z_no (passes (not (int_lt a low)) e)

high_bound : (high a : ℤ) → not (int_lt high a) ≡ true → a ≤ℤ high
high_bound high a e = lt_z_no (passes (not (int_lt high a)) e)

bounds : (low high a : ℤ) → lies_within low high a ≡ true → (low ≤ℤ a) × (a ≤ℤ high)
bounds low high a e = (low_bound low a (both _ _ e).0, high_bound high a (both _ _ e).1)

same_length : (m n : ℕ) → (m == n) ≡ true → m ≡ n
same_length m n e = eqb-true m n e

pub kind_of_is : (k : Kind) (v : Value) → is_of k v ≡ true → IsOfKind k v
unfolding is_of
kind_of_is kind.Single (value.Int a) e = bounds (negsuc 32767) (pos 32767) a e
kind_of_is kind.Single (value.Bits len word) e = absurd (cc)
kind_of_is kind.Single (value.Text text) e = absurd (cc)
kind_of_is kind.Double (value.Int a) e = bounds (negsuc 2147483647) (pos 2147483647) a e
kind_of_is kind.Double (value.Bits len word) e = absurd (cc)
kind_of_is kind.Double (value.Text text) e = absurd (cc)
kind_of_is (kind.Bits n) (value.Int a) e = absurd (cc)
kind_of_is (kind.Bits n) (value.Bits len word) e = (same_length len n (both _ _ e).0, ltb-true word (2 ^ n) (both _ _ e).1)
kind_of_is (kind.Bits n) (value.Text text) e = absurd (cc)
kind_of_is (kind.Text n) (value.Int a) e = absurd (cc)
kind_of_is (kind.Text n) (value.Bits len word) e = absurd (cc)
kind_of_is (kind.Text n) (value.Text text) e = leb-true (length text) n e

pub nothing_is : (k : Kind) → IsOfKind k (nothing k)
nothing_is kind.Single = (omega arith, omega arith)
nothing_is kind.Double = (omega arith, omega arith)
nothing_is (kind.Bits n) = (refl, pow_pos n)
nothing_is (kind.Text n) = omega arith

made_of : (k : Kind) (v : Value) (b : Bool) → is_of k v ≡ b → IsOfKind k (if b then v else nothing k)
made_of k v true e = kind_of_is k v e
made_of k v false e = nothing_is k

-- it is of the kind
pub of_kind_is : (k : Kind) (v : Value) → IsOfKind k (of_kind k v)
of_kind_is k v = made_of k v (is_of k v) refl
