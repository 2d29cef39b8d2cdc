-- Values that a cell doesn't take.
use Rattle.std.proofs.Common.{rules, ◌≡◌, ◌∙◌, ◌^◌, ◌%◌, ◌<◌, ◌≤◌, ℕ, nat_lt, true, refl, ap, ap₂, arith}
use Rattle.std.proofs.Math.Nat.{mod-eq_of_lt}
use Rattle.std.proofs.Math.Pow.{pow_mono}
use Rattle.std.proofs.lemmas.Nat.{mod_below}
use Rattle.hal_values.specs.declared.value.Kind.TheVariants as kind
use Rattle.hal_values.specs.declared.value.Value.{Value}
use Rattle.hal_values.specs.declared.value.Value.TheVariants as value
use Rattle.hal_operations.specs.Strings.{bits_of, string, fitted_string}
use Rattle.hal_operations.proofs.BitLists.{number-bits_of, length-fitted, number-fitted}
use Rattle.hal_states.specs.OfKinds.{nothing, is_of, of_kind}
use Rattle.hal_meaning.specs.InitialValues.{held}

bounded : (word len : ℕ) → word < 2 ^ 32 → 32 ≤ len → word < 2 ^ len
bounded word len below long =
    let grows : 2 ^ 32 ≤ 2 ^ len = pow_mono long in
    omega (arith, below, grows)

pub is_bounded : (word len : ℕ) → word < 2 ^ 32 → 32 ≤ len → nat_lt word (2 ^ len) ≡ true
is_bounded word len below long = search (rules, bounded word len below long)

-- a word that is shorter
pub whole : (word len : ℕ) → word < 2 ^ 32 → 32 ≤ len → word % 2 ^ len ≡ word
whole word len below long = mod-eq_of_lt (bounded word len below long)

fitted : (n len word : ℕ) → string (fitted_string n (bits_of len word)) ≡ value.Bits n (word % 2 ^ len % 2 ^ n)
fitted n len word = ap₂ value.Bits (length-fitted n (bits_of len word)) (number-fitted n (bits_of len word) ∙ ap (λ w. w % 2 ^ n) (number-bits_of len word))

is_fitted : (n w : ℕ) → is_of (kind.Bits n) (value.Bits n (w % 2 ^ n)) ≡ true
unfolding is_of
is_fitted n w = search (rules, mod_below w n)

of_fitted : (n : ℕ) (v : Value) → is_of (kind.Bits n) v ≡ true → of_kind (kind.Bits n) v ≡ v
of_fitted n v is = search (rules, is)

pub bits_cut : (n len word : ℕ) → held (kind.Bits n) (value.Bits len word) ≡ value.Bits n (word % 2 ^ len % 2 ^ n)
bits_cut n len word =
    ap (of_kind (kind.Bits n)) (fitted n len word)
    ∙ of_fitted n (value.Bits n (word % 2 ^ len % 2 ^ n)) (is_fitted n (word % 2 ^ len))

-- a text without room
pub no_room : (v : Value) → held (kind.Text 0) v ≡ nothing (kind.Text 0)
unfolding is_of
no_room (value.Int a) = refl
no_room (value.Bits len word) = refl
no_room (value.Text text) = refl
