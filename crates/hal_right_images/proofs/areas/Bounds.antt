-- What TO and AT reach where their bounds are inside: so many places, behind those that lie before the first one.
use Rattle.std.specs.Prelude.{◌≡◌, ◌≤◌, ◌<◌, ◌+◌, ◌-◌, ◌&&◌, ℕ, suc, nat_le, ℤ, pos, Bool, true, false, Option, Some, None, unwrap_or, if◌then◌else◌}
use Rattle.std.proofs.Common.{refl, ap, subst, arith}
use Rattle.std.proofs.lemmas.Bool.{leb-true}
use Rattle.std.proofs.lemmas.Int.{ints}
use Rattle.hal_operands.specs.declared.want.Want.TheVariants as want
use Rattle.hal_values.specs.declared.value.Value.TheVariants as value
use Rattle.hal_constants.specs.declared.constant.Constant.{Constant}
use Rattle.hal_constants.specs.declared.constant.Constant.TheVariants as constant
use Rattle.hal_constants.specs.Known.{size_of_integer}
use Rattle.hal_constants.specs.Results.{worse}
use Rattle.hal_shapes.specs.declared.reach.Reach.{Reach}
use Rattle.hal_shapes.specs.declared.reach.Reach.TheVariants as reach
use Rattle.hal_shapes.specs.Ranges.{is_outside}
use Rattle.hal_shapes.specs.Reaches.{between, between_places, between_values, reach_from, reach_to, starting, starting_places, starting_values, unreached}
use Rattle.hal_states.specs.Numbers.{before_nearest, is_inside}
use Rattle.hal_gen_expr.specs.Spans.{a_span, places_before_span}
use Rattle.hal_fit_names.proofs.Holding.{Holds}

-- a place is a number from 1 to the size
pub record IsPlaceOf (size : ℕ) (i : ℤ) (at : ℕ) : Type 0 where
  pub is : i ≡ pos at
  pub begins : 1 ≤ at
  pub low : at ≤ size

place_by : (size k at : ℕ) (b c : Bool) → nat_le 1 k ≡ b → nat_le k size ≡ c → (if b && c then Some k else None) ≡ Some at → IsPlaceOf size (pos k) at
place_by size k at true true begins low is =
    let same : k ≡ at = cc in
    record { is = ap pos same; begins = subst (λ n. 1 ≤ n) same (leb-true 1 k begins); low = subst (λ n. n ≤ size) same (leb-true k size low) }
place_by size k at true false begins low is = absurd (cc)
place_by size k at false c begins low is = absurd (cc)

place_is : (size : ℕ) (i : ℤ) (at : ℕ) → size_of_integer size i ≡ Some at → IsPlaceOf size i at
unfolding size_of_integer
place_is size (pos k) at is = place_by size k at (nat_le 1 k) (nat_le k size) refl refl is
place_is size other at is = absurd (cc)

-- so many places, of which this is the first one
pub record IsRange (size : ℕ) (r : Reach) (first : ℤ) : Type 0 where
  pub left : ℕ
  pub reach : r ≡ reach.Many left
  pub some : 0 < left
  pub at : ℕ
  pub is : first ≡ pos at
  pub begins : 1 ≤ at
  pub ends : at + left ≤ suc size

between_by : (size : ℕ) (i : ℤ) (a b : ℕ) (c d : Bool) → IsPlaceOf size i a → b ≤ size → nat_le 1 a ≡ c → nat_le a b ≡ d → is_outside (if c && d then reach.Many (suc b - a) else reach.Outside) ≡ false
    → IsRange size (if c && d then reach.Many (suc b - a) else reach.Outside) i
unfolding is_outside
between_by size i a b true true place low first second inside =
    let order = leb-true a b second in
    let begins = place.begins in
    record { left = suc b - a; reach = refl; some = omega (arith, order); at = a; is = place.is; begins = begins; ends = omega (arith, order, low) }
between_by size i a b true false place low first second inside = absurd (cc)
between_by size i a b false d place low first second inside = absurd (cc)

-- from one place to another
pub between_range : (size : ℕ) (i j : ℤ) → is_outside (between size i j) ≡ false → IsRange size (between size i j) i
unfolding between_places is_outside
between_range size i j inside = by (size_of_integer size i) (size_of_integer size j) refl refl inside where
  by : (o q : Option ℕ) → size_of_integer size i ≡ o → size_of_integer size j ≡ q → is_outside (between_places o q) ≡ false → IsRange size (between_places o q) i
  by (Some a) (Some b) first second inside_ = between_by size i a b (nat_le 1 a) (nat_le a b) (place_is size i a first) (place_is size j b second).low refl refl inside_
  by (Some a) None first second inside_ = absurd (cc)
  by None (Some b) first second inside_ = absurd (cc)
  by None None first second inside_ = absurd (cc)

starting_by : (size : ℕ) (i : ℤ) (n a : ℕ) (c : Bool) → 1 ≤ n → IsPlaceOf size i a → nat_le (n + a) (suc size) ≡ c → is_outside (if c then reach.Many n else reach.Outside) ≡ false
    → IsRange size (if c then reach.Many n else reach.Outside) i
unfolding is_outside
starting_by size i n a true some place ends inside =
    let low = leb-true (n + a) (suc size) ends in
    record { left = n; reach = refl; some = omega (arith, some); at = a; is = place.is; begins = place.begins; ends = omega (arith, low) }
starting_by size i n a false some place ends inside = absurd (cc)

-- so many places from one on
pub starting_range : (size : ℕ) (m i : ℤ) → is_outside (starting size m i) ≡ false → IsRange size (starting size m i) i
unfolding starting_places is_outside
starting_range size m i inside = by (size_of_integer size m) (size_of_integer size i) refl refl inside where
  by : (o q : Option ℕ) → size_of_integer size m ≡ o → size_of_integer size i ≡ q → is_outside (starting_places size o q) ≡ false → IsRange size (starting_places size o q) i
  by (Some n) (Some a) first second inside_ = starting_by size i n a (nat_le (n + a) (suc size)) (place_is size m n first).begins (place_is size i a second) refl inside_
  by (Some n) None first second inside_ = absurd (cc)
  by None (Some a) first second inside_ = absurd (cc)
  by None None first second inside_ = absurd (cc)

-- fewer than so many places lie before a place
nearest_before : (size at : ℕ) → 1 ≤ at → before_nearest size (pos at) + 1 ≤ at
nearest_before size at begins = grind (arith, ints)

-- code skips no more places than lie before the first one
pub skips_low : (size left at : ℕ) (last : ℤ) → 1 ≤ at → at + left ≤ suc size → unwrap_or (places_before_span size (a_span (pos at) last)) 0 + left ≤ size
skips_low size left at last begins ends = by (is_inside size (pos at) && is_inside size last) where
  by : (b : Bool) → unwrap_or {T = ℕ} (if b then Some (before_nearest size (pos at)) else None) 0 + left ≤ size
  by true = let before = nearest_before size at begins in omega (arith, before, ends)
  by false = omega (arith, begins, ends)

-- two constants that are integers
pub record AreIntegers (c d : Constant) : Type 0 where
  pub first : ℤ
  pub second : ℤ
  pub is : c ≡ constant.Worth (value.Int first)
  pub also : d ≡ constant.Worth (value.Int second)

-- bounds from one place to another that are inside are integers
pub to_integers : (size : ℕ) (c d : Constant) → Holds want.Integer c → Holds want.Integer d → is_outside (reach_to size c d) ≡ false → AreIntegers c d
unfolding reach_to between_values unreached worse is_outside
to_integers size (constant.Worth (value.Int i)) (constant.Worth (value.Int j)) one two inside = record { first = i; second = j; is = refl; also = refl }
to_integers size (constant.Worth (value.Int i)) (constant.Worth (value.Bits len word)) one two inside = absurd (let other = two.1 in cc)
to_integers size (constant.Worth (value.Int i)) (constant.Worth (value.Text text)) one two inside = absurd (let other = two.1 in cc)
to_integers size (constant.Worth (value.Int i)) constant.Failed one two inside = absurd (cc)
to_integers size (constant.Worth (value.Int i)) constant.Open one two inside = absurd (cc)
to_integers size (constant.Worth (value.Int i)) constant.Unfit one two inside = absurd two
to_integers size constant.Failed (constant.Worth (value.Int j)) one two inside = absurd (cc)
to_integers size constant.Failed (constant.Worth (value.Bits len word)) one two inside = absurd (let other = two.1 in cc)
to_integers size constant.Failed (constant.Worth (value.Text text)) one two inside = absurd (let other = two.1 in cc)
to_integers size constant.Failed constant.Failed one two inside = absurd (cc)
to_integers size constant.Failed constant.Open one two inside = absurd (cc)
to_integers size constant.Failed constant.Unfit one two inside = absurd two
to_integers size constant.Open (constant.Worth (value.Int j)) one two inside = absurd (cc)
to_integers size constant.Open (constant.Worth (value.Bits len word)) one two inside = absurd (let other = two.1 in cc)
to_integers size constant.Open (constant.Worth (value.Text text)) one two inside = absurd (let other = two.1 in cc)
to_integers size constant.Open constant.Failed one two inside = absurd (cc)
to_integers size constant.Open constant.Open one two inside = absurd (cc)
to_integers size constant.Open constant.Unfit one two inside = absurd two
to_integers size (constant.Worth (value.Bits len word)) d one two inside = absurd (let other = one.1 in cc)
to_integers size (constant.Worth (value.Text text)) d one two inside = absurd (let other = one.1 in cc)
to_integers size constant.Unfit d one two inside = absurd one

-- the same of so many places from one on
pub from_integers : (size : ℕ) (c d : Constant) → Holds want.Integer c → Holds want.Integer d → is_outside (reach_from size c d) ≡ false → AreIntegers c d
unfolding reach_from starting_values unreached worse is_outside
from_integers size (constant.Worth (value.Int i)) (constant.Worth (value.Int j)) one two inside = record { first = i; second = j; is = refl; also = refl }
from_integers size (constant.Worth (value.Int i)) (constant.Worth (value.Bits len word)) one two inside = absurd (let other = two.1 in cc)
from_integers size (constant.Worth (value.Int i)) (constant.Worth (value.Text text)) one two inside = absurd (let other = two.1 in cc)
from_integers size (constant.Worth (value.Int i)) constant.Failed one two inside = absurd (cc)
from_integers size (constant.Worth (value.Int i)) constant.Open one two inside = absurd (cc)
from_integers size (constant.Worth (value.Int i)) constant.Unfit one two inside = absurd two
from_integers size constant.Failed (constant.Worth (value.Int j)) one two inside = absurd (cc)
from_integers size constant.Failed (constant.Worth (value.Bits len word)) one two inside = absurd (let other = two.1 in cc)
from_integers size constant.Failed (constant.Worth (value.Text text)) one two inside = absurd (let other = two.1 in cc)
from_integers size constant.Failed constant.Failed one two inside = absurd (cc)
from_integers size constant.Failed constant.Open one two inside = absurd (cc)
from_integers size constant.Failed constant.Unfit one two inside = absurd two
from_integers size constant.Open (constant.Worth (value.Int j)) one two inside = absurd (cc)
from_integers size constant.Open (constant.Worth (value.Bits len word)) one two inside = absurd (let other = two.1 in cc)
from_integers size constant.Open (constant.Worth (value.Text text)) one two inside = absurd (let other = two.1 in cc)
from_integers size constant.Open constant.Failed one two inside = absurd (cc)
from_integers size constant.Open constant.Open one two inside = absurd (cc)
from_integers size constant.Open constant.Unfit one two inside = absurd two
from_integers size (constant.Worth (value.Bits len word)) d one two inside = absurd (let other = one.1 in cc)
from_integers size (constant.Worth (value.Text text)) d one two inside = absurd (let other = one.1 in cc)
from_integers size constant.Unfit d one two inside = absurd one
