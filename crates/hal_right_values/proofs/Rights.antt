-- The values that instructions make of right ones are right.
use Rattle.std.specs.Prelude.{ℕ, ◌≤◌, ◌≡◌, Bool, true, false, length, [], ℤ, pos, ◌+ℤ◌, int_lt, Option, unwrap_or, Result, Ok, Err, IfOk, if◌then◌else◌}
use Rattle.std.proofs.Common.{refl, arith}
use Rattle.std.proofs.lemmas.Int.{ints}
use Rattle.hal_values.specs.declared.environment.ErrNo.{ErrNo}
use Rattle.hal_values.specs.declared.tables.Cell.{Cell}
use Rattle.hal_values.specs.declared.value.Kind.{Kind}
use Rattle.hal_values.specs.declared.value.Kind.TheVariants as kind
use Rattle.hal_values.specs.declared.value.Value.{Value}
use Rattle.hal_values.specs.declared.value.Value.TheVariants as value
use Rattle.hal_values.specs.Answers.{Answered}
use Rattle.hal_values.specs.Answers as answered
use Rattle.hal_values.specs.Kinds.{IsKind, IsOfKind}
use Rattle.hal_operations.specs.declared.part.Part.{Part}
use Rattle.hal_operations.specs.Integers.{single, nearest}
use Rattle.hal_operations.specs.Laws.{part_size}
use Rattle.hal_operations.specs.Parts.{picked, mended_pick, patched, mended_patch, place_count}
use Rattle.hal_operations.specs.Stores.{stored, nearest_single, mended_store}
use Rattle.hal_states.specs.Modes.{seen_cell, has_bit}
use Rattle.hal_states.specs.Numbers.{integer_of, is_past}
use Rattle.hal_states.specs.OfKinds.{nothing, of_kind, told}
use Rattle.hal_states.proofs.OfKind.{nothing_is, of_kind_is}
use Rattle.hal_sound_values.specs.Right.{IsRight, IsAlso}
use Rattle.hal_sound_values.proofs.KindsKept.{stored_is, picked_is, mended_pick_also, patched_is, mended_patch_is, right_is, kind_is}
use Rattle.hal_sound_values.proofs.Near.{near_single, nearest_is}
use Rattle.hal_sound_values.proofs.RightResults.{after_right}

-- values that are made to be of a kind
pub nothing_right : (k : Kind) → IsKind k → IsRight (nothing k)
nothing_right k is = right_is k (nothing k) is (nothing_is k)

pub made_right : (k : Kind) (v : Value) → IsKind k → IsRight (of_kind k v)
made_right k v is = right_is k (of_kind k v) is (of_kind_is k v)

pub told_right : (k : Kind) (a : Answered) → IsKind k → IsRight (told k a)
told_right k (answered.Told v) is = made_right k v is
told_right k answered.Begun is = nothing_right k is
told_right k answered.Done is = nothing_right k is
told_right k (answered.Wrong e) is = nothing_right k is
told_right k (answered.Block snapshot turns) is = nothing_right k is
told_right k answered.Killed is = nothing_right k is

pub seen_right : (groups : ℕ) (cell : Cell) (v : Option Value) → IsKind cell.kind → IsRight (seen_cell groups cell v)
seen_right groups cell v is = of_bit (has_bit groups cell.group)
  where
    of_bit : (b : Bool) → IsRight (if b then of_kind cell.kind (unwrap_or v (nothing cell.kind)) else nothing cell.kind)
    of_bit true = made_right cell.kind (unwrap_or v (nothing cell.kind)) is
    of_bit false = nothing_right cell.kind is

-- a value of a kind that a declaration can have
ok_right : (k : Kind) → IsKind k → (r : Result Value ErrNo) → IfOk r (IsOfKind k) → IfOk r IsRight
ok_right k is (Ok v) of_it = right_is k v is of_it
ok_right k is (Err e) of_it = tt

-- what is stored
pub stored_right : (k : Kind) (v : Value) → IsKind k → IsRight v → IfOk (stored k v) IsRight
stored_right kind.Single (value.Int a) is h = ok_right kind.Single is (stored kind.Single (value.Int a)) (stored_is kind.Single (value.Int a) h tt)
stored_right kind.Double (value.Int a) is h = h
stored_right (kind.Bits n) (value.Int a) is h = h
stored_right (kind.Text n) (value.Int a) is h = ok_right (kind.Text n) is (stored (kind.Text n) (value.Int a)) (stored_is (kind.Text n) (value.Int a) h is)
stored_right kind.Single (value.Bits len word) is h = h
stored_right kind.Double (value.Bits len word) is h = h
stored_right (kind.Bits n) (value.Bits len word) is h = ok_right (kind.Bits n) is (stored (kind.Bits n) (value.Bits len word)) (stored_is (kind.Bits n) (value.Bits len word) h (is.0, is.1, h))
stored_right (kind.Text n) (value.Bits len word) is h = h
stored_right kind.Single (value.Text text) is h = h
stored_right kind.Double (value.Text text) is h = h
stored_right (kind.Bits n) (value.Text text) is h = h
stored_right (kind.Text n) (value.Text text) is h = ok_right (kind.Text n) is (stored (kind.Text n) (value.Text text)) (stored_is (kind.Text n) (value.Text text) h is)

nearest_right : (v : Value) → IsRight v → IsRight (nearest_single v)
nearest_right (value.Int a) h = right_is kind.Single (value.Int (nearest single a)) tt (near_single (nearest single a) (nearest_is single a))
nearest_right (value.Bits len word) h = h
nearest_right (value.Text text) h = h

pub mended_store_right : (k : Kind) (v : Value) → IsKind k → IsRight v → IsRight (mended_store k v)
mended_store_right k v is h = after_right IsRight (stored k v) (nearest_single v) (stored_right k v is h) (nearest_right v h)

-- a part
also_right : (v : Value) (p : Part) (r : Result Value ErrNo) → IfOk r (λ w. IsAlso v w × (place_count w ≡ part_size p)) → IfOk r IsRight
also_right v p (Ok w) is = is.0.right
also_right v p (Err e) is = tt

pub picked_right : (v : Value) (p : Part) → IsRight v → IfOk (picked v p) IsRight
picked_right (value.Int a) p h = h
picked_right (value.Bits len word) p h = also_right (value.Bits len word) p (picked (value.Bits len word) p) (picked_is (value.Bits len word) p h)
picked_right (value.Text text) p h = also_right (value.Text text) p (picked (value.Text text) p) (picked_is (value.Text text) p h)

pub mended_pick_right : (v : Value) (p : Part) → IsRight v → IsRight (mended_pick v p)
mended_pick_right v p h = (mended_pick_also v p h).right

-- a value whose part is replaced
pub patched_right : (old new : Value) (p : Part) → IsRight old → IfOk (patched old p new) IsRight
patched_right old new p h = ok_right (kind_is old h).0 (kind_is old h).1 (patched old p new) (patched_is (kind_is old h).0 old new p (kind_is old h).2)

pub mended_patch_right : (old new : Value) (p : Part) → IsRight old → IsRight (mended_patch old p new)
mended_patch_right old new p h =
    right_is (kind_is old h).0 (mended_patch old p new) (kind_is old h).1 (mended_patch_is (kind_is old h).0 old new p (kind_is old h).1 (kind_is old h).2)

-- small numbers
pub small_right : (n : ℕ) → n ≤ 255 → IsRight (value.Int (pos n))
small_right n low = (omega (arith, ints), omega (arith, ints, low))

pub count_right : (v : Value) → IsRight v → IsRight (value.Int (pos (place_count v)))
count_right (value.Int a) h = small_right 0 (omega arith)
count_right (value.Bits len word) h = small_right len (omega (arith, h.1))
count_right (value.Text text) h = small_right (length text) h

pub zero_right : IsRight (value.Int (pos 0))
zero_right = small_right 0 (omega arith)

pub bit_right : (n : ℕ) → n ≤ 1 → IsRight (value.Bits 1 n)
bit_right n low = (omega arith, omega arith, omega (arith, low))

pub empty_right : IsRight (value.Text [])
empty_right = omega arith

pub integer_right : (v : Value) → IsRight v → IsRight (value.Int (integer_of v))
integer_right (value.Int a) h = h
integer_right (value.Bits len word) h = zero_right
integer_right (value.Text text) h = zero_right

-- the next value of a loop, where it isn't past the end
pub next_right : (step last before : ℤ) → IsRight (value.Int step) → IsRight (value.Int last) → IsRight (value.Int before) → is_past step last (before +ℤ step) ≡ false → IsRight (value.Int (before +ℤ step))
next_right step last before h g f e = by_sign (int_lt step (pos 0)) refl e
  where
    by_sign : (down : Bool) → int_lt step (pos 0) ≡ down → (if down then int_lt (before +ℤ step) last else int_lt last (before +ℤ step)) ≡ false → IsRight (value.Int (before +ℤ step))
    by_sign true sign within = (omega (arith, ints, g.0, within), omega (arith, ints, f.1, sign))
    by_sign false sign within = (omega (arith, ints, f.0, sign), omega (arith, ints, g.1, within))
