-- The slots of views: for each base the numbers of the views that begin there.
use Rattle.std.specs.Prelude.{◌≡◌, ℕ, suc, ◌+◌, ◌*◌, ◌-◌, ◌==◌, List, [], ◌∷◌, ◌++◌, length, replicate, Option, Some, None, slice_get, slice_set, unwrap_or, Vec, Bool, false, if◌then◌else◌}
use Rattle.std.specs.declared.alloc.Global.{Global}
use Rattle.hal_code.specs.declared.row.Base.{Base}
use Rattle.hal_code.specs.declared.row.Base.TheVariants as base
use Rattle.hal_code.specs.declared.row.View.{View}

-- the slot of views that begin there
abbrev pub slot_of : Base → ℕ
slot_of (base.Shared n) = n * 3
slot_of (base.Own n) = n * 3 + 1
slot_of (base.Through at n) = at * 3 + 2
slot_of (base.Other b n) = 0

-- the numbers of a slot
abbrev pub numbers_of : Vec ℕ Global → List ℕ
numbers_of v = v.items

abbrev pub numbers_at : List (List ℕ) → ℕ → List ℕ
numbers_at table s = unwrap_or (slice_get table s) []

-- tables that have the same numbers in each slot
abbrev pub AreSame : List (List ℕ) → List (List ℕ) → Type 0
AreSame one other = (s : ℕ) → numbers_at one s ≡ numbers_at other s

-- a number more in a slot
abbrev pub noted : List (List ℕ) → ℕ → ℕ → List (List ℕ)
noted table s n = slice_set table s (numbers_at table s ++ (n ∷ []))

-- the numbers of the views of a slot, from this number on
unfoldable pub numbers_from : ℕ → ℕ → List View → List ℕ
numbers_from s n [] = []
numbers_from s n (v ∷ views) = if slot_of v.base == s then n ∷ numbers_from s (n + 1) views else numbers_from s (n + 1) views

-- a table has those of each slot
abbrev pub IsIndexed : List View → List (List ℕ) → Type 0
IsIndexed views table = (s : ℕ) → numbers_at table s ≡ numbers_from s 0 views

-- a slot has a number more
abbrev pub AreNoted : ℕ → ℕ → List (List ℕ) → List (List ℕ) → Type 0
AreNoted s n one other = (k : ℕ) → numbers_at other k ≡ (if s == k then numbers_at one k ++ (n ∷ []) else numbers_at one k)

-- whether the view with this number passes a test, and the first of numbers whose view does
abbrev pub is_at : (View → Bool) → List View → ℕ → Bool
is_at test views n = elim (slice_get views n) [ None ↦ false | Some v ↦ test v ]

unfoldable pub first_at : (View → Bool) → List View → List ℕ → Option ℕ
first_at test views [] = None
first_at test views (n ∷ ns) = if is_at test views n then Some n else first_at test views ns
