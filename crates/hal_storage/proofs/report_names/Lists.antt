-- Lists that are put together, and what stands at a place of them.
use Rattle.std.proofs.Common.{rules, ◌≡◌, ◌∙◌, ◌≤◌, ◌<◌, ◌+◌, ◌*◌, ℕ, zero, suc, Bool, true, false, not, cond, nat_lt, List, [], ◌∷◌, ◌++◌, Option, Some, None, length, take, flat_map, slice_get, position, sum_by, unwrap_or, if◌then◌else◌, refl, sym, ap, arith, length-append}
use Rattle.std.specs.List.{position_or_len}
use Rattle.std.specs.Option.{option_map}
use Rattle.std.proofs.lemmas.List.Sums.{sum_by-cons}

-- what stands behind so many others
pub at_length : {X : Type 0} (xs : List X) (y : X) (ys : List X) → slice_get (xs ++ (y ∷ ys)) (length xs) ≡ Some y
at_length [] y ys = refl
at_length (x ∷ xs) y ys = at_length xs y ys

-- those before it
pub before_length : {X : Type 0} (xs ys : List X) → take (length xs) (xs ++ ys) ≡ xs
before_length [] ys = refl
before_length (x ∷ xs) ys = ap (λ list. x ∷ list) (before_length xs ys)

pub length_of_more : {X Y : Type 0} (f : X → List Y) (xs : List X) (y : X) → length (flat_map f xs) + length (f y) ≡ length (flat_map f (xs ++ (y ∷ [])))
length_of_more f [] y = omega (arith, length-append (f y) [])
length_of_more f (x ∷ xs) y = omega (arith, length-append (f x) (flat_map f xs), length-append (f x) (flat_map f (xs ++ (y ∷ []))), length_of_more f xs y)

-- what one element gives is no more than what all give
pub part_of_all : {X Y : Type 0} (f : X → List Y) (xs : List X) (y : X) (ys : List X) → length (flat_map f xs) + length (f y) ≤ length (flat_map f (xs ++ (y ∷ ys)))
part_of_all f [] y ys = omega (arith, length-append (f y) (flat_map f ys))
part_of_all f (x ∷ xs) y ys = omega (arith, length-append (f x) (flat_map f xs), length-append (f x) (flat_map f (xs ++ (y ∷ ys))), part_of_all f xs y ys)

-- the place of the first that passes
first_by : Bool → Option ℕ → Option ℕ
first_by true rest = Some 0
first_by false rest = option_map suc rest

within : ℕ → ℕ → Option ℕ
within n len = cond (nat_lt n len) (Some n) None

further : (b : Bool) (n len : ℕ) → nat_lt n len ≡ b → within (suc n) (suc len) ≡ option_map suc (within n len)
unfolding within
further true n len is = search (rules, is)
further false n len is = search (rules, is)

one_more : (n : ℕ) → 1 + n ≡ suc n
one_more n = omega (arith)

by_test : (b : Bool) (n len : ℕ) → within (cond (not b) (1 + n) 0) (suc len) ≡ first_by b (within n len)
unfolding first_by within
by_test true n len = search rules
by_test false n len = ap (λ m. within m (suc len)) (one_more n) ∙ further (nat_lt n len) n len refl

place_of_more : {X : Type 0} (f : X → Bool) (x : X) (xs : List X) → position f (x ∷ xs) ≡ first_by (f x) (position f xs)
unfolding within first_by
place_of_more f x xs = by_test (f x) (position_or_len f xs) (length xs)

-- the same of a list with others behind it
unfoldable pub placed : ℕ → Option ℕ → Option ℕ → Option ℕ
placed before (Some n) other = Some n
placed before None other = option_map (λ n. before + n) other

one_placed : (b : Bool) (before : ℕ) (one other : Option ℕ) → first_by b (placed before one other) ≡ placed (suc before) (first_by b one) other
unfolding first_by placed
one_placed true before one other = refl
one_placed false before (Some n) other = refl
one_placed false before None (Some n) = ap Some (omega (arith))
one_placed false before None None = refl

none_placed : (other : Option ℕ) → other ≡ placed 0 None other
unfolding placed
none_placed None = refl
none_placed (Some n) = ap Some (omega (arith))

pub placed_behind : {X : Type 0} (f : X → Bool) (xs ys : List X) → position f (xs ++ ys) ≡ placed (length xs) (position f xs) (position f ys)
placed_behind f [] ys = none_placed (position f ys)
placed_behind f (x ∷ xs) ys =
    place_of_more f x (xs ++ ys) ∙ ap (first_by (f x)) (placed_behind f xs ys) ∙ one_placed (f x) (length xs) (position f xs) (position f ys) ∙ ap (λ o. placed (suc (length xs)) o (position f ys)) (sym (place_of_more f x xs))

-- the place lies in the list
below_by : (b : Bool) (n len i : ℕ) → nat_lt n len ≡ b → cond b (Some n) None ≡ Some i → i < len
below_by true n len i is found = search (rules, is, found)
below_by false n len i is found = search (rules, found)

pub below : {X : Type 0} (f : X → Bool) (xs : List X) (i : ℕ) → position f xs ≡ Some i → i < length xs
below f xs i found = below_by (nat_lt (position_or_len f xs) (length xs)) (position_or_len f xs) (length xs) i refl found

found_below : (o : Option ℕ) (len : ℕ) → ((i : ℕ) → o ≡ Some i → i < len) → unwrap_or o 0 ≤ len
found_below None len is = omega (arith)
found_below (Some i) len is = omega (arith, is i refl)

pub first_below : {X : Type 0} (f : X → Bool) (xs : List X) → unwrap_or (position f xs) 0 ≤ length xs
first_below f xs = found_below (position f xs) (length xs) (below f xs)

-- lists of which each stands in one of two ways at most
either : (a b r : Bool) (n f : ℕ) → (a ≡ true → b ≡ false) → 1 ≤ n → (if a then f else 0) + (if b then f else 0) ≤ (if r then n * f else f)
either a b r zero f apart some = absurd (omega (arith, some))
either true true r (suc n) f apart some = absurd (search (rules, apart refl))
either true false true (suc n) f apart some = omega (arith)
either true false false (suc n) f apart some = omega (arith)
either false true true (suc n) f apart some = omega (arith)
either false true false (suc n) f apart some = omega (arith)
either false false true (suc n) f apart some = omega (arith)
either false false false (suc n) f apart some = omega (arith)

length_if : {Y : Type 0} (b : Bool) (ys : List Y) → length (if b then ys else []) ≡ (if b then length ys else 0)
length_if true ys = refl
length_if false ys = refl

pub both_within : {X Y : Type 0} (f : X → List Y) (a b r : X → Bool) (n : ℕ) → ((x : X) → a x ≡ true → b x ≡ false) → 1 ≤ n → (xs : List X)
    → length (flat_map (λ x. if a x then f x else []) xs) + length (flat_map (λ x. if b x then f x else []) xs) ≤ sum_by (λ x. if r x then n * length (f x) else length (f x)) xs
both_within f a b r n apart some [] = omega (arith)
both_within f a b r n apart some (x ∷ xs) =
    omega (
      arith,
      length-append (if a x then f x else []) (flat_map (λ y. if a y then f y else []) xs),
      length-append (if b x then f x else []) (flat_map (λ y. if b y then f y else []) xs),
      length_if (a x) (f x),
      length_if (b x) (f x),
      either (a x) (b x) (r x) n (length (f x)) (apart x) some,
      sum_by-cons (λ y. if r y then n * length (f y) else length (f y)) x xs,
      both_within f a b r n apart some xs,
    )

-- the length of lists that are put together
pub length_of_all : {X Y : Type 0} (f : X → List Y) (xs : List X) → length (flat_map f xs) ≡ sum_by (λ x. length (f x)) xs
length_of_all f [] = refl
length_of_all f (x ∷ xs) = omega (arith, length-append (f x) (flat_map f xs), length_of_all f xs, sum_by-cons (λ y. length (f y)) x xs)
