-- Where cells lie that views give.
use Rattle.std.specs.Prelude.{ℕ, zero, suc, ◌+◌, ◌*◌, ◌<◌, ◌≤◌, ◌≡◌, nat_le, Bool, true, false, ◌&&◌, List, [], ◌∷◌, ◌++◌, map, ℤ, Option, Some, None, slice_get}
use Rattle.std.specs.List.{list_all, flat_map, range_with_len}
use Rattle.std.specs.Option.{option_map}
use Rattle.std.proofs.Common.{refl, sym, ap, subst, ◌∙◌, arith}
use Rattle.std.proofs.lemmas.Int.{ints}
use Rattle.std.proofs.lemmas.Bool.{leb-true, eq-eqb, and_parts}
use Rattle.std.proofs.lemmas.List.Folds.{list_all-append, list_all-map}
use Rattle.std.proofs.lemmas.Option.{slice_get-map}
use Rattle.hal_values.specs.declared.value.Kind.{Kind}
use Rattle.hal_values.specs.declared.value.Kind.TheVariants as kind
use Rattle.hal_states.specs.Numbers.{before_nearest}
use Rattle.hal_states.specs.Spots.{Spot, Shared, Own, Nowhere, further}
use Rattle.hal_code.specs.declared.row.Dimension.{Dimension}
use Rattle.hal_code.specs.declared.row.OwnPlace.{OwnPlace}
use Rattle.hal_code.specs.Images.{places_of}
use Rattle.hal_code.specs.Addressing.{cells_before}
use Rattle.hal_code.specs.Cores.{Setting}
use Rattle.hal_code.specs.Memory.{lies_from, own_memory, kind_of_place, shared_memory, offsets}
use Rattle.hal_code.specs.Sorts.{same_kind}
use Rattle.hal_sound_code.specs.Lying.{LieAt}
use Rattle.hal_sound_code.proofs.Places.{First, first_lies}

pub both_true : (a b : Bool) → a ≡ true → b ≡ true → (a && b) ≡ true
both_true true true e f = refl
both_true true false e f = absurd (cc)
both_true false b e f = absurd (cc)

kind_is : (k : Kind) → same_kind k k ≡ true
kind_is kind.Single = refl
kind_is kind.Double = refl
kind_is (kind.Bits n) = eq-eqb n n refl
kind_is (kind.Text n) = eq-eqb n n refl

-- some kinds lie where the first one stands with the others behind it
lies_cons : (memory : List (Option Kind)) (number : ℕ) (k : Kind) (ks : List Kind) → slice_get memory number ≡ Some (Some k) → lies_from memory (suc number) ks ≡ true → lies_from memory number (k ∷ ks) ≡ true
lies_cons memory number k ks e others = at_first (slice_get memory number) e
  where
    at_first : (o : Option (Option Kind)) → o ≡ Some (Some k)
        → (elim o [ None ↦ false | Some there ↦ elim there [ None ↦ false | Some found ↦ same_kind found k && lies_from memory (suc number) ks ] ]) ≡ true
    at_first None is = absurd (cc)
    at_first (Some None) is = absurd (cc)
    at_first (Some (Some found)) is = both_true (same_kind found k) (lies_from memory (suc number) ks) (subst (λ one. same_kind one k ≡ true) (let same : k ≡ found = cc in same) (kind_is k)) others

-- what lies in memory lies in more of it
pub lies_more : (one more : List (Option Kind)) → ((n : ℕ) (k : Kind) → slice_get one n ≡ Some (Some k) → slice_get more n ≡ Some (Some k)) → (number : ℕ) (ks : List Kind) → lies_from one number ks ≡ true → lies_from more number ks ≡ true
lies_more one more each number [] e = refl
lies_more one more each number (k ∷ ks) e = with_first (lies_more one more each (suc number) ks) (first_lies one number k ks e)
  where
    with_first : (lies_from one (suc number) ks ≡ true → lies_from more (suc number) ks ≡ true) → First one number k ks → lies_from more number (k ∷ ks) ≡ true
    with_first later f = lies_cons more number k ks (each number k f.there) (later f.others)

kind_at : (o p : Option OwnPlace) (k : Kind) → ((one : OwnPlace) → o ≡ Some one → p ≡ Some one) → option_map kind_of_place o ≡ Some (Some k) → option_map kind_of_place p ≡ Some (Some k)
kind_at None p k each e = absurd (cc)
kind_at (Some one) p k each e = ap (option_map kind_of_place) (each one refl) ∙ e

-- the same of own places
pub lies_own : (some all : List OwnPlace) → ((n : ℕ) (one : OwnPlace) → slice_get some n ≡ Some one → slice_get all n ≡ Some one) → (number : ℕ) (ks : List Kind) → lies_from (own_memory some) number ks ≡ true → lies_from (own_memory all) number ks ≡ true
lies_own some all each number ks e =
    lies_more (own_memory some) (own_memory all) (λ n k is. slice_get-map kind_of_place all n ∙ kind_at (slice_get some n) (slice_get all n) k (each n) (sym (slice_get-map kind_of_place some n) ∙ is)) number ks e

-- a cell of some that lie in memory
abbrev wrapped : List Kind → List (Option Kind)
wrapped kinds = map (λ (k : Kind). Some k) kinds

lies_nth : (memory : List (Option Kind)) (number : ℕ) (kinds : List Kind) (m : ℕ) (k : Kind) → lies_from memory number kinds ≡ true → slice_get (wrapped kinds) m ≡ Some (Some k) → slice_get memory (number + m) ≡ Some (Some k)
lies_nth memory number [] m k e is = absurd (cc)
lies_nth memory number (l ∷ kinds) zero k e is =
    ap (slice_get memory) (let same : number + zero ≡ number = omega arith in same) ∙ (first_lies memory number l kinds e).there ∙ ap (λ one. Some (Some one)) (let same : l ≡ k = cc in same)
lies_nth memory number (l ∷ kinds) (suc m) k e is =
    ap (slice_get memory) (let same : number + suc m ≡ suc number + m = omega arith in same) ∙ lies_nth memory (suc number) kinds m k (first_lies memory number l kinds e).others is

-- some of the cells that lie in memory
lies_within : (memory : List (Option Kind)) (number : ℕ) (kinds : List Kind) (m : ℕ) (ks : List Kind) → lies_from memory number kinds ≡ true → lies_from (wrapped kinds) m ks ≡ true → lies_from memory (number + m) ks ≡ true
lies_within memory number kinds m [] e is = refl
lies_within memory number kinds m (k ∷ ks) e is = with_first (lies_within memory number kinds (suc m) ks e) (first_lies (wrapped kinds) m k ks is)
  where
    with_first : (lies_from (wrapped kinds) (suc m) ks ≡ true → lies_from memory (number + suc m) ks ≡ true) → First (wrapped kinds) m k ks → lies_from memory (number + m) (k ∷ ks) ≡ true
    with_first later f = lies_cons memory (number + m) k ks (lies_nth memory number kinds m k e f.there) (subst (λ n. lies_from memory n ks ≡ true) (let same : number + suc m ≡ suc (number + m) = omega arith in same) (later f.others))

-- the same at a spot
pub lie_within : (s : Setting) (at : Spot) (kinds : List Kind) (offset n : ℕ) (ks : List Kind) → LieAt s at kinds → lies_from (wrapped kinds) (offset + n) ks ≡ true → LieAt s (further n (further offset at)) ks
lie_within s (Shared number) kinds offset n ks lie e =
    subst (λ k. lies_from (shared_memory s.image) k ks ≡ true) (let same : number + (offset + n) ≡ (number + offset) + n = omega arith in same) (lies_within (shared_memory s.image) number kinds (offset + n) ks lie e)
lie_within s (Own number) kinds offset n ks lie e =
    subst (λ k. lies_from (own_memory (places_of s.image s.process)) k ks ≡ true) (let same : number + (offset + n) ≡ (number + offset) + n = omega arith in same) (lies_within (own_memory (places_of s.image s.process)) number kinds (offset + n) ks lie e)
lie_within s Nowhere kinds offset n ks lie e = tt

-- a place in a dimension is one of it
nearest_within : (size : ℕ) (place : ℤ) → 1 ≤ size → before_nearest size place < size
nearest_within size place some = grind (arith, ints)

append_parts : (test : ℕ → Bool) (xs ys : List ℕ) → list_all test (xs ++ ys) ≡ true → (list_all test xs ≡ true) × (list_all test ys ≡ true)
append_parts test xs ys e = and_parts (list_all test xs) (list_all test ys) (sym (list_all-append test xs ys) ∙ e)

-- what holds of all that a range gives
of_range : (test : ℕ → Bool) (each : ℕ → List ℕ) (a n : ℕ) → list_all test (flat_map each (range_with_len a n)) ≡ true → (j : ℕ) → j < n → list_all test (each (a + j)) ≡ true
of_range test each a zero e j less = absurd (omega (arith, less))
of_range test each a (suc n) e zero less = subst (λ k. list_all test (each k) ≡ true) (let same : a ≡ a + zero = omega arith in same) (append_parts test (each a) (flat_map each (range_with_len (a + 1) n)) e).0
of_range test each a (suc n) e (suc j) less =
    subst (λ k. list_all test (each k) ≡ true) (let same : (a + 1) + j ≡ a + suc j = omega arith in same) (of_range test each (a + 1) n (append_parts test (each a) (flat_map each (range_with_len (a + 1) n)) e).1 j (omega (arith, less)))

none_before : (ds : List Dimension) → cells_before ds [] ≡ 0
none_before [] = refl
none_before (d ∷ ds) = refl

-- what holds of all offsets of a view holds of the cells before the one that subscripts choose
pub of_offsets : (ds : List Dimension) (is : List ℤ) (test : ℕ → Bool) → list_all (λ (d : Dimension). nat_le 1 d.size) ds ≡ true → list_all test (offsets ds) ≡ true → test (cells_before ds is) ≡ true
of_offsets [] is test sizes e = (and_parts (test 0) true e).0
of_offsets (d ∷ ds) [] test sizes e = first (of_offsets ds [] (λ n. test (0 * d.stride + n)) (and_parts (nat_le 1 d.size) _ sizes).1)
  where
    first : (list_all (λ n. test (0 * d.stride + n)) (offsets ds) ≡ true → test (0 * d.stride + cells_before ds []) ≡ true) → test 0 ≡ true
    first later =
        subst (λ n. test n ≡ true) (let same : 0 * d.stride + cells_before ds [] ≡ 0 = omega (arith, none_before ds) in same)
        (later (sym (list_all-map test (λ n. 0 * d.stride + n) (offsets ds)) ∙ subst (λ j. list_all test (map (λ n. j * d.stride + n) (offsets ds)) ≡ true) (let same : 0 + 0 ≡ 0 = omega arith in same)
        (of_range test (λ i. map (λ n. i * d.stride + n) (offsets ds)) 0 d.size e 0 (leb-true 1 d.size (and_parts (nat_le 1 d.size) _ sizes).0))))
of_offsets (d ∷ ds) (i ∷ is) test sizes e = at_place (of_offsets ds is (λ n. test (before_nearest d.size i * d.stride + n)) (and_parts (nat_le 1 d.size) _ sizes).1)
  where
    at_place : (list_all (λ n. test (before_nearest d.size i * d.stride + n)) (offsets ds) ≡ true → test (before_nearest d.size i * d.stride + cells_before ds is) ≡ true) → test (cells_before (d ∷ ds) (i ∷ is)) ≡ true
    at_place later =
        later (sym (list_all-map test (λ n. before_nearest d.size i * d.stride + n) (offsets ds)) ∙ subst (λ j. list_all test (map (λ n. j * d.stride + n) (offsets ds)) ≡ true) (let same : 0 + before_nearest d.size i ≡ before_nearest d.size i = omega arith in same)
        (of_range test (λ j. map (λ n. j * d.stride + n) (offsets ds)) 0 d.size e (before_nearest d.size i) (nearest_within d.size i (leb-true 1 d.size (and_parts (nat_le 1 d.size) _ sizes).0))))
