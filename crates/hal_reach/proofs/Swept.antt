-- Marks that are found one after another are those of as many rounds as there are units.
use Rattle.std.specs.Prelude.{◌≡◌, ◌≤◌, ◌<◌, ◌+◌, ◌-◌, ◌||◌, ℕ, zero, suc, Bool, true, false, List, [], ◌∷◌, Option, Some, None, length, map, nat_lt, slice_get, slice_set, unwrap_or}
use Rattle.std.specs.List.{list_any}
use Rattle.std.specs.Option.{option_map}
use Rattle.std.proofs.Common.{arith, refl, sym, subst, ap, ap₂, ◌∙◌}
use Rattle.std.proofs.lemmas.Bool.{ltb-false, ltb-true}
use Rattle.std.proofs.lemmas.List as lists
use Rattle.std.proofs.lemmas.Option.{slice_get-map, slice_get_within}
use Rattle.hal_reach.specs.Places.{is_among}
use Rattle.hal_reach.specs.Marks.{Unit, is_marked, themselves, callers, rounds, reaching}
use Rattle.hal_reach.specs.Sweeps.{AreClosed, AreFound, AreSwept, count}

-- what is marked by the one is marked by the other
abbrev Below : List Bool → List Bool → Type 0
Below xs ys = (k : ℕ) → is_marked xs k ≡ true → is_marked ys k ≡ true

-- truths of two
or_below : (a b c : Bool) → (b ≡ true → c ≡ true) → (a || b) ≡ true → (a || c) ≡ true
or_below true b c more is = refl
or_below false b c more is = more is

or_right : (a b : Bool) → b ≡ true → (a || b) ≡ true
or_right true b is = refl
or_right false b is = is

or_left : (a b : Bool) → a ≡ true → (a || b) ≡ true
or_left true b is = refl
or_left false b is = absurd (cc)

or_first : (x y p q : Bool) → (x ≡ true → y ≡ true) → (p ≡ true → q ≡ true) → (x || p) ≡ true → (y || q) ≡ true
or_first true y p q one more is = or_left y q (one refl)
or_first false y p q one more is = or_right y q (more is)

any_below : (xs ys : List Bool) → Below xs ys → (callees : List ℕ) → list_any (is_marked xs) callees ≡ true → list_any (is_marked ys) callees ≡ true
any_below xs ys below [] is = absurd (cc)
any_below xs ys below (k ∷ ks) is = or_first (is_marked xs k) (is_marked ys k) (list_any (is_marked xs) ks) (list_any (is_marked ys) ks) (below k) (any_below xs ys below ks) is

-- marks are the same that mark the same
same_marks : (xs ys : List Bool) → length xs ≡ length ys → Below xs ys → Below ys xs → xs ≡ ys
same_marks [] [] many first second = refl
same_marks [] (y ∷ ys) many first second = absurd (omega (arith, many))
same_marks (x ∷ xs) [] many first second = absurd (omega (arith, many))
same_marks (x ∷ xs) (y ∷ ys) many first second =
    ap₂ (λ (b : Bool) (bs : List Bool). b ∷ bs) (both x y (first 0) (second 0)) (same_marks xs ys (omega (arith, many)) (λ k is. first (suc k) is) (λ k is. second (suc k) is))
  where
    both : (a b : Bool) → (a ≡ true → b ≡ true) → (b ≡ true → a ≡ true) → a ≡ b
    both true true one other = refl
    both true false one other = sym (one refl)
    both false true one other = other refl
    both false false one other = refl

-- one more is marked
count_set : (marked : List Bool) (place : ℕ) → slice_get marked place ≡ Some false → count (slice_set marked place true) ≡ suc (count marked)
count_set [] place there = absurd (cc)
count_set (true ∷ marks) zero there = absurd (cc)
count_set (false ∷ marks) zero there = refl
count_set (true ∷ marks) (suc place) there = ap suc (count_set marks place there)
count_set (false ∷ marks) (suc place) there = count_set marks place there

still_marked : (marked : List Bool) (place k : ℕ) → is_marked marked k ≡ true → is_marked (slice_set marked place true) k ≡ true
still_marked [] place k is = absurd (cc)
still_marked (m ∷ marks) zero zero is = refl
still_marked (m ∷ marks) zero (suc k) is = is
still_marked (m ∷ marks) (suc place) zero is = is
still_marked (m ∷ marks) (suc place) (suc k) is = still_marked marks place k is

-- what is marked then was marked, or is the new one
data WasMarked (marked : List Bool) (place k : ℕ) : Type 0 where
  Before : is_marked marked k ≡ true → WasMarked marked place k
  Now : k ≡ place → WasMarked marked place k

was_marked : (marked : List Bool) (place k : ℕ) → is_marked (slice_set marked place true) k ≡ true → WasMarked marked place k
was_marked [] place k is = absurd (cc)
was_marked (m ∷ marks) zero zero is = Now refl
was_marked (m ∷ marks) zero (suc k) is = Before is
was_marked (m ∷ marks) (suc place) zero is = Before is
was_marked (m ∷ marks) (suc place) (suc k) is = further (was_marked marks place k is) where
  further : WasMarked marks place k → WasMarked (m ∷ marks) (suc place) (suc k)
  further (Before was) = Before was
  further (Now same) = Now (ap suc same)

pub few_marked : (marked : List Bool) → count marked ≤ length marked
few_marked [] = omega arith
few_marked (true ∷ marks) = omega (arith, few_marked marks)
few_marked (false ∷ marks) = omega (arith, few_marked marks)

module _ (units : List Unit) (blocks : List ℕ) where
  abbrev after : ℕ → List Bool
  after n = rounds n units blocks (themselves units blocks)

  rounds_last : (n : ℕ) (marked : List Bool) → rounds (suc n) units blocks marked ≡ callers units blocks (rounds n units blocks marked)
  unfolding rounds
  rounds_last zero marked = refl
  rounds_last (suc n) marked = rounds_last n (callers units blocks marked)

  marked_map : (f : Unit → Bool) (k : ℕ) (found : Option Unit) → slice_get units k ≡ found → is_marked (map f units) k ≡ unwrap_or (option_map f found) false
  marked_map f k found there = ap (λ (o : Option Bool). unwrap_or o false) (slice_get-map f units k ∙ ap (λ (o : Option Unit). option_map f o) there)

  map_below : (f g : Unit → Bool) → ((u : Unit) → f u ≡ true → g u ≡ true) → Below (map f units) (map g units)
  map_below f g more k is = by (slice_get units k) refl where
    by : (found : Option Unit) → slice_get units k ≡ found → is_marked (map g units) k ≡ true
    by None there = let no : false ≡ true = sym (marked_map f k None there) ∙ is in absurd (cc)
    by (Some u) there = marked_map g k (Some u) there ∙ more u (sym (marked_map f k (Some u) there) ∙ is)

  callers_below : (xs ys : List Bool) → Below xs ys → Below (callers units blocks xs) (callers units blocks ys)
  callers_below xs ys below =
      map_below (λ (u : Unit). is_among blocks u.number || list_any (is_marked xs) u.callees) (λ (u : Unit). is_among blocks u.number || list_any (is_marked ys) u.callees)
      (λ u is. or_below (is_among blocks u.number) (list_any (is_marked xs) u.callees) (list_any (is_marked ys) u.callees) (any_below xs ys below u.callees) is)

  begins_below : (marked : List Bool) → Below (themselves units blocks) (callers units blocks marked)
  begins_below marked =
      map_below (λ (u : Unit). is_among blocks u.number) (λ (u : Unit). is_among blocks u.number || list_any (is_marked marked) u.callees)
      (λ u is. or_left (is_among blocks u.number) (list_any (is_marked marked) u.callees) is)

  next_below : (n : ℕ) → Below (after n) (after (suc n))
  unfolding rounds
  next_below zero = begins_below (themselves units blocks)
  next_below (suc n) =
      subst (λ (xs : List Bool). Below xs (after (suc (suc n)))) (sym (rounds_last n (themselves units blocks)))
      (subst (λ (ys : List Bool). Below (callers units blocks (after n)) ys) (sym (rounds_last (suc n) (themselves units blocks)))
      (callers_below (after n) (after (suc n)) (next_below n)))

  later_below : (d n : ℕ) → Below (after n) (after (d + n))
  later_below zero n k is = subst (λ (m : ℕ). is_marked (after m) k ≡ true) (omega arith) is
  later_below (suc d) n k is =
      subst (λ (m : ℕ). is_marked (after m) k ≡ true) (omega arith) (next_below (d + n) k (later_below d n k is))

  -- a unit that calls a marked one
  pub one_found : (marked : List Bool) (place : ℕ) (u : Unit) → slice_get units place ≡ Some u → slice_get marked place ≡ Some false → list_any (is_marked marked) u.callees ≡ true → AreFound units blocks marked
      → AreFound units blocks (slice_set marked place true)
  one_found marked place u there unmarked calls found = record {
    many = lists.length-set marked place true ∙ found.many;
    begun = λ k is. still_marked marked place k (found.begun k is);
    reached = λ k is. subst (λ (n : ℕ). is_marked (after n) k ≡ true) (sym (count_set marked place unmarked)) (by k (was_marked marked place k is));
  } where
    here : is_marked (after (suc (count marked))) place ≡ true
    here =
        ap (λ (xs : List Bool). is_marked xs place) (rounds_last (count marked) (themselves units blocks))
        ∙ marked_map (λ (v : Unit). is_among blocks v.number || list_any (is_marked (after (count marked))) v.callees) place (Some u) there
        ∙ or_right (is_among blocks u.number) (list_any (is_marked (after (count marked))) u.callees) (any_below marked (after (count marked)) found.reached u.callees calls)

    by : (k : ℕ) → WasMarked marked place k → is_marked (after (suc (count marked))) k ≡ true
    by k (Before was) = next_below (count marked) k (found.reached k was)
    by k (Now same) = subst (λ (n : ℕ). is_marked (after (suc (count marked))) n ≡ true) (sym same) here

  rounds_length : (n : ℕ) (marks : List Bool) → length marks ≡ length units → length (rounds n units blocks marks) ≡ length units
  unfolding rounds
  rounds_length zero marks is = is
  rounds_length (suc n) marks is = rounds_length n (callers units blocks marks) (lists.length-map units (λ (u : Unit). is_among blocks u.number || list_any (is_marked marks) u.callees))

  start : (k : ℕ) → is_marked (themselves units blocks) k ≡ true → is_marked (after 0) k ≡ true
  unfolding rounds
  start k is = is

  -- where no more is found, these are all
  within_next : (marked : List Bool) → AreFound units blocks marked → AreClosed units marked (length units) → (xs : List Bool) → Below xs marked → Below (callers units blocks xs) marked
  within_next marked found closed xs below k is = by (slice_get units k) refl where
    by_call : (u : Unit) → slice_get units k ≡ Some u → (b : Bool) → is_among blocks u.number ≡ b → (b || list_any (is_marked xs) u.callees) ≡ true → is_marked marked k ≡ true
    by_call u there true among calls = found.begun k (marked_map (λ (v : Unit). is_among blocks v.number) k (Some u) there ∙ among)
    by_call u there false among calls = closed k u (slice_get_within units k u there) there (any_below xs marked below u.callees calls)

    by : (o : Option Unit) → slice_get units k ≡ o → is_marked marked k ≡ true
    by None there = let no : false ≡ true = sym (marked_map (λ (v : Unit). is_among blocks v.number || list_any (is_marked xs) v.callees) k None there) ∙ is in absurd (cc)
    by (Some u) there = by_call u there (is_among blocks u.number) refl (sym (marked_map (λ (v : Unit). is_among blocks v.number || list_any (is_marked xs) v.callees) k (Some u) there) ∙ is)

  all_within : (marked : List Bool) → AreFound units blocks marked → AreClosed units marked (length units) → (n : ℕ) → Below (after n) marked
  unfolding rounds
  all_within marked found closed zero = found.begun
  all_within marked found closed (suc n) =
      subst (λ (xs : List Bool). Below xs marked) (sym (rounds_last n (themselves units blocks))) (within_next marked found closed (after n) (all_within marked found closed n))

  pub all_found : (marked : List Bool) → AreFound units blocks marked → AreClosed units marked (length units) → marked ≡ reaching units blocks
  all_found marked found closed =
      same_marks marked (after (length units)) (found.many ∙ sym (rounds_length (length units) (themselves units blocks) (lists.length-map units (λ (u : Unit). is_among blocks u.number))))
      (λ k is. subst (λ (n : ℕ). is_marked (after n) k ≡ true) (omega (arith, few_marked marked, found.many)) (later_below (length units - count marked) (count marked) k (found.reached k is)))
      (all_within marked found closed (length units))

  -- the units themselves are found at first
  pub first_found : AreFound units blocks (themselves units blocks)
  first_found = record {
    many = lists.length-map units (λ (u : Unit). is_among blocks u.number);
    begun = λ k is. is;
    reached = λ k is. subst (λ (n : ℕ). is_marked (after n) k ≡ true) (omega arith) (later_below (count (themselves units blocks)) 0 k (start k is));
  }

-- one more is marked
pub one_more : (marked : List Bool) (place : ℕ) → slice_get marked place ≡ Some false → count (slice_set marked place true) ≡ suc (count marked)
one_more marked place there = count_set marked place there

-- a unit is marked
pub swept_more : (some : Bool) (units : List Unit) (old mid new : List Bool) (n : ℕ) → AreSwept some units old mid n → count new ≡ suc (count mid) → AreSwept true units old new (n + 1)
swept_more true units old mid new n swept more = omega (arith, swept, more)
swept_more false units old mid new n swept more = omega (arith, ap count swept.0, more)

-- or it isn't
pub swept_same : (some : Bool) (units : List Unit) (old mid new : List Bool) (n : ℕ) → AreSwept some units old mid n → new ≡ mid
    → ((u : Unit) → slice_get units n ≡ Some u → list_any (is_marked mid) u.callees ≡ true → is_marked mid n ≡ true) → AreSwept some units old new (n + 1)
swept_same true units old mid new n swept same closed = omega (arith, swept, ap count same)
swept_same false units old mid new n swept same closed = (same ∙ swept.0, λ k u low there calls. by k u low there calls (nat_lt k n) refl) where
  at_last : (k : ℕ) → k ≡ n → (u : Unit) → slice_get units k ≡ Some u → list_any (is_marked old) u.callees ≡ true → is_marked old k ≡ true
  at_last k last u there calls =
      subst (λ (marks : List Bool). is_marked marks k ≡ true) swept.0
      (subst (λ (m : ℕ). is_marked mid m ≡ true) (sym last)
      (closed u (subst (λ (m : ℕ). slice_get units m ≡ Some u) last there) (subst (λ (marks : List Bool). list_any (is_marked marks) u.callees ≡ true) (sym swept.0) calls)))

  by : (k : ℕ) (u : Unit) → k < n + 1 → slice_get units k ≡ Some u → list_any (is_marked old) u.callees ≡ true → (b : Bool) → nat_lt k n ≡ b → is_marked old k ≡ true
  by k u low there calls true is = swept.1 k u (ltb-true k n is) there calls
  by k u low there calls false is = at_last k (omega (arith, low, ltb-false k n is)) u there calls
