-- The units that a process calls stand in order: each before those that call it.
use Rattle.std.specs.Prelude.{◌≡◌, ◌≤◌, ◌<◌, ◌⊎◌, ℕ, zero, suc, ◌+◌, ◌==◌, nat_lt, Bool, true, false, not, ◌&&◌, ◌||◌, List, [], ◌∷◌, ◌++◌, length, filter_map, cond, Option, Some, None, slice_get, if◌then◌else◌}
use Rattle.std.specs.List.{list_any, cons_option, position_or_len}
use Rattle.std.specs.Option.{option_and_then}
use Rattle.std.proofs.Common.{refl, sym, ap, subst, ◌∙◌, inl, inr, arith}
use Rattle.std.proofs.lemmas.Bool.{and_parts, eqb-true, eq-eqb, ltb-true, or_left, or_right}
use Rattle.std.proofs.lemmas.List.{length-map}
use Rattle.std.proofs.lemmas.Option.{slice_get_within}
use Rattle.hal_phrases.specs.Phrases.{Phrase}
use Rattle.hal_code.specs.declared.row.View.{View}
use Rattle.hal_meaning.specs.Bodies.{callees, reaches}
use Rattle.hal_meaning.specs.Places.{unit_numbers}
use Rattle.hal_meaning.specs.Sets.{Set}
use Rattle.hal_reach.specs.Calls.{reaches_any, reaching, calls_itself}
use Rattle.hal_reach.proofs.Callees.{has_callees}
use Rattle.hal_reach.proofs.Within.{Has, HasAll}
use Rattle.hal_gen_expr.specs.Numbering.{below, most, block_number}
use Rattle.hal_link.specs.Outlines.{Rank, Outline, ranked, ranks_of, calls, called_if, called_at, called_from, numbering_of}
use Rattle.hal_link.specs.Shapes.{Shapes}
use Rattle.hal_fit_calls.specs.Each.{Each}
use Rattle.hal_fit_layout.specs.Ranked.{IsCalled, IsAcyclic}
use Rattle.hal_fit_layout.proofs.Called.{from_member, mapped_member, from_called}
use Rattle.hal_fit_calls.proofs.Reached.{Passes, passed, as_many, of_one, compared, few_pass, reaches_on, reaches_itself, reaches_callee}

-- members of a list
pub each_member : (P : ℕ → Type 0) (xs : List ℕ) → ((x : ℕ) → Has xs x → P x) → Each P xs
each_member P [] all = tt
each_member P (x ∷ xs) all =
    (all x (or_left (x == x) (list_any (λ n. n == x) xs) (eq-eqb x x refl)), each_member P xs (λ y has. all y (or_right (x == y) (list_any (λ n. n == y) xs) has)))

any_by : (f : ℕ → Bool) (x k : ℕ) (xs : List ℕ) (b : Bool) → (x == k) ≡ b → (Has xs k → list_any f xs ≡ true) → (b || list_any (λ n. n == k) xs) ≡ true → f k ≡ true → (f x || list_any f xs) ≡ true
any_by f x k xs true is rest has so = or_left (f x) (list_any f xs) (subst (λ y. f y ≡ true) (sym (eqb-true x k is)) so)
any_by f x k xs false is rest has so = or_right (f x) (list_any f xs) (rest has)

any_has : (f : ℕ → Bool) (xs : List ℕ) (k : ℕ) → Has xs k → f k ≡ true → list_any f xs ≡ true
any_has f [] k has so = absurd (cc)
any_has f (x ∷ xs) k has so = any_by f x k xs (x == k) refl (λ later. any_has f xs k later so) has so

has_all : (ns xs : List ℕ) (k : ℕ) → HasAll ns xs → Has xs k → Has ns k
has_all ns [] k all has = absurd (cc)
has_all ns (x ∷ xs) k all has = by (x == k) refl (has_all ns xs k all.1) has where
  by : (b : Bool) → (x == k) ≡ b → (Has xs k → Has ns k) → (b || list_any (λ n. n == k) xs) ≡ true → Has ns k
  by true is rest found = subst (Has ns) (eqb-true x k is) all.0
  by false is rest found = rest found

of_alone : (b : Bool) → (b || false) ≡ true → b ≡ true
of_alone true is = refl
of_alone false is = absurd (cc)

not_both : (b : Bool) → b ≡ true → b ≡ false → ⊥
not_both true is isnt = absurd (cc)
not_both false is isnt = absurd (cc)

-- how many units reach one
abbrev pub callers : List Phrase → ℕ → ℕ
callers ps q = length (reaching ps (q ∷ []))

-- more units reach a unit than those that call it
pub more_callers : (ps : List Phrase) → IsAcyclic ps → (c u : ℕ) → Has (unit_numbers ps) c → Has (callees ps c) u → callers ps c < callers ps u
unfolding reaching
more_callers ps acyclic c u unit called = by (compared (passed (reaches_any ps (c ∷ [])) (unit_numbers ps)) (passed (reaches_any ps (u ∷ [])) (unit_numbers ps))) where
  by : (passed (reaches_any ps (u ∷ [])) (unit_numbers ps) ≤ passed (reaches_any ps (c ∷ [])) (unit_numbers ps)) ⊎ (passed (reaches_any ps (c ∷ [])) (unit_numbers ps) < passed (reaches_any ps (u ∷ [])) (unit_numbers ps))
      → passed (reaches_any ps (c ∷ [])) (unit_numbers ps) < passed (reaches_any ps (u ∷ [])) (unit_numbers ps)
  by (inr more) = more
  by (inl no_more) =
      let its = has_all (unit_numbers ps) (callees ps c) u (has_callees ps c) called in
      let all = as_many (reaches_any ps (c ∷ [])) (reaches_any ps (u ∷ [])) (unit_numbers ps)
      (each_member (Passes (reaches_any ps (c ∷ [])) (reaches_any ps (u ∷ []))) (unit_numbers ps)
      (λ x has so. or_left (reaches ps x u) false (reaches_on ps x c u has (of_alone (reaches ps x c) so) (reaches_callee ps c u unit called)))) no_more in
      let back = of_alone (reaches ps u c) (of_one (Passes (reaches_any ps (u ∷ [])) (reaches_any ps (c ∷ []))) (unit_numbers ps) u all its (or_left (reaches ps u u) false (reaches_itself ps u))) in
      absurd (not_both (calls_itself ps c) (any_has (λ k. reaches ps k c) (callees ps c) u called back) (acyclic c unit))

-- lists one behind the other
record Later {X : Type 0} (xs ys : List X) (n : ℕ) (x : X) : Type 0 where
  place : ℕ
  is : n ≡ length xs + place
  there : slice_get ys place ≡ Some x

later_one : {X : Type 0} (y : X) (xs ys : List X) (n : ℕ) (x : X) → Later xs ys n x → Later (y ∷ xs) ys (suc n) x
later_one y xs ys n x one = record { place = one.place; is = let is = one.is in omega (arith, is); there = one.there }

in_parts : {X : Type 0} (xs ys : List X) (n : ℕ) (x : X) → slice_get (xs ++ ys) n ≡ Some x → (slice_get xs n ≡ Some x) ⊎ Later xs ys n x
in_parts [] ys n x is = inr (record { place = n; is = omega arith; there = is })
in_parts (y ∷ xs) ys zero x is = inl is
in_parts {X} (y ∷ xs) ys (suc n) x is = by (in_parts xs ys n x is) where
  by : (slice_get xs n ≡ Some x) ⊎ Later xs ys n x → (slice_get (y ∷ xs) (suc n) ≡ Some x) ⊎ Later (y ∷ xs) ys (suc n) x
  by (inl there) = inl there
  by (inr one) = inr (later_one y xs ys n x one)

in_first : {X : Type 0} (xs ys : List X) (n : ℕ) (x : X) → slice_get xs n ≡ Some x → slice_get (xs ++ ys) n ≡ Some x
in_first [] ys n x is = absurd (cc)
in_first (y ∷ xs) ys zero x is = is
in_first (y ∷ xs) ys (suc n) x is = in_first xs ys n x is

in_second : {X : Type 0} (xs ys : List X) (n : ℕ) (x : X) → slice_get ys n ≡ Some x → slice_get (xs ++ ys) (length xs + n) ≡ Some x
in_second [] ys n x is = let same : n ≡ 0 + n = omega arith in subst (λ m. slice_get ys m ≡ Some x) same is
in_second (y ∷ xs) ys n x is =
    let same : suc (length xs + n) ≡ suc (length xs) + n = omega arith in subst (λ m. slice_get (y ∷ (xs ++ ys)) m ≡ Some x) same (in_second xs ys n x is)

-- what is kept of a list
kept_by : {X Y : Type 0} (f : X → Option Y) (xs : List X) (y : Y) (o : Option Y) (n : ℕ) → slice_get (filter_map f xs) n ≡ Some y → (m : ℕ) × (slice_get (cons_option o (filter_map f xs)) m ≡ Some y)
kept_by f xs y None n is = (n, is)
kept_by f xs y (Some z) n is = (suc n, is)

kept_member : {X Y : Type 0} (f : X → Option Y) (xs : List X) (n : ℕ) (x : X) (y : Y) → slice_get xs n ≡ Some x → f x ≡ Some y → (m : ℕ) × (slice_get (filter_map f xs) m ≡ Some y)
kept_member f [] n x y is gives = absurd (cc)
kept_member f (z ∷ xs) zero x y is gives =
    let same : z ≡ x = cc in (zero, ap (λ o. slice_get (cons_option o (filter_map f xs)) zero) (ap f same ∙ gives))
kept_member f (z ∷ xs) (suc n) x y is gives = let later = kept_member f xs n x y is gives in kept_by f xs y (f z) later.0 later.1

-- what stands before it
record Earlier (xs : List ℕ) (n : ℕ) (x : ℕ) : Type 0 where
  place : ℕ
  low : place < n
  there : slice_get xs place ≡ Some x

-- the rank of a unit says how many units reach it
rank_says : (ps : List Phrase) (place : ℕ) (r : Rank) → slice_get (ranks_of ps) place ≡ Some r → r.callers ≡ callers ps r.unit
rank_says ps place r there =
    let found = mapped_member (ranked ps) (unit_numbers ps) place r there in
    sym (ap (λ (x : Rank). x.callers) found.2) ∙ ap (λ q. length (reaching ps (q ∷ []))) (ap (λ (x : Rank). x.unit) found.2)

called_when : (b : Bool) (one unit : ℕ) → (if b then Some one else None) ≡ Some unit → (b ≡ true) × (one ≡ unit)
called_when true one unit is = (refl, (let same : one ≡ unit = cc in same))
called_when false one unit is = absurd (cc)

at_number : (ps : List Phrase) (process n k c : ℕ) → slice_get (called_at process n (ranks_of ps)) k ≡ Some c → callers ps c ≡ n
at_number ps process n k c is =
    let found = from_member (called_if process n) (ranks_of ps) k c is in
    let so = called_when ((found.member.callers == n) && calls process found.member) found.member.unit c found.gives in
    ap (callers ps) (sym so.1) ∙ (sym (rank_says ps found.place found.member found.there) ∙ eqb-true found.member.callers n (and_parts (found.member.callers == n) (calls process found.member) so.0).0)

module _ (ps : List Phrase) (process u : ℕ) (one : IsCalled process (ranks_of ps) u) where
  its_callers : one.rank.callers ≡ callers ps u
  its_callers = rank_says ps one.place one.rank one.there ∙ ap (callers ps) one.its

  there_at : (n : ℕ) → callers ps u ≡ n → (m : ℕ) × (slice_get (called_at process n (ranks_of ps)) m ≡ Some u)
  there_at n is =
      kept_member (called_if process n) (ranks_of ps) one.place one.rank u one.there
      (ap (λ b. if b && calls process one.rank then Some one.rank.unit else None) (eq-eqb one.rank.callers n (its_callers ∙ is))
      ∙ (ap (λ b. if b then Some one.rank.unit else None) one.calls_it ∙ ap Some one.its))

  -- a unit that more units reach stands before
  earlier : (n k c : ℕ) → slice_get (called_from process n (ranks_of ps)) k ≡ Some c → callers ps c < callers ps u → callers ps u ≤ n → Earlier (called_from process n (ranks_of ps)) k u
  unfolding called_from
  earlier zero k c is less most_of = absurd (omega (arith, less, most_of))
  earlier (suc n) k c is less most_of =
      by (in_parts (called_at process (suc n) (ranks_of ps)) (called_from process n (ranks_of ps)) k c is) (compared (callers ps u) (suc n)) (λ m there few. earlier n m c there less few) where
        by : (slice_get (called_at process (suc n) (ranks_of ps)) k ≡ Some c) ⊎ Later (called_at process (suc n) (ranks_of ps)) (called_from process n (ranks_of ps)) k c
            → (suc n ≤ callers ps u) ⊎ (callers ps u < suc n)
            → ((m : ℕ) → slice_get (called_from process n (ranks_of ps)) m ≡ Some c → callers ps u ≤ n → Earlier (called_from process n (ranks_of ps)) m u)
            → Earlier (called_at process (suc n) (ranks_of ps) ++ called_from process n (ranks_of ps)) k u
        by (inl first) other later = let number = at_number ps process (suc n) k c first in absurd (omega (arith, number, less, most_of))
        by (inr behind) (inl many) later =
            let here = there_at (suc n) (omega (arith, many, most_of)) in
            let within = slice_get_within (called_at process (suc n) (ranks_of ps)) here.0 u here.1 in
            let is_behind = behind.is in
            record { place = here.0; low = omega (arith, within, is_behind); there = in_first (called_at process (suc n) (ranks_of ps)) (called_from process n (ranks_of ps)) here.0 u here.1 }
        by (inr behind) (inr few) later =
            let before = later behind.place behind.there (omega (arith, few)) in
            let is_behind = behind.is in
            let low = before.low in
            record {
              place = length (called_at process (suc n) (ranks_of ps)) + before.place;
              low = omega (arith, is_behind, low);
              there = in_second (called_at process (suc n) (ranks_of ps)) (called_from process n (ranks_of ps)) before.place u before.there;
            }

-- the first place of a number
first_low : (u : ℕ) (xs : List ℕ) (k : ℕ) → slice_get xs k ≡ Some u → position_or_len (λ one. one == u) xs ≤ k
first_low u [] k is = absurd (cc)
first_low u (x ∷ xs) k is = by (x == u) refl k is (first_low u xs) where
  by : (b : Bool) → (x == u) ≡ b → (m : ℕ) → slice_get (x ∷ xs) m ≡ Some u → ((j : ℕ) → slice_get xs j ≡ Some u → position_or_len (λ one. one == u) xs ≤ j) → position_or_len (λ one. one == u) (x ∷ xs) ≤ m
  by true same m there later =
      let place = ap (λ b. cond (not b) (1 + position_or_len (λ one. one == u) xs) 0) same in omega (arith, place)
  by false other zero there later = absurd (not_both (x == u) (eq-eqb x u (let same : x ≡ u = cc in same)) other)
  by false other (suc m) there later =
      let place = ap (λ b. cond (not b) (1 + position_or_len (λ one. one == u) xs) 0) other in
      let low = later m there in
      omega (arith, place, low)

named_there : (u : ℕ) (xs : List ℕ) → position_or_len (λ one. one == u) xs < length xs → slice_get xs (position_or_len (λ one. one == u) xs) ≡ Some u
named_there u [] low = absurd (omega (arith, low))
named_there u (x ∷ xs) low = by (x == u) refl (named_there u xs) where
  by : (b : Bool) → (x == u) ≡ b → (position_or_len (λ one. one == u) xs < length xs → slice_get xs (position_or_len (λ one. one == u) xs) ≡ Some u)
      → slice_get (x ∷ xs) (position_or_len (λ one. one == u) (x ∷ xs)) ≡ Some u
  by true same later =
      ap (slice_get (x ∷ xs)) (ap (λ b. cond (not b) (1 + position_or_len (λ one. one == u) xs) 0) same) ∙ ap Some (eqb-true x u same)
  by false other later =
      let place : position_or_len (λ one. one == u) (x ∷ xs) ≡ suc (position_or_len (λ one. one == u) xs) =
      ap (λ b. cond (not b) (1 + position_or_len (λ one. one == u) xs) 0) other ∙ (let more : 1 + position_or_len (λ one. one == u) xs ≡ suc (position_or_len (λ one. one == u) xs) = omega arith in more) in
      ap (slice_get (x ∷ xs)) place ∙ later (omega (arith, place, low))

pub record Numbered (o : Outline) (u callee : ℕ) : Type 0 where
  pub place : ℕ
  pub first : position_or_len (λ one. one == u) o.called ≡ place
  pub there : slice_get o.called place ≡ Some u
  pub is : o.first + place ≡ callee

numbered_by : (o : Outline) (u callee place : ℕ) (b c : Bool) → position_or_len (λ one. one == u) o.called ≡ place → nat_lt place (length o.called) ≡ b → nat_lt (o.first + place) most ≡ c
    → option_and_then (λ k. below most (o.first + k)) (cond b (Some place) None) ≡ Some callee → Numbered o u callee
numbered_by o u callee place false c first within low is = absurd (cc)
numbered_by o u callee place true false first within low is =
    let none = ap (λ x. if x then Some (o.first + place) else None) low in absurd (cc)
numbered_by o u callee place true true first within low is =
    let some = ap (λ x. if x then Some (o.first + place) else None) low in
    record {
      place = place;
      first = first;
      there = subst (λ m. slice_get o.called m ≡ Some u) first (named_there u o.called (subst (λ m. m < length o.called) (sym first) (ltb-true place (length o.called) within)));
      is = let same : Some (o.first + place) ≡ Some callee = sym some ∙ is in (let number : o.first + place ≡ callee = cc in number);
    }

pub numbered : (o : Outline) (shapes : Shapes) (views : List View) (u callee : ℕ) → block_number (numbering_of shapes views o) u ≡ Some callee → Numbered o u callee
numbered o shapes views u callee is =
    let place = position_or_len (λ one. one == u) o.called in
    numbered_by o u callee place (nat_lt place (length o.called)) (nat_lt (o.first + place) most) refl refl refl is

-- a unit that a unit of a process calls stands in a block before it
pub stands_before : (s : Set) (o : Outline) (shapes : Shapes) (views : List View) (k c u callee : ℕ) → IsAcyclic s.phrases → o.called ≡ called_from o.unit (length (ranks_of s.phrases)) (ranks_of s.phrases)
    → slice_get o.called k ≡ Some c → Has (unit_numbers s.phrases) c → Has (callees s.phrases c) u → block_number (numbering_of shapes views o) u ≡ Some callee → callee < o.first + k
unfolding reaching
stands_before s o shapes views k c u callee acyclic all at unit called is =
    let ranks = ranks_of s.phrases in
    let found = numbered o shapes views u callee is in
    let one = from_called o.unit (length ranks) ranks found.place u (subst (λ l. slice_get l found.place ≡ Some u) all found.there) in
    let few : length (reaching s.phrases (u ∷ [])) ≤ length ranks =
    (let less = few_pass (reaches_any s.phrases (u ∷ [])) (unit_numbers s.phrases) in let long = length-map (unit_numbers s.phrases) (ranked s.phrases) in omega (arith, less, long)) in
    let before = earlier s.phrases o.unit u one (length ranks) k c (subst (λ l. slice_get l k ≡ Some c) all at) (more_callers s.phrases acyclic c u unit called) few in
    let first = first_low u o.called before.place (subst (λ l. slice_get l before.place ≡ Some u) (sym all) before.there) in
    let low = before.low in
    let place = found.first in
    let number = found.is in
    omega (arith, first, low, place, number)
