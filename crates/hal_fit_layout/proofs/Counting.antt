-- The cells of a linked image are no more than those of its set.
use Rattle.std.specs.Prelude.{◌≡◌, ◌≤◌, ◌<◌, ℕ, suc, ◌+◌, ◌*◌, ◌==◌, Bool, true, false, List, [], ◌∷◌, length, map, replicate, flat_map, sum_by, Some, None, slice_get, if◌then◌else◌}
use Rattle.std.specs.List.{cons_option}
use Rattle.std.proofs.Common.{refl, ap, subst, ◌∙◌, arith}
use Rattle.std.proofs.lemmas.Bool.{eqb-true, ne_eqb}
use Rattle.std.proofs.lemmas.List.{length-append, length-map, length-replicate}
use Rattle.std.proofs.lemmas.List.Sums.{sum_by-cons}
use Rattle.hal_phrases.specs.Phrases.{Phrase}
use Rattle.hal_names.specs.Laws.{IsCounted}
use Rattle.hal_constants.specs.Known.{Known}
use Rattle.hal_code.specs.declared.row.Process.{Process}
use Rattle.hal_code.specs.declared.row.Run.{Run}
use Rattle.hal_code.specs.declared.row.View.{View}
use Rattle.hal_code.specs.Images.{expanded, row_count}
use Rattle.hal_code.specs.Right as right
use Rattle.hal_meaning.specs.Bodies.{is_process, processes_of, processes_reaching}
use Rattle.hal_meaning.specs.Places.{Place, places_in, unit_numbers, are_several, is_sole, common_places, sole_places, places_of, is_reentrant_at, cells_at, cell_count}
use Rattle.hal_meaning.specs.Runs.{places_of_process}
use Rattle.hal_meaning.specs.Sets.{Set, cells_of}
use Rattle.hal_runs.specs.Joined.{rows_joined}
use Rattle.hal_runs.specs.Same.{same_cell, same_place}
use Rattle.hal_runs.proofs.Expanded.{rows_again}
use Rattle.hal_runs.proofs.Same.{cell_same, place_same}
use Rattle.hal_link.specs.Linking.{Linked, own_row, processes_from, image_with}
use Rattle.hal_link.specs.Outlines.{block_of, outlines_of}
use Rattle.hal_link.specs.Shapes.{shapes_of}
use Rattle.hal_fit_calls.specs.Each.{Each}
use Rattle.hal_fit_layout.specs.Ranked.{AreReentrant}
use Rattle.hal_fit_layout.proofs.Ordered.{each_member}
use Rattle.hal_fit_layout.proofs.Parameters.{places_are}

-- rows are counted one by one
pub rows_counted : {T : Type 0} (runs : List (Run T)) → row_count runs ≡ length (expanded runs)
rows_counted [] = refl
rows_counted (run ∷ runs) =
    let rest = rows_counted runs in
    let first = length-replicate run.repeat run.row in
    let both = length-append (replicate run.repeat run.row) (expanded runs) in
    omega (arith, rest, first, both)

-- numbers in a growing order
abbrev Grows : List ℕ → Type 0
Grows [] = Unit {0}
Grows (n ∷ ns) = Each (λ m. n < m) ns × Grows ns

-- what each of the numbers adds that is this one
abbrev adds : ℕ → ℕ → ℕ → ℕ
adds one many n = if n == one then many else 0

none_adds : (one many : ℕ) (ns : List ℕ) → Each (λ m. one < m) ns → sum_by (adds one many) ns ≡ 0
none_adds one many [] above = refl
none_adds one many (n ∷ ns) above =
    let sum = sum_by-cons (adds one many) n ns in
    let rest = none_adds one many ns above.1 in
    let other = ap (λ b. if b then many else 0) (ne_eqb n one (λ same. let low = above.0 in omega (arith, low, same))) in
    omega (arith, sum, rest, other)

one_adds : (one many : ℕ) (ns : List ℕ) → Grows ns → sum_by (adds one many) ns ≤ many
one_adds one many [] grows = omega arith
one_adds one many (n ∷ ns) grows = by (n == one) refl (one_adds one many ns grows.1) where
  by : (b : Bool) → (n == one) ≡ b → sum_by (adds one many) ns ≤ many → sum_by (adds one many) (n ∷ ns) ≤ many
  by true is rest =
      let sum = sum_by-cons (adds one many) n ns in
      let here = ap (λ c. if c then many else 0) is in
      let same = eqb-true n one is in
      let none = none_adds one many ns (subst (λ m. Each (λ k. m < k) ns) same grows.0) in
      omega (arith, sum, here, none)
  by false isnt rest =
      let sum = sum_by-cons (adds one many) n ns in
      let here = ap (λ c. if c then many else 0) isnt in
      omega (arith, sum, here, rest)

-- sums of two things, and of the same
sum_both : (f g : ℕ → ℕ) (ns : List ℕ) → sum_by (λ n. f n + g n) ns ≡ sum_by f ns + sum_by g ns
sum_both f g [] = refl
sum_both f g (n ∷ ns) =
    let both = sum_by-cons (λ m. f m + g m) n ns in
    let first = sum_by-cons f n ns in
    let second = sum_by-cons g n ns in
    let rest = sum_both f g ns in
    omega (arith, both, first, second, rest)

sum_same : (f g : ℕ → ℕ) (ns : List ℕ) → ((n : ℕ) → f n ≡ g n) → sum_by f ns ≡ sum_by g ns
sum_same f g [] same = refl
sum_same f g (n ∷ ns) same =
    let first = sum_by-cons f n ns in
    let second = sum_by-cons g n ns in
    let here = same n in
    let rest = sum_same f g ns same in
    omega (arith, first, second, here, rest)

sum_always : (many : ℕ) (ns : List ℕ) → sum_by (λ n. many) ns ≡ length ns * many
sum_always many [] = omega arith
sum_always many (n ∷ ns) =
    let sum = sum_by-cons (λ m. many) n ns in
    let rest = sum_always many ns in
    let product : suc (length ns) * many ≡ many + length ns * many = omega arith in
    omega (arith, sum, rest, product)

if_length : {X : Type 0} (b : Bool) (xs : List X) → length (if b then xs else []) ≡ (if b then length xs else 0)
if_length true xs = refl
if_length false xs = refl

not_sole : (all : List ℕ) (k : ℕ) (reaching : List ℕ) → are_several reaching ≡ true → is_sole all k reaching ≡ false
not_sole all k [] is = absurd (cc)
not_sole all k (one ∷ []) is = absurd (cc)
not_sole [] k (one ∷ other ∷ more) is = refl
not_sole (first ∷ others) k (one ∷ other ∷ more) is = refl

-- one unit's places: of all processes where several reach it, or of the one that does
module _ (ks : List ℕ) (grows : Grows ks) where
  sole_adds : (reaching : List ℕ) (many : ℕ) → sum_by (λ k. if is_sole ks k reaching then many else 0) ks ≤ many
  sole_adds reaching many = sole_by ks reaching many grows where
    sole_by : (all reached : List ℕ) (n : ℕ) → Grows all → sum_by (λ k. if is_sole all k reached then n else 0) all ≤ n
    sole_by [] [] n ordered = omega arith
    sole_by (first ∷ others) [] n ordered = one_adds first n (first ∷ others) ordered
    sole_by [] (one ∷ []) n ordered = omega arith
    sole_by (first ∷ others) (one ∷ []) n ordered = one_adds one n (first ∷ others) ordered
    sole_by [] (one ∷ other ∷ more) n ordered = omega arith
    sole_by (first ∷ others) (one ∷ other ∷ more) n ordered =
        let none = sum_same (λ k. if is_sole (first ∷ others) k (one ∷ other ∷ more) then n else 0) (λ k. 0) (first ∷ others) (λ k. refl) in
        let zeros = sum_always 0 (first ∷ others) in
        let product : suc (length others) * 0 ≡ 0 = omega arith in
        omega (arith, none, zeros, product)

  -- counted once, or for each process
  at_least_once : (reentrant : Bool) (many sum : ℕ) → sum ≤ many → (ks ≡ [] → sum ≡ 0) → sum ≤ (if reentrant then length ks * many else many)
  at_least_once false many sum less none = less
  at_least_once true many sum less none = by ks none where
    by : (all : List ℕ) → (all ≡ [] → sum ≡ 0) → sum ≤ length all * many
    by [] empty = let zero_sum = empty refl in omega (arith, zero_sum)
    by (k ∷ all) empty = let product : many ≤ suc (length all) * many = omega arith in omega (arith, less, product)

  unit_adds : (reaching : List ℕ) (reentrant : Bool) (many : ℕ) (several : Bool) → are_several reaching ≡ several → (several ≡ true → reentrant ≡ true)
      → sum_by (λ k. (if several then many else 0) + (if is_sole ks k reaching then many else 0)) ks ≤ (if reentrant then length ks * many else many)
  unit_adds reaching reentrant many true is asks =
      let split = sum_both (λ k. many) (λ k. if is_sole ks k reaching then many else 0) ks in
      let all = sum_always many ks in
      let none = sum_same (λ k. if is_sole ks k reaching then many else 0) (λ k. 0) ks (λ k. ap (λ b. if b then many else 0) (not_sole ks k reaching is)) in
      let zeros = sum_always 0 ks in
      let product : length ks * 0 ≡ 0 = omega arith in
      let counted : (if reentrant then length ks * many else many) ≡ length ks * many = ap (λ b. if b then length ks * many else many) (asks refl) in
      omega (arith, split, all, none, zeros, product, counted)
  unit_adds reaching reentrant many false is asks =
      let split = sum_both (λ k. 0) (λ k. if is_sole ks k reaching then many else 0) ks in
      let zeros = sum_always 0 ks in
      let product : length ks * 0 ≡ 0 = omega arith in
      let sole = sole_adds reaching many in
      at_least_once reentrant many (sum_by (λ k. 0 + (if is_sole ks k reaching then many else 0)) ks) (omega (arith, split, zeros, product, sole))
      (λ empty. ap (sum_by (λ k. 0 + (if is_sole ks k reaching then many else 0))) empty)

module _ (ps : List Phrase) (vs : Known) (grows : Grows (processes_of ps)) where
  -- what the set counts for a unit
  abbrev counted_for : ℕ → ℕ
  counted_for q = if is_reentrant_at ps q then length (processes_of ps) * length (places_in ps vs q) else length (places_in ps vs q)

  abbrev AsksOf : ℕ → Type 0
  AsksOf q = are_several (processes_reaching ps q) ≡ true → is_reentrant_at ps q ≡ true

  abbrev common_of : List ℕ → List Place
  common_of qs = flat_map (λ q. if are_several (processes_reaching ps q) then places_in ps vs q else []) qs

  abbrev sole_of : List ℕ → ℕ → List Place
  sole_of qs k = flat_map (λ q. if is_sole (processes_of ps) k (processes_reaching ps q) then places_in ps vs q else []) qs

  -- what a process has of one unit and of others
  one_more : (q : ℕ) (qs : List ℕ) (k : ℕ)
      → length (common_of (q ∷ qs)) + length (sole_of (q ∷ qs) k)
      ≡ ((if are_several (processes_reaching ps q) then length (places_in ps vs q) else 0) + (if is_sole (processes_of ps) k (processes_reaching ps q) then length (places_in ps vs q) else 0))
      + (length (common_of qs) + length (sole_of qs k))
  one_more q qs k =
      let first = length-append (if are_several (processes_reaching ps q) then places_in ps vs q else []) (common_of qs) in
      let second = length-append (if is_sole (processes_of ps) k (processes_reaching ps q) then places_in ps vs q else []) (sole_of qs k) in
      let common = if_length (are_several (processes_reaching ps q)) (places_in ps vs q) in
      let sole = if_length (is_sole (processes_of ps) k (processes_reaching ps q)) (places_in ps vs q) in
      omega (arith, first, second, common, sole)

  units_add : (qs : List ℕ) → Each AsksOf qs → sum_by (λ k. length (common_of qs) + length (sole_of qs k)) (processes_of ps) ≤ sum_by counted_for qs
  units_add [] asks =
      let none = sum_same (λ k. length (common_of []) + length (sole_of [] k)) (λ k. 0) (processes_of ps) (λ k. refl) in
      let zeros = sum_always 0 (processes_of ps) in
      let product : length (processes_of ps) * 0 ≡ 0 = omega arith in
      omega (arith, none, zeros, product)
  units_add (q ∷ qs) asks =
      let here : ℕ → ℕ = (λ k. (if are_several (processes_reaching ps q) then length (places_in ps vs q) else 0) + (if is_sole (processes_of ps) k (processes_reaching ps q) then length (places_in ps vs q) else 0)) in
      let others : ℕ → ℕ = (λ k. length (common_of qs) + length (sole_of qs k)) in
      let same = sum_same (λ k. length (common_of (q ∷ qs)) + length (sole_of (q ∷ qs) k)) (λ k. here k + others k) (processes_of ps) (one_more q qs) in
      let split = sum_both here others (processes_of ps) in
      let one = unit_adds (processes_of ps) grows (processes_reaching ps q) (is_reentrant_at ps q) (length (places_in ps vs q)) (are_several (processes_reaching ps q)) refl asks.0 in
      let rest = units_add qs asks.1 in
      let sum = sum_by-cons counted_for q qs in
      omega (arith, same, split, one, rest, sum)

  -- those of all processes
  processes_add : Each AsksOf (unit_numbers ps) → sum_by (λ k. length (places_of ps vs k)) (processes_of ps) ≤ sum_by counted_for (unit_numbers ps)
  processes_add asks =
      let same = sum_same (λ k. length (places_of ps vs k)) (λ k. length (common_of (unit_numbers ps)) + length (sole_of (unit_numbers ps) k)) (processes_of ps) (λ k. length-append (common_places ps vs) (sole_places ps vs k)) in
      let all = units_add (unit_numbers ps) asks in
      omega (arith, same, all)

flat_counted : {X Y : Type 0} (f : X → List Y) (xs : List X) → length (flat_map f xs) ≡ sum_by (λ x. length (f x)) xs
flat_counted f [] = refl
flat_counted f (x ∷ xs) =
    let both = length-append (f x) (flat_map f xs) in
    let sum = sum_by-cons (λ y. length (f y)) x xs in
    let rest = flat_counted f xs in
    omega (arith, both, sum, rest)

-- the rows of processes have as many places as the set says
module _ (s : Set) where
  abbrev row_places : Process → ℕ
  row_places one = 0 + row_count one.places

  places_long : (p : ℕ) → row_count (rows_joined same_place (map (own_row s (shapes_of s)) (places_of_process s p))) ≡ length (places_of_process s p)
  places_long p =
      rows_counted (rows_joined same_place (map (own_row s (shapes_of s)) (places_of_process s p)))
      ∙ (ap length (rows_again same_place place_same (map (own_row s (shapes_of s)) (places_of_process s p))) ∙ length-map (places_of_process s p) (own_row s (shapes_of s)))

  rows_add : (p : ℕ) (names : List (List ℕ)) (ks : List ℕ) → length names ≡ length ks → ((q k : ℕ) → slice_get ks q ≡ Some k → slice_get (processes_of s.phrases) (p + q) ≡ Some k)
      → sum_by row_places (processes_from s (outlines_of s) p names) ≡ sum_by (λ k. length (places_of s.phrases s.constants k)) ks
  rows_add p [] [] long there = refl
  rows_add p [] (k ∷ ks) long there = absurd (omega (arith, long))
  rows_add p (name ∷ names) [] long there = absurd (omega (arith, long))
  rows_add p (name ∷ names) (k ∷ ks) long there =
      let here : slice_get (processes_of s.phrases) p ≡ Some k = subst (λ m. slice_get (processes_of s.phrases) m ≡ Some k) (let same : p + 0 ≡ p = omega arith in same) (there 0 k refl) in
      let places = places_long p ∙ ap length (places_are s p k here) in
      let later = rows_add (suc p) names ks (omega (arith, long)) (λ q other is. subst (λ m. slice_get (processes_of s.phrases) m ≡ Some other) (let same : p + suc q ≡ suc p + q = omega arith in same) (there (suc q) other is)) in
      let sum = sum_by-cons row_places (let row : Process = record { name = name; block = block_of (outlines_of s) p; places = rows_joined same_place (map (own_row s (shapes_of s)) (places_of_process s p)) } in row) (processes_from s (outlines_of s) (suc p) names) in
      let its = sum_by-cons (λ n. length (places_of s.phrases s.constants n)) k ks in
      omega (arith, places, later, sum, its)

-- numbers of phrases grow
abbrev NumberedFrom : ℕ → List Phrase → Type 0
NumberedFrom n ps = (k : ℕ) (p : Phrase) → slice_get ps k ≡ Some p → p.number ≡ n + k

later_numbered : (n : ℕ) (p : Phrase) (ps : List Phrase) → NumberedFrom n (p ∷ ps) → NumberedFrom (suc n) ps
later_numbered n p ps numbered k q is = let number = numbered (suc k) q is in omega (arith, number)

one_above : (m : ℕ) (b : Bool) (p : Phrase) (ns : List ℕ) → m < p.number → Each (λ k. m < k) ns → Each (λ k. m < k) (cons_option (if b then Some p.number else None) ns)
one_above m true p ns low rest = (low, rest)
one_above m false p ns low rest = rest

all_above : (m n : ℕ) (ps : List Phrase) → m < n → NumberedFrom n ps → Each (λ k. m < k) (processes_of ps)
all_above m n [] low numbered = tt
all_above m n (p ∷ ps) low numbered =
    let number = numbered 0 p refl in
    one_above m (is_process p.node) p (processes_of ps) (omega (arith, low, number)) (all_above m (suc n) ps (omega (arith, low)) (later_numbered n p ps numbered))

one_grows : (b : Bool) (p : Phrase) (ns : List ℕ) → Each (λ k. p.number < k) ns → Grows ns → Grows (cons_option (if b then Some p.number else None) ns)
one_grows true p ns above grows = (above, grows)
one_grows false p ns above grows = grows

processes_grow : (n : ℕ) (ps : List Phrase) → NumberedFrom n ps → Grows (processes_of ps)
processes_grow n [] numbered = tt
processes_grow n (p ∷ ps) numbered =
    let number = numbered 0 p refl in
    one_grows (is_process p.node) p (processes_of ps) (all_above p.number (suc n) ps (omega (arith, number)) (later_numbered n p ps numbered)) (processes_grow (suc n) ps (later_numbered n p ps numbered))

-- the cells of the image
pub few_cells : (s : Set) (views : List View) (one : Linked) → IsCounted s.phrases → AreReentrant s.phrases → s.tables.cells ≡ cells_of s.phrases s.constants
    → length s.tables.processes ≡ length (processes_of s.phrases) → right.cell_count (image_with s views one) ≤ cell_count s.phrases s.constants
few_cells s views one counted reentrant cells long =
    let shared = rows_counted (rows_joined same_cell s.tables.cells) ∙ (ap length (rows_again same_cell cell_same s.tables.cells) ∙ (ap length cells ∙ flat_counted (λ (p : Phrase). cells_at s.phrases s.constants p p.node) s.phrases)) in
    let rows = rows_add s 0 s.tables.processes (processes_of s.phrases) long (λ q k is. subst (λ m. slice_get (processes_of s.phrases) m ≡ Some k) (let same : q ≡ 0 + q = omega arith in same) is) in
    let grows = processes_grow 0 s.phrases (λ k p is. let number = counted k p is in omega (arith, number)) in
    let added = processes_add s.phrases s.constants grows (each_member (λ q. are_several (processes_reaching s.phrases q) ≡ true → is_reentrant_at s.phrases q ≡ true) (unit_numbers s.phrases) reentrant) in
    omega (arith, shared, rows, added)
