-- Marks of units are what blocks reach by so many calls.
use Rattle.std.proofs.Common.{rules, ◌≡◌, ◌∙◌, ◌+◌, ◌==◌, ℕ, zero, suc, Bool, true, false, ◌||◌, List, [], ◌∷◌, Option, Some, None, map, length, refl, sym, ap, ap₂, arith, eq-eqb, eqb-true, ne_eqb}
use Rattle.std.specs.Option.{option_map}
use Rattle.std.specs.List.{list_any}
use Rattle.std.proofs.lemmas.Bool.{eqb-false}
use Rattle.hal_reach.specs.Places.{is_among, place_among, places}
use Rattle.hal_phrases.specs.Phrases.{Phrase}
use Rattle.hal_meaning.specs.Bodies.{callees, reaches_within}
use Rattle.hal_reach.specs.Marks.{callers, rounds, is_marked, themselves, reaching}
use Rattle.hal_reach.specs.Marks as marks

-- whether a number is in a list
abbrev pub Has : List ℕ → ℕ → Type 0
Has ns k = is_among ns k ≡ true

abbrev pub HasAll : List ℕ → List ℕ → Type 0
HasAll ns [] = Unit {0}
HasAll ns (k ∷ ks) = Has ns k × HasAll ns ks

pub record IsAt (f : ℕ → Bool) (ns : List ℕ) (k : ℕ) : Type 0 where
  pub place : ℕ
  pub found : place_among ns k ≡ Some place
  pub marked : is_marked (map f ns) place ≡ f k

pub same_number : (n k : ℕ) → (n == k) ≡ true → n ≡ k
same_number n k is = search rules

later : (f : ℕ → Bool) (n : ℕ) (ns : List ℕ) (k : ℕ) → (n == k) ≡ false → IsAt f ns k → IsAt f (n ∷ ns) k
unfolding place_among
later f n ns k is rest = record { place = suc rest.place; found = search (rules, is, rest.found); marked = rest.marked }

here : (f : ℕ → Bool) (n : ℕ) (ns : List ℕ) (k : ℕ) → (n == k) ≡ true → IsAt f (n ∷ ns) k
unfolding place_among
here f n ns k is = record { place = 0; found = search (rules, is); marked = ap f (same_number n k is) }

has_later : (n : ℕ) (ns : List ℕ) (k : ℕ) → (n == k) ≡ false → Has (n ∷ ns) k → Has ns k
has_later n ns k is has = search (rules, is, has)

either : (f : ℕ → Bool) (n : ℕ) (ns : List ℕ) (k : ℕ) → (Has ns k → IsAt f ns k) → Has (n ∷ ns) k → (b : Bool) → (n == k) ≡ b → IsAt f (n ∷ ns) k
either f n ns k rest has true is = here f n ns k is
either f n ns k rest has false is = later f n ns k is (rest (has_later n ns k is has))

pub at_place : (f : ℕ → Bool) (ns : List ℕ) (k : ℕ) → Has ns k → IsAt f ns k
at_place f [] k has = search rules
at_place f (n ∷ ns) k has = either f n ns k (at_place f ns k) has (n == k) refl

-- numbers of a list are marked where they are looked up by their places
pub any_marked : (f : ℕ → Bool) (ns ks : List ℕ) → HasAll ns ks → list_any (is_marked (map f ns)) (places ns ks) ≡ list_any f ks
any_marked f ns [] has = refl
any_marked f ns (k ∷ ks) has =
    let one : IsAt f ns k = at_place f ns k has.0 in
    search (rules, one.found, one.marked, any_marked f ns ks has.1)

-- a place in a list that one more number stands before
pub further : (n : ℕ) (o : Option ℕ) → option_map (λ i. n + i) (option_map suc o) ≡ option_map (λ i. (n + 1) + i) o
further n None = refl
further n (Some i) = ap Some (omega (arith))

-- units as they are among the numbers of all
abbrev pub IsRight : List Phrase → List ℕ → marks.Unit → Type 0
IsRight ps ns u = (u.callees ≡ places ns (callees ps u.number)) × HasAll ns (callees ps u.number)

abbrev pub AreRight : List Phrase → List ℕ → List marks.Unit → Type 0
AreRight ps ns [] = Unit {0}
AreRight ps ns (u ∷ us) = IsRight ps ns u × AreRight ps ns us

abbrev pub numbers : List marks.Unit → List ℕ
numbers us = map (λ (u : marks.Unit). u.number) us

-- whether a block reaches one of these by at most so many calls
abbrev pub reaches_some : ℕ → List Phrase → List ℕ → ℕ → Bool
reaches_some n ps blocks from = list_any (reaches_within n ps from) blocks

-- the units that do
abbrev pub row : List Phrase → ℕ → List ℕ → List ℕ → List Bool
row ps n blocks ns = map (reaches_some n ps blocks) ns

-- no number passes
none_reached : (ks : List ℕ) → list_any (λ (k : ℕ). false) ks ≡ false
none_reached [] = refl
none_reached (k ∷ ks) = none_reached ks

-- either of two tests
four : (a b c d : Bool) → ((a || b) || (c || d)) ≡ ((a || c) || (b || d))
four true b c d = refl
four false true true d = refl
four false true false d = refl
four false false c d = refl

pub either_any : {X : Type 0} (f g : X → Bool) (xs : List X) → list_any (λ x. f x || g x) xs ≡ (list_any f xs || list_any g xs)
either_any f g [] = refl
either_any f g (x ∷ xs) = ap (λ b. (f x || g x) || b) (either_any f g xs) ∙ four (f x) (g x) (list_any f xs) (list_any g xs)

-- numbers are the same in either order
same_so : (n k : ℕ) (b : Bool) → (n == k) ≡ b → b ≡ (k == n)
same_so n k true is = sym (eq-eqb k n (sym (eqb-true n k is)))
same_so n k false is = sym (ne_eqb k n (λ same. eqb-false n k is (sym same)))

same_either_way : (n k : ℕ) → (n == k) ≡ (k == n)
same_either_way n k = same_so n k (n == k) refl

-- one more call: a block is one of these, or one that it calls reaches one of them
further_call : (ps : List Phrase) (m from : ℕ) (blocks : List ℕ) → (is_among blocks from || list_any (reaches_some m ps blocks) (callees ps from)) ≡ reaches_some (suc m) ps blocks from
further_call ps m from [] = none_reached (callees ps from)
further_call ps m from (b ∷ bs) =
    ap₂ (λ x y. (x || is_among bs from) || y) (same_either_way b from) (either_any (λ k. reaches_within m ps k b) (reaches_some m ps bs) (callees ps from))
    ∙ four (from == b) (is_among bs from) (list_any (λ k. reaches_within m ps k b) (callees ps from)) (list_any (reaches_some m ps bs) (callees ps from))
    ∙ ap (λ x. reaches_within (suc m) ps from b || x) (further_call ps m from bs)

called_by : (ps : List Phrase) (m : ℕ) (ns blocks : List ℕ) (us : List marks.Unit) → AreRight ps ns us
    → callers us blocks (row ps m blocks ns) ≡ row ps (suc m) blocks (numbers us)
called_by ps m ns blocks [] right = refl
called_by ps m ns blocks (u ∷ us) right =
    let one : list_any (is_marked (row ps m blocks ns)) u.callees ≡ list_any (reaches_some m ps blocks) (callees ps u.number) =
    ap (list_any (is_marked (row ps m blocks ns))) right.0.0 ∙ any_marked (reaches_some m ps blocks) ns (callees ps u.number) right.0.1 in
    ap₂ (λ (x : Bool) (xs : List Bool). x ∷ xs) (ap (λ b. is_among blocks u.number || b) one ∙ further_call ps m u.number blocks) (called_by ps m ns blocks us right.1)

-- so many rounds more
after : (ps : List Phrase) (blocks : List ℕ) (us : List marks.Unit) → AreRight ps (numbers us) us → (n m : ℕ)
    → rounds n us blocks (row ps m blocks (numbers us)) ≡ row ps (n + m) blocks (numbers us)
unfolding rounds
after ps blocks us right zero m = ap (λ i. row ps i blocks (numbers us)) (omega (arith))
after ps blocks us right (suc n) m =
    ap (rounds n us blocks) (called_by ps m (numbers us) blocks us right)
    ∙ after ps blocks us right n (suc m)
    ∙ ap (λ i. row ps i blocks (numbers us)) (omega (arith))

-- no call at all
is_itself : (ps : List Phrase) (from : ℕ) (blocks : List ℕ) → is_among blocks from ≡ reaches_some 0 ps blocks from
is_itself ps from [] = refl
is_itself ps from (b ∷ bs) = ap₂ (λ x y. x || y) (same_either_way b from) (is_itself ps from bs)

themselves_within : (ps : List Phrase) (blocks : List ℕ) (us : List marks.Unit) → themselves us blocks ≡ row ps 0 blocks (numbers us)
themselves_within ps blocks [] = refl
themselves_within ps blocks (u ∷ us) = ap₂ (λ (x : Bool) (xs : List Bool). x ∷ xs) (is_itself ps u.number blocks) (themselves_within ps blocks us)

-- as many rounds as there are units
pub reaching_within : (ps : List Phrase) (blocks : List ℕ) (us : List marks.Unit) → AreRight ps (numbers us) us → reaching us blocks ≡ row ps (length us) blocks (numbers us)
reaching_within ps blocks us right =
    ap (rounds (length us) us blocks) (themselves_within ps blocks us)
    ∙ after ps blocks us right (length us) 0
    ∙ ap (λ i. row ps i blocks (numbers us)) (omega (arith))
