-- What two lists have at the same places.
use Rattle.std.proofs.Common.{◌≡◌, ◌∙◌, ℕ, ◌+◌, ◌≤◌, zero, suc, nat_le, length, Bool, true, false, ◌&&◌, List, [], ◌∷◌, map, drop, Option, Some, None, slice_get, refl, sym, ap, arith}
use Rattle.std.proofs.lemmas.Bool.{leb-true, leb-false}
use Rattle.std.proofs.lemmas.List.{drop_all, length-map}
use Rattle.std.specs.Option.{option_map}
use Rattle.hal_phrases.specs.Phrases.{Node, Phrase}
use Rattle.hal_constants.specs.Known.{Known}
use Rattle.hal_templates.specs.Items.{same_entries, same_entry, same_from}
use Rattle.hal_templates.proofs.Repeated.{got}

-- one more on both sides
same_test : (m k : ℕ) (b c : Bool) → nat_le (suc m) (suc k) ≡ b → nat_le m k ≡ c → b ≡ c
same_test m k true true more less = refl
same_test m k false false more less = refl
same_test m k true false more less = absurd (omega (arith, leb-true (suc m) (suc k) more, leb-false m k less))
same_test m k false true more less = absurd (omega (arith, leb-false (suc m) (suc k) more, leb-true m k less))

never : (m : ℕ) (b : Bool) → nat_le (suc m) 0 ≡ b → b ≡ false
never m false is = refl
never m true is = absurd (omega (arith, leb-true (suc m) 0 is))

-- one more stands before
at_place : (ps : List Phrase) (vs : Known) (h : ℕ) (x : Node) (u : ℕ) (found : Option Node) (b c : Bool) → b ≡ c
    → ◌≡◌ {A = Bool} (elim found [ None ↦ false | Some y ↦ same_entry ps vs h x u y && b ]) (elim found [ None ↦ false | Some y ↦ same_entry ps vs h x u y && c ])
at_place ps vs h x u None b c is = refl
at_place ps vs h x u (Some y) b c is = ap (λ d. same_entry ps vs h x u y && d) is

one_before : (ps : List Phrase) (vs : Known) (h : ℕ) (xs : List Node) (u k : ℕ) (y : Node) (ys : List Node) → same_from ps vs h xs u (suc k) (y ∷ ys) ≡ same_from ps vs h xs u k ys
unfolding same_from
one_before ps vs h [] u k y ys = same_test (length ys) k (nat_le (suc (length ys)) (suc k)) (nat_le (length ys) k) refl refl
one_before ps vs h (x ∷ xs) u k y ys = at_place ps vs h x u (slice_get ys k) (same_from ps vs h xs u (suc (suc k)) (y ∷ ys)) (same_from ps vs h xs u (suc k) ys) (one_before ps vs h xs u (suc k) y ys)

from_the_first : (ps : List Phrase) (vs : Known) (h : ℕ) (xs : List Node) (u : ℕ) (ys : List Node) → same_from ps vs h xs u 0 ys ≡ same_entries ps vs h xs u ys
unfolding same_from same_entries
from_the_first ps vs h [] u [] = refl
from_the_first ps vs h [] u (y ∷ ys) = never (length ys) (nat_le (suc (length ys)) 0) refl
from_the_first ps vs h (x ∷ xs) u [] = refl
from_the_first ps vs h (x ∷ xs) u (y ∷ ys) = ap (λ b. same_entry ps vs h x u y && b) (one_before ps vs h xs u 0 y ys ∙ from_the_first ps vs h xs u ys)

-- a walk over both lists: so many of ours were compared, and so many of theirs
module _ {X Y : Type 0} (f : X → Node) (g : Y → Node) (ps : List Phrase) (vs : Known) (h u : ℕ) (ours : List X) (theirs : List Y) (i k : ℕ) where
  abbrev pub Walks : Type 0
  Walks = same_from ps vs h (map f (drop i ours)) u k (map g theirs) ≡ same_from ps vs h (map f ours) u 0 (map g theirs)

  abbrev pub all_same : Bool
  all_same = same_entries ps vs h (map f ours) u (map g theirs)

  -- one of ours, and what is found in its place
  abbrev found_same : X → List X → Option Node → Bool
  found_same x rest found = elim found [ None ↦ false | Some y ↦ same_entry ps vs h (f x) u y && same_from ps vs h (map f rest) u (suc k) (map g theirs) ]

  looked_up : (x : X) (rest : List X) (found : Option Y) → drop i ours ≡ x ∷ rest → slice_get theirs k ≡ found → Walks → found_same x rest (option_map g found) ≡ same_from ps vs h (map f ours) u 0 (map g theirs)
  unfolding same_from
  looked_up x rest found left there walks =
      sym (ap (found_same x rest) (got g theirs k ∙ ap (option_map g) there)) ∙ sym (ap (λ (xs : List X). same_from ps vs h (map f xs) u k (map g theirs)) left) ∙ walks

  -- ours have ended
  pub ended : length ours ≤ i → Walks → nat_le (length theirs) k ≡ all_same
  unfolding same_from
  ended past walks =
      ap (λ m. nat_le m k) (sym (length-map theirs g)) ∙ sym (ap (λ (xs : List X). same_from ps vs h (map f xs) u k (map g theirs)) (drop_all i ours past)) ∙ walks
      ∙ from_the_first ps vs h (map f ours) u (map g theirs)

  -- theirs have
  pub none_there : (x : X) (rest : List X) → drop i ours ≡ x ∷ rest → slice_get theirs k ≡ None → Walks → false ≡ all_same
  none_there x rest left there walks = looked_up x rest None left there walks ∙ from_the_first ps vs h (map f ours) u (map g theirs)

  -- the next of them is another
  pub another : (x : X) (rest : List X) (y : Y) → drop i ours ≡ x ∷ rest → slice_get theirs k ≡ Some y → same_entry ps vs h (f x) u (g y) ≡ false → Walks → false ≡ all_same
  another x rest y left there differs walks =
      sym (ap (λ b. b && same_from ps vs h (map f rest) u (suc k) (map g theirs)) differs) ∙ looked_up x rest (Some y) left there walks ∙ from_the_first ps vs h (map f ours) u (map g theirs)

  -- it is the same
  pub one_same : (x : X) (rest : List X) (y : Y) → drop i ours ≡ x ∷ rest → slice_get theirs k ≡ Some y → same_entry ps vs h (f x) u (g y) ≡ true → Walks
      → same_from ps vs h (map f rest) u (k + 1) (map g theirs) ≡ same_from ps vs h (map f ours) u 0 (map g theirs)
  one_same x rest y left there same walks =
      ap (λ m. same_from ps vs h (map f rest) u m (map g theirs)) (let next : k + 1 ≡ suc k = omega arith in next)
      ∙ sym (ap (λ b. b && same_from ps vs h (map f rest) u (suc k) (map g theirs)) same) ∙ looked_up x rest (Some y) left there walks
