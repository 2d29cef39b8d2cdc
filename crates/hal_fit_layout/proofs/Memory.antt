-- The kinds of own places, where the places of a declaration lie among them.
use Rattle.std.specs.Prelude.{◌≡◌, ℕ, suc, ◌+◌, ◌==◌, not, nat_lt, Bool, true, false, ◌&&◌, List, [], ◌∷◌, ◌++◌, length, map, cond, Option, Some, None, slice_get, unwrap_or}
use Rattle.std.specs.List.{position_or_len}
use Rattle.std.proofs.Common.{refl, ap, ◌∙◌, arith}
use Rattle.std.proofs.lemmas.Bool.{ne_eqb, eq-eqb, lt-ltb}
use Rattle.std.proofs.lemmas.List.{length-append}
use Rattle.hal_values.specs.declared.value.Kind.{Kind}
use Rattle.hal_values.specs.declared.value.Kind.TheVariants as kind
use Rattle.hal_code.specs.Memory.{lies_from}
use Rattle.hal_code.specs.Sorts.{same_kind}
use Rattle.hal_meaning.specs.Places.{Place}
use Rattle.hal_meaning.specs.ReportNames.{first_place}
use Rattle.hal_fit_calls.specs.Each.{Each}
use Rattle.hal_fit_layout.specs.Owned.{IsOthers}

pub same_number : (n : ℕ) → (n == n) ≡ true
same_number n = eq-eqb n n refl

pub kind_alike : (k : Kind) → same_kind k k ≡ true
kind_alike kind.Single = refl
kind_alike kind.Double = refl
kind_alike (kind.Bits n) = same_number n
kind_alike (kind.Text n) = same_number n

-- one more number before memory
-- what is found in memory is of this kind, and what comes behind it is so too
abbrev pub found_so : Kind → Bool → Option (Option Kind) → Bool
found_so k later there = elim there [ None ↦ false | Some one ↦ elim one [ None ↦ false | Some found ↦ same_kind found k && later ] ]

further : (x : Option Kind) (memory : List (Option Kind)) (n : ℕ) (ks : List Kind) → lies_from (x ∷ memory) (suc n) ks ≡ lies_from memory n ks
further x memory n [] = refl
further x memory n (k ∷ ks) = ap (λ later. found_so k later (slice_get memory n)) (further x memory (suc n) ks)

abbrev pub known : List Kind → List (Option Kind)
known ks = map (λ (k : Kind). Some k) ks

both_so : (a b : Bool) → a ≡ true → b ≡ true → (a && b) ≡ true
both_so true b is also = also
both_so false b is also = absurd (cc)

-- kinds lie where they stand
at_first : (ks : List Kind) (more : List (Option Kind)) → lies_from (known ks ++ more) 0 ks ≡ true
at_first [] more = refl
at_first (k ∷ ks) more = both_so (same_kind k k) (lies_from (Some k ∷ (known ks ++ more)) 1 ks) (kind_alike k) (further (Some k) (known ks ++ more) 0 ks ∙ at_first ks more)

pub lies_behind : (before : List (Option Kind)) (ks : List Kind) (more : List (Option Kind)) → lies_from (before ++ (known ks ++ more)) (length before) ks ≡ true
lies_behind [] ks more = at_first ks more
lies_behind (x ∷ before) ks more = further x (before ++ (known ks ++ more)) (length before) ks ∙ lies_behind before ks more

-- the first place of a phrase stands behind those of others
one_more : (n : ℕ) → 1 + n ≡ suc n
one_more n = omega arith

position_behind : (before : List Place) (one : Place) (more : List Place) → Each (IsOthers one.owner) before → position_or_len (λ (x : Place). x.owner == one.owner) (before ++ (one ∷ more)) ≡ length before
position_behind [] one more others = ap (λ b. cond (not b) (1 + position_or_len (λ (x : Place). x.owner == one.owner) more) 0) (same_number one.owner)
position_behind (x ∷ before) one more others =
    ap (λ b. cond (not b) (1 + position_or_len (λ (y : Place). y.owner == one.owner) (before ++ (one ∷ more))) 0) (ne_eqb x.owner one.owner others.0)
    ∙ (ap (λ n. 1 + n) (position_behind before one more others.1) ∙ one_more (length before))

pub one_within : (before : List Place) (one : Place) (more : List Place) → nat_lt (length before) (length (before ++ (one ∷ more))) ≡ true
one_within before one more = let long = length-append before (one ∷ more) in lt-ltb (length before) (length (before ++ (one ∷ more))) (omega (arith, long))

pub first_behind : (before : List Place) (one : Place) (more : List Place) → Each (IsOthers one.owner) before → first_place (before ++ (one ∷ more)) one.owner ≡ length before
first_behind before one more others =
    ap (λ n. unwrap_or (cond (nat_lt n (length (before ++ (one ∷ more)))) (Some n) None) 0) (position_behind before one more others)
    ∙ ap (λ b. unwrap_or (cond b (Some (length before)) None) 0) (one_within before one more)
