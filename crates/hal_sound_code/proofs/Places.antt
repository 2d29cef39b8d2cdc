-- Own places hold what fits them, whatever is put there.
use Rattle.std.specs.Prelude.{ℕ, zero, suc, ◌+◌, ◌≡◌, take, drop, ◌++◌, true, false, ◌&&◌, List, [], ◌∷◌, Option, Some, None, slice_get, slice_set}
use Rattle.std.proofs.Common.{refl, sym, ap, subst, ◌∙◌, arith}
use Rattle.std.proofs.lemmas.Bool.{eqb-true, and_parts}
use Rattle.hal_values.specs.declared.value.Kind.{Kind}
use Rattle.hal_values.specs.declared.value.Kind.TheVariants as kind
use Rattle.hal_values.specs.declared.value.Value.{Value}
use Rattle.hal_states.specs.Spots.{Spot, Held, Holds, Refers, held_in, referred_to}
use Rattle.hal_code.specs.declared.row.OwnPlace.{OwnPlace}
use Rattle.hal_code.specs.declared.row.OwnPlace.TheVariants as place
use Rattle.hal_code.specs.Images.{kinds_of}
use Rattle.hal_code.specs.Cores.{Setting}
use Rattle.hal_code.specs.Addressing.{cleared}
use Rattle.hal_code.specs.Sorts.{sort_of, same_kind}
use Rattle.hal_code.specs.Memory.{lies_from, own_memory, referred_shape}
use Rattle.hal_sound_code.specs.Lying.{LieAt, sort_of_value, AreHeld}

-- kinds that are the same are equal
pub kind_same : (k l : Kind) → same_kind k l ≡ true → k ≡ l
kind_same kind.Single kind.Single e = refl
kind_same kind.Double kind.Double e = refl
kind_same (kind.Bits m) (kind.Bits n) e = ap kind.Bits (eqb-true m n e)
kind_same (kind.Text m) (kind.Text n) e = ap kind.Text (eqb-true m n e)
kind_same kind.Single kind.Double e = absurd (cc)
kind_same kind.Single (kind.Bits n) e = absurd (cc)
kind_same kind.Single (kind.Text n) e = absurd (cc)
kind_same kind.Double kind.Single e = absurd (cc)
kind_same kind.Double (kind.Bits n) e = absurd (cc)
kind_same kind.Double (kind.Text n) e = absurd (cc)
kind_same (kind.Bits m) kind.Single e = absurd (cc)
kind_same (kind.Bits m) kind.Double e = absurd (cc)
kind_same (kind.Bits m) (kind.Text n) e = absurd (cc)
kind_same (kind.Text m) kind.Single e = absurd (cc)
kind_same (kind.Text m) kind.Double e = absurd (cc)
kind_same (kind.Text m) (kind.Bits n) e = absurd (cc)

-- the first of some kinds that lie in memory stands there, and the others behind it
pub record First (memory : List (Option Kind)) (number : ℕ) (k : Kind) (ks : List Kind) : Type 0 where
  pub there : slice_get memory number ≡ Some (Some k)
  pub others : lies_from memory (suc number) ks ≡ true

pub first_lies : (memory : List (Option Kind)) (number : ℕ) (k : Kind) (ks : List Kind) → lies_from memory number (k ∷ ks) ≡ true → First memory number k ks
first_lies memory number k ks e = at_first (slice_get memory number) refl e
  where
    alike : (found : Kind) → slice_get memory number ≡ Some (Some found) → found ≡ k → slice_get memory number ≡ Some (Some k)
    alike found is same = is ∙ ap (λ one. Some (Some one)) same

    at_first : (o : Option (Option Kind)) → slice_get memory number ≡ o
        → (elim o [ None ↦ false | Some there ↦ elim there [ None ↦ false | Some found ↦ same_kind found k && lies_from memory (suc number) ks ] ]) ≡ true → First memory number k ks
    at_first None is h = absurd (cc)
    at_first (Some None) is h = absurd (cc)
    at_first (Some (Some found)) is h = record {
      there = alike found is (kind_same found k (and_parts (same_kind found k) (lies_from memory (suc number) ks) h).0);
      others = (and_parts (same_kind found k) (lies_from memory (suc number) ks) h).1;
    }

-- a place of a kind holds a value of its sort
pub held_value : (s : Setting) (places : List OwnPlace) (held : List Held) (number : ℕ) (k : Kind) → AreHeld s places held → slice_get (own_memory places) number ≡ Some (Some k) → sort_of_value (held_in (slice_get held number)) ≡ sort_of k
held_value s [] held number k are e = absurd (cc)
held_value s (one ∷ places) [] number k are e = absurd (are)
held_value s (place.Data l initial ∷ places) (Holds v ∷ held) zero k are e = are.0 ∙ ap sort_of (let same : l ≡ k = cc in same)
held_value s (place.Data l initial ∷ places) (Refers at ∷ held) zero k are e = absurd (are.0)
held_value s (place.Reference shape ∷ places) (h ∷ held) zero k are e = absurd (cc)
held_value s (one ∷ places) (h ∷ held) (suc number) k are e = held_value s places held number k are.1 e

-- it may hold another one
pub held_set : (s : Setting) (places : List OwnPlace) (held : List Held) (number : ℕ) (k : Kind) (v : Value) → AreHeld s places held → slice_get (own_memory places) number ≡ Some (Some k) → sort_of_value v ≡ sort_of k
    → AreHeld s places (slice_set held number (Holds v))
held_set s [] held number k v are e is = absurd (cc)
held_set s (one ∷ places) [] number k v are e is = absurd (are)
held_set s (place.Data l initial ∷ places) (h ∷ held) zero k v are e is = (is ∙ ap sort_of (let same : k ≡ l = cc in same), are.1)
held_set s (place.Reference shape ∷ places) (h ∷ held) zero k v are e is = absurd (cc)
held_set s (one ∷ places) (h ∷ held) (suc number) k v are e is = (are.0, held_set s places held number k v are.1 e is)

-- a reference leads to the cells of its shape
pub held_spot : (s : Setting) (places : List OwnPlace) (held : List Held) (number shape : ℕ) → AreHeld s places held → referred_shape places number ≡ Some shape → LieAt s (referred_to (slice_get held number)) (kinds_of s.image shape)
held_spot s [] held number shape are e = absurd (cc)
held_spot s (one ∷ places) [] number shape are e = absurd (are)
held_spot s (place.Data l initial ∷ places) (h ∷ held) zero shape are e = absurd (cc)
held_spot s (place.Reference there ∷ places) (Holds v ∷ held) zero shape are e = absurd (are.0)
held_spot s (place.Reference there ∷ places) (Refers at ∷ held) zero shape are e = subst (λ n. LieAt s at (kinds_of s.image n)) (let same : there ≡ shape = cc in same) are.0
held_spot s (one ∷ places) (h ∷ held) (suc number) shape are e = held_spot s places held number shape are.1 e

-- it may lead to others
pub held_bound : (s : Setting) (places : List OwnPlace) (held : List Held) (number shape : ℕ) (at : Spot) → AreHeld s places held → referred_shape places number ≡ Some shape → LieAt s at (kinds_of s.image shape)
    → AreHeld s places (slice_set held number (Refers at))
held_bound s [] held number shape at are e leads = absurd (cc)
held_bound s (one ∷ places) [] number shape at are e leads = absurd (are)
held_bound s (place.Data l initial ∷ places) (h ∷ held) zero shape at are e leads = absurd (cc)
held_bound s (place.Reference there ∷ places) (h ∷ held) zero shape at are e leads = (subst (λ n. LieAt s at (kinds_of s.image n)) (let same : shape ≡ there = cc in same) leads, are.1)
held_bound s (one ∷ places) (h ∷ held) (suc number) shape at are e leads = (are.0, held_bound s places held number shape at are.1 e leads)

-- places hold again what they held at first
held_taken : (s : Setting) (places : List OwnPlace) (firsts held : List Held) (count : ℕ) → AreHeld s places firsts → AreHeld s places held → AreHeld s places (take count firsts ++ drop count held)
held_taken s [] [] [] zero first are = tt
held_taken s [] [] [] (suc count) first are = tt
held_taken s [] (h ∷ hs) held count first are = absurd (first)
held_taken s [] [] (h ∷ hs) count first are = absurd (are)
held_taken s (one ∷ places) [] held count first are = absurd (first)
held_taken s (one ∷ places) (f ∷ firsts) [] count first are = absurd (are)
held_taken s (one ∷ places) (f ∷ firsts) (h ∷ held) zero first are = are
held_taken s (one ∷ places) (f ∷ firsts) (h ∷ held) (suc count) first are = (first.0, held_taken s places firsts held count first.1 are.1)

held_mixed : (s : Setting) (places : List OwnPlace) (firsts held : List Held) (number count : ℕ) → AreHeld s places firsts → AreHeld s places held → AreHeld s places (take number held ++ (take count (drop number firsts) ++ drop count (drop number held)))
held_mixed s places firsts held zero count first are = held_taken s places firsts held count first are
held_mixed s [] [] [] (suc number) zero first are = tt
held_mixed s [] [] [] (suc number) (suc count) first are = tt
held_mixed s [] (h ∷ hs) held (suc number) count first are = absurd (first)
held_mixed s [] [] (h ∷ hs) (suc number) count first are = absurd (are)
held_mixed s (one ∷ places) [] held (suc number) count first are = absurd (first)
held_mixed s (one ∷ places) (f ∷ firsts) [] (suc number) count first are = absurd (are)
held_mixed s (one ∷ places) (f ∷ firsts) (h ∷ held) (suc number) count first are = (are.0, held_mixed s places firsts held number count first.1 are.1)

drop_none : {T : Type 0} (k : ℕ) → ◌≡◌ {A = List T} (drop k []) []
drop_none zero = refl
drop_none (suc k) = refl

drop_more : {T : Type 0} (m n : ℕ) (xs : List T) → drop n (drop m xs) ≡ drop (m + n) xs
drop_more zero n xs =
    let same : n ≡ zero + n = omega arith in
    ap (λ k. drop k xs) same
drop_more (suc m) n [] = drop_none n ∙ sym (drop_none (suc m + n))
drop_more (suc m) n (x ∷ xs) = drop_more m n xs ∙ ap (λ k. drop k (x ∷ xs)) (let same : suc (m + n) ≡ suc m + n = omega arith in same)

pub held_cleared : (s : Setting) (places : List OwnPlace) (held : List Held) (number count : ℕ) → AreHeld s places s.firsts → AreHeld s places held → AreHeld s places (cleared s.firsts number count held)
held_cleared s places held number count first are =
    subst (λ rest. AreHeld s places (take number held ++ (take count (drop number s.firsts) ++ rest))) (drop_more number count held) (held_mixed s places s.firsts held number count first are)
