-- Names are equal where their texts are, so a map finds a name by its text.
use Rattle.std.proofs.Common.{◌≡◌, ℕ, List, [], ◌∷◌, length, take, Bool, cond, Some, refl, sym, ◌∙◌, ap, Decides}
use Rattle.std.specs.Prelude.{bytes_eq}
use Rattle.std.specs.Map.{lookup}
use Rattle.std.specs.Cmp.{IsEquivalence}
use Rattle.std.specs.Cmp.Lexicographic.{bytes_decides}
use Rattle.std.proofs.Math.Seq.{take-append_seam}
use Rattle.std.proofs.lemmas.Bool.Decides.{same_from_decides, Decides-and, Decides-eqb, Decides-like}
use Rattle.std.proofs.lemmas.Slice.Eq.{bytes_eq-Decides}
use Rattle.hal_words.specs.Rooms.{filled}
use Rattle.hal_words.specs.contracts.name.NamePartialEq.TheImpl as derived

-- names with the same room and the same length
same_text : (a b : List ℕ) → (filled 32 a ≡ filled 32 b) × (length a ≡ length b) → a ≡ b
same_text a b same =
    sym (take-append_seam a _) ∙ ap (λ room. take (length a) room) same.0 ∙ ap (λ n. take n (filled 32 b)) same.1 ∙ take-append_seam b _

pub eq-Decides : (a b : List ℕ) → Decides ((derived.eq-value).it a b) (a ≡ b)
eq-Decides a b =
    Decides-like _ (same_text a b) (λ e. (ap (filled 32) e, ap length e))
    (Decides-and _ _ (bytes_decides (filled 32 a) (filled 32 b)) (Decides-eqb (length a) (length b)))

pub eq-same : (a b : List ℕ) → (derived.eq-value).it a b ≡ bytes_eq a b
eq-same a b = same_from_decides _ _ (eq-Decides a b) (bytes_eq-Decides a b)

pub eq-flipped : (a b : List ℕ) → (derived.eq-value).it a b ≡ bytes_eq b a
eq-flipped a b = same_from_decides _ _ (eq-Decides a b) (Decides-like _ sym sym (bytes_eq-Decides b a))

-- a map is searched in the same way by tests that say the same
pub lookup-same : {K X : Type 0} (f g : K → Bool) → ((key : K) → f key ≡ g key) → (entries : List (K × X)) → lookup f entries ≡ lookup g entries
lookup-same f g same [] = refl
lookup-same f g same (entry ∷ entries) =
    ap (λ b. cond b (Some entry.1) (lookup f entries)) (same entry.0) ∙ ap (λ rest. cond (g entry.0) (Some entry.1) rest) (lookup-same f g same entries)

pub names_equiv : IsEquivalence (λ a b. (derived.eq-value).it a b)
names_equiv = record {
  refl = λ a. (eq-Decides a a).1 refl;
  symm = λ a b. eq-same a b ∙ sym (eq-flipped b a);
  congr = λ a b other same. ap (λ (n : List ℕ). (derived.eq-value).it n other) ((eq-Decides a b).0 same);
}
