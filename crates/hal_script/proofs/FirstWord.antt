-- What the first blank says of a text's words.
use Rattle.std.proofs.Common.{◌≡◌, ℕ, zero, suc, ◌+◌, ◌<◌, ◌≤◌, Bool, true, false, not, cond, List, [], ◌∷◌, length, take, drop, refl, ap, ◌∙◌, sym, arith, nat_eq, nat_lt, filter, Some, None}
use Rattle.std.proofs.lemmas.List.{drop_all}
use Rattle.std.specs.List.{position, position_or_len, slice_split, after_first}
use Rattle.std.proofs.lemmas.Bool.Decides.{nat_tests}
use Rattle.hal_script.specs.Words.{is_blank, words, behind_word}
use Rattle.hal_base.proofs.Parts.{slice_split-none, slice_split-some}

abbrev full : List (List ℕ) → List (List ℕ)
full parts = filter (λ (part : List ℕ). not (nat_eq (length part) 0)) parts

full-cons : (part : List ℕ) (parts : List (List ℕ)) → 0 < length part → full (part ∷ parts) ≡ part ∷ full parts
full-cons [] parts l = absurd (omega (arith, l))
full-cons (b ∷ part) parts l = grind (arith, nat_tests)

full-empty : (part : List ℕ) (parts : List (List ℕ)) → length part ≡ 0 → full (part ∷ parts) ≡ full parts
full-empty [] parts e = refl
full-empty (b ∷ part) parts e = absurd (omega (arith, e))

pub words-last : (text : List ℕ) → position is_blank text ≡ None → 0 < length text → words text ≡ text ∷ []
words-last text e l = ap full (slice_split-none is_blank text e) ∙ full-cons text [] l

pub words-first : (text : List ℕ) (end : ℕ) → position is_blank text ≡ Some end → 0 < length (take end text) → words text ≡ take end text ∷ words (drop (end + 1) text)
words-first text end e l = ap full (slice_split-some is_blank text end e) ∙ full-cons (take end text) (slice_split is_blank (drop (end + 1) text)) l

pub words-blank : (text : List ℕ) (end : ℕ) → position is_blank text ≡ Some end → length (take end text) ≡ 0 → words text ≡ words (drop (end + 1) text)
words-blank text end e l = ap full (slice_split-some is_blank text end e) ∙ full-empty (take end text) (slice_split is_blank (drop (end + 1) text)) l

ends_at : (n m end : ℕ) → cond (nat_lt n m) (Some n) None ≡ Some end → n ≡ end
ends_at n m end e = grind (arith, nat_tests)

ends_nowhere : (n m : ℕ) → cond (nat_lt n m) (Some n) None ≡ None → m ≤ n
ends_nowhere n m e = grind (arith, nat_tests)

-- the first byte is one of the word
behind-begun : (b : ℕ) (text : List ℕ) (end : ℕ) → position_or_len is_blank (b ∷ text) ≡ end → 0 < end → behind_word (b ∷ text) ≡ drop (end + 1) (b ∷ text)
behind-begun b text end at some = by (is_blank b) at where
  by : (t : Bool) → cond (not t) (1 + position_or_len is_blank text) 0 ≡ end → cond t (behind_word text) (after_first is_blank text) ≡ drop (end + 1) (b ∷ text)
  by true none = absurd (omega (arith, none, some))
  by false later = let same : suc (position_or_len is_blank text + 1) ≡ end + 1 = omega (arith, later) in ap (λ n. drop n (b ∷ text)) same

-- the first byte is a blank
behind-blank : (b : ℕ) (text : List ℕ) → position_or_len is_blank (b ∷ text) ≡ 0 → behind_word (b ∷ text) ≡ behind_word text
behind-blank b text at = by (is_blank b) at where
  by : (t : Bool) → cond (not t) (1 + position_or_len is_blank text) 0 ≡ 0 → cond t (behind_word text) (after_first is_blank text) ≡ behind_word text
  by true none = refl
  by false later = absurd (omega (arith, later))

pub behind_word-last : (text : List ℕ) → position is_blank text ≡ None → 0 < length text → behind_word text ≡ []
behind_word-last [] e l = absurd (omega (arith, l))
behind_word-last (b ∷ text) e l =
    let long = ends_nowhere (position_or_len is_blank (b ∷ text)) (length (b ∷ text)) e in
    behind-begun b text (position_or_len is_blank (b ∷ text)) refl (omega (arith, long, l)) ∙ drop_all (position_or_len is_blank (b ∷ text) + 1) (b ∷ text) (omega (arith, long))

pub behind_word-first : (text : List ℕ) (end : ℕ) → position is_blank text ≡ Some end → 0 < length (take end text) → behind_word text ≡ drop (end + 1) text
behind_word-first [] end e l = absurd (cc)
behind_word-first (b ∷ text) zero e l = absurd (omega (arith, l))
behind_word-first (b ∷ text) (suc end) e l = behind-begun b text (suc end) (ends_at (position_or_len is_blank (b ∷ text)) (length (b ∷ text)) (suc end) e) (omega arith)

pub behind_word-blank : (text : List ℕ) (end : ℕ) → position is_blank text ≡ Some end → length (take end text) ≡ 0 → behind_word text ≡ behind_word (drop (end + 1) text)
behind_word-blank [] end e l = absurd (cc)
behind_word-blank (b ∷ text) zero e l = behind-blank b text (ends_at (position_or_len is_blank (b ∷ text)) (length (b ∷ text)) zero e)
behind_word-blank (b ∷ text) (suc end) e l = absurd (omega (arith, l))
