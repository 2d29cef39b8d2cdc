-- The words of a text get numbers, one after another.
use Rattle.std.proofs.Common.{◌≡◌, ◌<◌, ◌≤◌, ℕ, List, [], ◌∷◌, ◌++◌, ◌+◌, length, get_or, take, slice_get, Some, refl, ap, subst}
use Rattle.std.proofs.lemmas.List.{take_all, take_more}
use Rattle.hal_words.specs.declared.word.Word.{Word}
use Rattle.hal_lexer.specs.Summary.{Keeps, Numbered}
use Rattle.hal_lexer.proofs.Growing.{numbered_more}

numbered_last : (words text : List Word) (numbers : List ℕ) (one : Word) (n : ℕ) → Numbered words text numbers → slice_get words n ≡ Some one → Numbered words (text ++ one ∷ []) (numbers ++ n ∷ [])
numbered_last words [] numbers one n is at = rw is (n, [], refl, at, refl)
numbered_last words (first ∷ text) numbers one n is at =
    (is.0, is.1 ++ n ∷ [], ap (λ (l : List ℕ). l ++ n ∷ []) is.2, is.3, numbered_last words text is.1 one n is.4 at)

pub numbered_next : (words more text : List Word) (i : ℕ) (numbers longer : List ℕ) (one : Word) (n : ℕ) → Keeps words more → i < length text → one ≡ get_or text i one → Numbered words (take i text) numbers → slice_get more n ≡ Some one → longer ≡ numbers ++ n ∷ []
    → Numbered more (take (i + 1) text) longer
numbered_next words more text i numbers longer one n keeps within is before at added =
    rw (take_more text i one within, ← is, added) (numbered_last more (take i text) numbers one n (numbered_more words more (take i text) numbers keeps before) at)

pub numbered_all : (words text : List Word) (i : ℕ) (numbers : List ℕ) → length text ≤ i → Numbered words (take i text) numbers → Numbered words text numbers
numbered_all words text i numbers past is = subst (λ (l : List Word). Numbered words l numbers) (take_all i text past) is
