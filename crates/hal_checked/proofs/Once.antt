-- Texts are those of one list of files.
use Rattle.std.proofs.Common.{◌≡◌, ℕ, ◌+◌, List, [], ◌∷◌, map, length, refl, ap, ap₂, sym, subst, ◌∙◌, arith}
use Rattle.hal_base.specs.declared.refusal.Place.{Place}
use Rattle.hal_words.specs.declared.word.Token.{Token}
use Rattle.hal_words.specs.declared.word.Word.{Word}
use Rattle.hal_words.specs.Pieces.{Piece, Is}
use Rattle.hal_words.specs.Lines.{Item}
use Rattle.hal_words.specs.Words.{IsCut, word_item}
use Rattle.hal_grammar.specs.Units.{File}
use Rattle.hal_grammar.specs.SpellsFiles.{SpellsFile}
use Rattle.hal_grammar.proofs.OneFile.{one_file}
use Rattle.hal_checked.specs.Reading.{IsRead, AreRead}

abbrev token_at : Word → Place → Token
token_at word place = record { word = word; place = place }

-- the word of a piece, or else this one
word_or : Word → Piece → Word
word_or other (Is word) = word
word_or other piece = other

-- the first item, or else this one, and the other items
first_or : Item → List Item → Item
first_or other [] = other
first_or other (one ∷ items) = one

others : List Item → List Item
others [] = []
others (one ∷ items) = items

same_token : (a b : Token) → word_item a ≡ word_item b → a ≡ b
unfolding word_or
same_token a b is = ap₂ token_at (ap (λ (one : Item). word_or a.word one.piece) is) (ap (λ (one : Item). one.place) is)

same_tokens : (xs ys : List Token) → map word_item xs ≡ map word_item ys → xs ≡ ys
unfolding first_or others
same_tokens [] [] is = refl
same_tokens [] (y ∷ ys) is = absurd (omega (arith, ap length is))
same_tokens (x ∷ xs) [] is = absurd (omega (arith, ap length is))
same_tokens (x ∷ xs) (y ∷ ys) is =
    ap₂ (λ (t : Token) (ts : List Token). t ∷ ts) (same_token x y (ap (first_or (word_item x)) is)) (same_tokens xs ys (ap others is))

-- a text has one list of words
pub one_cut : (number : ℕ) (text : List ℕ) (xs ys : List Token) → IsCut number text xs → IsCut number text ys → xs ≡ ys
one_cut number text xs ys one other = same_tokens xs ys (sym one.words ∙ other.words)

-- and is that of one file
pub one_read : (number : ℕ) (text : List ℕ) (f g : File) → IsRead number text f → IsRead number text g → f ≡ g
one_read number text f g one other =
    (one_file one.parsed.spelled (subst (λ (tokens : List Token). SpellsFile g tokens []) (one_cut number text other.tokens one.tokens other.cut one.cut) other.parsed.spelled)).0

-- texts are those of one list of files
pub one_list : (number : ℕ) (texts : List (List ℕ)) (fs gs : List File) → AreRead number texts fs → AreRead number texts gs → fs ≡ gs
one_list number [] [] [] one other = refl
one_list number [] (f ∷ fs) gs one other = absurd one
one_list number [] [] (g ∷ gs) one other = absurd other
one_list number (text ∷ texts) [] gs one other = absurd one
one_list number (text ∷ texts) (f ∷ fs) [] one other = absurd other
one_list number (text ∷ texts) (f ∷ fs) (g ∷ gs) one other =
    ap₂ (λ (x : File) (xs : List File). x ∷ xs) (one_read number text f g one.0 other.0) (one_list (number + 1) texts fs gs one.1 other.1)
