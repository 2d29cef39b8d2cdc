-- The words of a file, and the rules that its text breaks.
use Rattle.std.specs.Prelude.{◌≡◌, ℕ, ◌≤◌, ◌⊎◌, Bool, true, false, ◌&&◌, not, List, [], ◌∷◌, length, map, Contains, Some, slice_get, if◌then◌else◌}
use Rattle.hal_base.specs.declared.refusal.Place.{Place}
use Rattle.hal_base.specs.declared.limits.TheConstants.{TOKEN_LIMIT}
use Rattle.hal_words.specs.declared.reserved.Reserved.TheVariants as reserved
use Rattle.hal_words.specs.declared.word.Word.TheVariants as word
use Rattle.hal_words.specs.declared.word.Token.{Token}
use Rattle.hal_words.specs.Pieces.{Piece, Is, Wrong}
use Rattle.hal_words.specs.Lines.{Item, item}
use Rattle.hal_words.specs.Items.{file_items}
use Rattle.hal_words.specs.Replacing.{replaced}

-- the items of a file after replacement: its words, and what is wrong in it
abbrev pub file_words : ℕ → List ℕ → List Item
file_words unit text = replaced 0 [] (file_items unit text)

abbrev pub is_do : Piece → Bool
is_do (Is (word.Reserved reserved.Do)) = true
is_do piece = false

abbrev pub is_for : Piece → Bool
is_for (Is (word.Reserved reserved.For)) = true
is_for piece = false

abbrev pub is_temporary : Piece → Bool
is_temporary (Is (word.Reserved reserved.Temporary)) = true
is_temporary piece = false

-- the places at which TEMPORARY stands and doesn't stand directly behind DO FOR; the flags tell whether DO FOR, and whether DO, stands directly before
abbrev pub misplaced : Bool → Bool → List Item → List Place
misplaced after_do_for after_do [] = []
misplaced after_do_for after_do (one ∷ rest) =
    if is_temporary one.piece && not after_do_for then one.place ∷ misplaced (after_do && is_for one.piece) (is_do one.piece) rest
    else misplaced (after_do && is_for one.piece) (is_do one.piece) rest

-- the word as an item
abbrev pub word_item : Token → Item
word_item token = item (Is token.word) token.place

-- the words of a text
pub record IsCut (unit : ℕ) (text : List ℕ) (tokens : List Token) : Type 0 where
  pub words : file_words unit text ≡ map word_item tokens
  pub few : length tokens ≤ TOKEN_LIMIT
  pub temporaries : misplaced false false (file_words unit text) ≡ []

-- the text breaks the rule at the place: a fault stands among its words, or it has a word after the limit, or a TEMPORARY out of place
abbrev pub BreaksWordRule : ℕ → List ℕ → ℕ → Place → Type 0
BreaksWordRule unit text rule place =
    Contains (file_words unit text) (item (Wrong rule) place)
    ⊎ ((one : Item) × (slice_get (file_words unit text) TOKEN_LIMIT ≡ Some one) × (rule ≡ 206) × (place ≡ one.place))
    ⊎ (Contains (misplaced false false (file_words unit text)) place × (rule ≡ 324))
