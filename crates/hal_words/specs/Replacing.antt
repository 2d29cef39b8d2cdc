-- REPLACE: definitions are taken out, and each later name that one of them defines becomes the words of its text.
use Rattle.std.specs.Prelude.{ℕ, zero, suc, Bool, true, false, ◌||◌, List, [], ◌∷◌, ◌++◌, length, map, flat_map, Option, Some, None, bytes_eq, if◌then◌else◌}
use Rattle.hal_base.specs.declared.refusal.Place.{Place}
use Rattle.hal_words.specs.declared.reserved.Reserved.TheVariants as reserved
use Rattle.hal_words.specs.declared.word.Symbol.TheVariants as symbol
use Rattle.hal_words.specs.declared.word.Word.TheVariants as word
use Rattle.hal_words.specs.Pieces.{Piece, Is, Replacement, Open, Wrong}
use Rattle.hal_words.specs.Lines.{Item, item, Byte}
use Rattle.hal_words.specs.Items.{items}
use Rattle.hal_words.specs.Reserved.{look_up}

-- the definitions that hold, the latest first: a name and its text
abbrev pub Definitions : Type 0
Definitions = List (List ℕ × List ℕ)

-- the name and the text of a definition, from the four pieces behind REPLACE
abbrev pub defined : Piece → Piece → Piece → Piece → Option (List ℕ × List ℕ)
defined (Is (word.Name name)) (Is (word.Reserved reserved.By)) (Replacement text) (Is (word.Symbol symbol.Semicolon)) = Some (name, text)
defined a b c d = None

-- the same, from what follows REPLACE
abbrev pub definition : List Item → Option (List ℕ × List ℕ)
definition (a ∷ b ∷ c ∷ d ∷ rest) = defined a.piece b.piece c.piece d.piece
definition rest = None

-- a name and `(` follow REPLACE: it has parameters
abbrev pub are_parameters : Piece → Piece → Bool
are_parameters (Is (word.Name name)) (Is (word.Symbol symbol.LeftParenthesis)) = true
are_parameters a b = false

abbrev pub has_parameters : List Item → Bool
has_parameters (a ∷ b ∷ rest) = are_parameters a.piece b.piece
has_parameters rest = false

-- the words of a text that is used at this place, which is the place of each of them
abbrev pub text_items : Place → List ℕ → List Item
text_items place text = items [] 0 (map (λ b. Byte b place) text ++ Byte 10 place ∷ [])

abbrev pub is_among : List (List ℕ) → List ℕ → Bool
is_among [] name = false
is_among (first ∷ names) name = bytes_eq first name || is_among names name

-- a name that isn't the text of a definition stays, and so does every other word but REPLACE, which has no form within a text
abbrev pub left : Piece → Place → List Item
left (Is (word.Reserved reserved.Replace)) place = item (Wrong 207) place ∷ []
left piece place = item piece place ∷ []

-- the name of a word
abbrev pub name_of : Piece → Option (List ℕ)
name_of (Is (word.Name name)) = Some name
name_of piece = None

-- the text that stands in place of a name, unless the name stands in its own text
abbrev pub text_for : Definitions → List (List ℕ) → Option (List ℕ) → Option (List ℕ)
text_for definitions opened None = None
text_for definitions opened (Some name) = if is_among opened name then None else look_up definitions name

-- what stands in place of a piece without a text: itself, but a name in its own text breaks 205, and REPLACE has no form within a text
abbrev pub kept : List (List ℕ) → Piece → Place → Item
kept opened (Is (word.Name name)) place = if is_among opened name then item (Wrong 205) place else item (Is (word.Name name)) place
kept opened (Is (word.Reserved reserved.Replace)) place = item (Wrong 207) place
kept opened piece place = item piece place

-- the names that are opened within the text of a piece
abbrev pub opening : List (List ℕ) → Piece → List (List ℕ)
opening opened (Is (word.Name name)) = name ∷ opened
opening opened piece = opened

abbrev pub item_or : (List Item → List Item) → Option (List ℕ) → List Item → Place → List Item
item_or replace None alone place = alone
item_or replace (Some text) alone place = replace (text_items place text)

-- what stands in place of a word, where the names of `opened` are being replaced and at most `deep` more are opened: a name that is defined becomes the
-- words of its text, which are replaced in turn
abbrev pub within : ℕ → Definitions → List (List ℕ) → Item → List Item
within zero definitions opened one = kept opened one.piece one.place ∷ []
within (suc deep) definitions opened one =
    item_or (flat_map (within deep definitions (opening opened one.piece))) (text_for definitions opened (name_of one.piece)) (kept opened one.piece one.place ∷ []) one.place

-- a word of the file: no name is opened, and each definition opens once at most
abbrev pub replaced_word : Definitions → Item → List Item
replaced_word definitions one = within (length definitions) definitions [] one

-- a `"` whose text no definition has begins no word
abbrev pub as_word : Piece → Place → Item
as_word (Replacement text) place = item (Wrong 201) place
as_word Open place = item (Wrong 201) place
as_word piece place = item piece place

-- REPLACE without its form breaks 313 where it has parameters, else 207
abbrev pub formless : List Item → ℕ
formless rest = if has_parameters rest then 313 else 207

-- the word REPLACE
abbrev pub is_replace : Piece → Bool
is_replace (Is (word.Reserved reserved.Replace)) = true
is_replace piece = false

-- what a definition adds to those that hold, and how many items it has behind REPLACE
abbrev pub with_definition : Option (List ℕ × List ℕ) → Definitions → Definitions
with_definition None definitions = definitions
with_definition (Some one) definitions = one ∷ definitions

abbrev pub definition_size : Option (List ℕ × List ℕ) → ℕ
definition_size None = 0
definition_size (Some one) = 4

abbrev pub fault_of : Option (List ℕ × List ℕ) → ℕ → Place → List Item
fault_of None rule place = item (Wrong rule) place ∷ []
fault_of (Some one) rule place = []

-- the words of items with the definitions that hold, of which the first `skipped` belong to a definition
abbrev pub replaced : ℕ → Definitions → List Item → List Item
replaced skipped definitions [] = []
replaced (suc skipped) definitions (one ∷ rest) = replaced skipped definitions rest
replaced zero definitions (one ∷ rest) =
    if is_replace one.piece
    then fault_of (definition rest) (formless rest) one.place ++ replaced (definition_size (definition rest)) (with_definition (definition rest) definitions) rest
    else replaced_word definitions (as_word one.piece one.place) ++ replaced zero definitions rest
