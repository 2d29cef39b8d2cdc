-- What the words of all texts come to. Each word has a number, which is its place in the list of them.
use Rattle.std.specs.Prelude.{◌≡◌, ℕ, false, List, [], ◌∷◌, ◌++◌, All, length, map, reverse, slice_get, Option, Some, None, ⊤}
use Rattle.std.specs.Option.{option_map}
use Rattle.hal_words.specs.declared.word.Symbol.TheVariants as symbol
use Rattle.hal_words.specs.declared.word.Word.{Word}
use Rattle.hal_words.specs.declared.word.Word.TheVariants as word
use Rattle.hal_words.specs.Pieces.{Is}
use Rattle.hal_words.specs.Replacing.{Definitions, is_replace}
use Rattle.hal_words.specs.Reserved.{look_up}
use Rattle.hal_lexer.specs.declared.child.Child.{Child}
use Rattle.hal_lexer.specs.declared.child.Child.TheVariants as child
use Rattle.hal_lexer.specs.declared.comes.Given.{Given}
use Rattle.hal_lexer.specs.declared.comes.Given.TheVariants as given
use Rattle.hal_lexer.specs.declared.comes.Comes.{Comes}
use Rattle.hal_lexer.specs.declared.comes.Comes.TheVariants as comes
use Rattle.hal_lexer.specs.declared.comes.Parts.{Parts}
use Rattle.hal_lexer.specs.declared.comes.Parts.TheVariants as parts
use Rattle.hal_lexer.specs.declared.summary.Cut.{Cut}
use Rattle.hal_lexer.specs.declared.summary.Cut.TheVariants as cut
use Rattle.hal_lexer.specs.declared.order.Entry.{Entry}
use Rattle.hal_lexer.specs.Compiled.{Table, IsCompiled, as_child, word_children}
use Rattle.hal_lexer.specs.Defined.{found}
use Rattle.hal_lexer.specs.Parts.{AreParts}

-- a word, and a semicolon where there is none
abbrev pub word_or : Option Word → Word
word_or None = word.Symbol symbol.Semicolon
word_or (Some one) = one

-- the name that a word is
abbrev pub name_in : Option Word → List ℕ
name_in (Some (word.Name name)) = name
name_in other = []

-- a part as a child
abbrev pub child_of : List Word → Given → Child
child_of words (given.Word n) = child.Word (word_or (slice_get words n))
child_of words (given.Name m) = child.Name m

-- what is left of a walk, as lists of children
abbrev pub children_of : List Word → List (List Given) → List (List Child)
children_of words left = map (map (child_of words)) left

abbrev pub list_of : Parts → List Given
list_of parts.Nothing = []
list_of (parts.One one) = one ∷ []
list_of (parts.Many many) = many.items

-- a name that is summed up, with its children
abbrev pub row_of : List Word → Entry → List ℕ × List Child
row_of words entry = (name_in (slice_get words entry.number), map (child_of words) (list_of entry.parts))

abbrev pub table_of : List Word → List Entry → Table
table_of words entries = reverse (map (row_of words) entries)

-- the parts that a word comes to, where that is known
abbrev pub given_of : Option Comes → Option (List Given)
given_of None = None
given_of (Some comes.Unknown) = None
given_of (Some comes.Nothing) = Some []
given_of (Some (comes.One one)) = Some (one ∷ [])

abbrev pub told : List Word → Option Comes → Option (List Child)
told words known = option_map (map (child_of words)) (given_of known)

-- the parts of these words, one behind the other
abbrev pub Gathers : List Comes → List ℕ → List Given → Type 0
Gathers list [] all = all ≡ []
Gathers list (n ∷ numbers) all =
    (first rest : List Given) × (given_of (slice_get list n) ≡ Some first) × Gathers list numbers rest × (all ≡ first ++ rest)

-- the parts of a name, of whose text this is kept
abbrev pub Amounts : List Comes → Cut → ℕ → List Given → Type 0
Amounts list cut.Undefined n all = all ≡ given.Word n ∷ []
Amounts list cut.Broken n all = ⊥
Amounts list (cut.Word one) n all = Gathers list (one ∷ []) all
Amounts list (cut.Words numbers) n all = Gathers list numbers.items all

-- the same of the name with a number
abbrev pub IsAmount : List Comes → List Cut → ℕ → List Given → Type 0
IsAmount list cuts n all = (one : Cut) × (slice_get cuts n ≡ Some one) × Amounts list one n all

-- there is a word with this number
abbrev pub IsNumber : List Word → ℕ → Type 0
IsNumber words n = (one : Word) × (slice_get words n ≡ Some one)

abbrev pub IsHeld : List Word → Given → Type 0
IsHeld words (given.Word n) = IsNumber words n
IsHeld words (given.Name m) = ⊤

abbrev pub IsKept : List Word → Comes → Type 0
IsKept words (comes.One one) = IsHeld words one
IsKept words comes.Nothing = ⊤
IsKept words comes.Unknown = ⊤

-- a name with these parts, which is summed up as the one with this number, comes to this
abbrev pub Stands : Comes → ℕ → List Given → Type 0
Stands known n list =
    ((words : List Word) → told words (Some known) ≡ Some (as_child n (map (child_of words) list))) × ((words : List Word) → All (IsHeld words) list → IsKept words known)

-- a name with parts that are words of the list
pub record IsRow (words : List Word) (entry : Entry) : Type 0 where
  pub name : List ℕ
  pub is : slice_get words entry.number ≡ Some (word.Name name)
  pub held : All (IsHeld words) (list_of entry.parts)

-- the words have these numbers
abbrev pub Numbered : List Word → List Word → List ℕ → Type 0
Numbered list [] numbers = numbers ≡ []
Numbered list (one ∷ words) numbers = (n : ℕ) × (rest : List ℕ) × (numbers ≡ n ∷ rest) × (slice_get list n ≡ Some one) × Numbered list words rest

-- the numbers are those of the words of the text
abbrev pub IsTextOf : List Word → List ℕ → List ℕ → Type 0
IsTextOf list text numbers = (words : List Word) × AreParts text words × Numbered list words numbers

-- what is kept of the text that a name has
abbrev pub IsCut : List Word → Cut → Option (List ℕ) → Type 0
IsCut words cut.Undefined text = text ≡ None
IsCut words cut.Broken text = ⊤
IsCut words (cut.Word n) text = (one : List ℕ) × (text ≡ Some one) × IsTextOf words one (n ∷ [])
IsCut words (cut.Words numbers) text = (one : List ℕ) × (text ≡ Some one) × IsTextOf words one numbers.items

-- the words of a list are those of another one, which may have more
abbrev pub Keeps : List Word → List Word → Type 0
Keeps old new = (n : ℕ) (one : Word) → slice_get old n ≡ Some one → slice_get new n ≡ Some one

-- each word stands for itself, unless it is a name, and no word is REPLACE
abbrev pub IsPlain : Word → Type 0
IsPlain one = (table : Table) → word_children table one ≡ Some (child.Word one ∷ [])

abbrev pub IsSaid : Word → Type 0
IsSaid one = is_replace (Is one) ≡ false

-- the map has the number of each name
pub record IsLexicon (entries : List (List ℕ × ℕ)) (words : List Word) : Type 0 where
  pub finds : (name : List ℕ) (n : ℕ) → found entries name ≡ Some n → slice_get words n ≡ Some (word.Name name)
  pub has : (name : List ℕ) (n : ℕ) → slice_get words n ≡ Some (word.Name name) → found entries name ≡ Some n

-- what is kept agrees with the definitions
pub record IsSummary (definitions : Definitions) (words : List Word) (list : List Comes) (cuts : List Cut) (entries : List Entry) : Type 0 where
  pub compiled : IsCompiled definitions (table_of words entries)
  pub rows : All (IsRow words) entries
  pub kept : All (IsKept words) list
  pub said : All IsSaid words
  pub agrees : (n : ℕ) (one : Word) → slice_get words n ≡ Some one → told words (slice_get list n) ≡ word_children (table_of words entries) one
  pub cut : (n : ℕ) (name : List ℕ) (one : Cut) → slice_get words n ≡ Some (word.Name name) → slice_get cuts n ≡ Some one → IsCut words one (look_up definitions name)
  pub defined : (name text : List ℕ) → look_up definitions name ≡ Some text → (n : ℕ) × (slice_get words n ≡ Some (word.Name name))
  pub alike : length list ≡ length words
  pub even : length cuts ≡ length words
