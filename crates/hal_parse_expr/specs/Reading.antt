-- Reading: what a function on words finds at their front, and what stands behind it.
use denote.Enum.Bare.{sameb}
use Rattle.std.specs.Prelude.{ℕ, zero, suc, Bool, true, false, List, [], ◌∷◌, length, Option, Some, None}
use Rattle.hal_base.specs.declared.refusal.Place.{Place}
use Rattle.hal_words.specs.contracts.reserved.Reserved.{the_type as reserved_type}
use Rattle.hal_words.specs.contracts.word.Symbol.{the_type as symbol_type}
use Rattle.hal_words.specs.declared.reserved.Reserved.{Reserved}
use Rattle.hal_words.specs.declared.word.Symbol.{Symbol}
use Rattle.hal_words.specs.declared.word.Symbol.TheVariants as symbol
use Rattle.hal_words.specs.declared.word.Word.{Word}
use Rattle.hal_words.specs.declared.word.Word.TheVariants as word
use Rattle.hal_grammar.specs.Leaves.{Naming, naming}
use Rattle.hal_grammar.specs.Words.{Words}

-- what a reader gives of words: a phrase and the words behind it, or nothing
abbrev pub Read : Type 0 → Type 0
Read X = Option (X × Words)

-- a reader of phrases
abbrev pub Reader : Type 0 → Type 0
Reader X = Words → Read X

-- a phrase, and what is read behind it
unfoldable pub followed : {X Y : Type 0} → Read X → (X → Words → Read Y) → Read Y
followed None next = None
followed (Some f) next = next f.0 f.1

-- a phrase, as what it makes
unfoldable pub made_of : {X Y : Type 0} → (X → Y) → Read X → Read Y
made_of make None = None
made_of make (Some f) = Some (make f.0, f.1)

-- a phrase with what may follow it
unfoldable pub with_tail : {X Y : Type 0} → (X → Y → X) → X → Words → Read Y → Read X
with_tail join x rest None = Some (x, rest)
with_tail join x rest (Some f) = Some (join x f.0, f.1)

-- a phrase, or what else is read
unfoldable pub or_else : {X : Type 0} → Read X → Read X → Read X
or_else None other = other
or_else (Some f) other = Some f

-- what is read behind a phrase, where it is there, else the other
unfoldable pub decided : {X Y : Type 0} → Read X → (X → Words → Read Y) → Read Y → Read Y
decided None next other = other
decided (Some f) next other = next f.0 f.1

-- where the test holds
unfoldable pub where_true : {X : Type 0} → Bool → Read X → Read X
where_true true read = read
where_true false read = None

-- the word is this reserved word
unfoldable pub is_reserved : Reserved → Word → Bool
is_reserved r (word.Reserved s) = sameb reserved_type s r
is_reserved r other = false

-- the word is this symbol
unfoldable pub is_symbol : Symbol → Word → Bool
is_symbol r (word.Symbol s) = sameb symbol_type s r
is_symbol r other = false

-- the first word's place, where it is this reserved word
unfoldable pub past : Reserved → Reader Place
past r [] = None
past r (first ∷ rest) = where_true (is_reserved r first.word) (Some (first.place, rest))

-- the first word's place, where it is this symbol
unfoldable pub past_symbol : Symbol → Reader Place
past_symbol s [] = None
past_symbol s (first ∷ rest) = where_true (is_symbol s first.word) (Some (first.place, rest))

-- the first word, where it is a name
unfoldable pub name_at : Reader Naming
name_at [] = None
name_at (first ∷ rest) = elim first.word [ word.Name n ↦ Some (naming first.place n, rest) | other ↦ None ]

-- the first word's place and number, where it is an integer
unfoldable pub integer_at : Reader (Place × ℕ)
integer_at [] = None
integer_at (first ∷ rest) = elim first.word [ word.Integer n ↦ Some ((first.place, n), rest) | other ↦ None ]

-- a phrase that this symbol follows
unfoldable pub before_symbol : {X : Type 0} → Symbol → Read X → Read X
before_symbol s read = followed read (λ x rest. made_of (λ p. x) (past_symbol s rest))

-- a phrase that this reserved word follows
unfoldable pub before : {X : Type 0} → Reserved → Read X → Read X
before r read = followed read (λ x rest. made_of (λ p. x) (past r rest))

-- a phrase and those that are read behind it, or none
unfoldable pub listed : {X : Type 0} → (Words → List X × Words) → Words → Read X → List X × Words
listed others words None = ([], words)
listed others words (Some f) = (f.0 ∷ (others f.1).0, (others f.1).1)

-- as many phrases as can be read, this number at most
unfoldable pub many : {X : Type 0} → Reader X → ℕ → Words → List X × Words
many read zero words = ([], words)
many read (suc k) words = listed (many read k) words (read words)

-- as many phrases as can be read
unfoldable pub all : {X : Type 0} → Reader X → Words → List X × Words
all read words = many read (length words) words

-- a phrase behind a comma
unfoldable pub after_comma : {X : Type 0} → Reader X → Reader X
after_comma read words = followed (past_symbol symbol.Comma words) (λ p rest. read rest)

-- one phrase or more, parted by commas: the first one, and the others
unfoldable pub parted : {X : Type 0} → Reader X → Reader (X × List X)
parted read words = followed (read words) (λ x rest. Some ((x, (all (after_comma read) rest).0), (all (after_comma read) rest).1))
