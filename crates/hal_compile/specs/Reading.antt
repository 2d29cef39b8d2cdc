-- What the texts of a set's units say.
use Rattle.std.specs.Prelude.{◌≡◌, ℕ, ◌+◌, ◌≤◌, ◌⊎◌, List, [], ◌∷◌, Vec, length, ⊤}
use Rattle.std.specs.declared.alloc.Global.{Global}
use Rattle.hal_base.specs.declared.limits.TheConstants.{TOKEN_LIMIT, TOKEN_SUM_LIMIT}
use Rattle.hal_base.specs.declared.refusal.Refusal.{Refusal}
use Rattle.hal_base.specs.declared.refusal.Fault.{Fault}
use Rattle.hal_base.specs.declared.refusal.Fault.TheVariants as fault
use Rattle.hal_words.specs.declared.word.Token.{Token}
use Rattle.hal_words.specs.Words as words
use Rattle.hal_grammar.specs.Units.{File}
use Rattle.hal_tree.specs.declared.unit.File as rust-file
use Rattle.hal_tree.specs.SeenUnits.{seen_file}
use Rattle.hal_parse.specs.Parsed.{IsUnread}
use Rattle.hal_checked.specs.Reading.{IsRead}

-- the bytes of a text
abbrev pub seen_text : Vec ℕ Global → List ℕ
seen_text text = text.items

-- the text of the unit with this number has words, so many of them
pub record HasWords (number : ℕ) (text : List ℕ) (count : ℕ) : Type 0 where
  pub tokens : List Token
  pub cut : words.IsCut number text tokens
  pub counted : count ≡ length tokens

-- each text has words, and so many they are together; the first unit has this number
abbrev pub HaveWords : ℕ → List (List ℕ) → ℕ → Type 0
HaveWords number [] count = count ≡ 0
HaveWords number (text ∷ texts) count = (first later : ℕ) × (count ≡ first + later) × HasWords number text first × HaveWords (number + 1) texts later

-- the texts have words, and together no more than a set may have
pub record HaveFewWords (texts : List (List ℕ)) : Type 0 where
  pub count : ℕ
  pub counted : HaveWords 0 texts count
  pub few : count ≤ TOKEN_SUM_LIMIT

-- rule 401 is broken: the text has words, and they are those of no file
pub record BreaksGrammar (number : ℕ) (text : List ℕ) (refusal : Refusal) : Type 0 where
  pub tokens : List Token
  pub cut : words.IsCut number text tokens
  pub unread : IsUnread number tokens refusal.rule.0 refusal.place

-- a rule of words, or 401
abbrev pub TextBreaks : ℕ → List ℕ → Refusal → Type 0
TextBreaks number text refusal = words.BreaksWordRule number text refusal.rule.0 refusal.place ⊎ BreaksGrammar number text refusal

-- the first text that is of no file breaks the rule
abbrev pub TextsBreak : ℕ → List (List ℕ) → Refusal → Type 0
TextsBreak number [] refusal = ⊥
TextsBreak number (text ∷ texts) refusal = TextBreaks number text refusal ⊎ ((file : File) × IsRead number text file × TextsBreak (number + 1) texts refusal)

-- what the program reads is what the text says: it is of the file, and has at most as many words as a text may have
pub record IsReadIn (number : ℕ) (text : List ℕ) (file : rust-file.File) (count : ℕ) : Type 0 where
  pub read : IsRead number text (seen_file file)
  pub words : HasWords number text count
  pub few : count ≤ TOKEN_LIMIT

-- want of memory says nothing
abbrev pub TextBreaksBy : ℕ → List ℕ → Fault → Type 0
TextBreaksBy number text (fault.Broken refusal) = TextBreaks number text refusal
TextBreaksBy number text (fault.Memory error) = ⊤

abbrev pub TextsBreakBy : List (List ℕ) → Fault → Type 0
TextsBreakBy texts (fault.Broken refusal) = TextsBreak 0 texts refusal
TextsBreakBy texts (fault.Memory error) = ⊤
