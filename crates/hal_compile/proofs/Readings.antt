-- What is said of a text.
use Rattle.std.proofs.Common.{◌≡◌, ℕ, ◌≤◌, ◌<◌, inl, inr, List, length, sym, subst}
use Rattle.hal_base.specs.declared.limits.TheConstants.{TOKEN_LIMIT, TOKEN_SUM_LIMIT}
use Rattle.hal_base.specs.declared.refusal.Fault.{Fault}
use Rattle.hal_base.specs.declared.refusal.Fault.TheVariants as fault
use Rattle.hal_words.specs.declared.word.Token.{Token}
use Rattle.hal_words.specs.Words.{IsCut}
use Rattle.hal_lexer.specs.Faults as words
use Rattle.hal_tree.specs.declared.unit.File.{File}
use Rattle.hal_tree.specs.SeenUnits.{seen_file}
use Rattle.hal_parse.specs.Parsed.{IsParsed, Refuses}
use Rattle.hal_compile.specs.Compiling.{IsOfMemory}
use Rattle.hal_compile.specs.Reading.{HaveFewWords, HaveWords, IsReadIn, TextBreaksBy, TextsBreakBy}
use Rattle.hal_compile.specs.Texts.{BreakBy, IsOverfull}

-- the words are faulty
pub wrong_words : (number : ℕ) (text : List ℕ) (why : Fault) → words.BreaksBy number text why → TextBreaksBy number text why
wrong_words number text (fault.Broken refusal) breaks = inl breaks
wrong_words number text (fault.Memory error) breaks = tt

-- the words are those of no file
pub no_file : (number : ℕ) (text : List ℕ) (tokens : List Token) (why : Fault) → IsCut number text tokens → Refuses number tokens why → TextBreaksBy number text why
no_file number text tokens (fault.Broken refusal) cut unread = inr (record { tokens = tokens; cut = cut; unread = unread })
no_file number text tokens (fault.Memory error) cut unread = tt

pub read_as : (number : ℕ) (text : List ℕ) (tokens : List Token) (file : File) (count : ℕ) → count ≡ length tokens → IsCut number text tokens → IsParsed tokens (seen_file file)
    → IsReadIn number text file count
read_as number text tokens file count counted cut parsed = record {
  read = record { tokens = tokens; cut = cut; parsed = parsed.is };
  words = record { tokens = tokens; cut = cut; counted = counted };
  few = subst (λ (n : ℕ). n ≤ TOKEN_LIMIT) (sym counted) cut.few;
}

-- want of memory says nothing of texts
pub wanting : (texts : List (List ℕ)) (why : Fault) → IsOfMemory why → TextsBreakBy texts why
wanting texts (fault.Broken refusal) memory = absurd memory
wanting texts (fault.Memory error) memory = tt

-- what is said of the texts is said of the set
pub texts_break : (texts : List (List ℕ)) (why : Fault) → TextsBreakBy texts why → BreakBy texts why
texts_break texts (fault.Broken refusal) breaks = inl breaks
texts_break texts (fault.Memory error) breaks = tt

-- and so is how many words they have
pub too_many_words : (texts : List (List ℕ)) (count : ℕ) (why : Fault) → HaveWords 0 texts count → TOKEN_SUM_LIMIT < count → IsOverfull why → BreakBy texts why
too_many_words texts count (fault.Broken refusal) has exceeded told = inr (inl (record { count = count; counted = has; exceeded = exceeded; rule_is = told.0; at = told.1 }))
too_many_words texts count (fault.Memory error) has exceeded told = absurd told

pub few_words : (texts : List (List ℕ)) (count : ℕ) → HaveWords 0 texts count → count ≤ TOKEN_SUM_LIMIT → HaveFewWords texts
few_words texts count has few = record { count = count; counted = has; few = few }
