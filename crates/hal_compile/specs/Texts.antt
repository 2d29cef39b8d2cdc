-- What a set of texts means, and which rules it breaks.
use Rattle.std.specs.Prelude.{◌≡◌, ℕ, ◌<◌, ◌⊎◌, List, ⊤}
use Rattle.hal_base.specs.declared.limits.TheConstants.{TOKEN_SUM_LIMIT}
use Rattle.hal_base.specs.declared.refusal.Refusal.{Refusal}
use Rattle.hal_base.specs.declared.refusal.Fault.{Fault}
use Rattle.hal_base.specs.declared.refusal.Fault.TheVariants as fault
use Rattle.hal_grammar.specs.Units.{File}
use Rattle.hal_phrases.specs.GatheredUnits.{phrases_of}
use Rattle.hal_meaning.specs.Sets.{beginning}
use Rattle.hal_code.specs.declared.image.ImageParts.{ImageParts}
use Rattle.hal_checked.specs.Checking.{IsChecked}
use Rattle.hal_compile.specs.Compiling.{Compiles, FilesBreak}
use Rattle.hal_checked.specs.Reading.{AreRead}
use Rattle.hal_compile.specs.Reading.{HaveFewWords, HaveWords, TextsBreak}

-- the texts are those of these files, have few enough words together, break no rule, and have an image: what a set means is what its files mean
pub record HasMeaning (texts : List (List ℕ)) (files : List File) : Type 0 where
  pub read : AreRead 0 texts files
  pub few_words : HaveFewWords texts
  pub checked : IsChecked (phrases_of files)
  pub image : ImageParts
  pub compiled : Compiles files image

-- the texts are those of files that break a rule
pub record SetBreaks (texts : List (List ℕ)) (refusal : Refusal) : Type 0 where
  pub files : List File
  pub read : AreRead 0 texts files
  pub broken : FilesBreak files refusal

-- rule 953, told of the beginning of the set: its texts have words, and these are too many together
pub record ExceedsWords (texts : List (List ℕ)) (refusal : Refusal) : Type 0 where
  pub count : ℕ
  pub counted : HaveWords 0 texts count
  pub exceeded : TOKEN_SUM_LIMIT < count
  pub rule_is : refusal.rule.0 ≡ 953
  pub at : refusal.place ≡ beginning

-- a rule of words or 401, or one of the set
abbrev pub Breaks : List (List ℕ) → Refusal → Type 0
Breaks texts refusal = TextsBreak 0 texts refusal ⊎ ExceedsWords texts refusal ⊎ SetBreaks texts refusal

-- want of memory says nothing
abbrev pub BreakBy : List (List ℕ) → Fault → Type 0
BreakBy texts (fault.Broken refusal) = Breaks texts refusal
BreakBy texts (fault.Memory error) = ⊤

-- rule 953, of the beginning of the set
abbrev pub IsOverfull : Fault → Type 0
IsOverfull (fault.Broken refusal) = (refusal.rule.0 ≡ 953) × (refusal.place ≡ beginning)
IsOverfull (fault.Memory error) = ⊥

-- the texts have a meaning, and this is the image of their files; no other files are theirs
pub record MakesImage (texts : List (List ℕ)) (image : ImageParts) : Type 0 where
  pub files : List File
  pub has : HasMeaning texts files
  pub compiled : Compiles files image
  pub only : (other : List File) → HasMeaning texts other → other ≡ files
