-- The forms of the command line, and the files that they name.
use Rattle.std.specs.Prelude.{◌≡◌, ℕ, ◌+◌, ◌≤◌, Bool, false, List, [], ◌∷◌, bytes_eq, codes, length, map, min, String, if◌then◌else◌}
use Rattle.std.specs.String.{string_bytes}
use Rattle.std.specs.declared.alloc.Global.{Global}
use Rattle.hal_base.specs.declared.limits.TheConstants.{TEXT_LIMIT, UNIT_LIMIT}
use Rattle.hal_top.specs.declared.words.Command as rust
use Rattle.hal_top.specs.declared.words.Command.TheVariants as variant
use Rattle.hal_base.specs.declared.limits.TheConstants.{IMAGE_LIMIT}

-- the words as bytes
abbrev pub texts : List (String Global) → List (List ℕ)
texts words = map (λ (word : String Global). string_bytes word) words

-- so many units may stand there
pub record IsUnitCount (count : ℕ) : Type 0 where
  pub some : 1 ≤ count
  pub few : count ≤ UNIT_LIMIT

-- `run 1 SCRIPT UNIT..`
pub record IsRunLine (words : List (List ℕ)) (script : List ℕ) (units : List (List ℕ)) : Type 0 where
  pub spelled : words ≡ codes "run" ∷ codes "1" ∷ script ∷ units
  pub count : IsUnitCount (length units)

-- `build UNIT..`
pub record IsBuildLine (words : List (List ℕ)) (units : List (List ℕ)) : Type 0 where
  pub spelled : words ≡ codes "build" ∷ units
  pub count : IsUnitCount (length units)

-- `exec 1 SCRIPT IMAGE`
pub record IsExecLine (words : List (List ℕ)) (script image : List ℕ) : Type 0 where
  pub spelled : words ≡ codes "exec" ∷ codes "1" ∷ script ∷ image ∷ []

-- what a call is asked for: to run a set of units, to write its image, or to run an image
pub data Command : Type 0 where
  Runs : (script : List ℕ) (units : List (List ℕ)) → Command
  Builds : (units : List (List ℕ)) → Command
  Executes : (script image : List ℕ) → Command

abbrev pub IsCommand : List (List ℕ) → Command → Type 0
IsCommand words (Runs script units) = IsRunLine words script units
IsCommand words (Builds units) = IsBuildLine words units
IsCommand words (Executes script image) = IsExecLine words script image

abbrev pub seen_command : rust.Command → Command
seen_command (variant.Run script units) = Runs script.now (texts units.now)
seen_command (variant.Build units) = Builds (texts units.now)
seen_command (variant.Exec script image) = Executes script.now image.now

abbrev pub HasNoForm : List (List ℕ) → Type 0
HasNoForm words = (command : Command) → IsCommand words command → ⊥

-- a file that the words name, and how many bytes it may have
pub record Wanted : Type 0 where
  pub name : List ℕ
  pub limit : ℕ

abbrev pub text_named : List ℕ → Wanted
text_named name = record { name = name; limit = TEXT_LIMIT }

abbrev pub image_named : List ℕ → Wanted
image_named name = record { name = name; limit = IMAGE_LIMIT }

-- the files that a command names, in order
abbrev pub files_of : Command → List Wanted
files_of (Runs script units) = text_named script ∷ map text_named units
files_of (Builds units) = map text_named units
files_of (Executes script image) = text_named script ∷ image_named image ∷ []

-- whether the words are of `build`, which names no script
abbrev pub is_build : List (List ℕ) → Bool
is_build [] = false
is_build (word ∷ words) = bytes_eq word (codes "build")

-- how many words stand before the first file's name, and how many files before the first unit's
abbrev pub words_before : List (List ℕ) → ℕ
words_before words = if is_build words then 1 else 2

abbrev pub files_before : List (List ℕ) → ℕ
files_before words = if is_build words then 0 else 1

-- the number of a unit's file among those that the words name
abbrev pub file_of_unit : List (List ℕ) → ℕ → ℕ
file_of_unit words unit = min (unit + files_before words) 4294967295

abbrev pub usage_line : List ℕ
usage_line = codes "usage: hal run LANES SCRIPT UNIT.. | build UNIT.. | exec LANES SCRIPT IMAGE | make NUMBER SIZE\n"
