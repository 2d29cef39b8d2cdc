-- Why a call answers what it answers. Each cause says that nothing earlier in the order is wrong: the words, the files as they are named, the
-- script, the image or the set of the units.
use Rattle.std.specs.Prelude.{◌≡◌, ℕ, zero, suc, ◌<◌, ◌≤◌, List, [], ◌∷◌, Option, Some, None, length}
use Rattle.std.specs.Str.Lines.{lines}
use Rattle.hal_base.specs.declared.refusal.Refusal.{Refusal}
use Rattle.hal_base.specs.Files.{File, file_named}
use Rattle.hal_grammar.specs.Units as units
use Rattle.hal_code.specs.declared.image.ImageParts.{ImageParts}
use Rattle.hal_object.specs.Images.{image_bytes, IsSpelled}
use Rattle.hal_compile.specs.Compiling.{CanRun, image_fault}
use Rattle.hal_compile.specs.Texts.{Breaks, HasMeaning}
use Rattle.exec_model.specs.declared.script.ScriptLine.{ScriptLine}
use Rattle.hal_script.specs.declared.fault.ScriptFault.{ScriptFault}
use Rattle.hal_script.specs.ScriptTexts.{IsScriptOf, IsFault}
use Rattle.hal_top.specs.CommandLine.{Command, Runs, Builds, Executes, IsCommand, Wanted, files_of}

-- the words are those of a command of which this holds
pub record Asked (words : List (List ℕ)) (Holds : Command → Type 0) : Type 0 where
  pub command : Command
  pub form : IsCommand words command
  pub holds : Holds command

-- the file is there with these bytes, and they are not too many
abbrev pub IsPresent : List File → Wanted → List ℕ → Type 0
IsPresent files wanted bytes = (file_named files wanted.name ≡ Some bytes) × (length bytes ≤ wanted.limit)

abbrev pub IsAbsent : List File → Wanted → Type 0
IsAbsent files wanted = file_named files wanted.name ≡ None

abbrev pub IsTooLong : List File → Wanted → Type 0
IsTooLong files wanted = (bytes : List ℕ) × (file_named files wanted.name ≡ Some bytes) × (wanted.limit < length bytes)

-- of these files, numbered from 0, the one with this number is wrong, and those before it are fit
abbrev pub FirstWrong : (List File → Wanted → Type 0) → List File → List Wanted → ℕ → Type 0
FirstWrong Wrong files [] number = ⊥
FirstWrong Wrong files (one ∷ others) zero = Wrong files one
FirstWrong Wrong files (one ∷ others) (suc number) = (bytes : List ℕ) × IsPresent files one bytes × FirstWrong Wrong files others number

abbrev pub FirstWrongIn : (List File → Wanted → Type 0) → List File → ℕ → Command → Type 0
FirstWrongIn Wrong files number command = FirstWrong Wrong files (files_of command) number

-- the first of the files that the words name which isn't fit has this number
abbrev pub IsFirstWrong : (List File → Wanted → Type 0) → List File → List (List ℕ) → ℕ → Type 0
IsFirstWrong Wrong files words number = Asked words (FirstWrongIn Wrong files number)

-- these files are there, one with the bytes of each text
abbrev pub ArePresent : List File → List Wanted → List (List ℕ) → Type 0
ArePresent files [] [] = Unit {0}
ArePresent files [] (text ∷ texts) = ⊥
ArePresent files (one ∷ others) [] = ⊥
ArePresent files (one ∷ others) (text ∷ texts) = IsPresent files one text × ArePresent files others texts

-- the script among the texts of a command's files
abbrev pub script_in : Command → List (List ℕ) → Option (List ℕ)
script_in (Runs script units) [] = None
script_in (Runs script units) (text ∷ texts) = Some text
script_in (Builds units) texts = None
script_in (Executes script image) [] = None
script_in (Executes script image) (text ∷ texts) = Some text

-- the units among them
abbrev pub units_in : Command → List (List ℕ) → Option (List (List ℕ))
units_in (Runs script units) [] = None
units_in (Runs script units) (text ∷ texts) = Some texts
units_in (Builds units) texts = Some texts
units_in (Executes script image) texts = None

-- the image among them
abbrev pub image_in : Command → List (List ℕ) → Option (List ℕ)
image_in (Runs script units) texts = None
image_in (Builds units) texts = None
image_in (Executes script image) [] = None
image_in (Executes script image) (text ∷ []) = None
image_in (Executes script image) (text ∷ bytes ∷ texts) = Some bytes

-- a script, where there is one, has no faulty line
abbrev pub IsReadable : Option (List ℕ) → Type 0
IsReadable None = Unit {0}
IsReadable (Some text) = (orders : List ScriptLine) × IsScriptOf (lines text) orders

-- the files of a command are there with these texts, and the script has no faulty line
pub record IsReady (files : List File) (command : Command) (texts : List (List ℕ)) : Type 0 where
  pub present : ArePresent files (files_of command) texts
  pub read : IsReadable (script_in command texts)

-- a script whose first faulty line is this one, for this reason
pub record FaultyIn (files : List File) (fault : ScriptFault) (command : Command) : Type 0 where
  pub texts : List (List ℕ)
  pub script : List ℕ
  pub present : ArePresent files (files_of command) texts
  pub is_script : script_in command texts ≡ Some script
  pub first : IsFault (lines script) fault

abbrev pub IsFaulty : List File → List (List ℕ) → ScriptFault → Type 0
IsFaulty files words fault = Asked words (FaultyIn files fault)

-- the set of the units breaks this rule at this place
pub record BrokenIn (files : List File) (refusal : Refusal) (command : Command) : Type 0 where
  pub texts : List (List ℕ)
  pub units : List (List ℕ)
  pub ready : IsReady files command texts
  pub are_units : units_in command texts ≡ Some units
  pub broken : Breaks units refusal

abbrev pub IsBroken : List File → List (List ℕ) → Refusal → Type 0
IsBroken files words refusal = Asked words (BrokenIn files refusal)

-- these are the bytes of the image
pub record HasBytes (image : ImageParts) (bytes : List ℕ) : Type 0 where
  pub spelled : IsSpelled image
  pub are : bytes ≡ image_bytes image

-- bytes that are those of no image, or of one that can't run, whose first instruction at fault this is
abbrev pub IsBad : List ℕ → Option ℕ → Type 0
IsBad bytes None = (image : ImageParts) → HasBytes image bytes → ⊥
IsBad bytes (Some number) = (image : ImageParts) × HasBytes image bytes × (image_fault image ≡ Some number)

pub record BadIn (files : List File) (fault : Option ℕ) (command : Command) : Type 0 where
  pub texts : List (List ℕ)
  pub bytes : List ℕ
  pub ready : IsReady files command texts
  pub is_image : image_in command texts ≡ Some bytes
  pub bad : IsBad bytes fault

abbrev pub IsBadImage : List File → List (List ℕ) → Option ℕ → Type 0
IsBadImage files words fault = Asked words (BadIn files fault)

-- nothing is wrong: this is the script, and these files are the set of the units, which has a meaning
pub record WorkIn (files : List File) (script : List ScriptLine) (set : List units.File) (command : Command) : Type 0 where
  pub texts : List (List ℕ)
  pub script_text : List ℕ
  pub units : List (List ℕ)
  pub present : ArePresent files (files_of command) texts
  pub is_script : script_in command texts ≡ Some script_text
  pub read : IsScriptOf (lines script_text) script
  pub are_units : units_in command texts ≡ Some units
  pub has : HasMeaning units set

abbrev pub IsWork : List File → List (List ℕ) → List ScriptLine → List units.File → Type 0
IsWork files words script set = Asked words (WorkIn files script set)

-- nothing is wrong: these files are the set of the units whose image is to be written
pub record BuildIn (files : List File) (set : List units.File) (command : Command) : Type 0 where
  pub texts : List (List ℕ)
  pub units : List (List ℕ)
  pub present : ArePresent files (files_of command) texts
  pub no_script : script_in command texts ≡ None
  pub are_units : units_in command texts ≡ Some units
  pub has : HasMeaning units set

abbrev pub IsBuild : List File → List (List ℕ) → List units.File → Type 0
IsBuild files words set = Asked words (BuildIn files set)

-- nothing is wrong: this is the script, and this image is to run
pub record ExecIn (files : List File) (script : List ScriptLine) (image : ImageParts) (command : Command) : Type 0 where
  pub texts : List (List ℕ)
  pub script_text : List ℕ
  pub bytes : List ℕ
  pub present : ArePresent files (files_of command) texts
  pub is_script : script_in command texts ≡ Some script_text
  pub read : IsScriptOf (lines script_text) script
  pub is_image : image_in command texts ≡ Some bytes
  pub read_from : HasBytes image bytes
  pub runs : CanRun image

abbrev pub IsExec : List File → List (List ℕ) → List ScriptLine → ImageParts → Type 0
IsExec files words script image = Asked words (ExecIn files script image)
