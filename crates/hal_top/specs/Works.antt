-- What is to be done, or why nothing is.
use Rattle.std.specs.Prelude.{◌≡◌, ℕ, List, Some, None, Result, Ok, Err}
use Rattle.std.specs.Str.Lines.{lines}
use Rattle.hal_base.specs.Files.{File}
use Rattle.hal_grammar.specs.Units as units
use Rattle.hal_code.specs.declared.image.ImageParts.{ImageParts}
use Rattle.hal_object.specs.Images.{IsSpelled}
use Rattle.hal_compile.specs.Compiling.{CanRun, Compiles, image_fault}
use Rattle.hal_compile.specs.Texts.{Breaks, MakesImage}
use Rattle.exec_model.specs.declared.script.ScriptLine.{ScriptLine}
use Rattle.exec_model.specs.Scripts.{IsScript}
use Rattle.hal_script.specs.ScriptTexts.{IsScriptOf, IsFault}
use Rattle.hal_top.specs.CommandLine.{Command}
use Rattle.hal_top.specs.declared.fetch.NoFile.{NoFile}
use Rattle.hal_top.specs.declared.fetch.NoFile.TheVariants as file
use Rattle.hal_top.specs.declared.prepare.Task.{Task}
use Rattle.hal_top.specs.declared.prepare.Task.TheVariants as task
use Rattle.hal_top.specs.declared.refused.Refused.{Refused}
use Rattle.hal_top.specs.declared.refused.Refused.TheVariants.{Usage, Absent, TooLong, Script, Rule, NotImage, Unsound, Shelf, Memory}
use Rattle.hal_top.specs.Causes.{Asked, HasBytes, WorkIn, BuildIn, ExecIn, IsBad}
use Rattle.hal_top.specs.Told.{IsCause, IsCauseIn}

-- the refusal for a file with this number that isn't fit
abbrev pub IsCauseOfFile : NoFile → ℕ → Refused → Type 0
IsCauseOfFile file.Absent number refused = refused ≡ Absent number
IsCauseOfFile file.TooLong number refused = refused ≡ TooLong number
IsCauseOfFile file.Shelf number refused = refused ≡ Shelf
IsCauseOfFile file.Memory number refused = refused ≡ Memory

-- the script of these bytes, or its first faulty line
abbrev pub IsScriptIn : List ℕ → Result (List ScriptLine) Refused → Type 0
IsScriptIn text (Ok script) = IsScriptOf (lines text) script
IsScriptIn text (Err (Script fault)) = IsFault (lines text) fault
IsScriptIn text (Err Memory) = Unit {0}
IsScriptIn text (Err Usage) = ⊥
IsScriptIn text (Err (Absent number)) = ⊥
IsScriptIn text (Err (TooLong number)) = ⊥
IsScriptIn text (Err (Rule refusal)) = ⊥
IsScriptIn text (Err NotImage) = ⊥
IsScriptIn text (Err (Unsound number)) = ⊥
IsScriptIn text (Err Shelf) = ⊥

-- the image of the units with these texts, or a rule that they break
abbrev pub IsImageOfUnits : List (List ℕ) → Result ImageParts Refused → Type 0
IsImageOfUnits units (Ok image) = MakesImage units image
IsImageOfUnits units (Err (Rule refusal)) = Breaks units refusal
IsImageOfUnits units (Err Memory) = Unit {0}
IsImageOfUnits units (Err Usage) = ⊥
IsImageOfUnits units (Err (Absent number)) = ⊥
IsImageOfUnits units (Err (TooLong number)) = ⊥
IsImageOfUnits units (Err (Script fault)) = ⊥
IsImageOfUnits units (Err NotImage) = ⊥
IsImageOfUnits units (Err (Unsound number)) = ⊥
IsImageOfUnits units (Err Shelf) = ⊥

-- the image of these bytes, which can run, or why there is none
abbrev pub IsImageIn : List ℕ → Result ImageParts Refused → Type 0
IsImageIn bytes (Ok image) = HasBytes image bytes × CanRun image
IsImageIn bytes (Err NotImage) = IsBad bytes None
IsImageIn bytes (Err (Unsound number)) = IsBad bytes (Some number)
IsImageIn bytes (Err Memory) = Unit {0}
IsImageIn bytes (Err Usage) = ⊥
IsImageIn bytes (Err (Absent number)) = ⊥
IsImageIn bytes (Err (TooLong number)) = ⊥
IsImageIn bytes (Err (Script fault)) = ⊥
IsImageIn bytes (Err (Rule refusal)) = ⊥
IsImageIn bytes (Err Shelf) = ⊥

-- an image has nothing at fault, or has a first instruction that is
abbrev pub IsChecked : ImageParts → Result ImageParts Refused → Type 0
IsChecked image (Ok same) = (same ≡ image) × (image_fault image ≡ None)
IsChecked image (Err (Unsound number)) = image_fault image ≡ Some number
IsChecked image (Err Memory) = Unit {0}
IsChecked image (Err Usage) = ⊥
IsChecked image (Err (Absent number)) = ⊥
IsChecked image (Err (TooLong number)) = ⊥
IsChecked image (Err (Script fault)) = ⊥
IsChecked image (Err (Rule refusal)) = ⊥
IsChecked image (Err NotImage) = ⊥
IsChecked image (Err Shelf) = ⊥

-- the bytes are those of a script
abbrev pub IsScriptText : List ℕ → Type 0
IsScriptText text = (orders : List ScriptLine) × IsScriptOf (lines text) orders

-- what a script's bytes and those of units are to do, or which of them is wrong
abbrev pub RunsTo : List ℕ → List (List ℕ) → Result Task Refused → Type 0
RunsTo text units (Ok (task.Run work)) = IsScriptOf (lines text) work.script × MakesImage units work.image
RunsTo text units (Ok (task.Write image)) = ⊥
RunsTo text units (Ok (task.Execute work)) = ⊥
RunsTo text units (Err (Script fault)) = IsFault (lines text) fault
RunsTo text units (Err (Rule refusal)) = IsScriptText text × Breaks units refusal
RunsTo text units (Err Memory) = Unit {0}
RunsTo text units (Err Usage) = ⊥
RunsTo text units (Err (Absent number)) = ⊥
RunsTo text units (Err (TooLong number)) = ⊥
RunsTo text units (Err NotImage) = ⊥
RunsTo text units (Err (Unsound number)) = ⊥
RunsTo text units (Err Shelf) = ⊥

-- the same of units alone, whose image is to be written
abbrev pub BuildsTo : List (List ℕ) → Result Task Refused → Type 0
BuildsTo units (Ok (task.Run work)) = ⊥
BuildsTo units (Ok (task.Write image)) = MakesImage units image
BuildsTo units (Ok (task.Execute work)) = ⊥
BuildsTo units (Err (Rule refusal)) = Breaks units refusal
BuildsTo units (Err Memory) = Unit {0}
BuildsTo units (Err (Script fault)) = ⊥
BuildsTo units (Err Usage) = ⊥
BuildsTo units (Err (Absent number)) = ⊥
BuildsTo units (Err (TooLong number)) = ⊥
BuildsTo units (Err NotImage) = ⊥
BuildsTo units (Err (Unsound number)) = ⊥
BuildsTo units (Err Shelf) = ⊥

-- the same of a script's bytes and those of an image
abbrev pub ExecutesTo : List ℕ → List ℕ → Result Task Refused → Type 0
ExecutesTo text bytes (Ok (task.Run work)) = ⊥
ExecutesTo text bytes (Ok (task.Write image)) = ⊥
ExecutesTo text bytes (Ok (task.Execute work)) = IsScriptOf (lines text) work.script × (HasBytes work.image bytes × CanRun work.image)
ExecutesTo text bytes (Err (Script fault)) = IsFault (lines text) fault
ExecutesTo text bytes (Err NotImage) = IsScriptText text × IsBad bytes None
ExecutesTo text bytes (Err (Unsound number)) = IsScriptText text × IsBad bytes (Some number)
ExecutesTo text bytes (Err Memory) = Unit {0}
ExecutesTo text bytes (Err Usage) = ⊥
ExecutesTo text bytes (Err (Absent number)) = ⊥
ExecutesTo text bytes (Err (TooLong number)) = ⊥
ExecutesTo text bytes (Err (Rule refusal)) = ⊥
ExecutesTo text bytes (Err Shelf) = ⊥

-- a script within its limits and an image that can run, or an image that has bytes
abbrev pub IsFit : Task → Type 0
IsFit (task.Run work) = IsScript work.script × CanRun work.image
IsFit (task.Write image) = IsSpelled image
IsFit (task.Execute work) = IsScript work.script × CanRun work.image

-- a task is that of a command
abbrev pub TaskIn : List File → Task → Command → Type 0
TaskIn files (task.Run work) command = (set : List units.File) × WorkIn files work.script set command × Compiles set work.image
TaskIn files (task.Write image) command = (set : List units.File) × BuildIn files set command × Compiles set image
TaskIn files (task.Execute work) command = ExecIn files work.script work.image command

-- what a command is to do, or the first thing that is wrong
abbrev pub Prepared : List File → Command → Result Task Refused → Type 0
Prepared files command (Ok task) = TaskIn files task command
Prepared files command (Err refused) = IsCauseIn files command refused

-- and what words are to do
abbrev pub Told : List File → List (List ℕ) → Result Task Refused → Type 0
Told files words (Ok task) = Asked words (TaskIn files task)
Told files words (Err refused) = IsCause files words refused
