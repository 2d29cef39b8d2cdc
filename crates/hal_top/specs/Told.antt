-- What the steps of a call answer.
use Rattle.std.specs.Prelude.{◌≡◌, ℕ, List, [], ◌∷◌, ◌+◌, Option, Some, None, Result, Ok, Err, Vec, map}
use Rattle.std.specs.declared.alloc.Global.{Global}
use Rattle.hal_base.specs.Files.{File}
use Rattle.hal_base.specs.declared.refusal.Refusal.{Refusal}
use Rattle.hal_compile.specs.Reading.{seen_text}
use Rattle.hal_script.specs.declared.fault.ScriptFault.{ScriptFault}
use Rattle.hal_top.specs.declared.fetch.NoFile.{NoFile}
use Rattle.hal_top.specs.declared.fetch.NoFile.TheVariants as file
use Rattle.hal_top.specs.declared.refused.Refused.{Refused}
use Rattle.hal_top.specs.declared.refused.Refused.TheVariants.{Usage, Absent, TooLong, Script, Rule, NotImage, Unsound, Shelf, Memory}
use Rattle.hal_top.specs.declared.outcome.Outcome.{Outcome}
use Rattle.hal_top.specs.CommandLine.{Command, Wanted, HasNoForm, file_of_unit, text_named}
use Rattle.hal_top.specs.Causes.{IsPresent, ArePresent, IsAbsent, IsTooLong, FirstWrong, FirstWrongIn, IsFirstWrong, FaultyIn, IsFaulty, BrokenIn, IsBroken, BadIn, IsBadImage}

-- the bytes of a file, or why there are none
abbrev pub FetchesFile : List File → Wanted → Result (Vec ℕ Global) NoFile → Type 0
FetchesFile files wanted (Ok bytes) = IsPresent files wanted bytes.items
FetchesFile files wanted (Err file.Absent) = IsAbsent files wanted
FetchesFile files wanted (Err file.TooLong) = IsTooLong files wanted
FetchesFile files wanted (Err file.Shelf) = Unit {0}
FetchesFile files wanted (Err file.Memory) = Unit {0}

-- of files of which the first has this number, the first that isn't fit is refused, by its number
abbrev pub IsUnfit : List File → ℕ → List Wanted → Refused → Type 0
IsUnfit files first wanted (Absent number) = (before : ℕ) × (number ≡ first + before) × FirstWrong IsAbsent files wanted before
IsUnfit files first wanted (TooLong number) = (before : ℕ) × (number ≡ first + before) × FirstWrong IsTooLong files wanted before
IsUnfit files first wanted Shelf = Unit {0}
IsUnfit files first wanted Memory = Unit {0}
IsUnfit files first wanted Usage = ⊥
IsUnfit files first wanted (Script fault) = ⊥
IsUnfit files first wanted (Rule refusal) = ⊥
IsUnfit files first wanted NotImage = ⊥
IsUnfit files first wanted (Unsound number) = ⊥

-- the bytes of the file with this number, or why it isn't fit
abbrev pub FetchesOne : List File → ℕ → Wanted → Result (Vec ℕ Global) Refused → Type 0
FetchesOne files number wanted (Ok bytes) = IsPresent files wanted bytes.items
FetchesOne files number wanted (Err refused) = IsUnfit files number (wanted ∷ []) refused

-- the texts of the units with these names, or which of them isn't fit
abbrev pub FetchesUnits : List File → ℕ → List (List ℕ) → Result (Vec (Vec ℕ Global) Global) Refused → Type 0
FetchesUnits files first names (Ok units) = ArePresent files (map text_named names) (map seen_text units.items)
FetchesUnits files first names (Err refused) = IsUnfit files first (map text_named names) refused

-- a refusal of a command has its cause
abbrev pub IsCauseIn : List File → Command → Refused → Type 0
IsCauseIn files command Usage = ⊥
IsCauseIn files command (Absent number) = FirstWrongIn IsAbsent files number command
IsCauseIn files command (TooLong number) = FirstWrongIn IsTooLong files number command
IsCauseIn files command (Script fault) = FaultyIn files fault command
IsCauseIn files command (Rule refusal) = BrokenIn files refusal command
IsCauseIn files command NotImage = BadIn files None command
IsCauseIn files command (Unsound number) = BadIn files (Some number) command
IsCauseIn files command Shelf = Unit {0}
IsCauseIn files command Memory = Unit {0}

-- and so has one of words
abbrev pub IsCause : List File → List (List ℕ) → Refused → Type 0
IsCause files words Usage = HasNoForm words
IsCause files words (Absent number) = IsFirstWrong IsAbsent files words number
IsCause files words (TooLong number) = IsFirstWrong IsTooLong files words number
IsCause files words (Script fault) = IsFaulty files words fault
IsCause files words (Rule refusal) = IsBroken files words refusal
IsCause files words NotImage = IsBadImage files words None
IsCause files words (Unsound number) = IsBadImage files words (Some number)
IsCause files words Shelf = Unit {0}
IsCause files words Memory = Unit {0}

abbrev pub status_of : Refused → ℕ
status_of Usage = 2
status_of (Absent number) = 3
status_of (TooLong number) = 4
status_of (Rule refusal) = 5
status_of (Script fault) = 6
status_of Shelf = 7
status_of Memory = 9
status_of NotImage = 10
status_of (Unsound number) = 10

-- the number of the file that is at fault
abbrev pub file_of : List (List ℕ) → Refused → Option ℕ
file_of words Usage = None
file_of words (Absent number) = Some number
file_of words (TooLong number) = Some number
file_of words (Rule refusal) = Some (file_of_unit words refusal.place.unit)
file_of words (Script fault) = Some 0
file_of words Shelf = None
file_of words Memory = None
file_of words NotImage = Some 1
file_of words (Unsound number) = Some 1

abbrev pub rule_of : Refused → Option Refusal
rule_of Usage = None
rule_of (Absent number) = None
rule_of (TooLong number) = None
rule_of (Rule refusal) = Some refusal
rule_of (Script fault) = None
rule_of Shelf = None
rule_of Memory = None
rule_of NotImage = None
rule_of (Unsound number) = None

abbrev pub fault_of : Refused → Option ScriptFault
fault_of Usage = None
fault_of (Absent number) = None
fault_of (TooLong number) = None
fault_of (Rule refusal) = None
fault_of (Script fault) = Some fault
fault_of Shelf = None
fault_of Memory = None
fault_of NotImage = None
fault_of (Unsound number) = None

abbrev pub instruction_of : Refused → Option ℕ
instruction_of Usage = None
instruction_of (Absent number) = None
instruction_of (TooLong number) = None
instruction_of (Rule refusal) = None
instruction_of (Script fault) = None
instruction_of Shelf = None
instruction_of Memory = None
instruction_of NotImage = None
instruction_of (Unsound number) = Some number

-- the outcome of a refusal
abbrev pub outcome_of : List (List ℕ) → Refused → Outcome
outcome_of words refused = record {
  status = status_of refused;
  journal = [];
  file = file_of words refused;
  refused = rule_of refused;
  script_fault = fault_of refused;
  image_fault = instruction_of refused;
}
