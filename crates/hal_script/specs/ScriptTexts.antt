-- Which lines are a script, and which of them is the first faulty one.
use Rattle.std.specs.Prelude.{◌≡◌, ℕ, ◌+◌, ◌⊎◌, false, List, [], ◌∷◌, ◌++◌, Option}
use Rattle.std.specs.Option.{option_to_list}
use Rattle.exec_model.specs.declared.script.ScriptLine.{ScriptLine}
use Rattle.hal_script.specs.declared.fault.ScriptFault.{ScriptFault}
use Rattle.hal_script.specs.declared.fault.ScriptError.{ScriptError}
use Rattle.hal_script.specs.declared.fault.ScriptError.TheVariants.{Faulty, Memory}
use Rattle.hal_script.specs.declared.reading.Reading.TheVariants.{Good, Faults}
use Rattle.hal_script.specs.declared.reading.SoFar.{SoFar}
use Rattle.hal_script.specs.Readings.{reading, past}

-- before the first line
abbrev pub opening : SoFar
opening = record { line_count = 0; begun = false; events = 0; time = 0 }

-- the lines from here on are this script: each is good where it stands, and the empty ones are left out
abbrev pub IsScriptFrom : SoFar → List (List ℕ) → List ScriptLine → Type 0
IsScriptFrom so_far [] script = script ≡ []
IsScriptFrom so_far (line ∷ lines) script =
    (asked : Option ScriptLine) × (others : List ScriptLine) × (reading so_far line ≡ Good asked) × (script ≡ option_to_list asked ++ others) × IsScriptFrom (past so_far asked) lines others

-- from here on the first line that is not good is this one, counted from 1 at the text's first, for this reason
abbrev pub IsFaultFrom : SoFar → List (List ℕ) → ScriptFault → Type 0
IsFaultFrom so_far [] fault = ⊥
IsFaultFrom so_far (line ∷ lines) fault =
    ((reading so_far line ≡ Faults fault.reason) × (fault.line ≡ so_far.line_count + 1))
    ⊎ ((asked : Option ScriptLine) × (reading so_far line ≡ Good asked) × IsFaultFrom (past so_far asked) lines fault)

-- all lines are good, and this is the script that they are
abbrev pub IsScriptOf : List (List ℕ) → List ScriptLine → Type 0
IsScriptOf lines script = IsScriptFrom opening lines script

-- the lines before this one are good, and it has this reason, the first in the order of reasons
abbrev pub IsFault : List (List ℕ) → ScriptFault → Type 0
IsFault lines fault = IsFaultFrom opening lines fault

-- a fault that is told is the first one
abbrev pub IsFaultTold : List (List ℕ) → ScriptError → Type 0
IsFaultTold lines (Faulty fault) = IsFault lines fault
IsFaultTold lines (Memory error) = Unit {0}
