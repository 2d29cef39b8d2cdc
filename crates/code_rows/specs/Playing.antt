-- The report of a run of an image.
use Rattle.std.specs.Prelude.{ℕ, ◌-◌, List}
use Rattle.exec_model.specs.declared.script.ScriptLine.{ScriptLine}
use Rattle.hal_code.specs.declared.image.ImageParts.{ImageParts}
use Rattle.hal_code.specs.Courses.{setting_of, block_mode, load_of}
use Rattle.whole_runs.specs.Playing.{Turns, report_of}

-- how many turns an UPDATE block makes, where it has so many
abbrev pub turns_made : ℕ → ImageParts → Turns
turns_made turns image p answers store = turns - (block_mode (setting_of turns image p) answers store).turns

-- the report of the run of an image under a script, where an UPDATE block has so many turns
abbrev pub reported : ℕ → ImageParts → List ScriptLine → List ℕ
reported turns image script = report_of (load_of turns image) (turns_made turns image) script
