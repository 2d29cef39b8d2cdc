-- The report of a run of files.
use Rattle.std.specs.Prelude.{ℕ, ◌-◌, List}
use Rattle.hal_grammar.specs.Units.{File}
use Rattle.exec_model.specs.declared.script.ScriptLine.{ScriptLine}
use Rattle.hal_meaning.specs.Sets.{Set, set_of}
use Rattle.hal_meaning.specs.Runs.{block_mode}
use Rattle.hal_meaning.specs.SetLoad.{load_of}
use Rattle.whole_runs.specs.Playing.{Turns, report_of}

-- how many turns an UPDATE block makes
abbrev pub turns_made : Set → Turns
turns_made s p answers store = s.turns - (block_mode s p answers store).turns

-- the report of the run of these files under a script, where an UPDATE block has so many turns
abbrev pub reported : ℕ → List File → List ScriptLine → List ℕ
reported turns files script = let s = set_of turns files in report_of (load_of s) (turns_made s) script
