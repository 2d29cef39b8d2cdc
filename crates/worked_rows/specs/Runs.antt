-- The scripts of the worked runs.
use Rattle.std.specs.Prelude.{ℕ, List, [], ◌∷◌}
use Rattle.exec_model.specs.declared.script.ScriptLine.{ScriptLine}
use Rattle.exec_model.specs.declared.script.ScriptLine.TheVariants as line

-- one RUN
abbrev pub run_script : ℕ → List ScriptLine
run_script count = line.Run count ∷ []

-- `RUN 3`, `TICK 5`, `RUN 10`
abbrev pub count_script : List ScriptLine
count_script = line.Run 3 ∷ line.Tick 5 ∷ line.Run 10 ∷ []
