-- Which lines a script has room for.
use Rattle.std.specs.Prelude.{◌+◌, ◌<◌, ◌≤◌, Option}
use Rattle.hal_base.specs.declared.limits.TheConstants.{SCRIPT_LINE_LIMIT, RUN_SUM_LIMIT, TICK_SUM_LIMIT}
use Rattle.exec_model.specs.declared.script.ScriptLine.{ScriptLine}
use Rattle.hal_script.specs.declared.reading.SoFar.{SoFar}
use Rattle.hal_script.specs.Readings.{events_of, time_of}

-- after this line the script is still within its limits
pub record Fits (so_far : SoFar) (asked : Option ScriptLine) : Type 0 where
  pub few : so_far.line_count < SCRIPT_LINE_LIMIT
  pub events : so_far.events + events_of asked ≤ RUN_SUM_LIMIT
  pub time : so_far.time + time_of asked ≤ TICK_SUM_LIMIT
