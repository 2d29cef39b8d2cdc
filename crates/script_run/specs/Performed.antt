-- What a run comes to.
use Rattle.std.specs.Prelude.{◌≡◌, ℕ, List}
use Rattle.hal_values.specs.Loads.{Meaning}
use Rattle.exec_model.specs.declared.event.Event.{Event}
use Rattle.exec_model.specs.declared.script.ScriptLine.{ScriptLine}
use Rattle.exec_model.specs.Moments.{Moment}
use Rattle.exec_model.specs.Report.{report}
use Rattle.exec_model.specs.Runs.{IsRunTo}

-- the journal is a run of the load under the script on one lane, and the bytes are the report of the moment to which it leads
pub record Performs (q : Meaning) (script : List ScriptLine) (journal : List Event) (bytes : List ℕ) : Type 0 where
  pub end_ : Moment
  pub run : IsRunTo q script 1 journal end_
  pub told : bytes ≡ report q end_
