-- What a call comes to, and what a sink takes of it.
use Rattle.std.specs.Prelude.{◌≡◌, ℕ, ◌⊎◌, List, [], Option, length}
use Rattle.hal_base.specs.Faults.{Rose}
use Rattle.hal_base.specs.Sink.{Takes}
use Rattle.hal_grammar.specs.Units.{File}
use Rattle.hal_values.specs.Loads.{turn_limit}
use Rattle.hal_meaning.specs.SetLoad.{load_of}
use Rattle.hal_code.specs.Courses as code
use Rattle.hal_code.specs.declared.image.ImageParts.{ImageParts}
use Rattle.exec_model.specs.declared.script.ScriptLine.{ScriptLine}
use Rattle.exec_model.specs.declared.event.Event.{Event}
use Rattle.hal_object.specs.Images.{image_bytes}
use Rattle.script_run.specs.Performed.{Performs}
use Rattle.hal_checked.specs.Checking.{set_in}
use Rattle.hal_top.specs.declared.prepare.Task.{Task}
use Rattle.hal_top.specs.declared.prepare.Task.TheVariants as task

-- the journal is a run of the set's meaning under the script on one lane, and the bytes are the report of the moment to which it leads
abbrev pub HasReport : List ScriptLine → List File → List Event → List ℕ → Type 0
HasReport script set journal bytes = Performs (load_of (set_in set)) script journal bytes

-- so it is of an image
abbrev pub HasImageReport : List ScriptLine → ImageParts → List Event → List ℕ → Type 0
HasImageReport script image journal bytes = Performs (code.load_of turn_limit image) script journal bytes

-- what a task comes to: a run's journal and its report; or the bytes of an image, and no journal
abbrev pub ComesTo : Task → List Event → List ℕ → Type 0
ComesTo (task.Run work) journal bytes = HasImageReport work.script work.image journal bytes
ComesTo (task.Execute work) journal bytes = HasImageReport work.script work.image journal bytes
ComesTo (task.Write image) journal bytes = (journal ≡ []) × (bytes ≡ image_bytes image)

-- with status 0 the sink took the whole, and with status 8 a front of it, and its count of faults rose
abbrev pub Reported : Option (List ℕ) → Option (List ℕ) → List ℕ → ℕ → ℕ → ℕ → Type 0
Reported before now bytes faults_before faults_now status =
    ((status ≡ 0) × Takes before now bytes (length bytes)) ⊎ ((status ≡ 8) × ((count : ℕ) × Takes before now bytes count) × Rose faults_before faults_now)
