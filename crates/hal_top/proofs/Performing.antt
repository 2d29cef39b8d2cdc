-- What a run of an image says of each set of which it is the image.
use Rattle.std.proofs.Common.{◌∙◌, List, ℕ, sym}
use Rattle.hal_grammar.specs.Units.{File}
use Rattle.hal_values.specs.Loads.{Agree, turn_limit}
use Rattle.hal_meaning.specs.SetLoad as set
use Rattle.hal_code.specs.declared.image.ImageParts.{ImageParts}
use Rattle.hal_code.specs.Courses as code
use Rattle.exec_model.specs.declared.script.ScriptLine.{ScriptLine}
use Rattle.exec_model.specs.declared.event.Event.{Event}
use Rattle.exec_model.specs.Scripts.{IsScript}
use Rattle.exec_model.proofs.Agreement.{IsRunTo-agree, IsRunTo-report}
use Rattle.script_run.specs.Performed.{Performs}
use Rattle.hal_checked.specs.Checking.{set_in}
use Rattle.hal_compile.specs.Compiling.{CanRun, Compiles}
use Rattle.hal_compile.proofs.Agreeing.{agrees, files_load, image_load}
use Rattle.hal_top.specs.Performed.{HasReport}

pub reports : (script : List ScriptLine) (image : ImageParts) (journal : List Event) (bytes : List ℕ) → IsScript script → CanRun image → Performs (code.load_of turn_limit image) script journal bytes
    → (files : List File) → Compiles files image → HasReport script files journal bytes
reports script image journal bytes limits runs performed files compiles =
    let same : Agree (set.load_of (set_in files)) (code.load_of turn_limit image) = agrees files image compiles in
    let steps = (IsRunTo-agree (set.load_of (set_in files)) (code.load_of turn_limit image) (files_load files image compiles) (image_load image runs) same script 1 journal performed.end_ limits).1 performed.run in
    record {
      end_ = performed.end_;
      run = steps;
      told = performed.told ∙ sym (IsRunTo-report (set.load_of (set_in files)) (code.load_of turn_limit image) (files_load files image compiles) same script 1 journal performed.end_ limits steps);
    }
