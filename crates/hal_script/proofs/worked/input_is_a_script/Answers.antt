use Rattle.std.proofs.Common.{[], refl, Some}
use Rattle.exec_model.specs.declared.script.ScriptLine.TheVariants.{Run, Input}
use Rattle.hal_script.proofs.worked.input_is_a_script.Goals as goal

pub returns : goal.returns
returns c = (Some (Input 5 _), _, refl, refl, (Some (Run 20), [], refl, refl, refl))
