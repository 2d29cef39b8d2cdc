use Rattle.std.proofs.Common.{[], refl, Some}
use Rattle.exec_model.specs.declared.script.ScriptLine.TheVariants.{Run}
use Rattle.worked_rows.proofs.laws.run_10_is_a_script.Goals as goal

pub returns : goal.returns
returns c = (Some (Run 10), [], refl, refl, refl)
