use Rattle.std.proofs.Common.{[], refl, Some}
use Rattle.exec_model.specs.declared.script.ScriptLine.TheVariants.{Run, Tick}
use Rattle.worked_rows.proofs.laws.ticks_are_a_script.Goals as goal

pub returns : goal.returns
returns c = (Some (Run 3), _, refl, refl, (Some (Tick 5), _, refl, refl, (Some (Run 10), [], refl, refl, refl)))
