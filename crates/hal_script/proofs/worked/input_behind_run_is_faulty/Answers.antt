use Rattle.std.proofs.Common.{refl, ap, sym, inl, inr, Some}
use Rattle.exec_model.specs.declared.script.ScriptLine.TheVariants.{Run}
use Rattle.hal_script.specs.declared.reading.Reading.TheVariants.{Faults}
use Rattle.hal_script.proofs.worked.input_behind_run_is_faulty.Goals as goal

pub returns : goal.returns
returns c = λ fault line reason. inr (Some (Run 1), refl, inl (ap Faults (sym reason), line))
