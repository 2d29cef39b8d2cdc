use Rattle.hal_script.specs.ScriptTexts.{opening}
use Rattle.hal_script.proofs.OneReading.{Read-all}
use Rattle.hal_script.proofs.law.every_text_is_a_script_or_faulty.Goals as goal

pub returns : goal.returns
returns c = λ lines. Read-all lines opening
