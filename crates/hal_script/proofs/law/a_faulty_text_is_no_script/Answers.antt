use Rattle.hal_script.proofs.OneReading.{IsScriptOf-excludes}
use Rattle.hal_script.proofs.law.a_faulty_text_is_no_script.Goals as goal

pub returns : goal.returns
returns c = λ lines script fault x y. IsScriptOf-excludes lines script fault x y
