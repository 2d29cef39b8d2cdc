use Rattle.hal_script.proofs.OneReading.{IsScriptOf-unique}
use Rattle.hal_script.proofs.law.a_text_is_one_script.Goals as goal

pub returns : goal.returns
returns c = λ lines one other x y. IsScriptOf-unique lines one other x y
