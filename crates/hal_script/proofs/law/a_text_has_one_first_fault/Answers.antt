use Rattle.hal_script.proofs.OneReading.{IsFault-unique}
use Rattle.hal_script.proofs.law.a_text_has_one_first_fault.Goals as goal

pub returns : goal.returns
returns c = λ lines one other x y. IsFault-unique lines one other x y
